mod Torn
mod Written
