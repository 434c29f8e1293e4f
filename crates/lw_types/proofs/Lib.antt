pub mod UpperHex
pub mod ValueTexts
pub mod FieldTexts
pub mod Decimals
pub mod Lines
