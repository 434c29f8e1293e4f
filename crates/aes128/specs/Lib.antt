pub mod Cipher
pub mod Field
pub mod InverseCipher
