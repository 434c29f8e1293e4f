pub mod Equal
pub mod Numbers
pub mod OneMessage
pub mod CfList
