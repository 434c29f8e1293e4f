mod Fronts
pub mod OneMore
pub mod RecordLines
