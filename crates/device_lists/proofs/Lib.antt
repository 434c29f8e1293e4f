pub mod OneMore
pub mod Given
pub mod HeadColumns
pub mod LineByLine
pub mod RowByRow
