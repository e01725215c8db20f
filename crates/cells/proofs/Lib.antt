pub mod HeadLaws
pub mod CellBounds
pub mod CellLaws
