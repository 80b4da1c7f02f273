pub mod Cutting
pub mod Spaces
pub mod Decimals
pub mod HexFields
pub mod Lines
pub mod LinesLaws
pub mod Rows
pub mod RowsLaws
