pub mod Walks
pub mod LineLaws
pub mod Judging
pub mod CutLaws
pub mod EntryWalks
pub mod EntryNumberLaws
pub mod PlaceLaws
pub mod Pieces
