pub mod OwnTests
pub mod OwnHistories
pub mod OwnHistoriesLaws
pub mod Origins
pub mod Marked
pub mod MarkedLaws
