pub mod TransitionLaws
pub mod ShowLaws
pub mod PastLaws
