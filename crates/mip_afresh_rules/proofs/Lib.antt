pub mod ShowingLaws
mod Asked
mod ReceivedLaws
