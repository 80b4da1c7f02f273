pub mod RowShows
pub mod PeerShows
