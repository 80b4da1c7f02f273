pub mod Turned
mod PastLaws
mod NodeLaws
mod Named
mod Received
