mod Quiet
pub mod Keeping
pub mod Runs
mod Residents
mod Answering
pub mod Effects
mod Transitions
pub mod Numbered
mod Handing
pub mod PartTransitions
mod PartHanding
mod Acting
mod Waiting
mod Passes
mod Restarting
pub mod Opening
mod RunChanges
pub mod Events
mod Places
pub mod LastOnes
pub mod Bindings
pub mod Histories
mod Rounds
pub mod Moments
mod Kept
mod SameUpdates
mod Repeats
pub mod Changes
mod Fates
pub mod Folds
mod PostRecords
pub mod Numbers
mod Shields
mod Receivers
mod Refused
pub mod Walking
pub mod Homed
mod Homing
pub mod HomedRuns
pub mod Registrations
pub mod Reasons
pub mod Declaring
pub mod DeclaringRuns
pub mod Declarations
pub mod ShownRows
pub mod ShownRuns
pub mod Fronts
pub mod Leftovers
