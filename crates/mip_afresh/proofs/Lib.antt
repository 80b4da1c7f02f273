mod Told
mod TellingLaws
mod ResidentLaws
mod Landings
mod Openings
mod RoleLaws
mod Leavings
