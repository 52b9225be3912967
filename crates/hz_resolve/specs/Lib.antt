pub mod Laws
pub mod LawsOfPlaces
pub mod Numbered
pub mod Passes
pub mod Places
pub mod Views
pub mod Starts
