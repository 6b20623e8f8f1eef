pub mod Lists
pub mod Derivation
pub mod Fits
pub mod Demand3
pub mod Scopes
