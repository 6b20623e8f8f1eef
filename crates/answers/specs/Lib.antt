pub mod Counts
pub mod Numbers
pub mod Parts
pub mod Dates
pub mod Text
pub mod Listing
