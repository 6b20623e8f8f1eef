pub mod Errors
pub mod Calendar
pub mod Dates
pub mod Access
