pub mod CalendarLaws
pub mod DateLaws
pub mod OrderLaws
pub mod CountLaws
pub mod AccessLaws
