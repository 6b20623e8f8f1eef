pub mod TextLaws
pub mod NumberLaws
