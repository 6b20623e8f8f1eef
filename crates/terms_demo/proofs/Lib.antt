pub mod InTable
pub mod FillLaws
