pub mod CaseLaws
pub mod ReaderLaws
pub mod WordBufferLaws
