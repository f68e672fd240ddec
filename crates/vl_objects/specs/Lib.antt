pub mod Partners
pub mod Plain
