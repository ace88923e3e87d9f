pub mod Looking
pub mod Behind
