pub mod HandedOn
mod Stages
mod Spelled
mod OfFeatures
