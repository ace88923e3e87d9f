pub mod RouteLemmas
pub mod RouterLemmas
pub mod TextsLemmas
pub mod PreprocessorLemmas
pub mod StandardLemmas
pub mod OfPackages
pub mod Placing
