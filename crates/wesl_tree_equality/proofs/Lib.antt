pub mod Trees
pub mod OfLiterals
pub mod OfExpressions
pub mod OfAttributes
