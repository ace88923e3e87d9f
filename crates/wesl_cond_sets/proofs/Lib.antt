pub mod KeptSets
