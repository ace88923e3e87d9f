pub mod Forms
pub mod Worded
pub mod UnitLists
