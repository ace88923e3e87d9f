pub mod SetNumbers
