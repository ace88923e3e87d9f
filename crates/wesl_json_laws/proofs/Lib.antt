mod Numbers
mod Bare
mod Short
mod Counted
mod Renamed
mod Lists
mod Spans
