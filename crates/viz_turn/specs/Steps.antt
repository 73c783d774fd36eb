pub mod Numbers
pub mod Turns
pub mod Lists
pub mod Rule
pub mod Kinds
pub mod Seats
pub mod Belongs
