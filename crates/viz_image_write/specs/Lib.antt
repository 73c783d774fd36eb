pub mod Version
pub mod ImageText
