pub mod StripText
pub mod FitStrips
pub mod Steps
