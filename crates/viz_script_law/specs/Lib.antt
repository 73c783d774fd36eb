pub mod Script
pub mod Parts
pub mod Says
pub mod Fits
pub mod Spelling
pub mod Tokens
