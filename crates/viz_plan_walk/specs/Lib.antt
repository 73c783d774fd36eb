pub mod Walk
pub mod TaskSteps
pub mod Leveling
pub mod Finding
