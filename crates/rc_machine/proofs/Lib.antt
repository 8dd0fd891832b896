pub mod Fixed
pub mod OneAnswer
