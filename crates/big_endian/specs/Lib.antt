pub mod Be
pub mod Walk
pub mod Maybe
