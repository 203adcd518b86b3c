pub mod Signed
pub mod Reads
pub mod ReadLaws
pub mod InstantLaws
pub mod Durations
pub mod DurationLaws
pub mod OffsetLaws
