pub mod Span
pub mod BitLaws
pub mod WordLaws
pub mod ReservedLaws
pub mod EffectLaws
pub mod ReadyLaws
pub mod LowestLaws
pub mod EntryLaws
