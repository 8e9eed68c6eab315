pub mod FeedLemmas
pub mod EffectLemmas
pub mod ShowLemmas
pub mod MatchLemmas
pub mod PlaceLemmas
pub mod RangeLemmas
pub mod TestedLemmas
pub mod KeptLemmas
pub mod PassLemmas
mod WordLemmas
mod ShownLemmas
mod TellingLemmas
pub mod UniverseLemmas
pub mod SuspectLemmas
pub mod MarkLemmas
pub mod DifferLemmas
pub mod OrderLemmas
pub mod ExplainLemmas
pub mod DiagnosisLemmas
mod OneWayLemmas
mod Samples
mod SampleEffects
mod SampleSuspects
