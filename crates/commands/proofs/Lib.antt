pub mod AnswerLemmas
pub mod TestLemmas
pub mod SummaryLemmas
pub mod VerdictLemmas
