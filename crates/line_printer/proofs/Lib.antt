pub mod PrintLemmas
pub mod PutLemmas
