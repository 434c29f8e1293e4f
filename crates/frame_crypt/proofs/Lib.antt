pub mod StreamLemmas
pub mod AcceptLemmas
