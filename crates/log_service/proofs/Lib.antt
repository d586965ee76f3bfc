mod StreamLemmas
mod PlaceLemmas
mod EndLemmas
mod CloseLemmas
mod KeptLemmas
pub mod WriteLemmas
mod OpenLemmas
mod BeginLemmas
pub mod FewLemmas
mod StreamPlans
mod StatePlans
