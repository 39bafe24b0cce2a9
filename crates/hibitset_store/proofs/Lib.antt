pub mod PageLemmas
pub mod NewPageLemmas
mod MoveLemmas
pub mod CapacityLemmas
pub mod FillLemmas
pub mod JoinLemmas
pub mod ReadBoundLemmas
pub mod CallerLemmas
