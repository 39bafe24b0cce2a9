mod BudgetLemmas
mod FreeRunLemmas
pub mod RangeLemmas
mod WeightLemmas
mod WorkerLemmas
