pub mod EventLemmas
pub mod RowLemmas
