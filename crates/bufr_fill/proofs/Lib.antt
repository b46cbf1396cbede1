mod ExampleTables
mod PlainExamples
mod PackedExamples
mod ReadBackExamples
mod RefusalExamples
pub mod FillSteps
pub mod WalkLemmas
pub mod PlainLaws
pub mod FieldLemmas
pub mod GoodReads
pub mod LeastLemmas
pub mod PackedBack
pub mod PackedLaws
pub mod FormLaws
pub mod WholeLaws
pub mod EntryLemmas
pub mod RowLemmas
pub mod TransposeLemmas
pub mod BackLaws
pub mod PackedWalks
pub mod ReadsLemmas
