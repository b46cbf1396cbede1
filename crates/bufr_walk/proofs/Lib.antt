mod ExampleTables
mod ReadingExamples
mod SpecExamples
mod GroupExamples
mod PackedExamples
mod DataExamples
mod RefusalExamples
pub mod CourseLemmas
pub mod PassLemmas
pub mod SpecLemmas
pub mod NextField
pub mod WalkProgress
pub mod WalkLemmas
pub mod WalkPass
pub mod BoundLemmas
pub mod PlainLemmas
pub mod PlainReading
pub mod PackedLemmas
pub mod PackedReading
pub mod PackedShowing
pub mod ShownLemmas
pub mod PackedNumbers
pub mod CacheLemmas
pub mod RowLemmas
