mod AcceptedExamples
mod AlikeExamples
pub mod AlikeLemmas
pub mod CallLemmas
pub mod FormLemmas
pub mod LineLemmas
pub mod ItemLemmas
mod DumpExamples
pub mod DumpableLemmas
pub mod RoundTripLemmas
mod EncodingExamples
mod Examples
pub mod HeaderLemmas
pub mod LawLemmas
pub mod DumpTextLemmas
mod NormalExamples
mod RefusalExamples
pub mod NormalLemmas
pub mod PushLemmas
pub mod NumberLemmas
pub mod ReaderLemmas
pub mod EncodeLemmas
