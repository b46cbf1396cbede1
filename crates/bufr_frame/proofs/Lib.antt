pub mod FinderLemmas
pub mod AgainLemmas
pub mod LayoutLemmas
mod Examples
mod SectionFaultExamples
mod StrayExamples
pub mod ScanLemmas
