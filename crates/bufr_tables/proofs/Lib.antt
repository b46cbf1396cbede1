pub mod RecordLemmas
pub mod TableBLemmas
pub mod TableDLemmas
pub mod CycleLemmas
pub mod ExpansionLemmas
pub mod SoundLemmas
pub mod TemplateExamples
mod TemplateFaultExamples
mod RecordFaultExamples
mod Examples
