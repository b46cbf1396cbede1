-- the operators in effect, and how they determine the specification of a field
pub mod Rules
-- the steps of a walk, and how the preceding fields determine the next step
pub mod Course
-- how the steps of a walk are counted
pub mod Steps
-- the condition that Table B contains every row that a walk needs
pub mod KnownRows
-- how fields are specified, how they are read, and how their values are shown
pub mod Content
-- the items and faults in the data of a message, and the visitor calls that show the items
pub mod Reading
-- one pass over a template, and how data are read in passes
pub mod Pass
-- the readers of plain and compressed data, and what is stored when a message is read
pub mod Readers
-- the cache of descriptor lists and their templates, and the cache of field specifications
pub mod TemplateCache
-- re-exports of the names that proofs and other crates use
pub mod Prelude
