-- The definitions of this crate. The comment at the top of each file describes its contents.
pub mod Fxy
pub mod TableB
pub mod Records
pub mod Entry
pub mod TableD
pub mod Cells
pub mod Growing
pub mod Expansion
pub mod Growth
pub mod Tree
pub mod FaultNumber
-- re-exports of the names that proofs and other crates use
pub mod Prelude
