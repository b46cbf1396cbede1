-- The definitions of this crate. Each file begins with a summary of its contents.
pub mod Events
pub mod Finder
pub mod Input
pub mod Layout
pub mod Scan
pub mod Numbers
pub mod Octets
pub mod Sections
pub mod Section1
-- re-exports of the names that proofs and other crates use
pub mod Prelude
