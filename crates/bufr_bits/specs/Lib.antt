-- The definitions of this crate. Each file begins with a summary of its contents.
pub mod BitSlice
pub mod Bits
pub mod Device
pub mod Decimal
pub mod Script
-- re-exports of the names that proofs and other crates use
pub mod Prelude
