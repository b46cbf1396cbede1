-- the items of a dump, the contents of their fields, and the faults that items can have
pub mod Draft
-- the data bits of a document, and how one item is packed in compressed data
pub mod Encoding
-- the bits written and the steps taken up to the first fault
pub mod Steps
-- how written data bits are read back
pub mod RoundTrip
-- the writers of plain and compressed data
pub mod Writers
-- re-exports of the names that proofs and other crates use
pub mod Prelude
