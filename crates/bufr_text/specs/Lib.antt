-- the lines of a dump, and the words and values in them
pub mod Line
-- the structure of a document, and how documents are parsed
pub mod Documents
-- the dump of a message, line by line, and the line that `ls` prints for it
pub mod Dump
-- what a writer accepts, how a line writer appends text, and how many steps a dump takes
pub mod Writing
-- the lines that are the same in all subsets of compressed data (used only for private functions)
pub mod Alike
-- how documents are read, and the faults in their lines
pub mod Reader
-- the order of the lines in a document, and its text in normal form
pub mod Spelling
-- how a document is stored while it is read, and how buffered lines are processed (used only for
-- private functions)
pub mod Taking
-- the result of encoding a document (a message or the first fault), and the number of steps
pub mod Encoding
-- an accepted message, and the message that results from encoding its dump
pub mod RoundTrip
-- re-exports of the names that proofs and other crates use
pub mod Prelude
