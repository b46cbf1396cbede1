-- dumping a stream, encoding the dump, and dumping the result again
pub mod RoundTrip
-- what a run reads and writes, when it flushes, and which input or writer causes a fault
pub mod Running
-- the effects of one step of a run
pub mod Steps
-- fault lines, which give the offset in a stream or the line number in a document
pub mod FaultLine
-- the pieces of output that each command writes for an input
pub mod Pieces
-- the last flush, the last line of the error output, and the exit status of a run
pub mod Ending
-- the command line, and the job or fault that results from it
pub mod Line
-- what the program does for a given command line
pub mod Program
-- the state of a buffered writer, and its calls to the underlying sink
pub mod Buffering
-- re-exports of the names that proofs and other crates use
pub mod Prelude
