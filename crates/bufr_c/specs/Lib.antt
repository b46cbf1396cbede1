-- replacing the offset in a line
pub mod Moving
-- the text that a command writes for an event
pub mod Commands
-- the caller's buffers after a call
pub mod Leaving
-- the rows for items and messages
pub mod Rows
