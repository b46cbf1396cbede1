-- what the process does with its command-line arguments
pub mod Calling
