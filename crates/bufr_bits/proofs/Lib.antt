mod BufferedLemmas
mod Examples
pub mod BitLemmas
pub mod CountLemmas
pub mod DecimalLemmas
pub mod ShortLemmas
