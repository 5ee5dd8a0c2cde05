pub mod TextLemmas
pub mod RowLemmas
pub mod PartLemmas
pub mod CountLemmas
