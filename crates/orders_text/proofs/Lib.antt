pub mod EventLemmas
pub mod LineLemmas
pub mod ReadLemmas
pub mod PlaceLemmas
pub mod ApartLemmas
pub mod OpenLemmas
