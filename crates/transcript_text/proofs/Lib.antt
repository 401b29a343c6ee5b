pub mod HexLemmas
pub mod LineLemmas
pub mod ObjectLemmas
pub mod ZipLemmas
pub mod PairLemmas
pub mod FrontLemmas
pub mod NameLemmas
