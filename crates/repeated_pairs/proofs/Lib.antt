pub mod FlagLaws
pub mod BitLaws
pub mod PairLaws
