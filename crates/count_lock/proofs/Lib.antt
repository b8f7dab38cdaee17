pub mod Totals
pub mod PairLists
pub mod Steps
pub mod Released
pub mod Dealing
