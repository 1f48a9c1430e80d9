mod Located
pub mod PairsDone
mod UnderWay
