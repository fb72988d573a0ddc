pub mod Check
pub mod AidParsing
pub mod AidWalk
pub mod AidSeek
pub mod AidStand
pub mod AidJudged
