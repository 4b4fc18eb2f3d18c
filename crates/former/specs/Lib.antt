pub mod Former
pub mod Promise
