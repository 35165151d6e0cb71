pub mod Judging
pub mod Questions
pub mod Standing
pub mod Strikes
pub mod Falls
pub mod Weakening
pub mod Missing
