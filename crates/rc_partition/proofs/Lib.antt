mod Added
mod Chains
mod Dropped
mod Passing
