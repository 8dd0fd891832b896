pub mod Lists
pub mod Written
pub mod Rows
pub mod Under
pub mod Filling
pub mod Numbered
pub mod Cache
pub mod Fills
pub mod Snapshots
pub mod Phases
pub mod Memtables
pub mod Entries
pub mod Taking
pub mod Entering
pub mod Seeing
mod Sums
mod Weighed
mod Pinned
mod Bare
mod Evicted
mod Leaving
mod Alike
mod Calls
mod Cached
mod Used
mod Putting
mod Going
mod Spared
mod Ways
mod Crowded
