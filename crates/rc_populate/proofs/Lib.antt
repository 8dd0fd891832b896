mod Newest
mod Given
mod Pinned
mod Changed
mod Marking
