mod Entries
mod Pairs
mod Rooms
