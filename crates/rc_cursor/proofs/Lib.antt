mod Heads
mod Parts
mod Readable
mod Taken
