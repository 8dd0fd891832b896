mod Coded
mod Kept
