mod Furnished
mod Walks
