mod Aligned
mod Changed
mod Marked
mod Likes
mod Made
mod Relisted
mod Renewed
