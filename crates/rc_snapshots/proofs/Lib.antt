mod Fragments
mod Parts
mod Ready
mod Said
mod Seen
