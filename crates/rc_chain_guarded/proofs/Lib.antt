mod Fitting
mod Fresh
mod Limits
mod Listed
mod Steps
mod Turns
mod Wholes
