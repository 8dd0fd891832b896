mod Chains
mod Homes
mod Putting
mod Holding
mod Given
mod Along
mod Slices
mod Said
