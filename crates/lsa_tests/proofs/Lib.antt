mod Listed
mod Seated
