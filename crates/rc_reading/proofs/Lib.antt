mod Findings
mod Laying
mod Nearest
mod Reread
