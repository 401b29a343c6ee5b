mod Firsts
mod Bounds
mod Placing
mod Objects
mod Setting
mod Starts
mod Pieces
mod Named
pub mod Numbers
