mod Passing
mod Posts
mod ByNumbers
mod Moves
mod Threads
mod Standing
