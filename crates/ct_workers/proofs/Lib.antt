mod Oldest
mod Steps
mod Kept
mod Turning
