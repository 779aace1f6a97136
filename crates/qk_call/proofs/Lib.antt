mod Lines
mod Plays
mod Texts
mod Accepted
mod Sources
