mod Division
mod Promised
