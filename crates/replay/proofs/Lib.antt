mod Reading
mod Stopping
mod Replaying
