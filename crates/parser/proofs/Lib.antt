mod Answered
mod Digits
mod SaidBack
mod Spoken
mod Taken
