mod Decoding
mod ReadingBack
