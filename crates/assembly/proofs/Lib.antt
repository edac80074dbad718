mod Loop
mod Room
