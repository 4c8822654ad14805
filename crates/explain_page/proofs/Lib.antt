mod Lengths
mod MarkedUp
mod Pieces
mod Plain
mod Appended
mod Said
