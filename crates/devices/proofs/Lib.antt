mod Written
mod ReadSoFar
mod KnownReads
