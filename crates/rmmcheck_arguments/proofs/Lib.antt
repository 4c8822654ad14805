mod Rows
mod Given
mod Asked
