mod SideTable
mod Fits
