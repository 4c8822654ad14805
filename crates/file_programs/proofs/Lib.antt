mod Refused
mod Lines
mod HistoryReads
