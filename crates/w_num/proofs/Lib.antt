mod NumRows
mod WideRows
mod SignedReadings
mod Counts
mod Rotations
