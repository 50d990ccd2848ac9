mod ChangedTables
mod ChangedMemories
mod TableRows
mod MemoryRows
