mod LittleEndian
mod MemoryRows
