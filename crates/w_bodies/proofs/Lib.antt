mod ConstantsListed
mod BodiesMeasured
mod OneInstruction
