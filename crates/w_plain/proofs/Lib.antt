mod Steps
mod Places
mod Prints
mod Ends
mod StacksAtRules
mod AttemptedReductions
