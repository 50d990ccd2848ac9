mod ArgumentCounts
mod Least
mod Greater
pub mod Names
mod Clauses
pub mod Firsts
mod Scopes
mod Statements
mod Expressions
