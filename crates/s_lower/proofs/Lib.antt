mod Lengths
mod NumberedNames
mod Runs
mod Each
mod NamesBehindOthers
mod ModulesOfParts
