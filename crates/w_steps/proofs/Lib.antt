mod LabelsBack
mod ListedResults
mod TablesTaken
mod LocalsSet
