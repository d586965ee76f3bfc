mod WordLaws
mod WalkLaws
mod LineLaws
mod GatherLaws
