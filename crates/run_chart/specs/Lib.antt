-- Words of public clauses: Titles, Pictures, Tellings.
pub mod Titles
pub mod Pictures
pub mod Tellings
