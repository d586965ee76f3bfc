pub mod Chain
mod ListTexts
