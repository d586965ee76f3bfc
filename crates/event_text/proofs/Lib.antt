mod Chain
mod ShownText
