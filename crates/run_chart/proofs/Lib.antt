-- Lemmas on what a picture draws.
pub mod PictureLaws
