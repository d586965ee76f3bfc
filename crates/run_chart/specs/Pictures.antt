-- Which lines a picture draws. Words of public clauses.
use Rattle.std.specs.Prelude.{ℕ, ◌+◌, List, ◌∷◌, [], ◌++◌, length}
use Rattle.std.specs.Global.{Vec}
use Rattle.run_chart.specs.Titles.{title}

-- the bytes of a line
abbrev pub items_of : Vec ℕ → List ℕ
items_of line = line.items

-- the text draws these lines in their order: it is shapes and, between them, the titles of these lines under their numbers
pub data Draws : List (List ℕ) → List ℕ → Type 0 where
  Blank : Draws [] []
  Shaped : {lines : List (List ℕ)} {text : List ℕ} → Draws lines text → (shapes : List ℕ) → Draws lines (text ++ shapes)
  Titled : {lines : List (List ℕ)} {text : List ℕ} → Draws lines text → (line : List ℕ) → Draws (lines ++ line ∷ []) (text ++ title (length lines + 1) line)
