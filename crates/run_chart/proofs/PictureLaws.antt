-- A picture with one more line.
use Rattle.std.proofs.Common.{◌≡◌, ℕ, ◌+◌, ◌<◌, List, [], ◌∷◌, ◌++◌, length, take, map, get_or, sym, ◌∙◌, subst, arith}
use Rattle.std.proofs.lemmas.List.{map_more, length-map, length-take-le}
use Rattle.std.specs.Global.{Vec}
use Rattle.run_chart.specs.Titles.{title}
use Rattle.run_chart.specs.Pictures.{Draws, items_of, Shaped, Titled}

-- the line at an index is drawn behind those before it: shapes, its title, shapes
pub draws_more : (lines : List (Vec ℕ)) (index : ℕ) (line : Vec ℕ) → index < length lines → line ≡ get_or lines index line
    → (text front shapes : List ℕ) → Draws (map items_of (take index lines)) text
    → Draws (map items_of (take (index + 1) lines)) (((text ++ front) ++ title (index + 1) line.items) ++ shapes)
draws_more lines index line below at text front shapes drawn =
    let before : List (List ℕ) = map items_of (take index lines) in
    let counted : length before ≡ index = length-map (take index lines) items_of ∙ length-take-le index lines (omega arith) in
    let listed : before ++ line.items ∷ [] ≡ map items_of (take (index + 1) lines)
    = subst (λ found. before ++ items_of found ∷ [] ≡ map items_of (take (index + 1) lines)) (sym at) (sym (map_more items_of lines index line below)) in
    let here : Draws (before ++ line.items ∷ []) (((text ++ front) ++ title (length before + 1) line.items) ++ shapes)
    = Shaped (Titled (Shaped drawn front) line.items) shapes in
    let numbered : Draws (before ++ line.items ∷ []) (((text ++ front) ++ title (index + 1) line.items) ++ shapes)
    = subst (λ count. Draws (before ++ line.items ∷ []) (((text ++ front) ++ title (count + 1) line.items) ++ shapes)) counted here in
    subst (λ drawn_lines. Draws drawn_lines (((text ++ front) ++ title (index + 1) line.items) ++ shapes)) listed numbered
