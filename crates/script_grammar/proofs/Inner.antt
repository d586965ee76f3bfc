-- The turns of the loop that reads a text up to its quotation mark.
use Rattle.std.proofs.Common.{◌≡◌, ℕ, suc, List, [], ◌∷◌, ◌++◌, Option, Some, None, refl, sym, ap, append_assoc}
use Rattle.std.specs.Prelude.{option_map}
use Rattle.std.proofs.lemmas.List.{append-nil}
use Rattle.script_grammar.specs.Reading.{skipped}
use Rattle.script_grammar.specs.ValueReading.{part_at, with_front, inner_at}

-- what is left to read, in front of what was read
abbrev pub left : ℕ → List ℕ → List ℕ → Option (List ℕ × List ℕ)
left n front bytes = option_map (with_front front) (inner_at n bytes)

pub inner_ends : (n m : ℕ) (front bytes after : List ℕ) → n ≡ suc m → skipped (34 ∷ []) bytes ≡ Some after → left n front bytes ≡ Some (front, after)
unfolding inner_at
inner_ends n m front bytes after e quote = rw (e, quote) (ap (λ f. Some (f, after)) (append-nil front))

pub inner_fails : (n m : ℕ) (front bytes : List ℕ) → n ≡ suc m → skipped (34 ∷ []) bytes ≡ None → part_at bytes ≡ None → left n front bytes ≡ None
unfolding inner_at
inner_fails n m front bytes e quote part = rw (e, quote, part) refl

pub inner_more : (n m : ℕ) (front bytes : List ℕ) (byte : ℕ) (after : List ℕ) → n ≡ suc m → skipped (34 ∷ []) bytes ≡ None → part_at bytes ≡ Some (byte, after) → left n front bytes ≡ left m (front ++ byte ∷ []) after
unfolding inner_at
inner_more n m front bytes byte after e quote part =
    let at : (o : Option (List ℕ × List ℕ)) → option_map (with_front front) (option_map (with_front (byte ∷ [])) o) ≡ option_map (with_front (front ++ byte ∷ [])) o = elim [
      | None ↦ refl
      | Some found ↦ ap (λ f. Some (f, found.1)) (sym (append_assoc front (byte ∷ []) found.0))
    ] in
    rw (e, quote, part) (at (inner_at m after))
