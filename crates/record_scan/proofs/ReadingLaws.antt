-- Reading gives the texts that are laid into the pieces, and no others.
use Rattle.std.proofs.Common.{◌≡◌, ℕ, ◌≤◌, List, [], ◌∷◌, ◌++◌, length, take, drop, nat_eq, nat_le, inl, inr, Some, None, refl, sym, ap, ◌∙◌, arith, length-append, append_assoc, append-nil}
use Rattle.std.specs.Str.{bytes_eq}
use Rattle.std.proofs.lemmas.Bool.{cond-true, eqb-true, leb-true, le-leb}
use Rattle.std.proofs.lemmas.List.{take_at, drop_at, take-append-drop, length-take-le, nil_from_length}
use Rattle.std.proofs.lemmas.Option.{same_Some}
use Rattle.std.proofs.lemmas.Slice.Eq.{bytes_eq-Decides}
use Rattle.format_expr.proofs.Steps.{chosen}
use Rattle.format_expr.specs.declared.piece.Piece.{Piece}
use Rattle.format_expr.specs.declared.piece.Piece.TheVariants.{Plain, Field}
use Rattle.record_scan.specs.Fits.{filled}
use Rattle.record_scan.specs.Reading.{places_in, texts_from, AreAt}

-- texts that are laid into the pieces are read
pub read_laid : (variable : ℕ) (pieces : List Piece) (more texts : List (List ℕ)) → AreAt variable pieces more → texts_from variable pieces (filled pieces more) texts ≡ Some (texts ++ more)
read_laid variable [] [] texts at = ap (λ (found : List (List ℕ)). Some found) (sym (append-nil texts))
read_laid variable [] (text ∷ more) texts at = absurd at
read_laid variable (Plain plain ∷ pieces) more texts at =
    let rest = filled pieces more in
    let stands = (bytes_eq-Decides (take (length plain) (plain ++ rest)) plain).1 (take_at plain rest (length plain) refl) in
    cond-true (bytes_eq (take (length plain) (plain ++ rest)) plain) (texts_from variable pieces (drop (length plain) (plain ++ rest)) texts) None stands
    ∙ ap (λ behind. texts_from variable pieces behind texts) (drop_at plain rest (length plain) refl)
    ∙ read_laid variable pieces more texts at
read_laid variable (Field token ∷ pieces) [] texts at = absurd at
read_laid variable (Field token ∷ pieces) (text ∷ more) texts at =
    let rest = filled pieces more in
    let places = places_in variable token in
    let whole = length-append text rest in
    let long : length text ≡ places_in variable token = at.0 in
    let inside : places_in variable token ≤ length (text ++ rest) = omega arith in
    cond-true (nat_le places (length (text ++ rest))) (texts_from variable pieces (drop places (text ++ rest)) (texts ++ take places (text ++ rest) ∷ [])) None (le-leb places (length (text ++ rest)) inside)
    ∙ ap (λ behind. texts_from variable pieces behind (texts ++ take places (text ++ rest) ∷ [])) (drop_at text rest places long)
    ∙ ap (λ front. texts_from variable pieces rest (texts ++ front ∷ [])) (take_at text rest places long)
    ∙ read_laid variable pieces more (texts ++ text ∷ []) at.1
    ∙ ap (λ (found : List (List ℕ)). Some found) (append_assoc texts (text ∷ []) more)

-- what is read is laid there
pub record IsRead (variable : ℕ) (pieces : List Piece) (rest : List ℕ) (texts all : List (List ℕ)) : Type 0 where
  pub more : List (List ℕ)
  pub all_is : all ≡ texts ++ more
  pub at : AreAt variable pieces more
  pub rest_is : rest ≡ filled pieces more

pub read_back : (variable : ℕ) (pieces : List Piece) (rest : List ℕ) (texts all : List (List ℕ)) → texts_from variable pieces rest texts ≡ Some all → IsRead variable pieces rest texts all
read_back variable [] rest texts all found =
    elim (chosen (nat_eq (length rest) 0) (Some texts) None (Some all) found) [
      | inl empty ↦ record {
        more = [];
        all_is = sym (same_Some texts all empty.1) ∙ sym (append-nil texts);
        at = tt;
        rest_is = nil_from_length rest (eqb-true (length rest) 0 empty.0);
      }
      | inr more ↦ absurd cc
    ]
read_back variable (Plain plain ∷ pieces) rest texts all found =
    elim (chosen (bytes_eq (take (length plain) rest) plain) (texts_from variable pieces (drop (length plain) rest) texts) None (Some all) found) [
      | inl stands ↦
          let behind = read_back variable pieces (drop (length plain) rest) texts all stands.1 in
          let front = (bytes_eq-Decides (take (length plain) rest) plain).0 stands.0 in
          record {
            more = behind.more;
            all_is = behind.all_is;
            at = behind.at;
            rest_is = sym (take-append-drop (length plain) rest) ∙ ap (λ bytes. bytes ++ drop (length plain) rest) front ∙ ap (λ bytes. plain ++ bytes) behind.rest_is;
          }
      | inr other ↦ absurd cc
    ]
read_back variable (Field token ∷ pieces) rest texts all found =
    let places = places_in variable token in
    let text = take places rest in
    elim (chosen (nat_le places (length rest)) (texts_from variable pieces (drop places rest) (texts ++ text ∷ [])) None (Some all) found) [
      | inl inside ↦
          let behind = read_back variable pieces (drop places rest) (texts ++ text ∷ []) all inside.1 in
          record {
            more = text ∷ behind.more;
            all_is = behind.all_is ∙ append_assoc texts (text ∷ []) behind.more;
            at = (length-take-le places rest (leb-true places (length rest) inside.0), behind.at);
            rest_is = sym (take-append-drop places rest) ∙ ap (λ bytes. text ++ bytes) behind.rest_is;
          }
      | inr past ↦ absurd cc
    ]
