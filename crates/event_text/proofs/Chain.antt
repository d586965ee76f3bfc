-- What stands where memory runs out between two parts that are added one after the other.
use Rattle.std.proofs.Common.{◌≡◌, ℕ, List, [], ◌++◌, refl, ap, sym, ◌∙◌, append_assoc}
use Rattle.std.proofs.lemmas.List.{append_cancel_left, append-nil}
use Rattle.script_printer.proofs.Chain.{chained}
use Rattle.event_text.specs.Texts.{AddedInPart}

-- nothing was added
pub none_added : (before added after : List (List ℕ)) → after ≡ before → AddedInPart before added after
none_added before added after same = record { front = []; rest = added; whole = refl; stands = same ∙ sym (append-nil before) }

-- the first part was added, and some of the other
pub first-added : (before between after first other : List (List ℕ)) → between ≡ before ++ first → AddedInPart between other after → AddedInPart before (first ++ other) after
first-added before between after first other e part = record {
  front = first ++ part.front;
  rest = part.rest;
  whole = ap (λ x. first ++ x) part.whole ∙ sym (append_assoc first part.front part.rest);
  stands = chained before between after first part.front e part.stands;
}

-- what stands behind those before, with the rest, is what is to be added
pub part-added : (before added after front rest : List (List ℕ)) → after ≡ before ++ front → after ++ rest ≡ before ++ added → AddedInPart before added after
part-added before added after front rest e whole = record {
  front = front;
  rest = rest;
  whole = append_cancel_left before added (front ++ rest) (sym whole ∙ ap (λ x. x ++ rest) e ∙ append_assoc before front rest);
  stands = e;
}
