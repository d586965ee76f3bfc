-- That reading is exact, put together as grammars are.
use Rattle.std.proofs.Common.{◌≡◌, ◌⊎◌, ◌+◌, ◌≤◌, ℕ, zero, suc, Bool, true, false, not, cond, ◌&&◌, ◌||◌, ◌==◌, List, [], ◌∷◌, ◌++◌, length, Option, Some, None, refl, sym, ap, subst, ◌∙◌, inl, inr, ⊎_elim, arith, append_assoc, length-append}
use Rattle.std.specs.Prelude.{option_and_then, option_map, is_some}
use Rattle.std.specs.Option.{option_map_or}
use Rattle.std.specs.Bool.{Decides}
use Rattle.std.specs.List.{list_any, list_all}
use Rattle.std.proofs.lemmas.Bool.Decides.{Decides-eqb}
use Rattle.std.proofs.lemmas.List.{append-nil}
use Rattle.std.proofs.lemmas.Option.{cond_some}
use Rattle.std.proofs.lemmas.Bool.{and_parts, or_cases, or_right}
use Rattle.ais_values.proofs.Basics.{some_of, eqb_self}
use Rattle.script_grammar.specs.Grammar.{Known, Word, Part, OneOf, Optional, Such, BehindCommas, Listed, Maybe, Unless, MaybeList}
use Rattle.script_grammar.specs.Reading.{skipped, known, word, part, one_of, with_made, optional, passing, such, with_first, behind_commas, listed, maybe, unless, maybe_list, alone, whole}

-- how a text may begin: with its end, or with a word
pub data Beginning : Type 0 where
  Ends : Beginning
  Begins : List ℕ → Beginning

abbrev pub begins : Beginning → List ℕ → Bool
begins Ends [] = true
begins Ends (b ∷ bytes) = false
begins (Begins front) bytes = is_some (skipped front bytes)

-- it begins in one of these ways
abbrev pub begins_by : List Beginning → List ℕ → Bool
begins_by starts bytes = list_any (λ start. begins start bytes) starts

-- two words that differ at a place which both have
abbrev pub clash : List ℕ → List ℕ → Bool
clash [] front = false
clash (v ∷ other) [] = false
clash (v ∷ other) (w ∷ front) = not (v == w) || clash other front

-- no text begins in both ways
abbrev pub apart : Beginning → Beginning → Bool
apart Ends Ends = false
apart Ends (Begins []) = false
apart Ends (Begins (w ∷ front)) = true
apart (Begins []) Ends = false
apart (Begins (v ∷ other)) Ends = true
apart (Begins other) (Begins front) = clash other front

-- a text that begins in the first way begins in the second
abbrev pub meets : Beginning → Beginning → Bool
meets Ends Ends = true
meets Ends (Begins front) = false
meets (Begins front) Ends = false
meets (Begins front) (Begins other) = is_some (skipped other front)

-- a text that begins in one of the first ways begins in one of the second
abbrev pub within : List Beginning → List Beginning → Bool
within starts others = list_all (λ start. list_any (meets start) others) starts

-- the text does not go on a value that such bytes continue
abbrev pub stops : (ℕ → Bool) → List ℕ → Bool
stops goes_on [] = true
stops goes_on (b ∷ bytes) = not (goes_on b)

abbrev pub start_stops : (ℕ → Bool) → Beginning → Bool
start_stops goes_on Ends = true
start_stops goes_on (Begins []) = false
start_stops goes_on (Begins (w ∷ front)) = not (goes_on w)

-- bytes without LF
abbrev pub one_line : List ℕ → Bool
one_line bytes = list_all (λ byte. not (byte == 10)) bytes

pub one_line-append : (xs ys : List ℕ) → one_line xs ≡ true → one_line ys ≡ true → one_line (xs ++ ys) ≡ true
one_line-append [] ys h k = k
one_line-append (x ∷ xs) ys h k =
    let parts = and_parts (not (x == 10)) (one_line xs) h in
    rw parts.0 (one_line-append xs ys parts.1 k)

-- Reading gives a value at the front exactly where a text of it stands there, where what follows begins in one of the ways
-- after. The text with what follows begins in one of the ways starts, and has no LF.
pub record Rule {X : Type 0} (at : List ℕ → Option (X × List ℕ)) (S : X → List ℕ → Type 0) (after starts : List Beginning) : Type 0 where
  pub sound : (bytes : List ℕ) (x : X) (rest : List ℕ) → at bytes ≡ Some (x, rest) → (text : List ℕ) × (bytes ≡ text ++ rest) × S x text
  pub complete : (x : X) (text rest : List ℕ) → S x text → begins_by after rest ≡ true → at (text ++ rest) ≡ Some (x, rest)
  pub first : (x : X) (text rest : List ℕ) → S x text → begins_by after rest ≡ true → begins_by starts (text ++ rest) ≡ true
  pub clean : (x : X) (text : List ℕ) → S x text → one_line text ≡ true

-- the same of a value whose text ends before each byte that does not go it on
pub record ValueRule {X : Type 0} (at : List ℕ → Option (X × List ℕ)) (S : X → List ℕ → Type 0) (goes_on : ℕ → Bool) : Type 0 where
  pub sound : (bytes : List ℕ) (x : X) (rest : List ℕ) → at bytes ≡ Some (x, rest) → (text : List ℕ) × (bytes ≡ text ++ rest) × S x text
  pub complete : (x : X) (text rest : List ℕ) → S x text → stops goes_on rest ≡ true → at (text ++ rest) ≡ Some (x, rest)
  pub clean : (x : X) (text : List ℕ) → S x text → one_line text ≡ true

-- reading of a whole text gives a value exactly where the text spells it
pub record LineRule {X : Type 0} (read : List ℕ → Option X) (S : X → List ℕ → Type 0) (starts : List Beginning) : Type 0 where
  pub sound : (bytes : List ℕ) (x : X) → read bytes ≡ Some x → S x bytes
  pub complete : (bytes : List ℕ) (x : X) → S x bytes → read bytes ≡ Some x
  pub first : (bytes : List ℕ) (x : X) → S x bytes → begins_by starts bytes ≡ true
  pub clean : (bytes : List ℕ) (x : X) → S x bytes → one_line bytes ≡ true

-- what is skipped stood there
pub skipped-sound : (front bytes rest : List ℕ) → skipped front bytes ≡ Some rest → bytes ≡ front ++ rest
skipped-sound [] bytes rest h = cc
skipped-sound (w ∷ front) [] rest h = cc
skipped-sound (w ∷ front) (b ∷ bytes) rest h =
    let at : (t : Bool) → (b == w) ≡ t → cond t (skipped front bytes) None ≡ Some rest → b ∷ bytes ≡ w ∷ front ++ rest = elim [
      | true ↦ λ test here. let same = (Decides-eqb b w).0 test in let after = skipped-sound front bytes rest here in cc
      | false ↦ λ test here. cc
    ] in
    at (b == w) refl h

pub skipped-append : (front rest : List ℕ) → skipped front (front ++ rest) ≡ Some rest
skipped-append [] rest = refl
skipped-append (w ∷ front) rest = rw (eqb_self w) (skipped-append front rest)

clash-skipped : (other front bytes : List ℕ) → clash other front ≡ true → is_some (skipped other bytes) ≡ true → is_some (skipped front bytes) ≡ true → ⊥
clash-skipped [] front bytes h p q = cc
clash-skipped (v ∷ other) [] bytes h p q = cc
clash-skipped (v ∷ other) (w ∷ front) [] h p q = cc
clash-skipped (v ∷ other) (w ∷ front) (b ∷ bytes) h p q =
    let at : (s t : Bool) → (b == v) ≡ s → (b == w) ≡ t → is_some (cond s (skipped other bytes) None) ≡ true → is_some (cond t (skipped front bytes) None) ≡ true → ⊥ = elim [
      | true ↦ elim [
        | true ↦ λ one two here there.
            let e = (Decides-eqb b v).0 one in let f = (Decides-eqb b w).0 two in
            let same : (v == w) ≡ true = (Decides-eqb v w).1 (sym e ∙ f) in
            clash-skipped other front bytes (rw same at h) here there
        | false ↦ λ one two here there. cc
      ]
      | false ↦ λ t one two here there. cc
    ] in
    at (b == v) (b == w) refl refl p q

apart-begins : (start other : Beginning) (bytes : List ℕ) → apart start other ≡ true → begins start bytes ≡ true → begins other bytes ≡ true → ⊥
apart-begins Ends Ends bytes h p q = cc
apart-begins Ends (Begins []) bytes h p q = cc
apart-begins Ends (Begins (w ∷ front)) [] h p q = cc
apart-begins Ends (Begins (w ∷ front)) (b ∷ bytes) h p q = cc
apart-begins (Begins []) Ends bytes h p q = cc
apart-begins (Begins (v ∷ other)) Ends [] h p q = cc
apart-begins (Begins (v ∷ other)) Ends (b ∷ bytes) h p q = cc
apart-begins (Begins []) (Begins front) bytes h p q = cc
apart-begins (Begins (v ∷ other)) (Begins front) bytes h p q = clash-skipped (v ∷ other) front bytes h p q

apart-begins_by : (start : Beginning) (others : List Beginning) (bytes : List ℕ) → list_all (apart start) others ≡ true → begins start bytes ≡ true → begins_by others bytes ≡ true → ⊥
apart-begins_by start [] bytes h p q = cc
apart-begins_by start (other ∷ others) bytes h p q =
    let parts = and_parts (apart start other) (list_all (apart start) others) h in
    ⊎_elim (λ here. apart-begins start other bytes parts.0 p here) (λ later. apart-begins_by start others bytes parts.1 p later) (or_cases (begins other bytes) (begins_by others bytes) q)

start_stops-stops : (goes_on : ℕ → Bool) (start : Beginning) (bytes : List ℕ) → start_stops goes_on start ≡ true → begins start bytes ≡ true → stops goes_on bytes ≡ true
start_stops-stops goes_on Ends [] h p = refl
start_stops-stops goes_on Ends (b ∷ bytes) h p = cc
start_stops-stops goes_on (Begins []) bytes h p = cc
start_stops-stops goes_on (Begins (w ∷ front)) [] h p = cc
start_stops-stops goes_on (Begins (w ∷ front)) (b ∷ bytes) h p =
    let at : (t : Bool) → (b == w) ≡ t → is_some (cond t (skipped front bytes) None) ≡ true → not (goes_on b) ≡ true = elim [
      | true ↦ λ test here. let same = (Decides-eqb b w).0 test in ap (λ x. not (goes_on x)) same ∙ h
      | false ↦ λ test here. cc
    ] in
    at (b == w) refl p

all_stop-stops : (goes_on : ℕ → Bool) (starts : List Beginning) (bytes : List ℕ) → list_all (start_stops goes_on) starts ≡ true → begins_by starts bytes ≡ true → stops goes_on bytes ≡ true
all_stop-stops goes_on [] bytes h p = cc
all_stop-stops goes_on (start ∷ starts) bytes h p =
    let parts = and_parts (start_stops goes_on start) (list_all (start_stops goes_on) starts) h in
    ⊎_elim (λ here. start_stops-stops goes_on start bytes parts.0 here) (λ later. all_stop-stops goes_on starts bytes parts.1 later) (or_cases (begins start bytes) (begins_by starts bytes) p)

-- what the second of two steps read
pub and_then_some : {A L : Type 0} (f : A → Option L) (o : Option A) (line : L) → option_and_then f o ≡ Some line → (a : A) × (o ≡ Some a) × (f a ≡ Some line)
and_then_some f None line h = cc
and_then_some f (Some a) line h = (a, refl, h)

-- what is there
meets-begins : (start other : Beginning) (bytes : List ℕ) → meets start other ≡ true → begins start bytes ≡ true → begins other bytes ≡ true
meets-begins Ends Ends bytes h p = p
meets-begins Ends (Begins front) bytes h p = cc
meets-begins (Begins front) Ends bytes h p = cc
meets-begins (Begins front) (Begins other) bytes h p =
    let behind = some_of (skipped other front) h in
    let rest = some_of (skipped front bytes) p in
    let shown : bytes ≡ other ++ (behind.0 ++ rest.0) =
    skipped-sound front bytes rest.0 rest.1 ∙ ap (λ x. x ++ rest.0) (skipped-sound other front behind.0 behind.1) ∙ append_assoc other behind.0 rest.0 in
    rw (shown, skipped-append other (behind.0 ++ rest.0)) refl

any_meets-begins : (start : Beginning) (others : List Beginning) (bytes : List ℕ) → list_any (meets start) others ≡ true → begins start bytes ≡ true → begins_by others bytes ≡ true
any_meets-begins start [] bytes h p = cc
any_meets-begins start (other ∷ others) bytes h p =
    ⊎_elim
    (λ here. rw (meets-begins start other bytes here p) refl)
    (λ later. or_right (begins other bytes) (begins_by others bytes) (any_meets-begins start others bytes later p))
    (or_cases (meets start other) (list_any (meets start) others) h)

within-begins : (starts others : List Beginning) (bytes : List ℕ) → within starts others ≡ true → begins_by starts bytes ≡ true → begins_by others bytes ≡ true
within-begins [] others bytes h p = cc
within-begins (start ∷ starts) others bytes h p =
    let parts = and_parts (list_any (meets start) others) (within starts others) h in
    ⊎_elim (λ here. any_meets-begins start others bytes parts.0 here) (λ later. within-begins starts others bytes parts.1 later) (or_cases (begins start bytes) (begins_by starts bytes) p)

-- a word that is apart from what stands there is not skipped
apart-none : (front : List ℕ) (starts : List Beginning) (bytes : List ℕ) → list_all (apart (Begins front)) starts ≡ true → begins_by starts bytes ≡ true → skipped front bytes ≡ None
apart-none front starts bytes h p =
    let at : (o : Option (List ℕ)) → skipped front bytes ≡ o → o ≡ None = elim [
      | None ↦ λ was. refl
      | Some rest ↦ λ was. absurd (apart-begins_by (Begins front) starts bytes h (rw was refl) p)
    ] in
    at (skipped front bytes) refl

-- what was read, by its parts
pub same_parts : {X Y : Type 0} {a c : X} {b d : Y} → ◌≡◌ {A = Option (X × Y)} (Some (a, b)) (Some (c, d)) → (a ≡ c) × (b ≡ d)
same_parts {X} {Y} {a} {c} {b} {d} h =
    let same = (cond_some true (a, b) (c, d) h).1 in
    (ap (λ (p : X × Y). p.0) same, ap (λ (p : X × Y). p.1) same)

-- what was read of a mapped reading
pub map_some : {A X : Type 0} (f : A → X) (o : Option A) (x : X) → option_map f o ≡ Some x → (a : A) × (o ≡ Some a) × (f a ≡ x)
map_some f None x h = cc
map_some {A} {X} f (Some a) x h = (a, refl, (cond_some true (f a) x h).1)

-- the front of a front
regrouped : (text front own rest : List ℕ) → text ≡ front ++ own → text ++ rest ≡ front ++ (own ++ rest)
regrouped text front own rest e = ap (λ x. x ++ rest) e ∙ append_assoc front own rest

joined : (bytes front middle own rest : List ℕ) → bytes ≡ front ++ middle → middle ≡ own ++ rest → bytes ≡ (front ++ own) ++ rest
joined bytes front middle own rest e f = e ∙ ap (λ x. front ++ x) f ∙ sym (append_assoc front own rest)

-- fewer ways to go on
pub widened : {X : Type 0} {at : List ℕ → Option (X × List ℕ)} {S : X → List ℕ → Type 0} {outer starts after : List Beginning} → Rule at S outer starts → within after outer ≡ true → Rule at S after starts
widened {X} {at} {S} {outer} {starts} {after} rule inside = record {
  sound = rule.sound;
  complete = λ x text rest p b. rule.complete x text rest p (within-begins after outer rest inside b);
  first = λ x text rest p b. rule.first x text rest p (within-begins after outer rest inside b);
  clean = rule.clean;
}

-- nothing stands
pub known_rule : {X : Type 0} {after : List Beginning} (made : X) → Rule (known made) (Known made) after after
known_rule {X} {after} made = record {
  sound = λ bytes x rest h. (let same = same_parts h in ([], same.1, (sym same.0, refl)));
  complete = λ x text rest p b. rw (p.1, p.0) refl;
  first = λ x text rest p b. rw p.1 b;
  clean = λ x text p. rw p.1 refl;
}

-- a word in front
pub word_rule : {X : Type 0} {at : List ℕ → Option (X × List ℕ)} {P : X → List ℕ → Type 0} {after starts : List Beginning}
    → (front : List ℕ) → one_line front ≡ true → Rule at P after starts → Rule (word front at) (Word front P) after (Begins front ∷ [])
word_rule {X} {at} {P} {after} {starts} front sound_word rule = record {
  sound = λ bytes x rest h.
      let parts = and_then_some at (skipped front bytes) (x, rest) h in
      let own = rule.sound parts.0 x rest parts.2 in
      (front ++ own.0, joined _ _ _ _ rest (skipped-sound front bytes parts.0 parts.1) own.1, (own.0, refl, own.2));
  complete = λ x text rest p b. rw (regrouped text front p.0 rest p.1, skipped-append front (p.0 ++ rest)) (rule.complete x p.0 rest p.2 b);
  first = λ x text rest p b. rw (regrouped text front p.0 rest p.1, skipped-append front (p.0 ++ rest)) refl;
  clean = λ x text p. rw p.1 (one_line-append front p.0 sound_word (rule.clean x p.0 p.2));
}

-- a value in front, which may be followed by what follows here
pub same_part_rule : {A X : Type 0} {at : List ℕ → Option (A × List ℕ)} {S : A → List ℕ → Type 0} {next : A → List ℕ → Option (X × List ℕ)} {P : A → X → List ℕ → Type 0} {middle after starts : List Beginning}
    → Rule at S middle starts → ((a : A) → Rule (next a) (P a) after middle) → Rule (part at next) (Part S P) after starts
same_part_rule {A} {X} {at} {S} {next} {P} {middle} {after} {starts} rule behind = record {
  sound = λ bytes x rest h.
      let parts = and_then_some (λ (found : A × List ℕ). next found.0 found.1) (at bytes) (x, rest) h in
      let front = rule.sound bytes parts.0.0 parts.0.1 parts.1 in
      let own = (behind parts.0.0).sound parts.0.1 x rest parts.2 in
      (front.0 ++ own.0, joined _ _ _ _ rest front.1 own.1, (parts.0.0, front.0, own.0, refl, front.2, own.2));
  complete = λ x text rest p b.
      let begun = (behind p.0).first x p.2 rest p.5 b in
      rw (regrouped text p.1 p.2 rest p.3, rule.complete p.0 p.1 (p.2 ++ rest) p.4 begun) ((behind p.0).complete x p.2 rest p.5 b);
  first = λ x text rest p b.
      let begun = (behind p.0).first x p.2 rest p.5 b in
      rw (regrouped text p.1 p.2 rest p.3) (rule.first p.0 p.1 (p.2 ++ rest) p.4 begun);
  clean = λ x text p. rw p.3 (one_line-append p.1 p.2 (rule.clean p.0 p.1 p.4) ((behind p.0).clean x p.2 p.5));
}

pub part_rule : {A X : Type 0} {at : List ℕ → Option (A × List ℕ)} {S : A → List ℕ → Type 0} {next : A → List ℕ → Option (X × List ℕ)} {P : A → X → List ℕ → Type 0} {outer middle after starts : List Beginning}
    → Rule at S outer starts → ((a : A) → Rule (next a) (P a) after middle) → within middle outer ≡ true → Rule (part at next) (Part S P) after starts
part_rule rule behind inside = same_part_rule (widened rule inside) behind

-- reading by the first word of a table is exact for the table's forms
pub record TableRule {X : Type 0} (ats : List (List ℕ × (List ℕ → Option (X × List ℕ)))) (Ps : List (List ℕ × (X → List ℕ → Type 0))) (after starts : List Beginning) : Type 0 where
  pub rule : Rule (one_of ats) (OneOf Ps) after starts

-- no form is left
pub no_form_rule : {X : Type 0} {after : List Beginning} → TableRule {X = X} [] [] after []
no_form_rule {X} {after} = let none : Rule {X = X} (one_of []) (OneOf []) after [] = record {
  sound = λ bytes x rest h. cc;
  complete = λ x text rest p b. absurd p;
  first = λ x text rest p b. absurd p;
  clean = λ x text p. absurd p;
} in record { rule = none }

-- one more form, whose word differs from those of the others
pub form_rule : {X : Type 0} {at : List ℕ → Option (X × List ℕ)} {P : X → List ℕ → Type 0} {after starts others : List Beginning}
    {ats : List (List ℕ × (List ℕ → Option (X × List ℕ)))} {Ps : List (List ℕ × (X → List ℕ → Type 0))}
    → (front : List ℕ) → Rule at P after starts → TableRule ats Ps after others → (one_line front && list_all (apart (Begins front)) others) ≡ true
    → TableRule ((front, at) ∷ ats) ((front, P) ∷ Ps) after (Begins front ∷ others)
form_rule {X} {at} {P} {after} {starts} {others} {ats} {Ps} front rule table tests =
    let more = table.rule in
    let test = and_parts (one_line front) (list_all (apart (Begins front)) others) tests in
    let sound_at : (bytes : List ℕ) (x : X) (rest : List ℕ) (o : Option (List ℕ)) → skipped front bytes ≡ o → option_map_or at o (one_of ats bytes) ≡ Some (x, rest)
    → (text : List ℕ) × (bytes ≡ text ++ rest) × OneOf ((front, P) ∷ Ps) x text = λ bytes x rest. elim [
      | None ↦ λ was h. (let found = more.sound bytes x rest h in (found.0, found.1, inr found.2))
      | Some behind ↦ λ was h.
          let own = rule.sound behind x rest h in
          (front ++ own.0, joined _ _ _ _ rest (skipped-sound front bytes behind was) own.1, inl (own.0, refl, own.2))
    ] in
    let whole_rule : Rule (one_of ((front, at) ∷ ats)) (OneOf ((front, P) ∷ Ps)) after (Begins front ∷ others) = record {
      sound = λ bytes x rest h. sound_at bytes x rest (skipped front bytes) refl h;
      complete = λ x text rest p b. ⊎_elim
          (λ here. rw (regrouped text front here.0 rest here.1, skipped-append front (here.0 ++ rest)) (rule.complete x here.0 rest here.2 b))
          (λ later. rw (apart-none front others (text ++ rest) test.1 (more.first x text rest later b)) (more.complete x text rest later b))
          p;
      first = λ x text rest p b. ⊎_elim
          (λ here. rw (regrouped text front here.0 rest here.1, skipped-append front (here.0 ++ rest)) refl)
          (λ later. or_right (begins (Begins front) (text ++ rest)) (begins_by others (text ++ rest)) (more.first x text rest later b))
          p;
      clean = λ x text p. ⊎_elim
          (λ here. rw here.1 (one_line-append front here.0 test.0 (rule.clean x here.0 here.2)))
          (λ later. more.clean x text later)
          p;
    } in
    record { rule = whole_rule }

-- what may be absent
pub optional_rule : {A X : Type 0} {at : List ℕ → Option (A × List ℕ)} {S : A → List ℕ → Type 0} {outer starts after : List Beginning} {absent : X} {made : A → X}
    → (front : List ℕ) → Rule at S outer starts → (within after outer && (one_line front && list_all (apart (Begins front)) after)) ≡ true
    → Rule (optional absent made front at) (Optional absent made front S) after (Begins front ∷ after)
optional_rule {A} {X} {at} {S} {outer} {starts} {after} {absent} {made} front rule tests =
    let one = and_parts (within after outer) (one_line front && list_all (apart (Begins front)) after) tests in
    let two = and_parts (one_line front) (list_all (apart (Begins front)) after) one.1 in
    let sound_at : (bytes : List ℕ) (x : X) (rest : List ℕ) (o : Option (List ℕ)) → skipped front bytes ≡ o
    → option_map_or (λ behind. option_map (with_made made) (at behind)) o (Some (absent, bytes)) ≡ Some (x, rest)
    → (text : List ℕ) × (bytes ≡ text ++ rest) × Optional absent made front S x text = λ bytes x rest. elim [
      | None ↦ λ was h. (let same = same_parts h in ([], same.1, inl (sym same.0, refl)))
      | Some behind ↦ λ was h.
          let found = map_some (with_made made) (at behind) (x, rest) h in
          let value : made found.0.0 ≡ x = ap (λ (p : X × List ℕ). p.0) found.2 in
          let left : found.0.1 ≡ rest = ap (λ (p : X × List ℕ). p.1) found.2 in
          let own = rule.sound behind found.0.0 found.0.1 found.1 in
          (front ++ own.0, joined _ _ _ _ rest (skipped-sound front bytes behind was) (own.1 ∙ ap (λ y. own.0 ++ y) left), inr (found.0.0, own.0, sym value, refl, own.2))
    ] in
    record {
      sound = λ bytes x rest h. sound_at bytes x rest (skipped front bytes) refl h;
      complete = λ x text rest p b. ⊎_elim
          (λ absent_here. rw (absent_here.1, apart-none front after rest two.1 b, absent_here.0) refl)
          (λ here. rw (regrouped text front here.1 rest here.3, skipped-append front (here.1 ++ rest), rule.complete here.0 here.1 rest here.4 (within-begins after outer rest one.0 b), here.2) refl)
          p;
      first = λ x text rest p b. ⊎_elim
          (λ absent_here. subst (λ t. begins_by (Begins front ∷ after) (t ++ rest) ≡ true) (sym absent_here.1) (or_right (begins (Begins front) rest) (begins_by after rest) b))
          (λ here. rw (regrouped text front here.1 rest here.3, skipped-append front (here.1 ++ rest)) refl)
          p;
      clean = λ x text p. ⊎_elim
          (λ absent_here. rw absent_here.1 refl)
          (λ here. rw here.3 (one_line-append front here.1 two.0 (rule.clean here.0 here.1 here.4)))
          p;
    }

pub optional_part_rule : {A X Y : Type 0} {at : List ℕ → Option (A × List ℕ)} {S : A → List ℕ → Type 0} {absent : X} {made : A → X}
    {next : X → List ℕ → Option (Y × List ℕ)} {P : X → Y → List ℕ → Type 0} {outer starts middle after : List Beginning}
    → (front : List ℕ) → Rule at S outer starts → ((x : X) → Rule (next x) (P x) after middle) → (within middle outer && (one_line front && list_all (apart (Begins front)) middle)) ≡ true
    → Rule (part (optional absent made front at) next) (Part (Optional absent made front S) P) after (Begins front ∷ middle)
optional_part_rule front rule behind tests = same_part_rule (optional_rule front rule tests) behind

-- a value of which something holds, which a test decides
pub such_rule : {X : Type 0} {at : List ℕ → Option (X × List ℕ)} {S : X → List ℕ → Type 0} {after starts : List Beginning} (test : X → Bool) (Holds : X → Type 0)
    → ((x : X) → Decides (test x) (Holds x)) → Rule at S after starts → Rule (such test at) (Such Holds S) after starts
such_rule {X} {at} {S} {after} {starts} test Holds decides rule = record {
  sound = λ bytes x rest h.
      let found = and_then_some (passing test) (at bytes) (x, rest) h in
      let pass = cond_some (test found.0.0) found.0 (x, rest) found.2 in
      let own = rule.sound bytes x rest (found.1 ∙ ap (λ y. Some y) pass.1) in
      let same : found.0.0 ≡ x = ap (λ (p : X × List ℕ). p.0) pass.1 in
      (own.0, own.1, ((decides x).0 (sym (ap test same) ∙ pass.0), own.2));
  complete = λ x text rest p b. rw (rule.complete x text rest p.1 b, (decides x).1 p.0) refl;
  first = λ x text rest p b. rule.first x text rest p.1 b;
  clean = λ x text p. rule.clean x text p.1;
}

-- more ways to begin
pub starting : {X : Type 0} {at : List ℕ → Option (X × List ℕ)} {S : X → List ℕ → Type 0} {after starts others : List Beginning} → Rule at S after starts → within starts others ≡ true → Rule at S after others
starting {X} {at} {S} {after} {starts} {others} rule inside = record {
  sound = rule.sound;
  complete = rule.complete;
  first = λ x text rest p b. within-begins starts others (text ++ rest) inside (rule.first x text rest p b);
  clean = rule.clean;
}

-- how a list goes on
abbrev pub comma : Beginning
comma = Begins (44 ∷ [])

-- values behind commas begin with one, or there are none
commas-first : {X : Type 0} (S : X → List ℕ → Type 0) (after : List Beginning) (xs : List X) (text rest : List ℕ) → BehindCommas S xs text → begins_by after rest ≡ true → begins_by (comma ∷ after) (text ++ rest) ≡ true
commas-first {X} S after [] text rest p b = subst (λ t. begins_by (comma ∷ after) (t ++ rest) ≡ true) (sym p) (or_right (begins comma rest) (begins_by after rest) b)
commas-first {X} S after (x ∷ xs) text rest p b = rw p.2 refl

length-commas : {X : Type 0} (S : X → List ℕ → Type 0) (xs : List X) (text : List ℕ) → BehindCommas S xs text → length xs ≤ length text
length-commas {X} S [] text p = omega arith
length-commas {X} S (x ∷ xs) text p =
    let more = length-commas S xs p.1 p.4 in
    let count : length text ≡ suc (length p.0 + length p.1) = ap length p.2 ∙ ap suc (length-append p.0 p.1) in
    omega arith

commas-clean : {X : Type 0} {at : List ℕ → Option (X × List ℕ)} {S : X → List ℕ → Type 0} {outer starts : List Beginning} → Rule at S outer starts → (xs : List X) (text : List ℕ) → BehindCommas S xs text → one_line text ≡ true
commas-clean rule [] text p = rw p refl
commas-clean rule (x ∷ xs) text p = rw p.2 (one_line-append p.0 p.1 (rule.clean x p.0 p.3) (commas-clean rule xs p.1 p.4))

commas-sound : {X : Type 0} {at : List ℕ → Option (X × List ℕ)} {S : X → List ℕ → Type 0} {outer starts : List Beginning} → Rule at S outer starts
    → (n : ℕ) (bytes : List ℕ) (xs : List X) (rest : List ℕ) → behind_commas n at bytes ≡ Some (xs, rest) → (text : List ℕ) × (bytes ≡ text ++ rest) × BehindCommas S xs text
commas-sound {X} {at} {S} rule zero bytes xs rest h =
    let same = same_parts h in ([], same.1, subst (λ ys. BehindCommas S ys []) same.0 refl)
commas-sound {X} {at} {S} rule (suc n) bytes xs rest h =
    let step = λ (found : X × List ℕ). option_map (with_first found.0) (behind_commas n at found.1) in
    let by_comma : (o : Option (List ℕ)) → skipped (44 ∷ []) bytes ≡ o → option_map_or (λ behind. option_and_then step (at behind)) o (Some ([], bytes)) ≡ Some (xs, rest)
    → (text : List ℕ) × (bytes ≡ text ++ rest) × BehindCommas S xs text = elim [
      | None ↦ λ was here. (let same = same_parts here in ([], same.1, subst (λ ys. BehindCommas S ys []) same.0 refl))
      | Some behind ↦ λ was here.
          let one = and_then_some step (at behind) (xs, rest) here in
          let more = map_some (with_first one.0.0) (behind_commas n at one.0.1) (xs, rest) one.2 in
          let all : one.0.0 ∷ more.0.0 ≡ xs = ap (λ (p : List X × List ℕ). p.0) more.2 in
          let left : more.0.1 ≡ rest = ap (λ (p : List X × List ℕ). p.1) more.2 in
          let front = rule.sound behind one.0.0 one.0.1 one.1 in
          let own = commas-sound rule n one.0.1 more.0.0 more.0.1 more.1 in (
            44 ∷ front.0 ++ own.0,
            skipped-sound (44 ∷ []) bytes behind was ∙ ap (λ y. 44 ∷ y) (joined _ _ _ _ rest front.1 (own.1 ∙ ap (λ y. own.0 ++ y) left)),
            subst (λ ys. BehindCommas S ys (44 ∷ front.0 ++ own.0)) all (front.0, own.0, refl, front.2, own.2),
          )
    ] in
    by_comma (skipped (44 ∷ []) bytes) refl h

commas-complete : {X : Type 0} {at : List ℕ → Option (X × List ℕ)} {S : X → List ℕ → Type 0} {outer starts : List Beginning} (after : List Beginning) → Rule at S outer starts
    → within (comma ∷ after) outer ≡ true → list_all (apart comma) after ≡ true
    → (n : ℕ) (xs : List X) (text rest : List ℕ) → BehindCommas S xs text → length xs ≤ n → begins_by after rest ≡ true → behind_commas n at (text ++ rest) ≡ Some (xs, rest)
commas-complete {X} {at} {S} {outer} {starts} after rule inside off zero [] text rest p few b = rw p refl
commas-complete {X} {at} {S} {outer} {starts} after rule inside off zero (x ∷ xs) text rest p few b = absurd (omega arith)
commas-complete {X} {at} {S} {outer} {starts} after rule inside off (suc n) [] text rest p few b = rw (p, apart-none (44 ∷ []) after rest off b) refl
commas-complete {X} {at} {S} {outer} {starts} after rule inside off (suc n) (x ∷ xs) text rest p few b =
    let begun = within-begins (comma ∷ after) outer (p.1 ++ rest) inside (commas-first S after xs p.1 rest p.4 b) in
    let here = rule.complete x p.0 (p.1 ++ rest) p.3 begun in
    let more = commas-complete after rule inside off n xs p.1 rest p.4 (omega arith) b in
    let split : text ++ rest ≡ 44 ∷ (p.0 ++ (p.1 ++ rest)) = ap (λ y. y ++ rest) p.2 ∙ ap (λ y. 44 ∷ y) (append_assoc p.0 p.1 rest) in
    rw (split, here, more) refl

-- a list
pub list_rule : {X : Type 0} {at : List ℕ → Option (X × List ℕ)} {S : X → List ℕ → Type 0} {outer starts after : List Beginning}
    → Rule at S outer starts → (within (comma ∷ after) outer && list_all (apart comma) after) ≡ true → Rule (listed at) (Listed S) after (Begins [] ∷ [])
list_rule {X} {at} {S} {outer} {starts} {after} rule tests =
    let test = and_parts (within (comma ∷ after) outer) (list_all (apart comma) after) tests in
    let clean_at : (xs : List X) (text : List ℕ) → Listed S xs text → one_line text ≡ true = elim [
      | [] ↦ λ text p. absurd p
      | (x ∷ xs) ↦ λ text p. rw p.2 (one_line-append p.0 p.1 (rule.clean x p.0 p.3) (commas-clean rule xs p.1 p.4))
    ] in
    let complete_at : (xs : List X) (text rest : List ℕ) → Listed S xs text → begins_by after rest ≡ true → listed at (text ++ rest) ≡ Some (xs, rest) = elim [
      | [] ↦ λ text rest p b. absurd p
      | (x ∷ xs) ↦ λ text rest p b.
          let begun = within-begins (comma ∷ after) outer (p.1 ++ rest) test.0 (commas-first S after xs p.1 rest p.4 b) in
          let here = rule.complete x p.0 (p.1 ++ rest) p.3 begun in
          let few = length-commas S xs p.1 p.4 in
          let split : text ++ rest ≡ p.0 ++ (p.1 ++ rest) = regrouped _ _ _ rest p.2 in
          let count : length (p.0 ++ (p.1 ++ rest)) ≡ length p.0 + (length p.1 + length rest) = length-append p.0 (p.1 ++ rest) ∙ ap (λ n. length p.0 + n) (length-append p.1 rest) in
          let more = commas-complete after rule test.0 test.1 (length (p.0 ++ (p.1 ++ rest))) xs p.1 rest p.4 (omega arith) b in
          rw (split, here, more) refl
    ] in
    record {
      sound = λ bytes xs rest h.
          let one = and_then_some (λ (found : X × List ℕ). option_map (with_first found.0) (behind_commas (length bytes) at found.1)) (at bytes) (xs, rest) h in
          let more = map_some (with_first one.0.0) (behind_commas (length bytes) at one.0.1) (xs, rest) one.2 in
          let all : one.0.0 ∷ more.0.0 ≡ xs = ap (λ (p : List X × List ℕ). p.0) more.2 in
          let left : more.0.1 ≡ rest = ap (λ (p : List X × List ℕ). p.1) more.2 in
          let front = rule.sound bytes one.0.0 one.0.1 one.1 in
          let own = commas-sound rule (length bytes) one.0.1 more.0.0 more.0.1 more.1 in
          (front.0 ++ own.0, joined _ _ _ _ rest front.1 (own.1 ∙ ap (λ y. own.0 ++ y) left), subst (λ ys. Listed S ys (front.0 ++ own.0)) all (front.0, own.0, refl, front.2, own.2));
      complete = complete_at;
      first = λ xs text rest p b. refl;
      clean = clean_at;
    }

-- parts that may be absent, and what stands behind them
pub maybe_part_rule : {X Y : Type 0} {at : List ℕ → Option (X × List ℕ)} {S : X → List ℕ → Type 0} {next : Option X → List ℕ → Option (Y × List ℕ)} {P : Option X → Y → List ℕ → Type 0} {outer starts middle after : List Beginning}
    → (front : List ℕ) → Rule at S outer starts → ((x : Option X) → Rule (next x) (P x) after middle) → (within middle outer && (one_line front && list_all (apart (Begins front)) middle)) ≡ true
    → Rule (part (maybe front at) next) (Part (Maybe front S) P) after (Begins front ∷ middle)
maybe_part_rule front rule behind tests = optional_part_rule front rule behind tests

pub unless_part_rule : {X Y : Type 0} {at : List ℕ → Option (X × List ℕ)} {S : X → List ℕ → Type 0} {next : X → List ℕ → Option (Y × List ℕ)} {P : X → Y → List ℕ → Type 0} {outer starts middle after : List Beginning}
    → (absent : X) (front : List ℕ) → Rule at S outer starts → ((x : X) → Rule (next x) (P x) after middle) → (within middle outer && (one_line front && list_all (apart (Begins front)) middle)) ≡ true
    → Rule (part (unless absent front at) next) (Part (Unless absent front S) P) after (Begins front ∷ middle)
unless_part_rule absent front rule behind tests = optional_part_rule front rule behind tests

-- what may follow a list: a blank, or the end
abbrev pub spaced : List Beginning
spaced = Ends ∷ Begins (32 ∷ []) ∷ []

pub spaced_list_rule : {X : Type 0} {at : List ℕ → Option (X × List ℕ)} {S : X → List ℕ → Type 0} {outer starts : List Beginning} → Rule at S outer starts → within (comma ∷ spaced) outer ≡ true → Rule (listed at) (Listed S) spaced (Begins [] ∷ [])
spaced_list_rule rule inside = list_rule rule (rw inside refl)

pub list_part_rule : {X Y : Type 0} {at : List ℕ → Option (X × List ℕ)} {S : X → List ℕ → Type 0} {next : List X → List ℕ → Option (Y × List ℕ)} {P : List X → Y → List ℕ → Type 0} {outer starts middle after : List Beginning}
    → (front : List ℕ) → Rule at S outer starts → ((xs : List X) → Rule (next xs) (P xs) after middle)
    → (within (comma ∷ spaced) outer && (within middle spaced && (one_line front && list_all (apart (Begins front)) middle))) ≡ true
    → Rule (part (maybe_list front at) next) (Part (MaybeList front S) P) after (Begins front ∷ middle)
list_part_rule {X} {Y} {at} {S} {next} {P} {outer} {starts} {middle} {after} front rule behind tests =
    let one = and_parts (within (comma ∷ spaced) outer) (within middle spaced && (one_line front && list_all (apart (Begins front)) middle)) tests in
    optional_part_rule front (spaced_list_rule rule one.0) behind one.1

-- a whole text
pub line_rule : {X : Type 0} {at : List ℕ → Option (X × List ℕ)} {S : X → List ℕ → Type 0} {starts : List Beginning} → Rule at S (Ends ∷ []) starts → LineRule (whole at) S starts
line_rule {X} {at} {S} {starts} rule =
    let last : (y : X) (rest : List ℕ) (x : X) → alone y rest ≡ Some x → (y ≡ x) × (rest ≡ []) = λ y. elim [
      | [] ↦ λ x h. ((cond_some true y x h).1, refl)
      | (b ∷ rest) ↦ λ x h. cc
    ] in
    let end : (bytes : List ℕ) → bytes ++ [] ≡ bytes = append-nil in
    record {
      sound = λ bytes x h.
          let found = and_then_some (λ (f : X × List ℕ). alone f.0 f.1) (at bytes) x h in
          let ends = last found.0.0 found.0.1 x found.2 in
          let own = rule.sound bytes found.0.0 found.0.1 found.1 in
          let same : bytes ≡ own.0 = own.1 ∙ ap (λ y. own.0 ++ y) ends.1 ∙ end own.0 in
          subst (λ y. S y bytes) ends.0 (subst (S found.0.0) (sym same) own.2);
      complete = λ bytes x p.
          let here : at bytes ≡ Some (x, []) = ap at (sym (end bytes)) ∙ rule.complete x bytes [] p refl in
          rw here refl;
      first = λ bytes x p. subst (λ y. begins_by starts y ≡ true) (end bytes) (rule.first x bytes [] p refl);
      clean = λ bytes x p. rule.clean x bytes p;
    }

-- what may follow a value
abbrev pub separators : List Beginning
separators = Ends ∷ Begins (32 ∷ []) ∷ Begins (44 ∷ []) ∷ Begins (46 ∷ []) ∷ Begins (58 ∷ []) ∷ Begins (60 ∷ []) ∷ []

-- a text that may begin with any byte
abbrev pub anything : List Beginning
anything = Begins [] ∷ []

pub plain_rule : {X : Type 0} {at : List ℕ → Option (X × List ℕ)} {S : X → List ℕ → Type 0} {goes_on : ℕ → Bool} → ValueRule at S goes_on → list_all (start_stops goes_on) separators ≡ true → Rule at S separators anything
plain_rule {X} {at} {S} {goes_on} rule stop = record {
  sound = rule.sound;
  complete = λ x text rest p b. rule.complete x text rest p (all_stop-stops goes_on separators rest stop b);
  first = λ x text rest p b. refl;
  clean = rule.clean;
}
