-- The readings of options and enums are exact: a byte tells what follows.
use Rattle.std.proofs.Common.{◌≡◌, ◌⊎◌, ℕ, suc, ◌<◌, ◌≤◌, ◌==◌, Bool, true, false, List, [], ◌∷◌, ◌++◌, length, Option, Some, None, Result, Ok, Err, refl, sym, ◌∙◌, ap, subst, inl, inr, arith}
use Rattle.std.proofs.lemmas.Bool.{cases_eq, cond-true, cond-false, eq-eqb, ne_eqb}
use Rattle.std.proofs.lemmas.List.Elements.{All-tail}
use Rattle.wire_code.specs.declared.fault.Fault.{Fault}
use Rattle.wire_code.specs.declared.fault.Fault.TheVariants.{Short, Bad}
use Rattle.wire_code.specs.Spelling.{IsByte, IsBytes, flag_text, option_text, OptionFits, Begins}
use Rattle.wire_code.specs.Reading.{At, wrong, then_read, made, tagged, variant, no_variant, option_at, flag_at}
use Rattle.wire_code.proofs.Codes.{Code, IsWrong, nothing_code, ok_is}

-- a value's spelling, as its first byte and what follows, and that it is read again
pub record TaggedBack {X : Type 0} (low : ℕ) (choose : ℕ → At X) (text : X → List ℕ) (x : X) (rest : List ℕ) : Type 0 where
  pub tag : ℕ
  pub part : List ℕ
  pub above : low ≤ tag
  pub is : text x ≡ tag ∷ part
  pub read : choose tag (part ++ rest) ≡ Ok (x, rest)

-- a byte behind the tag is wrong, or the tag itself is
abbrev pub IsWrongBehind : {X : Type 0} → (ℕ → At X) → (X → List ℕ) → (X → Type 0) → ℕ → List ℕ → ℕ → Type 0
IsWrongBehind choose text Fits tag bytes left =
    ((left ≡ suc (length bytes)) × ((other : List ℕ) → choose tag other ≡ wrong other))
    ⊎ IsWrong (choose tag) (λ front. Begins text Fits (tag ∷ front)) bytes left

-- a choice by tags from a least one on is exact for the values that it covers
pub record Choice {X : Type 0} (low : ℕ) (choose : ℕ → At X) (text : X → List ℕ) (Fits Covered : X → Type 0) : Type 0 where
  pub back : (x : X) (rest : List ℕ) → Covered x → TaggedBack low choose text x rest
  pub sound : (tag : ℕ) (bytes : List ℕ) → IsBytes bytes → (x : X) (rest : List ℕ) → choose tag bytes ≡ Ok (x, rest) → Fits x × (tag ∷ bytes ≡ text x ++ rest)
  pub short : (tag : ℕ) (bytes : List ℕ) → IsBytes bytes → choose tag bytes ≡ Err Short → Begins text Fits (tag ∷ bytes)
  pub bad : (tag : ℕ) (bytes : List ℕ) → IsBytes bytes → (left : ℕ) → choose tag bytes ≡ Err (Bad left) → IsWrongBehind choose text Fits tag bytes left

-- no further tag
pub no_choice : {X : Type 0} (low : ℕ) (text : X → List ℕ) (Fits : X → Type 0) → Choice low no_variant text Fits (λ _. ⊥)
no_choice low text Fits = record {
  back = λ x rest none. absurd none;
  sound = λ tag bytes all x rest done. cc;
  short = λ tag bytes all done. cc;
  bad = λ tag bytes all left done. inl (cc, λ other. refl);
}

-- one more tag, and what is read behind it
module _ {P X : Type 0} {at : At P} {part : P → List ℕ} {F : P → Type 0} (place : ℕ) (make : P → X) (text : X → List ℕ) (Fits : X → Type 0) (code : Code at part F) (whole : (p : P) → F p → text (make p) ≡ place ∷ part p) (fit : (p : P) → F p → Fits (make p)) {next : ℕ} {others : ℕ → At X} {Covered : X → Type 0} (below : place < next) (choice : Choice next others text Fits Covered) where
  abbrev pub Covers : X → Type 0
  Covers x = ((p : P) × (make p ≡ x) × F p) ⊎ Covered x

  abbrev choose : ℕ → At X
  choose = variant place (made make at) others

  abbrev wrap : P → List ℕ → Result (X × List ℕ) Fault
  wrap p rest = Ok (make p, rest)

  here : (tag : ℕ) (bytes : List ℕ) → tag ≡ place → choose tag bytes ≡ made make at bytes
  here tag bytes is = cond-true (tag == place) (made make at bytes) (others tag bytes) (eq-eqb tag place is)

  further : (tag : ℕ) (bytes : List ℕ) → (tag ≡ place → ⊥) → choose tag bytes ≡ others tag bytes
  further tag bytes other = cond-false (tag == place) (made make at bytes) (others tag bytes) (ne_eqb tag place other)

  variant-back : (x : X) (rest : List ℕ) → Covers x → TaggedBack place choose text x rest
  variant-back x rest (inl of) = record {
    tag = place;
    part = part of.0;
    above = omega arith;
    is = ap text (sym of.1) ∙ whole of.0 of.2;
    read = here place (part of.0 ++ rest) refl ∙ ap (λ (r : Result (P × List ℕ) Fault). then_read r wrap) (code.back of.0 rest of.2) ∙ ap (λ y. Ok (y, rest)) of.1;
  }
  variant-back x rest (inr of) =
      let back = choice.back x rest of in
      record {
        tag = back.tag;
        part = back.part;
        above = omega (arith, back.above);
        is = back.is;
        read = further back.tag (back.part ++ rest) (λ same. absurd (omega (arith, back.above))) ∙ back.read;
      }

  made-sound : (bytes : List ℕ) → IsBytes bytes → (r : Result (P × List ℕ) Fault) → at bytes ≡ r → (x : X) (rest : List ℕ) → then_read r wrap ≡ Ok (x, rest) → Fits x × (place ∷ bytes ≡ text x ++ rest)
  made-sound bytes all (Ok found) read x rest done =
      let of = code.sound bytes all found.0 found.1 read in
      let Q : X × List ℕ → Type 0 = λ q. Fits q.0 × (place ∷ bytes ≡ text q.0 ++ q.1) in
      subst Q (ok_is _ _ done) (fit found.0 of.0, ap (λ (t : List ℕ). place ∷ t) of.1 ∙ ap (λ (t : List ℕ). t ++ found.1) (sym (whole found.0 of.0)))
  made-sound bytes all (Err fault) read x rest done = cc

  made_begins : (front : List ℕ) → Begins part F front → Begins text Fits (place ∷ front)
  made_begins front begins = record {
    value = make begins.value;
    more = begins.more;
    fits = fit begins.value begins.fits;
    is = whole begins.value begins.fits ∙ ap (λ (t : List ℕ). place ∷ t) begins.is;
  }

  made-short : (bytes : List ℕ) → IsBytes bytes → (r : Result (P × List ℕ) Fault) → at bytes ≡ r → then_read r wrap ≡ Err Short → Begins text Fits (place ∷ bytes)
  made-short bytes all (Ok found) read done = cc
  made-short bytes all (Err fault) read done = made_begins bytes (code.short bytes all (read ∙ cc))

  made-bad : (bytes : List ℕ) → IsBytes bytes → (r : Result (P × List ℕ) Fault) → at bytes ≡ r → (left : ℕ) → then_read r wrap ≡ Err (Bad left) → IsWrong (choose place) (λ front. Begins text Fits (place ∷ front)) bytes left
  made-bad bytes all (Ok found) read left done = cc
  made-bad bytes all (Err fault) read left done =
      let of = code.bad bytes all left (read ∙ cc) in
      record {
        front = of.front;
        byte = of.byte;
        rest = of.rest;
        is = of.is;
        left_is = of.left_is;
        begins = made_begins of.front of.begins;
        always = λ other. here place (of.front ++ of.byte ∷ other) refl ∙ ap (λ (r : Result (P × List ℕ) Fault). then_read r wrap) (of.always other);
      }

  variant-sound : (tag : ℕ) (bytes : List ℕ) → IsBytes bytes → (x : X) (rest : List ℕ) → choose tag bytes ≡ Ok (x, rest) → Fits x × (tag ∷ bytes ≡ text x ++ rest)
  variant-sound tag bytes all x rest done =
      elim (cases_eq tag place) [
        | inl is ↦
            let Q : ℕ → Type 0 = λ n. Fits x × (n ∷ bytes ≡ text x ++ rest) in
            subst Q (sym is) (made-sound bytes all (at bytes) refl x rest (sym (here tag bytes is) ∙ done))
        | inr other ↦ choice.sound tag bytes all x rest (sym (further tag bytes other) ∙ done)
      ]

  variant-short : (tag : ℕ) (bytes : List ℕ) → IsBytes bytes → choose tag bytes ≡ Err Short → Begins text Fits (tag ∷ bytes)
  variant-short tag bytes all done =
      elim (cases_eq tag place) [
        | inl is ↦
            let Q : ℕ → Type 0 = λ n. Begins text Fits (n ∷ bytes) in
            subst Q (sym is) (made-short bytes all (at bytes) refl (sym (here tag bytes is) ∙ done))
        | inr other ↦ choice.short tag bytes all (sym (further tag bytes other) ∙ done)
      ]

  -- what is wrong behind another tag
  still_wrong : (tag : ℕ) (bytes : List ℕ) (left : ℕ) → (tag ≡ place → ⊥) → IsWrongBehind others text Fits tag bytes left → IsWrongBehind choose text Fits tag bytes left
  still_wrong tag bytes left other (inl fails) = inl (fails.0, λ rest. further tag rest other ∙ fails.1 rest)
  still_wrong tag bytes left other (inr fails) = inr (record {
    front = fails.front;
    byte = fails.byte;
    rest = fails.rest;
    is = fails.is;
    left_is = fails.left_is;
    begins = fails.begins;
    always = λ rest. further tag (fails.front ++ fails.byte ∷ rest) other ∙ fails.always rest;
  })

  variant-bad : (tag : ℕ) (bytes : List ℕ) → IsBytes bytes → (left : ℕ) → choose tag bytes ≡ Err (Bad left) → IsWrongBehind choose text Fits tag bytes left
  variant-bad tag bytes all left done =
      elim (cases_eq tag place) [
        | inl is ↦
            let Q : ℕ → Type 0 = λ n. IsWrongBehind choose text Fits n bytes left in
            subst Q (sym is) (inr (made-bad bytes all (at bytes) refl left (sym (here tag bytes is) ∙ done)))
        | inr other ↦ still_wrong tag bytes left other (choice.bad tag bytes all left (sym (further tag bytes other) ∙ done))
      ]

  pub variant_choice : Choice place (variant place (made make at) others) text Fits (λ x. ((p : P) × (make p ≡ x) × F p) ⊎ Covered x)
  variant_choice = record {
    back = variant-back;
    sound = variant-sound;
    short = variant-short;
    bad = variant-bad;
  }

-- a choice that covers all values is exact
module _ {X : Type 0} {low : ℕ} {choose : ℕ → At X} {text : X → List ℕ} {Fits Covered : X → Type 0} (choice : Choice low choose text Fits Covered) (every : (x : X) → Fits x → Covered x) (some : (x : X) × Fits x) where
  tagged-back : (x : X) (rest : List ℕ) → Fits x → tagged choose (text x ++ rest) ≡ Ok (x, rest)
  tagged-back x rest fits =
      let back = choice.back x rest (every x fits) in
      ap (λ (t : List ℕ). tagged choose (t ++ rest)) back.is ∙ back.read

  tagged-sound : (bytes : List ℕ) → IsBytes bytes → (x : X) (rest : List ℕ) → tagged choose bytes ≡ Ok (x, rest) → Fits x × (bytes ≡ text x ++ rest)
  tagged-sound [] all x rest done = cc
  tagged-sound (tag ∷ bytes) all x rest done = choice.sound tag bytes (All-tail IsByte tag bytes all) x rest done

  begins_none : Begins text Fits []
  begins_none = record { value = some.0; more = text some.0; fits = some.1; is = refl }

  tagged-short : (bytes : List ℕ) → IsBytes bytes → tagged choose bytes ≡ Err Short → Begins text Fits bytes
  tagged-short [] all done = begins_none
  tagged-short (tag ∷ bytes) all done = choice.short tag bytes (All-tail IsByte tag bytes all) done

  wrong_tag : (tag : ℕ) (bytes : List ℕ) (left : ℕ) → IsWrongBehind choose text Fits tag bytes left → IsWrong (tagged choose) (Begins text Fits) (tag ∷ bytes) left
  wrong_tag tag bytes left (inl fails) = record {
    front = [];
    byte = tag;
    rest = bytes;
    is = refl;
    left_is = fails.0;
    begins = begins_none;
    always = fails.1;
  }
  wrong_tag tag bytes left (inr fails) = record {
    front = tag ∷ fails.front;
    byte = fails.byte;
    rest = fails.rest;
    is = ap (λ (t : List ℕ). tag ∷ t) fails.is;
    left_is = fails.left_is;
    begins = fails.begins;
    always = fails.always;
  }

  tagged-bad : (bytes : List ℕ) → IsBytes bytes → (left : ℕ) → tagged choose bytes ≡ Err (Bad left) → IsWrong (tagged choose) (Begins text Fits) bytes left
  tagged-bad [] all left done = cc
  tagged-bad (tag ∷ bytes) all left done = wrong_tag tag bytes left (choice.bad tag bytes (All-tail IsByte tag bytes all) left done)

  pub choice_code : Code (tagged choose) text Fits
  choice_code = record {
    back = tagged-back;
    sound = tagged-sound;
    short = tagged-short;
    bad = tagged-bad;
    some = some;
  }

-- an option
module _ {X : Type 0} (at : At X) (text : X → List ℕ) (Fits : X → Type 0) (code : Code at text Fits) where
  abbrev CoversOption : Option X → Type 0
  CoversOption x =
      ((p : Unit {0}) × (◌≡◌ {A = Option X} None x) × Unit {0}) ⊎ (((p : X) × (◌≡◌ {A = Option X} (Some p) x) × Fits p) ⊎ ⊥)

  every_option : (x : Option X) → OptionFits Fits x → CoversOption x
  every_option None fits = inl (tt, refl, tt)
  every_option (Some x) fits = inr (inl (x, refl, fits))

  pub option_code : Code (option_at at) (option_text text) (OptionFits Fits)
  unfolding option_at option_text
  option_code =
      choice_code
      (variant_choice 0 (λ (_ : Unit {0}). None) (option_text text) (OptionFits Fits) nothing_code (λ p fits. refl) (λ p fits. tt) (omega arith)
      (variant_choice 1 (λ (x : X). Some x) (option_text text) (OptionFits Fits) code (λ p fits. refl) (λ p fits. fits) (omega arith) (no_choice 2 (option_text text) (OptionFits Fits))))
      every_option
      (None, tt)

abbrev CoversFlag : Bool → Type 0
CoversFlag x =
    ((p : Unit {0}) × (false ≡ x) × Unit {0}) ⊎ (((p : Unit {0}) × (true ≡ x) × Unit {0}) ⊎ ⊥)

every_flag : (x : Bool) → Unit {0} → CoversFlag x
every_flag false fits = inl (tt, refl, tt)
every_flag true fits = inr (inl (tt, refl, tt))

pub flag_code : Code flag_at flag_text (λ _. Unit {0})
unfolding flag_at flag_text
flag_code =
    choice_code
    (variant_choice 0 (λ (_ : Unit {0}). false) flag_text (λ _. Unit {0}) nothing_code (λ p fits. refl) (λ p fits. tt) (omega arith)
    (variant_choice 1 (λ (_ : Unit {0}). true) flag_text (λ _. Unit {0}) nothing_code (λ p fits. refl) (λ p fits. tt) (omega arith) (no_choice 2 flag_text (λ _. Unit {0}))))
    every_flag
    (false, tt)
