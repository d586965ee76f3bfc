-- Readings that are exact: what is read is what is spelled, and what is not read is no spelling, from its wrong byte on.
use Rattle.std.proofs.Common.{◌≡◌, ℕ, suc, List, [], ◌∷◌, ◌++◌, length, Result, Ok, Err, refl, sym, ◌∙◌, ap, subst}
use Rattle.std.proofs.lemmas.List.{append_assoc}
use Rattle.std.proofs.lemmas.List.Elements.{All-tail}
use Rattle.wire_code.specs.declared.fault.Fault.{Fault}
use Rattle.wire_code.specs.declared.fault.Fault.TheVariants.{Short, Bad}
use Rattle.wire_code.specs.Spelling.{IsByte, IsBytes, Begins}
use Rattle.wire_code.specs.Reading.{At, wrong, then_read, made, field, both, nothing}

-- a byte is wrong: what stands before it is a front, and with that byte nothing is read, whatever follows
pub record IsWrong {X : Type 0} (at : At X) (IsFront : List ℕ → Type 0) (bytes : List ℕ) (left : ℕ) : Type 0 where
  pub front : List ℕ
  pub byte : ℕ
  pub rest : List ℕ
  pub is : bytes ≡ front ++ byte ∷ rest
  pub left_is : left ≡ suc (length rest)
  pub begins : IsFront front
  pub always : (other : List ℕ) → at (front ++ byte ∷ other) ≡ wrong other

-- a reading is exact for the spelling of those that fit
pub record Code {X : Type 0} (at : At X) (text : X → List ℕ) (Fits : X → Type 0) : Type 0 where
  pub back : (x : X) (rest : List ℕ) → Fits x → at (text x ++ rest) ≡ Ok (x, rest)
  pub sound : (bytes : List ℕ) → IsBytes bytes → (x : X) (rest : List ℕ) → at bytes ≡ Ok (x, rest) → Fits x × (bytes ≡ text x ++ rest)
  pub short : (bytes : List ℕ) → IsBytes bytes → at bytes ≡ Err Short → Begins text Fits bytes
  pub bad : (bytes : List ℕ) → IsBytes bytes → (left : ℕ) → at bytes ≡ Err (Bad left) → IsWrong at (Begins text Fits) bytes left
  pub some : (x : X) × Fits x

from_ok : {X : Type 0} → X → Result X Fault → X
from_ok d (Ok x) = x
from_ok d (Err fault) = d

pub ok_is : {X : Type 0} (x y : X) → ◌≡◌ {A = Result X Fault} (Ok x) (Ok y) → x ≡ y
unfolding from_ok
ok_is x y e = ap (from_ok x) e

pub IsBytes-behind : (front rest : List ℕ) → IsBytes (front ++ rest) → IsBytes rest
IsBytes-behind [] rest all = all
IsBytes-behind (byte ∷ front) rest all = IsBytes-behind front rest (All-tail IsByte byte (front ++ rest) all)

-- a value, and what it asks for behind it
module _ {A B : Type 0} (get : At A) (ta : A → List ℕ) (Fa : A → Type 0) (next : A → At B) (tb : A → B → List ℕ) (Fb : A → B → Type 0) (first : Code get ta Fa) (second : (a : A) → Fa a → Code (next a) (tb a) (Fb a)) where
  abbrev pair_text : A × B → List ℕ
  pair_text p = ta p.0 ++ tb p.0 p.1

  abbrev PairFits : A × B → Type 0
  PairFits p = Fa p.0 × Fb p.0 p.1

  abbrev finish : A → B → List ℕ → Result ((A × B) × List ℕ) Fault
  finish a b last = Ok ((a, b), last)

  -- what is read behind the first value
  abbrev behind : A → List ℕ → Result ((A × B) × List ℕ) Fault
  behind a rest = then_read (next a rest) (finish a)

  field-back : (p : A × B) (rest : List ℕ) → PairFits p → field get next (pair_text p ++ rest) ≡ Ok (p, rest)
  field-back p rest h =
      let one : get (pair_text p ++ rest) ≡ Ok (p.0, tb p.0 p.1 ++ rest) = ap get (append_assoc (ta p.0) (tb p.0 p.1) rest) ∙ first.back p.0 (tb p.0 p.1 ++ rest) h.0 in
      let two : next p.0 (tb p.0 p.1 ++ rest) ≡ Ok (p.1, rest) = (second p.0 h.0).back p.1 rest h.1 in
      ap (λ (r : Result (A × List ℕ) Fault). then_read r behind) one ∙ ap (λ (r : Result (B × List ℕ) Fault). then_read r (finish p.0)) two

  sound_behind : (bytes : List ℕ) → IsBytes bytes → (a : A) (middle : List ℕ) → Fa a → bytes ≡ ta a ++ middle → (r : Result (B × List ℕ) Fault) → next a middle ≡ r → (p : A × B) (rest : List ℕ) → then_read r (finish a) ≡ Ok (p, rest) → PairFits p × (bytes ≡ pair_text p ++ rest)
  sound_behind bytes all a middle fits is (Ok found) read p rest done =
      let part = (second a fits).sound middle (IsBytes-behind (ta a) middle (subst IsBytes is all)) found.0 found.1 read in
      let whole : bytes ≡ pair_text (a, found.0) ++ found.1 = is ∙ ap (λ (r : List ℕ). ta a ++ r) part.1 ∙ sym (append_assoc (ta a) (tb a found.0) found.1) in
      let P : (A × B) × List ℕ → Type 0 = λ q. PairFits q.0 × (bytes ≡ pair_text q.0 ++ q.1) in
      subst P (ok_is _ _ done) ((fits, part.0), whole)
  sound_behind bytes all a middle fits is (Err fault) read p rest done = cc

  field-sound : (bytes : List ℕ) → IsBytes bytes → (r : Result (A × List ℕ) Fault) → get bytes ≡ r → (p : A × B) (rest : List ℕ) → then_read r behind ≡ Ok (p, rest) → PairFits p × (bytes ≡ pair_text p ++ rest)
  field-sound bytes all (Ok found) read p rest done =
      let part = first.sound bytes all found.0 found.1 read in
      sound_behind bytes all found.0 found.1 part.0 part.1 (next found.0 found.1) refl p rest done
  field-sound bytes all (Err fault) read p rest done = cc

  -- a front of the first value is one of both
  begins_first : (front : List ℕ) → Begins ta Fa front → Begins pair_text PairFits front
  begins_first front begins =
      let other = (second begins.value begins.fits).some in
      record {
        value = (begins.value, other.0);
        more = begins.more ++ tb begins.value other.0;
        fits = (begins.fits, other.1);
        is = ap (λ (r : List ℕ). r ++ tb begins.value other.0) begins.is ∙ append_assoc front begins.more (tb begins.value other.0);
      }

  -- the first value, and a front of what follows
  begins_behind : (a : A) (front : List ℕ) → Fa a → Begins (tb a) (Fb a) front → Begins pair_text PairFits (ta a ++ front)
  begins_behind a front fits begins = record {
    value = (a, begins.value);
    more = begins.more;
    fits = (fits, begins.fits);
    is = ap (λ (r : List ℕ). ta a ++ r) begins.is ∙ sym (append_assoc (ta a) front begins.more);
  }

  short_behind : (bytes : List ℕ) → IsBytes bytes → (a : A) (middle : List ℕ) → Fa a → bytes ≡ ta a ++ middle → (r : Result (B × List ℕ) Fault) → next a middle ≡ r → then_read r (finish a) ≡ Err Short → Begins pair_text PairFits bytes
  short_behind bytes all a middle fits is (Ok found) read done = cc
  short_behind bytes all a middle fits is (Err fault) read done =
      let part = (second a fits).short middle (IsBytes-behind (ta a) middle (subst IsBytes is all)) (read ∙ cc) in
      let P : List ℕ → Type 0 = Begins pair_text PairFits in
      subst P (sym is) (begins_behind a middle fits part)

  field-short : (bytes : List ℕ) → IsBytes bytes → (r : Result (A × List ℕ) Fault) → get bytes ≡ r → then_read r behind ≡ Err Short → Begins pair_text PairFits bytes
  field-short bytes all (Ok found) read done =
      let part = first.sound bytes all found.0 found.1 read in
      short_behind bytes all found.0 found.1 part.0 part.1 (next found.0 found.1) refl done
  field-short bytes all (Err fault) read done = begins_first bytes (first.short bytes all (read ∙ cc))

  abbrev WrongPair : List ℕ → ℕ → Type 0
  WrongPair bytes left = IsWrong (field get next) (Begins pair_text PairFits) bytes left

  bad_behind : (bytes : List ℕ) → IsBytes bytes → (a : A) (middle : List ℕ) → Fa a → bytes ≡ ta a ++ middle → (r : Result (B × List ℕ) Fault) → next a middle ≡ r → (left : ℕ) → then_read r (finish a) ≡ Err (Bad left) → WrongPair bytes left
  bad_behind bytes all a middle fits is (Ok found) read left done = cc
  bad_behind bytes all a middle fits is (Err fault) read left done =
      let part = (second a fits).bad middle (IsBytes-behind (ta a) middle (subst IsBytes is all)) left (read ∙ cc) in
      record {
        front = ta a ++ part.front;
        byte = part.byte;
        rest = part.rest;
        is = is ∙ ap (λ (r : List ℕ). ta a ++ r) part.is ∙ sym (append_assoc (ta a) part.front (part.byte ∷ part.rest));
        left_is = part.left_is;
        begins = begins_behind a part.front fits part.begins;
        always = λ other.
            ap (λ (r : Result (A × List ℕ) Fault). then_read r behind) (ap get (append_assoc (ta a) part.front (part.byte ∷ other)) ∙ first.back a (part.front ++ part.byte ∷ other) fits)
            ∙ ap (λ (r : Result (B × List ℕ) Fault). then_read r (finish a)) (part.always other);
      }

  field-bad : (bytes : List ℕ) → IsBytes bytes → (r : Result (A × List ℕ) Fault) → get bytes ≡ r → (left : ℕ) → then_read r behind ≡ Err (Bad left) → WrongPair bytes left
  field-bad bytes all (Ok found) read left done =
      let part = first.sound bytes all found.0 found.1 read in
      bad_behind bytes all found.0 found.1 part.0 part.1 (next found.0 found.1) refl left done
  field-bad bytes all (Err fault) read left done =
      let part = first.bad bytes all left (read ∙ cc) in
      record {
        front = part.front;
        byte = part.byte;
        rest = part.rest;
        is = part.is;
        left_is = part.left_is;
        begins = begins_first part.front part.begins;
        always = λ other. ap (λ (r : Result (A × List ℕ) Fault). then_read r behind) (part.always other);
      }

  pub field_code : Code (field get next) (λ (p : A × B). ta p.0 ++ tb p.0 p.1) (λ (p : A × B). Fa p.0 × Fb p.0 p.1)
  field_code = record {
    back = field-back;
    sound = λ bytes all p rest done. field-sound bytes all (get bytes) refl p rest done;
    short = λ bytes all done. field-short bytes all (get bytes) refl done;
    bad = λ bytes all left done. field-bad bytes all (get bytes) refl left done;
    some = ((first.some.0, (second first.some.0 first.some.1).some.0), (first.some.1, (second first.some.0 first.some.1).some.1));
  }

-- two values
pub both_code : {A B : Type 0} {get : At A} {ta : A → List ℕ} {Fa : A → Type 0} {next : At B} {tb : B → List ℕ} {Fb : B → Type 0} → Code get ta Fa → Code next tb Fb → Code (both get next) (λ (p : A × B). ta p.0 ++ tb p.1) (λ (p : A × B). Fa p.0 × Fb p.1)
both_code {A} {B} {get} {ta} {Fa} {next} {tb} {Fb} first second = field_code get ta Fa (λ _. next) (λ _. tb) (λ _. Fb) first (λ _ _. second)

-- what is made of a value
module _ {P X : Type 0} {at : At P} {part : P → List ℕ} {F : P → Type 0} (make : P → X) (text : X → List ℕ) (Fits : X → Type 0) (code : Code at part F) (whole : (p : P) → F p → text (make p) ≡ part p) (fit : (p : P) → F p → Fits (make p)) (every : (x : X) → Fits x → (p : P) × (make p ≡ x) × F p) where
  abbrev wrap : P → List ℕ → Result (X × List ℕ) Fault
  wrap p rest = Ok (make p, rest)

  made-back : (x : X) (rest : List ℕ) → Fits x → made make at (text x ++ rest) ≡ Ok (x, rest)
  made-back x rest fits =
      let of = every x fits in
      let Q : X → Type 0 = λ y. made make at (text y ++ rest) ≡ Ok (y, rest) in
      subst Q of.1
      (ap (λ (t : List ℕ). made make at (t ++ rest)) (whole of.0 of.2)
      ∙ ap (λ (r : Result (P × List ℕ) Fault). then_read r wrap) (code.back of.0 rest of.2))

  made-sound : (bytes : List ℕ) → IsBytes bytes → (r : Result (P × List ℕ) Fault) → at bytes ≡ r → (x : X) (rest : List ℕ) → then_read r wrap ≡ Ok (x, rest) → Fits x × (bytes ≡ text x ++ rest)
  made-sound bytes all (Ok found) read x rest done =
      let of = code.sound bytes all found.0 found.1 read in
      let Q : X × List ℕ → Type 0 = λ q. Fits q.0 × (bytes ≡ text q.0 ++ q.1) in
      subst Q (ok_is _ _ done) (fit found.0 of.0, of.1 ∙ ap (λ (t : List ℕ). t ++ found.1) (sym (whole found.0 of.0)))
  made-sound bytes all (Err fault) read x rest done = cc

  made_begins : (front : List ℕ) → Begins part F front → Begins text Fits front
  made_begins front begins = record {
    value = make begins.value;
    more = begins.more;
    fits = fit begins.value begins.fits;
    is = whole begins.value begins.fits ∙ begins.is;
  }

  made-short : (bytes : List ℕ) → IsBytes bytes → (r : Result (P × List ℕ) Fault) → at bytes ≡ r → then_read r wrap ≡ Err Short → Begins text Fits bytes
  made-short bytes all (Ok found) read done = cc
  made-short bytes all (Err fault) read done = made_begins bytes (code.short bytes all (read ∙ cc))

  made-bad : (bytes : List ℕ) → IsBytes bytes → (r : Result (P × List ℕ) Fault) → at bytes ≡ r → (left : ℕ) → then_read r wrap ≡ Err (Bad left) → IsWrong (made make at) (Begins text Fits) bytes left
  made-bad bytes all (Ok found) read left done = cc
  made-bad bytes all (Err fault) read left done =
      let of = code.bad bytes all left (read ∙ cc) in
      record {
        front = of.front;
        byte = of.byte;
        rest = of.rest;
        is = of.is;
        left_is = of.left_is;
        begins = made_begins of.front of.begins;
        always = λ other. ap (λ (r : Result (P × List ℕ) Fault). then_read r wrap) (of.always other);
      }

  pub made_code : Code (made make at) text Fits
  made_code = record {
    back = made-back;
    sound = λ bytes all x rest done. made-sound bytes all (at bytes) refl x rest done;
    short = λ bytes all done. made-short bytes all (at bytes) refl done;
    bad = λ bytes all left done. made-bad bytes all (at bytes) refl left done;
    some = (make code.some.0, fit code.some.0 code.some.1);
  }

-- no byte
pub nothing_code : Code nothing (λ _. []) (λ _. Unit {0})
nothing_code = record {
  back = λ x rest fits. refl;
  sound = λ bytes all x rest done. (tt, ap (λ (q : Unit {0} × List ℕ). q.1) (ok_is _ _ done));
  short = λ bytes all done. cc;
  bad = λ bytes all left done. cc;
  some = (tt, tt);
}
