-- That values are written as they are spelled, put together as grammars are.
use Rattle.std.proofs.Common.{◌≡◌, ◌⊎◌, ◌<◌, ℕ, suc, Bool, true, false, cond, ◌&&◌, ◌||◌, ◌==◌, List, [], ◌∷◌, ◌++◌, refl, sym, ap, subst, ◌∙◌, inl, inr, ⊎_elim, arith}
use Rattle.std.specs.Prelude.{ℤ, pos, negsuc, nat_le}
use Rattle.std.specs.Fmt.{decimal, signed_decimal}
use Rattle.std.specs.Bool.{Decides}
use Rattle.std.specs.List.{flat_map}
use Rattle.std.proofs.lemmas.Bool.{leb-true, and_parts, cond_both, or_cases, or_right}
use Rattle.std.proofs.lemmas.Bool.Decides.{Decides-eqb}
use Rattle.script_grammar.specs.Grammar.{Known, Word, Part, OneOf, Optional, Such, BehindCommas, Listed, Maybe, Unless, MaybeList}
use Rattle.script_grammar.specs.Values.{IsNumber, IsSigned, IsHexWord, hex_pair, hex_word, Stands, StandAll, IsQuoted}
use Rattle.script_grammar.specs.Values.Stands.{plain, quote, backslash, hex}
use Rattle.script_grammar.specs.Writing.{byte_text, quoted_text, commas_text, list_text, maybe_text, unless_text, listed_text}

-- what has a spelling is written by one
pub record Writes {X : Type 0} (S : X → List ℕ → Type 0) (write : X → List ℕ) : Type 0 where
  pub again : (x : X) (text : List ℕ) → S x text → S x (write x)

pub number_written : {low high : ℕ} → Writes (IsNumber low high) decimal
number_written {low} {high} = record { again = λ n text h. (h.0, h.1, refl) }

signed_again : (low high z : ℤ) (text : List ℕ) → IsSigned low high z text → IsSigned low high z (signed_decimal z)
signed_again low high (pos n) text h = (h.0, h.1, (n, inl (refl, refl)))
signed_again low high (negsuc n) text h = (h.0, h.1, (suc n, inr (refl, refl)))

pub signed_written : {low high : ℤ} → Writes (IsSigned low high) signed_decimal
signed_written {low} {high} = record { again = signed_again low high }

pub hex_word_written : Writes IsHexWord hex_word
hex_word_written = record { again = λ n text h. (h.0, refl) }

byte_small : (byte : ℕ) (part : List ℕ) → Stands byte part → byte < 256
byte_small byte part (plain low high not_quote not_slash) = omega arith
byte_small byte part quote = omega arith
byte_small byte part backslash = omega arith
byte_small byte part (hex small) = small

byte_written : (byte : ℕ) → byte < 256 → Stands byte (byte_text byte)
byte_written byte small =
    cond_both (byte == 34 || byte == 92) (92 ∷ byte ∷ []) (cond (nat_le 32 byte && nat_le byte 126) (byte ∷ []) (92 ∷ 120 ∷ hex_pair byte)) (Stands byte)
    (λ test. ⊎_elim
    (λ it. subst (λ b. Stands b (92 ∷ b ∷ [])) (sym ((Decides-eqb byte 34).0 it)) quote)
    (λ it. subst (λ b. Stands b (92 ∷ b ∷ [])) (sym ((Decides-eqb byte 92).0 it)) backslash)
    (or_cases (byte == 34) (byte == 92) test))
    (λ other. cond_both (nat_le 32 byte && nat_le byte 126) (byte ∷ []) (92 ∷ 120 ∷ hex_pair byte) (Stands byte)
    (λ test.
    let bounds = and_parts (nat_le 32 byte) (nat_le byte 126) test in
    plain (leb-true 32 byte bounds.0) (leb-true byte 126 bounds.1)
    (λ is. let yes = (Decides-eqb byte 34).1 is in let both = ap (λ t. t || byte == 92) yes in cc)
    (λ is. let yes = (Decides-eqb byte 92).1 is in let both = or_right (byte == 34) (byte == 92) yes in cc))
    (λ _. hex small))

inner_written : (content inner : List ℕ) → StandAll content inner → StandAll content (flat_map byte_text content)
inner_written [] inner h = refl
inner_written (b ∷ content) inner h = (byte_text b, flat_map byte_text content, refl, byte_written b (byte_small b h.0 h.3), inner_written content h.1 h.4)

pub quoted_written : Writes IsQuoted quoted_text
quoted_written = record { again = λ content text h. (h.0, (flat_map byte_text content, refl, inner_written content h.1.0 h.1.2)) }

-- what P spells is written behind what was written in front
pub record WritesBehind {X : Type 0} (front : List ℕ → List ℕ) (P : X → List ℕ → Type 0) (write : X → List ℕ) : Type 0 where
  pub again : (x : X) (text : List ℕ) → P x text → (own : List ℕ) × P x own × (write x ≡ front own)

pub written : {X : Type 0} {P : X → List ℕ → Type 0} {write : X → List ℕ} → WritesBehind (λ rest. rest) P write → Writes P write
written {X} {P} {write} behind = record { again = λ x text p. (let own = behind.again x text p in subst (P x) (sym own.2) own.1) }

pub written_known : {X : Type 0} {front : List ℕ → List ℕ} {write : X → List ℕ} (made : X) → write made ≡ front [] → WritesBehind front (Known made) write
written_known {X} {front} {write} made e = record { again = λ x text p. ([], (p.0, refl), ap write p.0 ∙ e) }

pub written_word : {X : Type 0} {front : List ℕ → List ℕ} {P : X → List ℕ → Type 0} {write : X → List ℕ} (word : List ℕ)
    → WritesBehind (λ rest. front (word ++ rest)) P write → WritesBehind front (Word word P) write
written_word {X} {front} {P} {write} word behind = record { again = λ x text p. (let own = behind.again x p.0 p.2 in (word ++ own.0, (own.0, refl, own.1), own.2)) }

pub written_part : {A X : Type 0} {front : List ℕ → List ℕ} {S : A → List ℕ → Type 0} {P : A → X → List ℕ → Type 0} {first : A → List ℕ} {write : X → List ℕ}
    → Writes S first → ((a : A) → WritesBehind (λ rest. front (first a ++ rest)) (P a) write) → WritesBehind front (Part S P) write
written_part {A} {X} {front} {S} {P} {first} {write} value behind = record {
  again = λ x text p. (let own = (behind p.0).again x p.2 p.5 in (first p.0 ++ own.0, (p.0, first p.0, own.0, refl, value.again p.0 p.1 p.4, own.1), own.2));
}

-- the forms of a table
pub record WritesForms {X : Type 0} (front : List ℕ → List ℕ) (forms : List (List ℕ × (X → List ℕ → Type 0))) (write : X → List ℕ) : Type 0 where
  pub behind : WritesBehind front (OneOf forms) write

pub written_no_form : {X : Type 0} {front : List ℕ → List ℕ} {write : X → List ℕ} → WritesForms front [] write
written_no_form {X} {front} {write} = record { behind = record { again = λ x text p. absurd p } }

pub written_form : {X : Type 0} {front : List ℕ → List ℕ} {P : X → List ℕ → Type 0} {forms : List (List ℕ × (X → List ℕ → Type 0))} {write : X → List ℕ} (word : List ℕ)
    → WritesBehind (λ rest. front (word ++ rest)) P write → WritesForms front forms write → WritesForms front ((word, P) ∷ forms) write
written_form {X} {front} {P} {forms} {write} word one more = let both : WritesBehind front (OneOf ((word, P) ∷ forms)) write = record {
  again = λ x text p. ⊎_elim
      (λ here. (let own = one.again x here.0 here.2 in (word ++ own.0, inl (own.0, refl, own.1), own.2)))
      (λ later. (let own = more.behind.again x text later in (own.0, inr own.1, own.2)))
      p;
} in record { behind = both }

-- what may be absent: it is written where it is not the absent one
pub optional_written : {A X : Type 0} {S : A → List ℕ → Type 0} {absent : X} {made : A → X} {first : A → List ℕ} {write : X → List ℕ} (word : List ℕ)
    → Writes S first → write absent ≡ [] → ((a : A) → ((write (made a) ≡ []) × (made a ≡ absent)) ⊎ (write (made a) ≡ word ++ first a))
    → Writes (Optional absent made word S) write
optional_written {A} {X} {S} {absent} {made} {first} {write} word value gone shown = record {
  again = λ x text. ⊎_elim
      (λ here. inl (here.0, ap write here.0 ∙ gone))
      (λ here. ⊎_elim
      (λ left. inl (here.2 ∙ left.1, ap write here.2 ∙ left.0))
      (λ right. inr (here.0, first here.0, here.2, ap write here.2 ∙ right, value.again here.0 here.1 here.4))
      (shown here.0));
}

-- a value that may be absent
pub maybe_written : {X : Type 0} {S : X → List ℕ → Type 0} {first : X → List ℕ} (word : List ℕ) → Writes S first → Writes (Maybe word S) (maybe_text word first)
maybe_written {X} {S} {first} word value = optional_written word value refl (λ x. inr refl)

pub such_written : {X : Type 0} {Holds : X → Type 0} {S : X → List ℕ → Type 0} {write : X → List ℕ} → Writes S write → Writes (Such Holds S) write
such_written {X} {Holds} {S} {write} value = record { again = λ x text p. (p.0, value.again x text p.1) }

pub written_such : {X : Type 0} {front : List ℕ → List ℕ} {Holds : X → Type 0} {P : X → List ℕ → Type 0} {write : X → List ℕ} → WritesBehind front P write → WritesBehind front (Such Holds P) write
written_such {X} {front} {Holds} {P} {write} behind = record { again = λ x text p. (let own = behind.again x text p.1 in (own.0, (p.0, own.1), own.2)) }

commas_again : {X : Type 0} (S : X → List ℕ → Type 0) (write : X → List ℕ) → Writes S write → (xs : List X) (text : List ℕ) → BehindCommas S xs text → BehindCommas S xs (commas_text write xs)
commas_again S write value [] text p = refl
commas_again S write value (x ∷ xs) text p = (write x, commas_text write xs, refl, value.again x p.0 p.3, commas_again S write value xs p.1 p.4)

list_again : {X : Type 0} (S : X → List ℕ → Type 0) (write : X → List ℕ) → Writes S write → (xs : List X) (text : List ℕ) → Listed S xs text → Listed S xs (list_text write xs)
list_again S write value [] text p = absurd p
list_again S write value (x ∷ xs) text p = (write x, commas_text write xs, refl, value.again x p.0 p.3, commas_again S write value xs p.1 p.4)

pub list_written : {X : Type 0} {S : X → List ℕ → Type 0} {write : X → List ℕ} → Writes S write → Writes (Listed S) (list_text write)
list_written {X} {S} {write} value = record { again = list_again S write value }

-- a list that may be empty, and is then absent
pub listed_written : {X : Type 0} {S : X → List ℕ → Type 0} {write : X → List ℕ} (word : List ℕ) → Writes S write → Writes (MaybeList word S) (listed_text word write)
listed_written {X} {S} {write} word value =
    let shown : (xs : List X) → ((listed_text word write xs ≡ []) × (xs ≡ [])) ⊎ (listed_text word write xs ≡ word ++ list_text write xs) = elim [
      | [] ↦ inl (refl, refl)
      | (x ∷ xs) ↦ inr refl
    ] in
    optional_written word (list_written value) refl shown

-- a value that is left out where nothing means it
pub unless_written : {X : Type 0} {S : X → List ℕ → Type 0} {first : X → List ℕ} (absent : X) (is_absent : X → Bool) (word : List ℕ) → ((x : X) → Decides (is_absent x) (x ≡ absent))
    → Writes S first → Writes (Unless absent word S) (unless_text is_absent word first)
unless_written {X} {S} {first} absent is_absent word decides value =
    let gone : (t : Bool) → is_absent absent ≡ t → cond t [] (word ++ first absent) ≡ [] = elim [
      | true ↦ λ test. refl
      | false ↦ λ test. (let yes = (decides absent).1 refl in cc)
    ] in
    let shown : (x : X) (t : Bool) → is_absent x ≡ t → ((cond t [] (word ++ first x) ≡ []) × (x ≡ absent)) ⊎ (cond t [] (word ++ first x) ≡ word ++ first x) = λ x. elim [
      | true ↦ λ test. inl (refl, (decides x).0 test)
      | false ↦ λ test. inr refl
    ] in
    optional_written word value (gone (is_absent absent) refl) (λ x. shown x (is_absent x) refl)
