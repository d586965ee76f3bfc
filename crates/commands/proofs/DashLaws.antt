-- Words that are no line, since one begins with a minus sign or there are none or too many, are no command.
use Rattle.std.proofs.Common.{◌≡◌, ◌⊎◌, ℕ, zero, suc, ◌^◌, ◌<◌, ◌≤◌, inl, inr, List, [], ◌∷◌, Bool, true, false, cond, not, ◌&&◌, Option, Some, None, refl, ap, sym, ◌∙◌, subst, arith, get_or, length, map}
use Rattle.std.specs.Prelude.{codes, nat_lt, option_and_then}
use Rattle.std.specs.Fmt.{decimal}
use Rattle.std.specs.List.{list_any}
use Rattle.std.proofs.lemmas.Bool.{and_left, and_right, eqb-true, or_cases}
use Rattle.std.proofs.lemmas.Fmt.{decimal_digit, first_decimal}
use Rattle.std.proofs.lemmas.Slice.Eq.{bytes_eq-Decides}
use Rattle.command_line.specs.Lines.{is_dashed, is_line, line_of}
use Rattle.scan_lines.specs.declared.shown.Shown.{Shown}
use Rattle.scan_lines.specs.declared.shown.Shown.TheVariants as shown
use Rattle.commands.specs.Commands.{command_of, command_of_three, expr_command, find_command, gen_command, is_word, kind_of_word, load_command, lone_command, number_of, record_size, records_command, scan_command}
use Rattle.commands.proofs.WordLaws.{number-unspelled}

-- A word that begins with a minus sign.

-- it is none that does not
other-word : (word name : List ℕ) → is_dashed word ≡ true → is_dashed name ≡ false → is_word word name ≡ false
other-word word name dashed plain =
    let at : (same : Bool) → is_word word name ≡ same → same ≡ false = elim [
      | true ↦ λ is.
          let no : true ≡ false = sym dashed ∙ ap is_dashed ((bytes_eq-Decides word name).0 is) ∙ plain in
          absurd cc
      | false ↦ λ is. refl
    ] in
    at (is_word word name) refl

-- it writes no number
not-first : (word : List ℕ) → 48 < get_or word 0 0 → is_dashed word ≡ true → ⊥
not-first [] above dashed = let no : false ≡ true = dashed in cc
not-first (byte ∷ bytes) above dashed = let is : byte ≡ 45 = eqb-true byte 45 dashed in omega arith

not-dashed : (n : ℕ) → n < 2 ^ 64 → is_dashed (decimal n) ≡ true → ⊥
not-dashed zero small dashed =
    let no : false ≡ true = sym (ap is_dashed (decimal_digit 0 (omega arith))) ∙ dashed in
    cc
not-dashed (suc n) small dashed = not-first (decimal (suc n)) (first_decimal (suc n) (omega arith) small) dashed

no-number : (low high : ℕ) (word : List ℕ) → high < 2 ^ 64 → is_dashed word ≡ true → number_of low high word ≡ None
no-number low high word small dashed =
    number-unspelled low high word (λ n spelled. not-dashed n (omega (arith, small, spelled.1)) (subst (λ (text : List ℕ). is_dashed text ≡ true) spelled.2 dashed))

-- it names no kind of streams, and no size
no-kind : (word : List ℕ) → is_dashed word ≡ true → kind_of_word word ≡ None
no-kind word dashed =
    rw (other-word word (codes "alarm") dashed refl, other-word word (codes "notification") dashed refl, other-word word (codes "system") dashed refl, other-word word (codes "application") dashed refl) refl

no-size : (word : List ℕ) → is_dashed word ≡ true → record_size word ≡ None
no-size word dashed =
    ap (λ b. cond b (Some 0) (number_of 32 16384 word)) (other-word word (codes "0") dashed refl) ∙ no-number 32 16384 word (omega arith) dashed

-- Commands of such words.

-- one of them does
abbrev AnyDashed : List (List ℕ) → Type 0
AnyDashed [] = ⊥
AnyDashed (word ∷ words) = (is_dashed word ≡ true) ⊎ AnyDashed words

any-dashed : (words : List (List ℕ)) → list_any is_dashed words ≡ true → AnyDashed words
any-dashed [] some = let no : false ≡ true = some in cc
any-dashed (word ∷ words) some = elim (or_cases (is_dashed word) (list_any is_dashed words) some) [
  | inl here ↦ inl here
  | inr there ↦ inr (any-dashed words there)
]

-- a choice none of whose sides gives anything, and one whose test fails or whose side gives nothing
both-none : {X : Type 0} (test : Bool) (one two : Option X) → one ≡ None → two ≡ None → cond test one two ≡ None
both-none true one two first second = first
both-none false one two first second = second

guarded : {X : Type 0} (test : Bool) (one : Option X) → (test ≡ false) ⊎ (one ≡ None) → cond test one None ≡ None
guarded test one (inl closed) = ap (λ t. cond t one None) closed
guarded test one (inr none) = both-none test one None none refl

nothing-then : {X Y : Type 0} (one : Option X) (f : X → Option Y) → ((x : X) → f x ≡ None) → option_and_then f one ≡ None
nothing-then None f none = refl
nothing-then (Some x) f none = none x

no-lone : (word : List ℕ) → is_dashed word ≡ true → lone_command word ≡ None
no-lone word dashed =
    rw (
      other-word word (codes "run") dashed refl,
      other-word word (codes "check") dashed refl,
      other-word word (codes "cold") dashed refl,
      other-word word (codes "recover") dashed refl,
      other-word word (codes "trio") dashed refl,
    ) refl

no-expr : (word name text : List ℕ) → AnyDashed (word ∷ name ∷ text ∷ []) → expr_command word name text ≡ None
no-expr word name text (inl dashed) =
    guarded (is_word word (codes "expr") && not (is_dashed text)) _ (inl (and_left (is_word word (codes "expr")) (not (is_dashed text)) (other-word word (codes "expr") dashed refl)))
no-expr word name text (inr (inl dashed)) =
    guarded (is_word word (codes "expr") && not (is_dashed text)) _ (inr (rw (no-kind name dashed) refl))
no-expr word name text (inr (inr (inl dashed))) =
    guarded (is_word word (codes "expr") && not (is_dashed text)) _ (inl (and_right (is_word word (codes "expr")) (not (is_dashed text)) (ap not dashed)))
no-expr word name text (inr (inr (inr never))) = absurd never

no-gen : (count seed : List ℕ) → AnyDashed (count ∷ seed ∷ []) → gen_command count seed ≡ None
no-gen count seed (inl dashed) = rw (no-number 1 100000 count (omega arith) dashed) refl
no-gen count seed (inr (inl dashed)) =
    nothing-then (number_of 1 100000 count) _ (λ turns. rw (no-number 0 18446744073709551615 seed (omega arith) dashed) refl)
no-gen count seed (inr (inr never)) = absurd never

no-load : (count seed : List ℕ) → AnyDashed (count ∷ seed ∷ []) → load_command count seed ≡ None
no-load count seed (inl dashed) = rw (no-number 1 100000 count (omega arith) dashed) refl
no-load count seed (inr (inl dashed)) =
    nothing-then (number_of 1 100000 count) _ (λ turns. rw (no-number 0 18446744073709551615 seed (omega arith) dashed) refl)
no-load count seed (inr (inr never)) = absurd never

no-three : (word one two : List ℕ) → AnyDashed (word ∷ one ∷ two ∷ []) → command_of_three word one two ≡ None
no-three word one two (inl dashed) =
    ap (λ b. cond b (gen_command one two) (cond (is_word word (codes "load")) (load_command one two) (expr_command word one two))) (other-word word (codes "gen") dashed refl)
    ∙ ap (λ b. cond b (load_command one two) (expr_command word one two)) (other-word word (codes "load") dashed refl)
    ∙ no-expr word one two (inl dashed)
no-three word one two (inr others) =
    both-none (is_word word (codes "gen")) (gen_command one two) (cond (is_word word (codes "load")) (load_command one two) (expr_command word one two)) (no-gen one two others)
    (both-none (is_word word (codes "load")) (load_command one two) (expr_command word one two) (no-load one two others) (no-expr word one two (inr others)))

no-records : (name size : List ℕ) (asked : Shown) → AnyDashed (name ∷ size ∷ []) → records_command name size asked ≡ None
no-records name size asked (inl dashed) = rw (no-kind name dashed) refl
no-records name size asked (inr (inl dashed)) = nothing-then (kind_of_word name) _ (λ kind. rw (no-size size dashed) refl)
no-records name size asked (inr (inr never)) = absurd never

no-scan : (word name text size : List ℕ) → AnyDashed (word ∷ name ∷ text ∷ size ∷ []) → scan_command word name text size ≡ None
no-scan word name text size dashed =
    let asks = is_word word (codes "scan") in
    let plain = not (is_dashed text) in
    let records = records_command name size shown.All in
    guarded (asks && plain) records (elim dashed [
      | inl first ↦ inl (and_left asks plain (other-word word (codes "scan") first refl))
      | inr (inl second) ↦ inr (no-records name size shown.All (inl second))
      | inr (inr (inl third)) ↦ inl (and_right asks plain (ap not third))
      | inr (inr (inr (inl fourth))) ↦ inr (no-records name size shown.All (inr (inl fourth)))
      | inr (inr (inr (inr never))) ↦ absurd never
    ])

no-find : (word name text size token wanted : List ℕ) → AnyDashed (word ∷ name ∷ text ∷ size ∷ token ∷ wanted ∷ []) → find_command word name text size token wanted ≡ None
no-find word name text size token wanted dashed =
    let asks = is_word word (codes "find") in
    let plain = not (is_dashed text) in
    let also = not (is_dashed wanted) in
    guarded (asks && (plain && also)) _ (elim dashed [
      | inl first ↦ inl (and_left asks (plain && also) (other-word word (codes "find") first refl))
      | inr (inl second) ↦ inr (nothing-then (number_of 1 1024 token) _ (λ number. no-records name size (shown.Having number) (inl second)))
      | inr (inr (inl third)) ↦ inl (and_right asks (plain && also) (and_left plain also (ap not third)))
      | inr (inr (inr (inl fourth))) ↦ inr (nothing-then (number_of 1 1024 token) _ (λ number. no-records name size (shown.Having number) (inr (inl fourth))))
      | inr (inr (inr (inr (inl fifth)))) ↦ inr (rw (no-number 1 1024 token (omega arith) fifth) refl)
      | inr (inr (inr (inr (inr (inl sixth))))) ↦ inl (and_right asks (plain && also) (and_right plain also (ap not sixth)))
      | inr (inr (inr (inr (inr (inr never))))) ↦ absurd never
    ])

-- Lines.

-- of as many words as a line may have, one begins with a minus sign where they are none
dashed-among : (dashed : Bool) → (not dashed && true) ≡ false → dashed ≡ true
dashed-among true none = refl
dashed-among false none = let no : true ≡ false = none in cc

found-among : (words : List (List ℕ)) → (not (list_any is_dashed words) && true) ≡ false → AnyDashed words
found-among words none = any-dashed words (dashed-among (list_any is_dashed words) none)

no-command : (words : List (List ℕ)) → is_line words ≡ false → command_of words ≡ None
no-command [] none = refl
no-command (a ∷ []) none = elim (found-among (a ∷ []) none) [ inl dashed ↦ no-lone a dashed | inr never ↦ absurd never ]
no-command (a ∷ b ∷ []) none = refl
no-command (a ∷ b ∷ c ∷ []) none = no-three a b c (found-among (a ∷ b ∷ c ∷ []) none)
no-command (a ∷ b ∷ c ∷ d ∷ []) none = no-scan a b c d (found-among (a ∷ b ∷ c ∷ d ∷ []) none)
no-command (a ∷ b ∷ c ∷ d ∷ e ∷ []) none = refl
no-command (a ∷ b ∷ c ∷ d ∷ e ∷ f ∷ []) none = no-find a b c d e f (found-among (a ∷ b ∷ c ∷ d ∷ e ∷ f ∷ []) none)
no-command (a ∷ b ∷ c ∷ d ∷ e ∷ f ∷ g ∷ words) none = refl

pub unread-line : (words : List (List ℕ)) → None ≡ line_of words → None ≡ command_of words
unread-line words none =
    let at : (test : Bool) → is_line words ≡ test → None ≡ cond test (Some words) None → None ≡ command_of words = elim [
      | true ↦ λ is some. let no : None ≡ Some words = some in absurd cc
      | false ↦ λ is some. sym (no-command words is)
    ] in
    at (is_line words) refl none

pub read-line : (words found : List (List ℕ)) → Some found ≡ line_of words → found ≡ words
read-line words found some =
    let at : (test : Bool) → Some found ≡ cond test (Some words) None → found ≡ words = elim [
      | true ↦ λ is. let same : Some found ≡ Some words = is in cc
      | false ↦ λ is. let no : Some found ≡ None = is in absurd cc
    ] in
    at (is_line words) some

-- no word of a line begins with a minus sign
pub plain-line : (words found : List (List ℕ)) → Some found ≡ line_of words → list_any is_dashed found ≡ false
plain-line words found some =
    let few = nat_lt 0 (length words) && nat_lt (length words) 7 in
    let at : (dashed : Bool) → list_any is_dashed words ≡ dashed → Some found ≡ cond (not dashed && few) (Some words) None → list_any is_dashed words ≡ false = elim [
      | true ↦ λ is none. let no : Some found ≡ None = none in absurd cc
      | false ↦ λ is told. is
    ] in
    subst (λ (all : List (List ℕ)). list_any is_dashed all ≡ false) (sym (read-line words found some)) (at (list_any is_dashed words) refl some)

-- of two words, of five, and of more than six there is no command
module _ {X : Type 0} (word : X → List ℕ) where
  pub none-of-two : (xs : List X) → 2 ≤ length xs → length xs < 3 → None ≡ command_of (map word xs)
  none-of-two [] low high = absurd (omega arith)
  none-of-two (a ∷ []) low high = absurd (omega arith)
  none-of-two (a ∷ b ∷ []) low high = refl
  none-of-two (a ∷ b ∷ c ∷ xs) low high = absurd (omega arith)

  pub none-of-five : (xs : List X) → 5 ≤ length xs → length xs < 6 → None ≡ command_of (map word xs)
  none-of-five [] low high = absurd (omega arith)
  none-of-five (a ∷ []) low high = absurd (omega arith)
  none-of-five (a ∷ b ∷ []) low high = absurd (omega arith)
  none-of-five (a ∷ b ∷ c ∷ []) low high = absurd (omega arith)
  none-of-five (a ∷ b ∷ c ∷ d ∷ []) low high = absurd (omega arith)
  none-of-five (a ∷ b ∷ c ∷ d ∷ e ∷ []) low high = refl
  none-of-five (a ∷ b ∷ c ∷ d ∷ e ∷ f ∷ xs) low high = absurd (omega arith)

  pub none-of-more : (xs : List X) → 7 ≤ length xs → None ≡ command_of (map word xs)
  none-of-more [] low = absurd (omega arith)
  none-of-more (a ∷ []) low = absurd (omega arith)
  none-of-more (a ∷ b ∷ []) low = absurd (omega arith)
  none-of-more (a ∷ b ∷ c ∷ []) low = absurd (omega arith)
  none-of-more (a ∷ b ∷ c ∷ d ∷ []) low = absurd (omega arith)
  none-of-more (a ∷ b ∷ c ∷ d ∷ e ∷ []) low = absurd (omega arith)
  none-of-more (a ∷ b ∷ c ∷ d ∷ e ∷ f ∷ []) low = absurd (omega arith)
  none-of-more (a ∷ b ∷ c ∷ d ∷ e ∷ f ∷ g ∷ xs) low = refl
