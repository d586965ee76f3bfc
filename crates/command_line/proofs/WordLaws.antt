-- A word that does not begin with a minus sign is a value.
use Rattle.std.proofs.Common.{◌≡◌, ℕ, List, [], ◌∷◌, true, false, cond, ◌&&◌, ◌||◌, Option, Some, None, refl, ap, ◌∙◌}
use Rattle.std.specs.Prelude.{nat_eq, option_and_then}
use Rattle.std.specs.List.{list_any}
use Rattle.std.specs.Option.{option_map_or}
use Rattle.std.specs.Str.{bytes_eq}
use Rattle.std.specs.Cmp.Lexicographic.{pointwise}
use Rattle.std.proofs.lemmas.Bool.{or_parts}
use Rattle.clap.specs.Lexer.{long_of, long_of_rest, short_of, short_of_rest, strip_byte}
use Rattle.clap.specs.Simple.{Shape}
use Rattle.clap.specs.Takes.{bundle_passes, flag_word_passes, word_passes}
use Rattle.clap.specs.Walk.{Held, Rule, Text, Waiting, idle, positional, trailing, value, long_or_other, plain_word, short_or_plain, word_met}
use Rattle.command_line.specs.Lines.{is_dashed}

-- none of the words begins with a minus sign
abbrev pub ArePlain : List Text → Type 0
ArePlain [] = Unit {0}
ArePlain (word ∷ words) = (is_dashed word ≡ false) × ArePlain words

pub are-plain : (words : List Text) → list_any is_dashed words ≡ false → ArePlain words
are-plain [] none = tt
are-plain (word ∷ words) none =
    let parts = or_parts (is_dashed word) (list_any is_dashed words) none in
    (parts.0, are-plain words parts.1)

-- it is not `--`
no-dashes : (word : Text) → is_dashed word ≡ false → bytes_eq word (45 ∷ 45 ∷ []) ≡ false
no-dashes [] plain = refl
no-dashes (x ∷ xs) plain = ap (λ b. b && pointwise nat_eq xs (45 ∷ [])) plain

no-hyphen : (word : Text) → is_dashed word ≡ false → strip_byte 45 word ≡ None
no-hyphen [] plain = refl
no-hyphen (x ∷ xs) plain = ap (λ b. cond b (Some xs) None) plain

no-long : (word : Text) → is_dashed word ≡ false → long_of word ≡ None
no-long word plain =
    ap (λ (rest : Option Text). option_and_then long_of_rest (option_and_then (strip_byte 45) rest)) (no-hyphen word plain)

no-short : (word : Text) → is_dashed word ≡ false → short_of word ≡ None
no-short word plain = ap (λ (rest : Option Text). option_and_then short_of_rest rest) (no-hyphen word plain)

module _ (c : List Rule) (position : ℕ) (word : Text) (h : Held) (plain : is_dashed word ≡ false) where
  as-other : (waiting : Waiting) → cond (bytes_eq word (45 ∷ 45 ∷ [])) (h, trailing position) (long_or_other c waiting word (long_of word) h) ≡ plain_word c waiting word h
  as-other waiting =
      ap (λ b. cond b (h, trailing position) (long_or_other c waiting word (long_of word) h)) (no-dashes word plain)
      ∙ ap (λ found. long_or_other c waiting word found h) (no-long word plain)
      ∙ ap (λ found. short_or_plain c waiting word found h) (no-short word plain)

  pub met-idle : word_met c [] false idle position word h ≡ (h, value)
  met-idle = as-other idle

  pub met-positional : word_met c [] false positional position word h ≡ (h, value)
  met-positional = as-other positional

module _ (s : Shape) (word : Text) (h : Held) (plain : is_dashed word ≡ false) where
  other-passes : (bytes_eq word (45 ∷ 45 ∷ []) || flag_word_passes s.rules s.args_override_self (long_of word) word h) ≡ true
  other-passes =
      ap (λ b. b || flag_word_passes s.rules s.args_override_self (long_of word) word h) (no-dashes word plain)
      ∙ ap (λ found. flag_word_passes s.rules s.args_override_self found word h) (no-long word plain)
      ∙ ap (λ found. option_map_or (λ flags. bundle_passes s.rules s.args_override_self flags h) found true) (no-short word plain)

  pub passes-idle : word_passes s [] false idle word h ≡ true
  passes-idle = other-passes

  pub passes-positional : word_passes s [] false positional word h ≡ true
  passes-positional = other-passes
