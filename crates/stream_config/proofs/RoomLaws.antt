-- The current file, and the room in a file of records of one size, by their number.
use Rattle.std.proofs.Common.{◌≡◌, ℕ, suc, ◌+◌, ◌-◌, ◌*◌, ◌/◌, ◌%◌, ◌<◌, ◌≤◌, Bool, true, false, nat_lt, inl, inr, List, [], ◌∷◌, length, get_or, refl, sym, ap, ◌∙◌, arith}
use Rattle.std.proofs.lemmas.Bool.{cases_lt, leb-true, leb-false, lt-ltb, le-ltb}
use Rattle.std.proofs.lemmas.Nat.{le-div, div-add-mod'}
use Rattle.std.proofs.Math.Nat.{mul-le-mul_right}
use Rattle.stream_config.specs.declared.attrs.StreamAttrs.{StreamAttrs}
use Rattle.stream_config.specs.declared.state.LogFile.{LogFile}
use Rattle.stream_config.specs.Events.{current_file}
use Rattle.stream_config.specs.Sizes.{records_per_file, has_room}

pub room-alike : (attrs : StreamAttrs) (count : ℕ) → 0 < attrs.record_size → has_room attrs (count * attrs.record_size) attrs.record_size ≡ true → count + 1 ≤ records_per_file attrs
room-alike attrs count some room =
    le-div (count + 1) attrs.max_file attrs.record_size some (let high = leb-true (count * attrs.record_size + attrs.record_size) attrs.max_file room in omega (arith, high))

pub full-alike : (attrs : StreamAttrs) (count : ℕ) → 0 < attrs.record_size → has_room attrs (count * attrs.record_size) attrs.record_size ≡ false → records_per_file attrs ≤ count
full-alike attrs count some full =
    let high = leb-false (count * attrs.record_size + attrs.record_size) attrs.max_file full in
    let whole : attrs.max_file / attrs.record_size * attrs.record_size + attrs.max_file % attrs.record_size ≡ attrs.max_file = div-add-mod' attrs.max_file attrs.record_size in
    elim (cases_lt count (records_per_file attrs)) [
      | inl less ↦
          absurd (let grown : (count + 1) * attrs.record_size ≤ records_per_file attrs * attrs.record_size = mul-le-mul_right attrs.record_size (omega (arith, less)) in
          omega (arith, grown, high, whole))
      | inr more ↦ more
    ]

pub room-is : (attrs : StreamAttrs) (count : ℕ) → 0 < attrs.record_size → has_room attrs (count * attrs.record_size) attrs.record_size ≡ nat_lt count (records_per_file attrs)
room-is attrs count some = by_room (has_room attrs (count * attrs.record_size) attrs.record_size) refl where
  by_room : (b : Bool) → has_room attrs (count * attrs.record_size) attrs.record_size ≡ b → b ≡ nat_lt count (records_per_file attrs)
  by_room true room = let more = room-alike attrs count some room in sym (lt-ltb count (records_per_file attrs) (omega (arith, more)))
  by_room false full = sym (le-ltb count (records_per_file attrs) (full-alike attrs count some full))

-- the current file is the last
pub current_file_at : (files : List LogFile) (d : LogFile) → 0 < length files → get_or files (length files - 1) d ≡ current_file files
current_file_at [] d some = absurd (omega arith)
current_file_at (file ∷ []) d some = refl
current_file_at (file ∷ next ∷ files) d some =
    let last : suc (suc (length files)) - 1 ≡ suc (length files) = omega arith in
    let behind : length files ≡ suc (length files) - 1 = omega arith in
    ap (λ k. get_or (file ∷ next ∷ files) k d) last ∙ ap (λ k. get_or (next ∷ files) k d) behind
    ∙ current_file_at (next ∷ files) d (omega arith)
