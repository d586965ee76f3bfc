-- That reading is exact: the values of a script.
use Rattle.std.proofs.Common.{◌≡◌, ◌≤◌, ◌-◌, ◌^◌, ℕ, true, ◌&&◌, List, [], ◌∷◌, ◌++◌, length, Some, refl, ap, subst, arith, not, ◌==◌}
use Rattle.std.specs.Prelude.{pos, neg_ℤ, codes, nat_le, nat_lt}
use Rattle.ais_values.specs.Names.{IsName, IsPrintable}
use Rattle.ais_values.specs.Bounds.{last_moment}
use Rattle.ntf_types.specs.declared.value.Value.TheVariants.{Int, NameOf, TextOf, Binary}
use Rattle.script_lines.specs.declared.line.Server.TheVariants.{A, B}
use Rattle.script_language.specs.Values.{IsNumber8, IsNumber16, IsNumber32, IsNumber64, IsSigned64, IsScriptTime, IsClient, IsQueueLength, IsCount, server_forms, IsServer, IsVersion, IsClass, value_forms, IsValue, IsPair, IsChange, IsStateChange, version_of, class_of, pair_of, change_of, state_change_of, IsQuotedName, IsRelease}
use Rattle.script_language.specs.ValueReading.{number8_at, number16_at, number32_at, number64_at, signed64_at, script_time_at, client_at, queue_length_at, count_at, server_readers, server_at, version_at, class_at, value_readers, value_at, pair_at, change_at, state_change_at, quoted_name_at, release_at, is_name, is_printable}
use Rattle.script_grammar.specs.ValueReading.{number_at, hex_word_at, quoted_at}
use Rattle.script_grammar.specs.Values.{IsNumber, IsQuoted, IsHexWord}
use Rattle.script_grammar.proofs.Rules.Beginning.{Begins}
use Rattle.script_grammar.proofs.Rules.{Beginning, Rule, ValueRule, TableRule, known_rule, word_rule, part_rule, no_form_rule, form_rule, maybe_part_rule, such_rule, plain_rule, separators, anything, spaced, comma}
use Rattle.std.specs.Bool.{Decides}
use Rattle.std.specs.List.{list_all, All}
use Rattle.std.proofs.lemmas.Bool.{leb-true, le-leb, and_parts}
use Rattle.std.proofs.lemmas.Bool.Decides.{Decides-like, Decides-and, Decides-by_and, nat_tests}
use Rattle.std.proofs.lemmas.Option.{cond_some}
use Rattle.script_grammar.proofs.Numbers.{number_rule, signed_rule}
use Rattle.script_grammar.proofs.Texts.{nothing}
use Rattle.script_grammar.proofs.Texts as words

-- numbers in a range
pub small_rule : (low high : ℕ) → nat_lt high (2 ^ 64) ≡ true → Rule (number_at low high) (IsNumber low high) separators anything
small_rule low high fits = plain_rule (number_rule low high fits) refl

pub number8_rule : Rule number8_at IsNumber8 separators anything
number8_rule = small_rule 0 255 refl

pub number16_rule : Rule number16_at IsNumber16 separators anything
number16_rule = small_rule 0 65535 refl

pub number32_rule : Rule number32_at IsNumber32 separators anything
number32_rule = small_rule 0 4294967295 refl

pub number64_rule : Rule number64_at IsNumber64 separators anything
number64_rule = small_rule 0 (2 ^ 64 - 1) refl

pub client_rule : Rule client_at IsClient separators anything
client_rule = small_rule 1 4096 refl

pub queue_length_rule : Rule queue_length_at IsQueueLength separators anything
queue_length_rule = small_rule 1 256 refl

pub count_rule : Rule count_at IsCount separators anything
count_rule = small_rule 1 (2 ^ 64 - 1) refl

pub signed64_rule : Rule signed64_at IsSigned64 separators anything
signed64_rule = plain_rule (signed_rule (neg_ℤ (pos (2 ^ 63))) (pos (2 ^ 63 - 1)) (omega arith) (omega arith)) refl

pub script_time_rule : Rule script_time_at IsScriptTime separators anything
script_time_rule = plain_rule (signed_rule (pos 0) (pos last_moment) (omega arith) (omega arith)) refl

pub hex_word_rule : Rule hex_word_at IsHexWord separators anything
hex_word_rule = plain_rule words.hex_word_rule refl

pub quoted_rule : Rule quoted_at IsQuoted separators anything
quoted_rule = plain_rule words.quoted_rule refl

decides_printable : (byte : ℕ) → Decides (is_printable byte) (IsPrintable byte)
decides_printable byte =
    Decides-like (is_printable byte)
    (λ (p : (32 ≤ byte) × (byte ≤ 126)). record { low = p.0; high = p.1 })
    (λ (is : IsPrintable byte). (is.low, is.high))
    (Decides-and _ _ (leb-true 32 byte, le-leb 32 byte) (leb-true byte 126, le-leb byte 126))

pub decides_name : (bytes : List ℕ) → Decides (is_name bytes) (IsName bytes)
decides_name bytes =
    Decides-like (is_name bytes)
    (λ (p : ((1 ≤ length bytes) × (length bytes ≤ 256)) × All IsPrintable bytes). record { some = p.0.0; bound = p.0.1; printable = p.1 })
    (λ (is : IsName bytes). ((is.some, is.bound), is.printable))
    (Decides-and _ _ (Decides-and _ _ (leb-true 1 (length bytes), le-leb 1 (length bytes)) (leb-true (length bytes) 256, le-leb (length bytes) 256))
    (Decides-by_and is_printable IsPrintable (list_all is_printable) decides_printable refl (λ _ _. refl) bytes))

pub quoted_name_rule : Rule quoted_name_at IsQuotedName separators anything
unfolding quoted_name_at
quoted_name_rule = such_rule is_name IsName decides_name quoted_rule

letter-clean : (letter : ℕ) → 65 ≤ letter → not (letter == 10) ≡ true
letter-clean letter h = grind (arith, nat_tests)

release_value : ValueRule release_at IsRelease nothing
unfolding release_at
release_value =
    let sound : (bytes : List ℕ) (letter : ℕ) (rest : List ℕ) → release_at bytes ≡ Some (letter, rest) → (text : List ℕ) × (bytes ≡ text ++ rest) × IsRelease letter text = elim [
      | [] ↦ λ letter rest h. cc
      | (b ∷ bytes) ↦ λ letter rest h.
          let parts = cond_some (nat_le 65 b && nat_le b 90) (b, bytes) (letter, rest) h in
          let tests = and_parts (nat_le 65 b) (nat_le b 90) parts.0 in
          let same : b ≡ letter = ap (λ (p : ℕ × List ℕ). p.0) parts.1 in
          let after : bytes ≡ rest = ap (λ (p : ℕ × List ℕ). p.1) parts.1 in
          (letter ∷ [], cc, (subst (λ n. 65 ≤ n) same (leb-true 65 b tests.0), subst (λ n. n ≤ 90) same (leb-true b 90 tests.1), refl))
    ] in
    record {
      sound = sound;
      complete = λ letter text rest h stop. rw (h.2, le-leb 65 letter h.0, le-leb letter 90 h.1) refl;
      clean = λ letter text h. rw (h.2, letter-clean letter h.0) refl;
    }

pub release_rule : Rule release_at IsRelease separators anything
release_rule = plain_rule release_value refl

-- how a list of changes goes on
abbrev pub elements : List Beginning
elements = comma ∷ spaced

abbrev pub server_starts : List Beginning
server_starts = Begins (codes "a") ∷ Begins (codes "b") ∷ []

server_table : TableRule server_readers server_forms separators server_starts
server_table =
    form_rule (codes "a") (known_rule A) (
    form_rule (codes "b") (known_rule B) no_form_rule refl) refl

pub server_rule : Rule server_at IsServer separators server_starts
unfolding server_at IsServer
server_rule =
    server_table.rule

pub version_rule : Rule version_at IsVersion separators anything
unfolding version_at IsVersion
version_rule =
    part_rule release_rule (λ release.
    word_rule (codes ".") refl (part_rule number8_rule (λ major.
    word_rule (codes ".") refl (part_rule number8_rule (λ minor.
    known_rule (version_of release major minor)) refl)) refl)) refl

pub class_rule : Rule class_at IsClass separators anything
unfolding class_at IsClass
class_rule =
    part_rule number32_rule (λ vendor.
    word_rule (codes ".") refl (part_rule number16_rule (λ major.
    word_rule (codes ".") refl (part_rule number16_rule (λ minor.
    known_rule (class_of vendor major minor)) refl)) refl)) refl

abbrev pub value_starts : List Beginning
value_starts = Begins (codes "int:") ∷ Begins (codes "name:") ∷ Begins (codes "text:") ∷ Begins (codes "bin:") ∷ []

value_table : TableRule value_readers value_forms separators value_starts
value_table =
    form_rule (codes "int:") (part_rule signed64_rule (λ n.
    known_rule (Int n)) refl) (
    form_rule (codes "name:") (part_rule quoted_name_rule (λ name.
    known_rule (NameOf name)) refl) (
    form_rule (codes "text:") (part_rule quoted_rule (λ text.
    known_rule (TextOf text)) refl) (
    form_rule (codes "bin:") (part_rule quoted_rule (λ bytes.
    known_rule (Binary bytes)) refl) no_form_rule refl) refl) refl) refl

pub value_rule : Rule value_at IsValue separators value_starts
unfolding value_at IsValue
value_rule =
    value_table.rule

pub pair_rule : Rule pair_at IsPair separators anything
unfolding pair_at IsPair
pair_rule =
    part_rule number16_rule (λ id.
    word_rule (codes ":") refl (part_rule value_rule (λ value.
    known_rule (pair_of id value)) refl)) refl

pub change_rule : Rule change_at IsChange elements anything
unfolding change_at IsChange
change_rule =
    part_rule number16_rule (λ id.
    word_rule (codes ":") refl (part_rule value_rule (λ after.
    maybe_part_rule (codes "<") value_rule (λ before.
    known_rule (change_of id after before)) refl) refl)) refl

pub state_change_rule : Rule state_change_at IsStateChange elements anything
unfolding state_change_at IsStateChange
state_change_rule =
    part_rule number16_rule (λ id.
    word_rule (codes ":") refl (part_rule number16_rule (λ after.
    maybe_part_rule (codes "<") number16_rule (λ before.
    known_rule (state_change_of id after before)) refl) refl)) refl
