-- That lines are written as they are spelled: the values of a script.
use Rattle.std.proofs.Common.{ℕ, List, [], ◌∷◌, refl}
use Rattle.std.specs.Prelude.{codes}
use Rattle.ntf_types.specs.declared.value.Value.TheVariants.{Int, NameOf, TextOf, Binary}
use Rattle.script_lines.specs.declared.line.Server.TheVariants.{A, B}
use Rattle.script_language.specs.Values.{IsSigned64, server_forms, IsServer, IsVersion, IsClass, value_forms, IsValue, IsPair, IsChange, IsStateChange, version_of, class_of, pair_of, change_of, state_change_of, IsQuotedName, IsRelease}
use Rattle.ais_values.specs.Times.{unknown_time}
use Rattle.script_grammar.specs.Writing.{quoted_text}
use Rattle.script_grammar.specs.Grammar.{Unless}
use Rattle.script_grammar.proofs.Writing.{Writes, WritesForms, written, written_known, written_word, written_part, written_no_form, written_form, number_written, signed_written, quoted_written, maybe_written, unless_written, such_written}
use Rattle.script_language.specs.Printing.{server_text, version_text, class_text, value_text, pair_text, change_text, state_change_text, known_time_text}
use Rattle.std.specs.Ordering.{int_eq}
use Rattle.std.proofs.lemmas.Bool.Decides.{Decides-int_eq}

release_written : Writes IsRelease (λ letter. letter ∷ [])
release_written = record { again = λ letter text h. (h.0, h.1, refl) }

pub quoted_name_written : Writes IsQuotedName quoted_text
quoted_name_written = such_written quoted_written

-- a time that is left out where it is unknown
pub known_time_written : (word : List ℕ) → Writes (Unless unknown_time word IsSigned64) (known_time_text word)
known_time_written word = unless_written unknown_time (λ other. int_eq other unknown_time) word (λ other. Decides-int_eq other unknown_time) signed_written

server_writing : WritesForms (λ rest. rest) server_forms server_text
server_writing =
    written_form (codes "a") (written_known A refl) (
    written_form (codes "b") (written_known B refl) written_no_form)

pub server_written : Writes IsServer server_text
unfolding IsServer
server_written = written server_writing.behind

pub version_written : Writes IsVersion version_text
unfolding IsVersion
version_written =
    written (written_part release_written (λ release.
    written_word (codes ".") (written_part number_written (λ major.
    written_word (codes ".") (written_part number_written (λ minor.
    written_known (version_of release major minor) refl))))))

pub class_written : Writes IsClass class_text
unfolding IsClass
class_written =
    written (written_part number_written (λ vendor.
    written_word (codes ".") (written_part number_written (λ major.
    written_word (codes ".") (written_part number_written (λ minor.
    written_known (class_of vendor major minor) refl))))))

value_writing : WritesForms (λ rest. rest) value_forms value_text
unfolding value_text
value_writing =
    written_form (codes "int:") (written_part signed_written (λ n.
    written_known (Int n) refl)) (
    written_form (codes "name:") (written_part quoted_name_written (λ name.
    written_known (NameOf name) refl)) (
    written_form (codes "text:") (written_part quoted_written (λ text.
    written_known (TextOf text) refl)) (
    written_form (codes "bin:") (written_part quoted_written (λ bytes.
    written_known (Binary bytes) refl)) written_no_form)))

pub value_written : Writes IsValue value_text
unfolding IsValue
value_written = written value_writing.behind

pub pair_written : Writes IsPair pair_text
unfolding IsPair pair_text
pair_written =
    written (written_part number_written (λ id.
    written_word (codes ":") (written_part value_written (λ value.
    written_known (pair_of id value) refl))))

pub change_written : Writes IsChange change_text
unfolding IsChange change_text
change_written =
    written (written_part number_written (λ id.
    written_word (codes ":") (written_part value_written (λ after.
    written_part (maybe_written (codes "<") value_written) (λ before.
    written_known (change_of id after before) refl)))))

pub state_change_written : Writes IsStateChange state_change_text
unfolding IsStateChange state_change_text
state_change_written =
    written (written_part number_written (λ id.
    written_word (codes ":") (written_part number_written (λ after.
    written_part (maybe_written (codes "<") number_written) (λ before.
    written_known (state_change_of id after before) refl)))))
