-- Which files the deeds of an event name, and what deeds in a row call.
use Rattle.std.proofs.Common.{◌≡◌, ◌<◌, ◌≤◌, ℤ, true, List, [], ◌∷◌, ◌++◌, length, Option, Some, None, refl, ap, subst, ◌∙◌, arith, sym, append_assoc}
use Rattle.std.specs.List.{All}
use Rattle.std.specs.Option.{ForSome, option_to_list, IfSome}
use Rattle.std.proofs.lemmas.List.{length_push}
use Rattle.std.proofs.lemmas.List.Elements.{All-head, All-tail}
use Rattle.stream_config.specs.declared.attrs.StreamAttrs.{StreamAttrs}
use Rattle.stream_config.specs.declared.state.LogFile.{LogFile}
use Rattle.stream_config.specs.declared.event.Stamps.{Stamps}
use Rattle.stream_config.specs.Events.{open_file, file_closed, last_closed}
use Rattle.stream_config.specs.Fit.{stamps_of, is_last_open}
use Rattle.stream_layout.specs.declared.deed.Deed.TheVariants.{Remove}
use Rattle.stream_layout.specs.Names.{log_name}
use Rattle.stream_layout.specs.Deeds.{current_file, removal, file_written_to, calls_of, calls_of_all}
use Rattle.stream_layout.specs.Carrying.{IsStamp}
use Rattle.stream_layout.specs.Inside.{HasStamps, oldest_closed}
use Rattle.stream_layout.proofs.CurrentFile.{behind_front, length-last_closed}
use Rattle.stream_layout.proofs.EventLaws.{removal_none, removal_oldest}
use Rattle.stream_layout.specs.declared.deed.Deed.{Deed}

-- a stream has a file
pub some_files : (files : List LogFile) → is_last_open files ≡ true → 0 < length files
some_files [] is = cc
some_files (file ∷ files) is = omega arith

-- no file goes while fewer stand than may
pub none_goes : (attrs : StreamAttrs) (files : List LogFile) (stamps : Stamps) → length files < attrs.rotated
    → removal attrs (last_closed stamps.closed files ++ open_file stamps.created ∷ []) ≡ []
none_goes attrs files stamps few =
    let long = length_push (last_closed stamps.closed files) (open_file stamps.created) in
    let same = length-last_closed stamps.closed files in
    removal_none attrs (last_closed stamps.closed files ++ open_file stamps.created ∷ []) (omega arith)

-- the oldest goes where as many stand as may
pub oldest_goes : (attrs : StreamAttrs) (files : List LogFile) (stamps : Stamps) → 0 < length files → attrs.rotated ≤ length files
    → removal attrs (last_closed stamps.closed files ++ open_file stamps.created ∷ []) ≡ Remove (log_name attrs (oldest_closed stamps.closed files)) ∷ []
oldest_goes attrs [] stamps some full = absurd (omega arith)
oldest_goes attrs (file ∷ []) stamps some full = removal_oldest attrs (file_closed stamps.closed file) (open_file stamps.created ∷ []) (omega arith)
oldest_goes attrs (file ∷ next ∷ files) stamps some full =
    let long = length_push (last_closed stamps.closed (next ∷ files)) (open_file stamps.created) in
    let same = length-last_closed stamps.closed (next ∷ files) in
    removal_oldest attrs file (last_closed stamps.closed (next ∷ files) ++ open_file stamps.created ∷ []) (omega arith)

-- stamps that names can show

some_same : (one other : ℤ) → ◌≡◌ {A = Option ℤ} (Some one) (Some other) → one ≡ other
some_same one other is = cc

of_option : (closed : Option ℤ) (stamps : List ℤ) → All IsStamp (option_to_list closed ++ stamps) → ForSome closed IsStamp
of_option None stamps all = λ stamp is. cc
of_option (Some closed) stamps all = λ stamp is. subst IsStamp (some_same closed stamp is) (All-head IsStamp closed stamps all)

first_stamps : (file : LogFile) (files : List LogFile) → All IsStamp (stamps_of (file ∷ files)) → HasStamps file
first_stamps file files all = record {
  created = All-head IsStamp file.created (option_to_list file.closed ++ stamps_of files) all;
  closed = of_option file.closed (stamps_of files) (All-tail IsStamp file.created (option_to_list file.closed ++ stamps_of files) all);
}

behind_first : (file : LogFile) (files : List LogFile) → All IsStamp (stamps_of (file ∷ files)) → All IsStamp (stamps_of files)
behind_first file files all =
    behind_front IsStamp (option_to_list file.closed) (stamps_of files) (All-tail IsStamp file.created (option_to_list file.closed ++ stamps_of files) all)

pub current_stamps : (files : List LogFile) → All IsStamp (stamps_of files) → 0 < length files → HasStamps (current_file files)
current_stamps [] all some = absurd (omega arith)
current_stamps (file ∷ []) all some = first_stamps file [] all
current_stamps (file ∷ next ∷ files) all some = current_stamps (next ∷ files) (behind_first file (next ∷ files) all) (omega arith)

pub oldest_stamps : (files : List LogFile) (closed : ℤ) → All IsStamp (stamps_of files) → IsStamp closed → 0 < length files → HasStamps (oldest_closed closed files)
oldest_stamps [] closed all stamp some = absurd (omega arith)
oldest_stamps (file ∷ []) closed all stamp some = record { created = (first_stamps file [] all).created; closed = λ other is. subst IsStamp (some_same closed other is) stamp }
oldest_stamps (file ∷ next ∷ files) closed all stamp some = first_stamps file (next ∷ files) all

pub fresh_stamps : (created : ℤ) → IsStamp created → HasStamps (open_file created)
fresh_stamps created stamp = record { created = stamp; closed = λ other is. cc }

pub written_stamps : (files : List LogFile) (stamps : Option Stamps) → All IsStamp (stamps_of files) → 0 < length files
    → IfSome stamps (λ two. IsStamp two.closed × IsStamp two.created) → HasStamps (file_written_to files stamps)
written_stamps files None all some new = current_stamps files all some
written_stamps files (Some stamps) all some new = fresh_stamps stamps.created new.1

pub calls_of_all-append : (front back : List Deed) → calls_of_all (front ++ back) ≡ calls_of_all front ++ calls_of_all back
calls_of_all-append [] back = refl
calls_of_all-append (deed ∷ front) back =
    ap (λ calls. calls_of deed ++ calls) (calls_of_all-append front back) ∙ sym (append_assoc (calls_of deed) (calls_of_all front) (calls_of_all back))
