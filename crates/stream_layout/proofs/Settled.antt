-- Files of which nothing is loose, but for some names, and what a crash leaves of them.
use Rattle.std.proofs.Common.{◌≡◌, ℕ, ◌+◌, ◌-◌, ◌≤◌, Bool, true, false, cond, ◌&&◌, nat_le, nat_lt, List, [], ◌∷◌, length, Option, Some, None, refl, sym, ap, subst, ◌∙◌, inl, inr, arith}
use Rattle.std.specs.Option.{MatchOption}
use Rattle.std.specs.Str.{bytes_eq}
use Rattle.std.specs.FinMap.{get, same_map}
use Rattle.std.specs.Cmp.Lexicographic.{nat_list_cmp_total}
use Rattle.std.proofs.lemmas.Bool.{cases_lt, or_parts, or_from}
use Rattle.std.proofs.lemmas.List.{ext_get_or}
use Rattle.disk_model.specs.Disk.{File, Files, settled_file, created, removed, renamed}
use Rattle.disk_model.specs.DeviceCalls.{DeviceCall, CallCreate, CallRename, CallRemove, applied, LeftBy}
use Rattle.disk_model.specs.Failures.{is_within, loose_ranges, FileCrashed, Crashed, WhollyOrNot}
use Rattle.disk_model.proofs.Renaming.{renamed_absent}
use Rattle.disk_model.proofs.Shelving.{names_differ}
use Rattle.disk_model.proofs.Tearing.{is_outside}
use Rattle.stream_layout.specs.Repeating.{IsSettled, AllSettled}
use Rattle.stream_layout.proofs.FileLaws.{found-created, found-removed, found-renamed}

-- of a file that is not shorter than it was when nothing was loose, nothing is cut off
pub uncut : (file : File) (place : ℕ) → file.settled ≤ length file.bytes → is_within file.loose place ≡ false → is_within (loose_ranges file) place ≡ false
uncut file place long free =
    let len = length file.bytes in
    let size = file.settled - length file.bytes in
    let none : is_within ((len, size) ∷ []) place ≡ false = elim (cases_lt place len) [
      | inl below ↦ is_outside len size place (inl below)
      | inr above ↦ is_outside len size place (inr (omega (arith, above, long)))
    ] in
    or_from (nat_le len place && nat_lt place (len + size)) (is_within file.loose place)
    (or_parts (nat_le len place && nat_lt place (len + size)) false none).0 free

-- a settled file is as it was after a crash
pub crash-file : (file left : File) → IsSettled file → FileCrashed file left → left ≡ file
crash-file file left is crashed =
    let low = crashed.torn.no_shorter in
    let high = crashed.torn.no_longer in
    let base = is.settled in
    let size : length left.bytes ≡ length file.bytes = omega (arith, low, high, base) in
    let bytes : left.bytes ≡ file.bytes = ext_get_or 0 left.bytes file.bytes size (λ place before.
    crashed.torn.kept place before (uncut file place (omega (arith, base)) (ap (λ ranges. is_within ranges place) is.loose))) in
    let loose : left.loose ≡ file.loose = crashed.loose ∙ sym is.loose in
    let settled : left.settled ≡ file.settled = crashed.settled ∙ size ∙ sym is.settled in
    λ i. record { bytes = bytes i; loose = loose i; settled = settled i }

-- nothing is loose of the files whose names pass no test
abbrev pub SettledBut : (List ℕ → Bool) → Files → Type 0
SettledBut loose files = (name : List ℕ) (file : File) → loose name ≡ false → get files name ≡ Some file → IsSettled file

abbrev pub none_loose : List ℕ → Bool
none_loose name = false

abbrev pub loose_at : List ℕ → List ℕ → Bool
loose_at name other = bytes_eq other name

pub settled-but : (loose : List ℕ → Bool) (files : Files) → AllSettled files → SettledBut loose files
settled-but loose files all name file free is = all name file is

pub all-settled : (files : Files) → SettledBut none_loose files → AllSettled files
all-settled files settled name file is = settled name file refl is

-- a name whose file is settled, if one stands, has that file after a crash
pub crash-at : (old new : Files) (name : List ℕ) → ((file : File) → get old name ≡ Some file → IsSettled file) → Crashed old new → get new name ≡ get old name
crash-at old new name settled crashed =
    elim (get old name) as (λ o. get old name ≡ o → MatchOption o (get new name ≡ None) (λ file. (left : File) × FileCrashed file left × (get new name ≡ Some left)) → get new name ≡ o) [
      | None ↦ λ e none. none
      | Some file ↦ λ e left. left.2 ∙ ap Some (crash-file file left.0 (settled file e) left.1)
    ] refl (crashed name)

-- what is settled stays in a crash
pub crash-stays : (loose : List ℕ → Bool) (old new : Files) → SettledBut loose old → Crashed old new → (name : List ℕ) → loose name ≡ false → get new name ≡ get old name
crash-stays loose old new settled crashed name free = crash-at old new name (λ file is. settled name file free is) crashed

-- where nothing is loose a crash changes nothing
pub crash-nothing : (old new : Files) → AllSettled old → Crashed old new → new ≡ old
crash-nothing old new settled crashed =
    same_map nat_list_cmp_total names_differ new old (λ name. crash-at old new name (settled name) crashed)

-- nothing is loose after a crash
pub crash-settles : (old new : Files) → Crashed old new → AllSettled new
crash-settles old new crashed name file is =
    elim (get old name) as (λ o. MatchOption o (get new name ≡ None) (λ file. (left : File) × FileCrashed file left × (get new name ≡ Some left)) → IsSettled file) [
      | None ↦ λ none. cc (none, is)
      | Some before ↦ λ left.
          let same : left.0 ≡ file = cc (left.2, is) in
          subst IsSettled same (record { loose = left.1.loose; settled = left.1.settled })
    ] (crashed name)

-- what calls leave settled

settled-file : (bytes : List ℕ) → IsSettled (settled_file bytes)
settled-file bytes = record { loose = refl; settled = refl }

either-settled : (b : Bool) (bytes : List ℕ) (other : Option File) (file : File) → (other ≡ Some file → IsSettled file) → cond b (Some (settled_file bytes)) other ≡ Some file → IsSettled file
either-settled true bytes other file rest is = let same : settled_file bytes ≡ file = cc in subst IsSettled same (settled-file bytes)
either-settled false bytes other file rest is = rest is

unless-settled : (b : Bool) (other : Option File) (file : File) → (b ≡ false → other ≡ Some file → IsSettled file) → cond b None other ≡ Some file → IsSettled file
unless-settled true other file rest is = cc
unless-settled false other file rest is = rest refl is

-- where a file is made or filled, and the other names have their files
pub settled-put : (loose : List ℕ → Bool) (old new : Files) (name bytes : List ℕ) → ((q : List ℕ) → get new q ≡ cond (bytes_eq q name) (Some (settled_file bytes)) (get old q))
    → SettledBut loose old → SettledBut loose new
settled-put loose old new name bytes found settled q file free is =
    either-settled (bytes_eq q name) bytes (get old q) file (settled q file free) (sym (found q) ∙ is)

settled-created : (loose : List ℕ → Bool) (name : List ℕ) (old : Files) → SettledBut loose old → SettledBut loose (created old name)
settled-created loose name old = settled-put loose old (created old name) name [] (found-created old name)

pub settled-removed : (loose : List ℕ → Bool) (name : List ℕ) (old : Files) → SettledBut loose old → SettledBut loose (removed old name)
settled-removed loose name old settled q file free is =
    unless-settled (bytes_eq q name) (get old q) file (λ _. settled q file free) (sym (found-removed old name q) ∙ is)

pub settled-renamed : (loose : List ℕ → Bool) (from to : List ℕ) (old : Files) → loose from ≡ false → SettledBut loose old → SettledBut loose (renamed old from to)
settled-renamed loose from to old free_from settled q file free is = by_case (get old from) refl where
  moved : (b c : Bool) (here : File) → IsSettled here → cond b (Some here) (cond c None (get old q)) ≡ Some file → IsSettled file
  moved true c here own same = let e : here ≡ file = cc in subst IsSettled e own
  moved false c here own same = unless-settled c (get old q) file (λ _. settled q file free) same

  by_case : (found : Option File) → get old from ≡ found → IsSettled file
  by_case None absent = settled q file free (ap (λ m. get m q) (sym (renamed_absent old from to absent)) ∙ is)
  by_case (Some here) stands =
      moved (bytes_eq q to) (bytes_eq q from) here (settled from here free_from stands) (sym (found-renamed old from to here stands q) ∙ is)

-- a call leaves settled what was, done or broken off
pub record StaysSettled (loose : List ℕ → Bool) (call : DeviceCall) : Type 0 where
  pub done : (old : Files) → SettledBut loose old → SettledBut loose (applied call old)
  pub broken : (old new : Files) → SettledBut loose old → LeftBy call old new → SettledBut loose new

wholly-settled : (loose : List ℕ → Bool) (done old new : Files) → SettledBut loose old → SettledBut loose done → WhollyOrNot done old new → SettledBut loose new
wholly-settled loose done old new before after left = elim left [
  | inl same ↦ subst (SettledBut loose) (sym same) before
  | inr is ↦ subst (SettledBut loose) (sym is) after
]

pub stays-created : (loose : List ℕ → Bool) (name : List ℕ) → StaysSettled loose (CallCreate name)
stays-created loose name = record {
  done = settled-created loose name;
  broken = λ old new settled. wholly-settled loose (created old name) old new settled (settled-created loose name old settled);
}

pub stays-removed : (loose : List ℕ → Bool) (name : List ℕ) → StaysSettled loose (CallRemove name)
stays-removed loose name = record {
  done = settled-removed loose name;
  broken = λ old new settled. wholly-settled loose (removed old name) old new settled (settled-removed loose name old settled);
}

pub stays-renamed : (loose : List ℕ → Bool) (from to : List ℕ) → loose from ≡ false → StaysSettled loose (CallRename from to)
stays-renamed loose from to free = record {
  done = λ old. settled-renamed loose from to old free;
  broken = λ old new settled. wholly-settled loose (renamed old from to) old new settled (settled-renamed loose from to old free settled);
}
