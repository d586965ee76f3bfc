-- What calls that mend a journal keep, done or not.
use Rattle.std.proofs.Common.{◌≡◌, ◌≢◌, inl, inr, ⊎_elim, ℕ, zero, suc, ◌+◌, ◌≤◌, Bool, true, false, List, [], ◌∷◌, ◌++◌, length, get_or, drop, Option, Some, None, option_map, Result, Ok, Err, refl, sym, ap, subst, ◌∙◌, arith, append_assoc, length-append}
use Rattle.std.specs.Prelude.{OnOk, IsErrOf}
use Rattle.std.proofs.lemmas.Bool.{cond-true, le-leb, cases_eq}
use Rattle.std.proofs.lemmas.List.{drop_at, append-nil}
use Rattle.std.proofs.lemmas.List.Elements.{All-nil}
use Rattle.disk_model.specs.Disk.{File, Files, adjusted, overwritten, file_written, file_synced, file_cut, written_at, synced, shortened}
use Rattle.disk_model.specs.DeviceCalls.{DeviceCall, CallWrite, CallSync, all_applied, BreaksOff, LeftOn}
use Rattle.disk_model.specs.Failures.{WhereTold, Crashed, ThenCrashed, LeavesFile, FileCrashed, FileLeftByCut, FileLeftBySync, LeftByCut, LeftBySync}
use Rattle.disk_model.specs.declared.answers.DiskAnswer.{DiskAnswer}
use Rattle.disk_model.specs.declared.answers.DiskAnswer.TheVariants.{Memory, Failed, Stopped}
use Rattle.disk_model.proofs.Tearing.{length-overwritten}
use Rattle.journal_frames.specs.Frames.{HasFile, Holds, AreShort, IsShort, behind_gate, framed, journal_name, journal_of}
use Rattle.journal_frames.specs.Staging.{IsBetween, Shut, IsMoving, Staged, HasStaged, EndsAt, Keeps, IsMended}
use Rattle.journal_frames.proofs.Between.{after_crash, after_broken_sync}
use Rattle.journal_frames.proofs.Files.{stands-adjusted, stands-left, stands-crashed}
use Rattle.journal_frames.proofs.Frames.{holds-once, short-push}
use Rattle.journal_frames.proofs.Staging.{shut-synced, shut-durable, shut-sync-failed, shut-crashed, shut-cut, shut-cut-failed}
use Rattle.journal_frames.proofs.Appends.{Puts, write-left, sync-left, puts-written, gate-torn, opened, second-holds, staged-holds}
use Rattle.journal_frames.proofs.Mending.{closed-gate}

-- What is kept where the disk tells its files.

pub keeps-done : (P Q : Files → Type 0) (done : Files → Files) (old new : Option Files) → new ≡ option_map done old → ((files : Files) → P files → Q (done files)) → Keeps P Q old new
keeps-done P Q done None new is go = tt
keeps-done P Q done (Some files) new is go = subst (Keeps P Q (Some files)) (sym is) (λ p. go files p)

pub keeps-left : (P Q : Files → Type 0) (Left : Files → Files → Type 0) (old new : Option Files) → WhereTold Left old new → ((one two : Files) → P one → Left one two → Q two) → Keeps P Q old new
keeps-left P Q Left None new told go = tt
keeps-left P Q Left (Some one) None told go = λ p. told
keeps-left P Q Left (Some one) (Some two) told go = λ p. go one two p told

pub keeps-same : (P : Files → Type 0) (old new : Option Files) → new ≡ old → Keeps P P old new
keeps-same P None new is = tt
keeps-same P (Some files) new is = subst (Keeps P P (Some files)) (sym is) (λ p. p)

pub keeps-then : (P Q R : Files → Type 0) (one two three : Option Files) → Keeps P Q one two → Keeps Q R two three → Keeps P R one three
keeps-then P Q R None two three first second = tt
keeps-then P Q R (Some one) None None first second = first
keeps-then P Q R (Some one) None (Some three) first second = λ p. absurd (first p)
keeps-then P Q R (Some one) (Some two) None first second = λ p. second (first p)
keeps-then P Q R (Some one) (Some two) (Some three) first second = λ p. second (first p)

pub keeps-more : (P Q R : Files → Type 0) (one two : Option Files) → Keeps P Q one two → ((files : Files) → Q files → R files) → Keeps P R one two
keeps-more P Q R None two first go = tt
keeps-more P Q R (Some one) None first go = first
keeps-more P Q R (Some one) (Some two) first go = λ p. go two (first p)

pub keeps-less : (P Q R : Files → Type 0) (one two : Option Files) → ((files : Files) → P files → Q files) → Keeps Q R one two → Keeps P R one two
keeps-less P Q R None two go first = tt
keeps-less P Q R (Some one) None go first = λ p. first (go one p)
keeps-less P Q R (Some one) (Some two) go first = λ p. first (go one p)

-- a call of the disk keeps what its being done, its failure and a crash keep
pub keeps-call : {T : Type 0} (P : Files → Type 0) (done : Files → Files) (Left : Files → Files → Type 0) (result : Result T DiskAnswer) (old new : Option Files)
    → OnOk result (new ≡ option_map done old) → (IsErrOf result Memory → new ≡ old) → (IsErrOf result Failed → WhereTold Left old new)
    → (IsErrOf result Stopped → WhereTold (ThenCrashed Left) old new) → ((files : Files) → P files → P (done files)) → ((one two : Files) → P one → Left one two → P two)
    → ((one two : Files) → P one → Crashed one two → P two) → Keeps P P old new
keeps-call P done Left (Ok value) old new is memory failed stopped go left crashed = keeps-done P P done old new is go
keeps-call P done Left (Err Memory) old new is memory failed stopped go left crashed = keeps-same P old new (memory refl)
keeps-call P done Left (Err Failed) old new is memory failed stopped go left crashed = keeps-left P P Left old new (failed refl) left
keeps-call P done Left (Err Stopped) old new is memory failed stopped go left crashed =
    keeps-left P P (ThenCrashed Left) old new (stopped refl) (λ one two p then. crashed then.0 two (left one then.0 p then.1) then.2)

-- One file among the others.

has-adjusted : (F G : File → Type 0) (change : File → File) → ((file : File) → F file → G (change file)) → (files : Files) → HasFile journal_name F files → HasFile journal_name G (adjusted change files journal_name)
has-adjusted F G change go files has = (change has.0, stands-adjusted change files journal_name has.0 has.1, go has.0 has.2)

has-left : (F G : File → Type 0) (Left : File → File → Type 0) → ((file left : File) → F file → Left file left → G left) → (one two : Files) → HasFile journal_name F one → LeavesFile Left journal_name one two → HasFile journal_name G two
has-left F G Left go one two has left = let now = stands-left Left journal_name one two has.0 has.1 left in (now.0, now.1, go has.0 now.0 has.2 now.2)

has-crashed : (F G : File → Type 0) → ((file left : File) → F file → FileCrashed file left → G left) → (one two : Files) → HasFile journal_name F one → Crashed one two → HasFile journal_name G two
has-crashed F G go one two has crash = let now = stands-crashed journal_name one two has.0 has.1 crash in (now.0, now.1, go has.0 now.0 has.2 now.2)

-- what a sync keeps of a file
record Synced (F : File → Type 0) : Type 0 where
  done : (file : File) → F file → F (file_synced file)
  failed : (file left : File) → F file → FileLeftBySync file left → F left
  crashed : (file left : File) → F file → FileCrashed file left → F left

keeps-sync : {T : Type 0} (F : File → Type 0) → Synced F → (result : Result T DiskAnswer) (old new : Option Files) → OnOk result (new ≡ option_map (λ (f : Files). synced f journal_name) old) → (IsErrOf result Memory → new ≡ old)
    → (IsErrOf result Failed → WhereTold (LeftBySync journal_name) old new) → (IsErrOf result Stopped → WhereTold (ThenCrashed (LeftBySync journal_name)) old new)
    → Keeps (HasFile journal_name F) (HasFile journal_name F) old new
keeps-sync F stays result old new is memory failed stopped =
    keeps-call (HasFile journal_name F) (λ (f : Files). synced f journal_name) (LeftBySync journal_name) result old new is memory failed stopped
    (has-adjusted F F file_synced stays.done) (has-left F F FileLeftBySync stays.failed) (has-crashed F F stays.crashed)

shut-syncs : (front : List ℕ) → Synced (Shut front)
shut-syncs front = record { done = shut-synced front; failed = shut-sync-failed front; crashed = shut-crashed front }

pub sync-shut : {T : Type 0} (front : List ℕ) (result : Result T DiskAnswer) (old new : Option Files) → OnOk result (new ≡ option_map (λ (f : Files). synced f journal_name) old) → (IsErrOf result Memory → new ≡ old)
    → (IsErrOf result Failed → WhereTold (LeftBySync journal_name) old new) → (IsErrOf result Stopped → WhereTold (ThenCrashed (LeftBySync journal_name)) old new)
    → Keeps (HasFile journal_name (Shut front)) (HasFile journal_name (Shut front)) old new
sync-shut front result old new is memory failed stopped = keeps-sync (Shut front) (shut-syncs front) result old new is memory failed stopped

pub cut-shut : {T : Type 0} (front : List ℕ) (len : ℕ) → length front ≤ len → (result : Result T DiskAnswer) (old new : Option Files) → OnOk result (new ≡ option_map (λ (f : Files). shortened f journal_name len) old) → (IsErrOf result Memory → new ≡ old)
    → (IsErrOf result Failed → WhereTold (LeftByCut journal_name len) old new) → (IsErrOf result Stopped → WhereTold (ThenCrashed (LeftByCut journal_name len)) old new)
    → Keeps (HasFile journal_name (Shut front)) (HasFile journal_name (Shut front)) old new
cut-shut front len low result old new is memory failed stopped =
    let S = Shut front in
    keeps-call (HasFile journal_name S) (λ (f : Files). shortened f journal_name len) (LeftByCut journal_name len) result old new is memory failed stopped
    (has-adjusted S S (file_cut len) (λ file. shut-cut front len file low)) (has-left S S (FileLeftByCut len) (λ file left. shut-cut-failed front len file left low)) (has-crashed S S (shut-crashed front))

-- what a cut that is done keeps
pub cut-done-shut : (front : List ℕ) (len : ℕ) → length front ≤ len → (old new : Option Files) → new ≡ option_map (λ (f : Files). shortened f journal_name len) old
    → Keeps (HasFile journal_name (Shut front)) (HasFile journal_name (Shut front)) old new
cut-done-shut front len low old new is =
    keeps-done (HasFile journal_name (Shut front)) (HasFile journal_name (Shut front)) (λ (f : Files). shortened f journal_name len) old new is
    (has-adjusted (Shut front) (Shut front) (file_cut len) (λ file. shut-cut front len file low))

-- Where texts end is told by the bytes.

same-gates : (front : List ℕ) (gate other : ℕ) (behind more : List ℕ) → front ++ gate ∷ behind ≡ front ++ other ∷ more → gate ≡ other
same-gates front gate other behind more is =
    let tails : gate ∷ behind ≡ other ∷ more = sym (drop_at front (gate ∷ behind) (length front) refl) ∙ ap (drop (length front)) is ∙ drop_at front (other ∷ more) (length front) refl in
    ap first-of tails
  where
    first-of : List ℕ → ℕ
    first-of [] = 0
    first-of (byte ∷ bytes) = byte

ends-once : (found : List (List ℕ)) (bytes : List ℕ) (place : ℕ) (closed : Bool) (holds : Holds found bytes) → EndsAt bytes place closed
    → (place ≡ length (framed found)) × (closed ≡ true → holds.gate ≡ 0) × (closed ≡ false → holds.gate ≢ 0)
ends-once found bytes place closed holds ends =
    let other : Holds ends.texts bytes = record { short = ends.short; gate = ends.gate; behind = ends.behind; is = ends.is; closed = ends.shut } in
    let same : ends.texts ≡ found = holds-once ends.texts found bytes other holds in
    let lines : framed found ++ ends.gate ∷ ends.behind ≡ framed found ++ holds.gate ∷ holds.behind = ap (λ (ts : List (List ℕ)). framed ts ++ ends.gate ∷ ends.behind) (sym same) ∙ sym ends.is ∙ holds.is in
    let gate : ends.gate ≡ holds.gate = same-gates (framed found) ends.gate holds.gate ends.behind holds.behind lines in
    (ends.at ∙ ap (λ (ts : List (List ℕ)). length (framed ts)) same, λ yes. sym gate ∙ ends.is_closed yes, λ no_one zero_is. ends.is_torn no_one (gate ∙ zero_is))

-- where the gate is closed for good, no other byte stands there
not-open : (place : ℕ) (found : List (List ℕ)) → AreShort found → (file : File) → Shut (journal_of found) file → EndsAt file.bytes place false → ⊥
not-open place found few file shut ends =
    let holds : Holds found file.bytes = record {
      short = few;
      gate = 0;
      behind = shut.behind;
      is = shut.is ∙ append_assoc (framed found) (0 ∷ []) shut.behind;
      closed = λ is. omega (arith, is);
    } in
    (ends-once found file.bytes place false holds ends).2 refl refl

-- A gate that moves.

module _ (texts : List (List ℕ)) (text : List ℕ) where
  abbrev end : ℕ
  end = length (framed texts)

  abbrev whole : List ℕ
  whole = framed texts ++ 0 ∷ behind_gate text

  within : end ≤ length whole
  within = let long = length-append (framed texts) (0 ∷ behind_gate text) in omega arith

  moving-syncs : Synced (IsMoving texts text)
  moving-syncs = record {
    done = λ file between. record {
      torn = between.torn;
      loose = All-nil (λ (range : ℕ × ℕ). range ≡ (end, 1));
      low = let low = between.low in let fits = between.fits in omega (arith, low, fits);
      fits = omega arith;
    };
    failed = λ file left between. after_broken_sync end (1 ∷ []) whole within file left between;
    crashed = λ file left between. after_crash end (1 ∷ []) whole within file left between;
  }

  staged-syncs : Synced (Staged texts text)
  staged-syncs = record {
    done = λ file. staged-by file_synced (shut-synced (journal_of texts)) moving-syncs.done (shut-synced (journal_of (texts ++ text ∷ []))) file;
    failed = λ file left staged broken. staged-to file left (λ s. shut-sync-failed (journal_of texts) file left s broken) (λ s. moving-syncs.failed file left s broken) (λ s. shut-sync-failed (journal_of (texts ++ text ∷ [])) file left s broken) staged;
    crashed = λ file left staged crash. staged-to file left (λ s. shut-crashed (journal_of texts) file left s crash) (λ s. moving-syncs.crashed file left s crash) (λ s. shut-crashed (journal_of (texts ++ text ∷ [])) file left s crash) staged;
  }
    where
      staged-to : (file left : File) → (Shut (journal_of texts) file → Shut (journal_of texts) left) → (IsMoving texts text file → IsMoving texts text left)
          → (Shut (journal_of (texts ++ text ∷ [])) file → Shut (journal_of (texts ++ text ∷ [])) left) → Staged texts text file → Staged texts text left
      staged-to file left one two three (inl shut) = inl (one shut)
      staged-to file left one two three (inr (inl moving)) = inr (inl (two moving))
      staged-to file left one two three (inr (inr shut)) = inr (inr (three shut))

      staged-by : (change : File → File) → ((file : File) → Shut (journal_of texts) file → Shut (journal_of texts) (change file)) → ((file : File) → IsMoving texts text file → IsMoving texts text (change file))
          → ((file : File) → Shut (journal_of (texts ++ text ∷ [])) file → Shut (journal_of (texts ++ text ∷ [])) (change file)) → (file : File) → Staged texts text file → Staged texts text (change file)
      staged-by change one two three file staged = staged-to file (change file) (one file) (two file) (three file) staged

  -- the first sync, where it breaks off
  pub sync-staged : {T : Type 0} (result : Result T DiskAnswer) (old new : Option Files) → OnOk result (new ≡ option_map (λ (f : Files). synced f journal_name) old) → (IsErrOf result Memory → new ≡ old)
      → (IsErrOf result Failed → WhereTold (LeftBySync journal_name) old new) → (IsErrOf result Stopped → WhereTold (ThenCrashed (LeftBySync journal_name)) old new)
      → Keeps (HasStaged texts text) (HasStaged texts text) old new
  sync-staged result old new is memory failed stopped = keeps-sync (Staged texts text) staged-syncs result old new is memory failed stopped

  -- one byte for another at the gate
  other-byte : (one other : ℕ) (file : File) → IsBetween end (one ∷ []) whole file → IsBetween end (other ∷ []) whole file
  other-byte one other file between =
      let same : length (overwritten whole end (one ∷ [])) ≡ length (overwritten whole end (other ∷ [])) = length-overwritten whole (one ∷ []) end within ∙ sym (length-overwritten whole (other ∷ []) end within) in
      let torn = between.torn in
      let long = torn.no_longer in
      let short = torn.no_shorter in
      record {
        torn = record { no_shorter = omega (arith, same, short); no_longer = omega (arith, same, long); kept = torn.kept };
        loose = between.loose;
        low = between.low;
        fits = between.fits;
      }

  moving-puts : (files : Files) → HasFile journal_name (IsMoving texts text) files → Puts end (0 ∷ []) whole files
  moving-puts files has = (has.0, has.1, other-byte 1 0 has.0 has.2)

  puts-moving : (files : Files) → Puts end (0 ∷ []) whole files → HasStaged texts text files
  puts-moving files puts = (puts.0, puts.1, inr (inl (other-byte 0 1 puts.0 puts.2)))

  abbrev closing : List DeviceCall
  closing = CallWrite journal_name end (0 ∷ []) ∷ CallSync journal_name ∷ []

  abbrev nth : DeviceCall → ℕ → List DeviceCall → DeviceCall
  nth other place [] = other
  nth other zero (call ∷ more) = call
  nth other (suc place) (call ∷ more) = nth other place more

  closes-at : (answer : DiskAnswer) (done : List DeviceCall) (broken : DeviceCall) (undone : List DeviceCall) (old new : Files) → closing ≡ done ++ broken ∷ undone
      → Puts end (0 ∷ []) whole old → LeftOn answer broken (all_applied done old) new → Puts end (0 ∷ []) whole new
  closes-at answer [] broken undone old new is puts left =
      let same : CallWrite journal_name end (0 ∷ []) ≡ broken = ap (nth broken 0) is in
      write-left end (0 ∷ []) whole within answer old new puts (subst (λ call. LeftOn answer call old new) (sym same) left)
  closes-at answer (one ∷ []) broken undone old new is puts left =
      let first : CallWrite journal_name end (0 ∷ []) ≡ one = ap (nth broken 0) is in
      let same : CallSync journal_name ≡ broken = ap (nth broken 1) is in
      let L : DeviceCall → DeviceCall → Type 0 = λ done call. LeftOn answer call (all_applied (done ∷ []) old) new in
      sync-left end (0 ∷ []) whole within answer (written_at old journal_name end (0 ∷ [])) new (puts-written end (0 ∷ []) whole within old puts)
      (subst (λ done. L done (CallSync journal_name)) (sym first) (subst (L one) (sym same) left))
  closes-at answer (one ∷ two ∷ more) broken undone old new is puts left =
      let many : 2 ≡ suc (suc (length (more ++ broken ∷ undone))) = ap length is in
      absurd (omega (arith, many, length-append more (broken ∷ undone)))

  -- the closing of a gate that moves breaks off
  pub closing-broken : (answer : DiskAnswer) (count : ℕ) (old new : Option Files) → BreaksOff (LeftOn answer) closing count old new
      → Keeps (HasFile journal_name (IsMoving texts text)) (HasStaged texts text) old new
  closing-broken answer count old new broke =
      keeps-left (HasFile journal_name (IsMoving texts text)) (HasStaged texts text) (λ before after. LeftOn answer broke.broken (all_applied broke.done before) after) old new broke.left
      (λ one two moving left. puts-moving two (closes-at answer broke.done broke.broken broke.undone one two broke.in_order (moving-puts one moving) left))

  -- it is done
  pub closing-done : (all : AreShort texts) (one : IsShort text) (old new : Option Files) → new ≡ option_map (all_applied closing) old
      → Keeps (HasFile journal_name (IsMoving texts text)) (HasFile journal_name (Shut (journal_of texts))) old new
  closing-done all one old new is =
      let S = Shut (journal_of texts) in
      keeps-done (HasFile journal_name (IsMoving texts text)) (HasFile journal_name S) (all_applied closing) old new is (λ files has.
      let written = stands-adjusted (file_written end (0 ∷ [])) files journal_name has.0 has.1 in
      let stands = stands-adjusted file_synced (written_at files journal_name end (0 ∷ [])) journal_name (file_written end (0 ∷ []) has.0) written in
      (file_synced (file_written end (0 ∷ []) has.0), stands, shut-durable (journal_of texts) (file_written end (0 ∷ []) has.0) (behind_gate text) (gate-put has.0 has.2)))
    where
      gate-put : (file : File) → IsMoving texts text file → (file_written end (0 ∷ []) file).bytes ≡ journal_of texts ++ behind_gate text
      gate-put file moving =
          let is = gate-torn texts text all one file moving in
          let long = ap length is ∙ length-append (framed texts) (_ ∷ behind_gate text) in
          cond-true _ (overwritten file.bytes end (0 ∷ [])) file.bytes (le-leb end (length file.bytes) (omega (arith, long)))
          ∙ closed-gate texts _ (behind_gate text) file.bytes is ∙ sym (append_assoc (framed texts) (0 ∷ []) (behind_gate text))

  -- What is mended, once it is durable.

  module _ (all : AreShort texts) (one : IsShort text) where
    abbrev more : List (List ℕ)
    more = texts ++ text ∷ []

    -- which front is closed for good, where the gate was closed
    abbrev Closes : ℕ → List (List ℕ) → File → Type 0
    Closes place found file = (length (journal_of found) ≤ place + 1) × Shut (journal_of found) file × ((left : File) → Shut (journal_of found) left → Staged texts text left)

    closes-by : (place : ℕ) (found : List (List ℕ)) (file : File) → ((left : File) → Shut (journal_of found) left → Staged texts text left) → Holds found file.bytes → EndsAt file.bytes place true → Closes place found (file_synced file)
    closes-by place found file back holds ends =
        let same = ends-once found file.bytes place true holds ends in
        let at = same.0 in
        let long = length-append (framed found) (0 ∷ []) in
        let is : file.bytes ≡ journal_of found ++ holds.behind = holds.is ∙ ap (λ gate. framed found ++ gate ∷ holds.behind) (same.1 refl) ∙ sym (append_assoc (framed found) (0 ∷ []) holds.behind) in
        (omega (arith, at, long), shut-durable (journal_of found) file holds.behind is, back)

    ready-closed : (place : ℕ) (file : File) → Staged texts text file → EndsAt file.bytes place true → (found : List (List ℕ)) × Closes place found (file_synced file)
    ready-closed place file staged ends =
        ⊎_elim (λ holds. (texts, closes-by place texts file (λ left shut. inl shut) holds ends)) (λ holds. (more, closes-by place more file (λ left shut. inr (inr shut)) holds ends)) (staged-holds texts text all one file staged)

    ready-open : (place : ℕ) (file : File) → Staged texts text file → EndsAt file.bytes place false → (place ≡ end) × IsMoving texts text file
    ready-open place file (inl shut) ends = absurd (not-open place texts all file shut ends)
    ready-open place file (inr (inr shut)) ends = absurd (not-open place more (short-push texts text all one) file shut ends)
    ready-open place file (inr (inl moving)) ends =
        ⊎_elim (λ holds. ((ends-once texts file.bytes place false holds ends).0, moving)) (λ holds. absurd (full holds)) (second-holds texts text all one file moving)
      where
        -- behind an open gate the next one is closed
        full : Holds more file.bytes → ⊥
        full holds =
            let is = gate-torn texts text all one file moving in
            elim (cases_eq (get_or file.bytes end 0) 1) [
              | inl open_gate ↦
                  let whole_is : file.bytes ≡ journal_of more ++ [] = is ∙ ap (λ g. framed texts ++ g ∷ behind_gate text) open_gate ∙ opened texts text all one ∙ sym (append-nil (journal_of more)) in
                  let shut : Shut (journal_of more) (file_synced file) = shut-durable (journal_of more) file [] whole_is in
                  not-open place more (short-push texts text all one) (file_synced file) shut ends
              | inr other ↦
                  let here : Holds texts file.bytes = record { short = all; gate = get_or file.bytes end 0; behind = behind_gate text; is = is; closed = other } in
                  let same : more ≡ texts = holds-once more texts file.bytes holds here in
                  let long = ap length same in
                  omega (arith, long, length-append texts (text ∷ []))
            ]

    pub mend-kept : (place : ℕ) (closed : Bool) (old mid new : Option Files) → mid ≡ option_map (λ (f : Files). synced f journal_name) old
        → (closed ≡ true → (front : List ℕ) → length front ≤ place + 1 → Keeps (HasFile journal_name (Shut front)) (HasFile journal_name (Shut front)) mid new)
        → (closed ≡ false → place ≡ end → Keeps (HasFile journal_name (IsMoving texts text)) (HasStaged texts text) mid new)
        → Keeps (IsMended texts text place closed) (HasStaged texts text) old new
    mend-kept place true old mid new is shut moving =
        let P : Files → Type 0 = λ files. HasFile journal_name (λ file. (found : List (List ℕ)) × Closes place found file) files in
        keeps-then (IsMended texts text place true) P (HasStaged texts text) old mid new
        (keeps-done (IsMended texts text place true) P (λ (f : Files). synced f journal_name) old mid is
        (has-adjusted (λ file. Staged texts text file × EndsAt file.bytes place true) (λ file. (found : List (List ℕ)) × Closes place found file) file_synced (λ file has. ready-closed place file has.0 has.1)))
        (found-kept mid new (shut refl))
      where
        found-kept : (one two : Option Files) → ((front : List ℕ) → length front ≤ place + 1 → Keeps (HasFile journal_name (Shut front)) (HasFile journal_name (Shut front)) one two)
            → Keeps (λ files. HasFile journal_name (λ file. (found : List (List ℕ)) × Closes place found file) files) (HasStaged texts text) one two
        found-kept None two keeps = tt
        found-kept (Some one) None keeps = λ has. keeps (journal_of has.2.0) has.2.1.0 (has.0, has.1, has.2.1.1)
        found-kept (Some one) (Some two) keeps = λ has. let now = keeps (journal_of has.2.0) has.2.1.0 (has.0, has.1, has.2.1.1) in (now.0, now.1, has.2.1.2 now.0 now.2)
    mend-kept place false old mid new is shut moving =
        let P : Files → Type 0 = λ files. HasFile journal_name (λ file. (place ≡ end) × IsMoving texts text file) files in
        keeps-then (IsMended texts text place false) P (HasStaged texts text) old mid new
        (keeps-done (IsMended texts text place false) P (λ (f : Files). synced f journal_name) old mid is
        (has-adjusted (λ file. Staged texts text file × EndsAt file.bytes place false) (λ file. (place ≡ end) × IsMoving texts text file) file_synced
        (λ file has. let ready = ready-open place file has.0 has.1 in (ready.0, moving-syncs.done file ready.1))))
        (moving-kept mid new (moving refl))
      where
        moving-kept : (one two : Option Files) → (place ≡ end → Keeps (HasFile journal_name (IsMoving texts text)) (HasStaged texts text) one two)
            → Keeps (λ files. HasFile journal_name (λ file. (place ≡ end) × IsMoving texts text file) files) (HasStaged texts text) one two
        moving-kept None two keeps = tt
        moving-kept (Some one) None keeps = λ has. keeps has.2.0 (has.0, has.1, has.2.1)
        moving-kept (Some one) (Some two) keeps = λ has. keeps has.2.0 (has.0, has.1, has.2.1)

    -- where the first sync breaks off
    pub mended-staged : (place : ℕ) (closed : Bool) (files : Files) → IsMended texts text place closed files → HasStaged texts text files
    mended-staged place closed files has = (has.0, has.1, has.2.0)
