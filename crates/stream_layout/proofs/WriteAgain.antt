-- A write into a file that stands, broken off however often, is in the end what one write leaves.
use Rattle.std.proofs.Common.{◌≡◌, ℕ, ◌+◌, ◌<◌, ◌≤◌, false, cond, ◌&&◌, nat_le, nat_lt, List, [], ◌∷◌, ◌++◌, length, get_or, Option, Some, None, option_map, refl, sym, ap, subst, ◌∙◌, inl, inr, ◌⊎◌, arith}
use Rattle.std.specs.List.{All}
use Rattle.std.specs.Option.{MatchOption}
use Rattle.std.specs.Str.{bytes_eq}
use Rattle.std.specs.FinMap.{get, insert}
use Rattle.std.proofs.lemmas.Bool.{cases_lt, cond-true, le-leb, leb-false, ltb-false, and_cases, or_parts, or_from}
use Rattle.std.proofs.lemmas.List.{get_or_past}
use Rattle.std.proofs.lemmas.List.Elements.{All-nil, All-head, All-tail, All-push}
use Rattle.disk_model.specs.Disk.{File, Files, settled_file, overwritten, file_written, file_synced, written_at, synced}
use Rattle.disk_model.specs.DeviceCalls.{CallWrite, CallSync, all_applied}
use Rattle.disk_model.specs.Failures.{is_within, loose_ranges, Torn, FileLeftByWrite, FileLeftBySync, FileCrashed, LeavesFile}
use Rattle.disk_model.proofs.Changes.{get-adjusted, adjusted_twice, written_again}
use Rattle.disk_model.proofs.Tearing.{length-overwritten, overwritten_before, overwritten_behind}
use Rattle.stream_layout.specs.Repeating.{AllSettled, Attempted}
use Rattle.stream_layout.proofs.FileLaws.{same_is, itself}
use Rattle.stream_layout.proofs.Attempts.{KeepsDone, KeepsBroken, KeepsCrashed, repeats}
use Rattle.stream_layout.proofs.RepeatLaws.{Ignores, first_part, found-put, touches_write, touches_sync, stays-beside}
use Rattle.stream_layout.proofs.Settled.{SettledBut, loose_at, settled-but, uncut, crash-stays, crash-settles}

-- a file between one that is whole and the same one with bytes put at a place
pub record IsBetween (at : ℕ) (bytes whole : List ℕ) (file : File) : Type 0 where
  pub torn : Torn ((at, length bytes) ∷ []) (length whole) (length (overwritten whole at bytes)) whole file.bytes
  pub loose : All (λ (range : ℕ × ℕ). range ≡ (at, length bytes)) file.loose
  pub low : length whole ≤ file.settled
  pub fits : file.settled ≤ length file.bytes

-- a place outside a range
outside : (at size place : ℕ) → is_within ((at, size) ∷ []) place ≡ false → (place < at) ⊎ (at + size ≤ place)
outside at size place is =
    let parts = or_parts (nat_le at place && nat_lt place (at + size)) false is in
    elim (and_cases (nat_le at place) (nat_lt place (at + size)) parts.0) [
      | inl below ↦ inl (leb-false at place below)
      | inr above ↦ inr (ltb-false place (at + size) above)
    ]

-- outside a range, and so outside ranges that are all this one
loose_outside : (range : ℕ × ℕ) (ranges : List (ℕ × ℕ)) (place : ℕ) → All (λ (r : ℕ × ℕ). r ≡ range) ranges → is_within (range ∷ []) place ≡ false → is_within ranges place ≡ false
loose_outside range [] place all is = refl
loose_outside range (first ∷ ranges) place all is =
    let one = All-head (λ (r : ℕ × ℕ). r ≡ range) first ranges all in
    let parts = or_parts (nat_le range.0 place && nat_lt place (range.0 + range.1)) false is in
    or_from (nat_le first.0 place && nat_lt place (first.0 + first.1)) (is_within ranges place)
    (ap (λ (r : ℕ × ℕ). nat_le r.0 place && nat_lt place (r.0 + r.1)) one ∙ parts.0)
    (loose_outside range ranges place (All-tail (λ (r : ℕ × ℕ). r ≡ range) first ranges all) is)

module _ (at : ℕ) (bytes whole : List ℕ) (within : at ≤ length whole) where
  least : length whole ≤ length (overwritten whole at bytes)
  least = let long = length-overwritten whole bytes at within in omega arith

  length_between : (file : File) → IsBetween at bytes whole file → (length whole ≤ length file.bytes) × (length file.bytes ≤ length (overwritten whole at bytes))
  length_between file between =
      let low = least in
      let short = between.torn.no_shorter in
      let long = between.torn.no_longer in
      (omega arith, omega arith)

  -- outside the range a file between is the whole one, past its end too
  kept_between : (file : File) → IsBetween at bytes whole file → (place : ℕ) → is_within ((at, length bytes) ∷ []) place ≡ false → get_or file.bytes place 0 ≡ get_or whole place 0
  kept_between file between place out =
      elim (cases_lt place (length file.bytes)) [
        | inl inside ↦ between.torn.kept place inside out
        | inr past ↦
            let long = (length_between file between).0 in
            get_or_past file.bytes place 0 past ∙ sym (get_or_past whole place 0 (omega arith))
      ]

  written_bytes : (file : File) → IsBetween at bytes whole file → (file_written at bytes file).bytes ≡ overwritten whole at bytes
  written_bytes file between =
      let long = (length_between file between).0 in
      cond-true (nat_le at (length file.bytes)) (overwritten file.bytes at bytes) file.bytes (le-leb at (length file.bytes) (omega arith))
      ∙ written_again at bytes whole file.bytes within between.torn

  written_loose : (file : File) → IsBetween at bytes whole file → (file_written at bytes file).loose ≡ file.loose ++ (at, length bytes) ∷ []
  written_loose file between =
      let long = (length_between file between).0 in
      cond-true (nat_le at (length file.bytes)) (file.loose ++ (at, length bytes) ∷ []) file.loose (le-leb at (length file.bytes) (omega arith))

  loose_written : (file : File) → IsBetween at bytes whole file → All (λ (range : ℕ × ℕ). range ≡ (at, length bytes)) (file_written at bytes file).loose
  loose_written file between =
      subst (All (λ (range : ℕ × ℕ). range ≡ (at, length bytes))) (sym (written_loose file between))
      (All-push (λ (range : ℕ × ℕ). range ≡ (at, length bytes)) file.loose (at, length bytes) between.loose refl)

  pub begins : IsBetween at bytes whole (settled_file whole)
  begins =
      let low = least in
      record {
        torn = record { no_shorter = omega arith; no_longer = omega arith; kept = λ place inside out. refl };
        loose = All-nil (λ (range : ℕ × ℕ). range ≡ (at, length bytes));
        low = omega arith;
        fits = omega arith;
      }

  -- a write that is done
  after_write : (file : File) → IsBetween at bytes whole file → IsBetween at bytes whole (file_written at bytes file)
  after_write file between =
      let low = least in
      let same = written_bytes file between in
      let long = ap length same in
      record {
        torn = record {
          no_shorter = omega arith;
          no_longer = omega arith;
          kept = λ place inside out. ap (λ v. get_or v place 0) same ∙ (elim (outside at (length bytes) place out) [
            | inl below ↦ overwritten_before whole bytes at place within below
            | inr above ↦ overwritten_behind whole bytes at place within above
          ]);
        };
        loose = loose_written file between;
        low = between.low;
        fits = let most = (length_between file between).1 in let base = between.fits in omega (arith, most, base, long);
      }

  -- a write that failed
  after_broken_write : (file left : File) → IsBetween at bytes whole file → FileLeftByWrite at bytes file left → IsBetween at bytes whole left
  after_broken_write file left between broken =
      let low = least in
      let long = length_between file between in
      let full = ap length (written_bytes file between) in
      let short = broken.torn.no_shorter in
      let most = broken.torn.no_longer in
      record {
        torn = record {
          no_shorter = omega arith;
          no_longer = omega arith;
          kept = λ place inside out. broken.torn.kept place inside out ∙ kept_between file between place out;
        };
        loose = subst (All (λ (range : ℕ × ℕ). range ≡ (at, length bytes))) (sym broken.loose) (loose_written file between);
        low = let base = between.low in let same = broken.settled in omega (arith, base, same);
        fits = let base = between.fits in let same = broken.settled in omega (arith, base, same, short, full, long);
      }

  -- bytes that a failed sync or a crash may leave
  torn_between : (file : File) (left : List ℕ) → IsBetween at bytes whole file → Torn (loose_ranges file) file.settled (length file.bytes) file.bytes left
      → Torn ((at, length bytes) ∷ []) (length whole) (length (overwritten whole at bytes)) whole left
  torn_between file left between torn =
      let least_is = least in
      let long = length_between file between in
      let low = between.low in
      let fits = between.fits in
      let short = torn.no_shorter in
      let most = torn.no_longer in
      record {
        no_shorter = omega arith;
        no_longer = omega arith;
        kept = λ place inside out.
            torn.kept place inside (uncut file place fits (loose_outside (at, length bytes) file.loose place between.loose out)) ∙ kept_between file between place out;
      }

  -- a sync that failed
  after_broken_sync : (file left : File) → IsBetween at bytes whole file → FileLeftBySync file left → IsBetween at bytes whole left
  after_broken_sync file left between broken =
      let low = between.low in
      let fits = between.fits in
      let same = broken.settled in
      let short = broken.torn.no_shorter in
      record {
        torn = torn_between file left.bytes between broken.torn;
        loose = subst (All (λ (range : ℕ × ℕ). range ≡ (at, length bytes))) (sym broken.loose) between.loose;
        low = omega (arith, low, same);
        fits = omega (arith, fits, same, short);
      }

  -- a crash
  after_crash : (file left : File) → IsBetween at bytes whole file → FileCrashed file left → IsBetween at bytes whole left
  after_crash file left between crashed =
      let low = between.low in
      let fits = between.fits in
      let same = crashed.settled in
      let short = crashed.torn.no_shorter in
      record {
        torn = torn_between file left.bytes between crashed.torn;
        loose = subst (All (λ (range : ℕ × ℕ). range ≡ (at, length bytes))) (sym crashed.loose) (All-nil (λ (range : ℕ × ℕ). range ≡ (at, length bytes)));
        low = omega (arith, low, fits, same, short);
        fits = omega (arith, same);
      }

  -- among files

  abbrev pub Holds : List ℕ → Files → Type 0
  Holds name files = ((file : File) × (get files name ≡ Some file) × IsBetween at bytes whole file) × SettledBut (loose_at name) files

  abbrev pub written_files : List ℕ → Files → List ℕ → Option File
  written_files name files q = cond (bytes_eq q name) (Some (settled_file (overwritten whole at bytes))) (get files q)

  ignored : (name : List ℕ) → Ignores (written_files name) name
  ignored name old new same q = first_part (bytes_eq q name) _ _ _ (λ differ. same q differ)

  write_done : (name : List ℕ) → KeepsDone (Holds name) (written_files name) (CallWrite name at bytes)
  write_done name old held =
      let file = held.0.0 in
      let touches = touches_write name at bytes in
      let stands : get (written_at old name at bytes) name ≡ Some (file_written at bytes file) =
      get-adjusted (file_written at bytes) old name name
      ∙ ap (λ b. cond b (option_map (file_written at bytes) (get old name)) (get old name)) (same_is name name ∙ itself name)
      ∙ ap (option_map (file_written at bytes)) held.0.1 in (
        ((file_written at bytes file, stands, after_write file held.0.2), (stays-beside name (CallWrite name at bytes) touches).done old held.1),
        ignored name old (written_at old name at bytes) (touches.done old),
      )

  -- a file that was left by a relation stands in the end
  held_left : (Left : File → File → Type 0) (name : List ℕ) (old new : Files) (file : File) → get old name ≡ Some file → LeavesFile Left name old new
      → (left : File) × (get new name ≡ Some left) × Left file left
  held_left Left name old new file stands left =
      let changed = subst (λ o. MatchOption o (new ≡ old) (λ file. (now : File) × Left file now × (new ≡ insert old name now))) stands left in
      (changed.0, ap (λ m. get m name) changed.2 ∙ found-put old name changed.0 name ∙ ap (λ b. cond b (Some changed.0) (get old name)) (itself name), changed.1)

  write_broken : (name : List ℕ) → KeepsBroken (Holds name) (written_files name) (CallWrite name at bytes)
  write_broken name old new held left =
      let touches = touches_write name at bytes in
      let found = held_left (FileLeftByWrite at bytes) name old new held.0.0 held.0.1 left in (
        ((found.0, found.1, after_broken_write held.0.0 found.0 held.0.2 found.2), (stays-beside name (CallWrite name at bytes) touches).broken old new held.1 left),
        ignored name old new (touches.broken old new left),
      )

  sync_broken : (name : List ℕ) → KeepsBroken (Holds name) (written_files name) (CallSync name)
  sync_broken name old new held left =
      let touches = touches_sync name in
      let found = held_left FileLeftBySync name old new held.0.0 held.0.1 left in (
        ((found.0, found.1, after_broken_sync held.0.0 found.0 held.0.2 found.2), (stays-beside name (CallSync name) touches).broken old new held.1 left),
        ignored name old new (touches.broken old new left),
      )

  crashed : (name : List ℕ) → KeepsCrashed (Holds name) (written_files name)
  crashed name old new held crash =
      let found = subst (λ o. MatchOption o (get new name ≡ None) (λ file. (left : File) × FileCrashed file left × (get new name ≡ Some left))) held.0.1 (crash name) in (
        ((found.0, found.2, after_crash held.0.0 found.0 held.0.2 found.1), settled-but (loose_at name) new (crash-settles old new crash)),
        ignored name old new (crash-stays (loose_at name) old new held.1 crash),
      )

  shows_written : (name : List ℕ) (files : Files) → Holds name files → (q : List ℕ) → get (synced (written_at files name at bytes) name) q ≡ written_files name files q
  shows_written name files held q =
      ap (λ m. get m q) (adjusted_twice (file_written at bytes) file_synced files name)
      ∙ get-adjusted (λ file. file_synced (file_written at bytes file)) files name q
      ∙ ap (λ b. cond b (option_map (λ file. file_synced (file_written at bytes file)) (get files name)) (get files q)) (same_is q name)
      ∙ ap (λ o. cond (bytes_eq q name) (option_map (λ file. file_synced (file_written at bytes file)) o) (get files q)) held.0.1
      ∙ ap (λ v. cond (bytes_eq q name) (Some (settled_file v)) (get files q)) (written_bytes held.0.0 held.0.2)

  pub written_once_more : (name : List ℕ) (attempts : ℕ) (old left : Files) → get old name ≡ Some (settled_file whole) → AllSettled old
      → Attempted (CallWrite name at bytes ∷ CallSync name ∷ []) attempts old left
      → all_applied (CallWrite name at bytes ∷ CallSync name ∷ []) left ≡ all_applied (CallWrite name at bytes ∷ CallSync name ∷ []) old
  written_once_more name attempts old left stands settled tried =
      repeats (Holds name) (written_files name) (CallWrite name at bytes ∷ CallSync name ∷ [])
      (write_broken name, (λ _. write_done name), (sync_broken name, (λ more. absurd (omega arith)), tt))
      (crashed name) (shows_written name) attempts old left ((settled_file whole, stands, begins), settled-but (loose_at name) old settled) tried
