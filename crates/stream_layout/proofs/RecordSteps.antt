-- Files have the bytes of their records once a stream has taken one more, and where its place is.
use Rattle.std.proofs.Common.{◌≡◌, ◌≢◌, ℕ, zero, suc, ◌+◌, ◌-◌, ◌≤◌, max, true, false, not, Bool, List, [], ◌∷◌, ◌++◌, length, take, drop, Some, None, refl, sym, ap, subst, ◌∙◌, arith, length-append, length-take, length-drop}
use Rattle.std.specs.Prelude.{option_map}
use Rattle.std.specs.List.{concat, All}
use Rattle.std.proofs.lemmas.Bool.{and_parts}
use Rattle.std.proofs.lemmas.List.{length_push}
use Rattle.std.proofs.lemmas.List.Elements.{All-append, All-cons, All-nil}
use Rattle.disk_model.specs.Disk.{overwritten}
use Rattle.stream_config.specs.declared.attrs.FullAction.{FullAction}
use Rattle.stream_config.specs.declared.attrs.FullAction.TheVariants.{Wrap, Halt, Rotate}
use Rattle.stream_config.specs.declared.attrs.StreamAttrs.{StreamAttrs}
use Rattle.stream_config.specs.declared.state.LogFile.{LogFile}
use Rattle.stream_config.specs.declared.state.StreamState.{StreamState}
use Rattle.stream_config.specs.declared.event.Stamps.{Stamps}
use Rattle.stream_config.specs.declared.event.StreamEvent.TheVariants.{Stored}
use Rattle.stream_config.specs.Events.{file_begun, file_closed, file_with, current_file, last_with, last_closed, most_files, next_offset, state_after}
use Rattle.stream_config.specs.Fit.{next_first, is_rotating}
use Rattle.stream_config.specs.Sizes.{records_per_file, IsLength, has_room}
use Rattle.stream_layout.specs.declared.spot.Spot.{Spot}
use Rattle.stream_layout.specs.LogFiles.{records_in, bytes_in}
use Rattle.stream_layout.specs.Spots.{next_spot, next_spot_by}
use Rattle.stream_layout.specs.Deeds.{offset_written}
use Rattle.stream_layout.specs.Carrying.{IsFitStored, HaveBytes, AreRecordsOf}
use Rattle.stream_layout.proofs.CarryLaws.{added}
use Rattle.stream_layout.proofs.CurrentFile.{has_current, current_file-append, last_closed-append}
use Rattle.stream_layout.proofs.EntryLaws.{Follow, next_first-append, next-within, records_from-full}
use Rattle.stream_layout.proofs.EventLaws.{IsLaidOut, none_closed, shut_follow, added_put, offset_at, last_with-append}
use Rattle.stream_layout.proofs.FitSteps.{rotating-so, not-so, stays-room, can-store}
use Rattle.stream_layout.proofs.StoredBytes.{file_begun_with}

have-front : (attrs : StreamAttrs) (records : List (List ℕ)) (until : ℕ) (front : List LogFile) (last : LogFile) → HaveBytes attrs records until (front ++ last ∷ []) → HaveBytes attrs records last.first front
have-front attrs records until [] last have = tt
have-front attrs records until (file ∷ front) last have =
    (subst (λ next. file.bytes ≡ length (bytes_in attrs file.first next records)) (next_first-append front (last ∷ []) until) have.0, have-front attrs records until front last have.1)

have-last : (attrs : StreamAttrs) (records : List (List ℕ)) (until : ℕ) (front : List LogFile) (last : LogFile) → HaveBytes attrs records last.first front
    → last.bytes ≡ length (bytes_in attrs last.first until records) → HaveBytes attrs records until (front ++ last ∷ [])
have-last attrs records until [] last have is = (is, tt)
have-last attrs records until (file ∷ front) last have is =
    (subst (λ next. file.bytes ≡ length (bytes_in attrs file.first next records)) (sym (next_first-append front (last ∷ []) until)) have.0, have-last attrs records until front last have.1 is)

have-full : (attrs : StreamAttrs) (records more : List (List ℕ)) (until : ℕ) (files : List LogFile) → attrs.action ≡ Rotate → Follow until files → until ≤ length records
    → HaveBytes attrs records until files → HaveBytes attrs (records ++ more) until files
have-full attrs records more until [] rotates follow within have = tt
have-full attrs records more until (file ∷ files) rotates follow within have =
    let n = records_per_file attrs in
    let next = next_first files until in
    let low = next-within until files follow.1 in
    let same : bytes_in attrs file.first next records ≡ bytes_in attrs file.first next (records ++ more) =
    ap (λ a. concat (records_in a n file.first next records)) rotates
    ∙ ap concat (sym (records_from-full file.first next records more follow.0 (omega (arith, low, within))))
    ∙ ap (λ a. concat (records_in a n file.first next (records ++ more))) (sym rotates) in
    (have.0 ∙ ap length same, have-full attrs records more until files rotates follow.1 within have.1)

pub have-drop : (attrs : StreamAttrs) (records : List (List ℕ)) (until k : ℕ) (files : List LogFile) → HaveBytes attrs records until files → HaveBytes attrs records until (drop k files)
have-drop attrs records until zero files have = have
have-drop attrs records until (suc k) [] have = tt
have-drop attrs records until (suc k) (file ∷ files) have = have-drop attrs records until k files have.1

have-stays : (action : FullAction) (attrs : StreamAttrs) (front : List LogFile) (current : LogFile) (records : List (List ℕ)) (bytes : List ℕ) (opened : ℕ) → attrs.action ≡ action
    → IsLaidOut attrs front current (length records) opened → HaveBytes attrs records current.first front → HaveBytes attrs (records ++ bytes ∷ []) current.first front
have-stays Wrap attrs front current records bytes opened is out have =
    subst (HaveBytes attrs (records ++ bytes ∷ []) current.first) (sym (none_closed attrs front current (length records) opened (λ other. let e = sym is ∙ other in cc) out)) tt
have-stays Halt attrs front current records bytes opened is out have =
    subst (HaveBytes attrs (records ++ bytes ∷ []) current.first) (sym (none_closed attrs front current (length records) opened (λ other. let e = sym is ∙ other in cc) out)) tt
have-stays Rotate attrs front current records bytes opened is out have = have-full attrs records (bytes ∷ []) current.first front is out.follow out.within have

length-overwritten : (old bytes : List ℕ) (at : ℕ) → at ≤ length old → length (overwritten old at bytes) ≡ max (length old) (at + length bytes)
length-overwritten old bytes at within =
    let one = length-append (take at old ++ bytes) (drop (at + length bytes) old) in
    let two = length-append (take at old) bytes in
    let three = length-take at old in
    let four = length-drop (at + length bytes) old in
    omega (arith, one, two, three, four, within)

longer : (attrs : StreamAttrs) (records : List (List ℕ)) (bytes : List ℕ) → All (λ record_bytes. IsLength attrs (length record_bytes)) records → IsLength attrs (length bytes)
    → All (λ record_bytes. IsLength attrs (length record_bytes)) (records ++ bytes ∷ [])
longer attrs records bytes sizes size =
    let P : List ℕ → Type 0 = λ record_bytes. IsLength attrs (length record_bytes) in
    All-append P records (bytes ∷ []) sizes (All-cons P bytes [] size (All-nil P))

-- **a record goes to the current file**
pub are-none : (before : StreamState) (bytes : List ℕ) (records : List (List ℕ)) → IsFitStored before bytes None → AreRecordsOf before records
    → AreRecordsOf (state_after (Stored before bytes None)) (records ++ bytes ∷ [])
are-none before bytes records fit are =
    let attrs = before.attrs in
    let found = has_current before.files fit.stream.standing.last_open in
    let front = found.front in
    let current = found.current in
    let all = records ++ bytes ∷ [] in
    let adds = added before bytes records fit.stream are fit.size found in
    let put = added_put attrs front current records bytes before.opened adds in
    let same : current_file before.files ≡ current = ap current_file found.whole ∙ current_file-append front current in
    let at : next_offset before ≡ offset_at attrs (length records) current.bytes =
    ap (λ taken. offset_at attrs taken (current_file before.files).bytes) (sym are.count) ∙ ap (λ (f : LogFile). offset_at attrs (length records) f.bytes) same in
    let new = file_with (next_offset before) (length bytes) current in
    let split : last_with (next_offset before) (length bytes) before.files ≡ front ++ new ∷ [] =
    ap (last_with (next_offset before) (length bytes)) found.whole ∙ last_with-append (next_offset before) (length bytes) front current in
    let have = have-front attrs records (length records) front current (subst (HaveBytes attrs records (length records)) found.whole are.bytes) in
    let grown : new.bytes ≡ length (bytes_in attrs current.first (length all) all) =
    ap (λ o. max current.bytes (o + length bytes)) at ∙ ap (λ b. max b (offset_at attrs (length records) current.bytes + length bytes)) adds.full
    ∙ sym (length-overwritten (bytes_in attrs current.first (length records) records) bytes (offset_at attrs (length records) current.bytes) put.within)
    ∙ ap length put.bytes_are in
    record {
      count = length_push records bytes ∙ ap (λ m. m + 1) are.count;
      sizes = longer attrs records bytes are.sizes fit.size;
      bytes = subst (HaveBytes attrs all (length all)) (sym split)
          (have-last attrs all (length all) front new (have-stays attrs.action attrs front current records bytes before.opened refl adds.out have) grown);
    }

-- **a record begins the next file**
pub are-some : (before : StreamState) (bytes : List ℕ) (stamps : Stamps) (records : List (List ℕ)) → IsFitStored before bytes (Some stamps) → AreRecordsOf before records
    → AreRecordsOf (state_after (Stored before bytes (Some stamps))) (records ++ bytes ∷ [])
are-some before bytes stamps records fit are =
    let attrs = before.attrs in
    let n = records_per_file attrs in
    let found = has_current before.files fit.stream.standing.last_open in
    let front = found.front in
    let current = found.current in
    let all = records ++ bytes ∷ [] in
    let adds = added before bytes records fit.stream are fit.size found in
    let tests = and_parts (is_rotating attrs.action) (not (has_room attrs (current_file before.files).bytes (length bytes))) (sym fit.changes) in
    let rotates = rotating-so attrs.action tests.0 in
    let shut = file_closed stamps.closed current in
    let fresh = file_begun stamps.created before.taken (length bytes) in
    let closed_is : last_closed stamps.closed before.files ≡ front ++ shut ∷ [] = ap (last_closed stamps.closed) found.whole ∙ last_closed-append stamps.closed front current in
    let have = have-front attrs records (length records) front current (subst (HaveBytes attrs records (length records)) found.whole are.bytes) in
    let closed : HaveBytes attrs records (length records) (front ++ shut ∷ []) = have-last attrs records (length records) front shut have adds.full in
    let kept : HaveBytes attrs all (length records) (front ++ shut ∷ []) =
    have-full attrs records (bytes ∷ []) (length records) (front ++ shut ∷ []) rotates (shut_follow (length records) front shut adds.out.follow adds.out.within) (omega arith) closed in
    let own : length bytes ≡ length (bytes_in attrs before.taken (length all) all) =
    ap length (sym (file_begun_with records bytes) ∙ ap (λ a. concat (records_in a n (length records) (length all) all)) (sym rotates))
    ∙ ap (λ taken. length (bytes_in attrs taken (length all) all)) are.count in
    let whole : HaveBytes attrs all (length all) ((front ++ shut ∷ []) ++ fresh ∷ []) =
    have-last attrs all (length all) (front ++ shut ∷ []) fresh (subst (λ taken. HaveBytes attrs all taken (front ++ shut ∷ [])) are.count kept) own in
    let list = last_closed stamps.closed before.files ++ fresh ∷ [] in
    record {
      count = length_push records bytes ∙ ap (λ m. m + 1) are.count;
      sizes = longer attrs records bytes are.sizes fit.size;
      bytes = have-drop attrs all (length all) (length list - most_files attrs.action attrs.rotated) list
          (subst (λ fs. HaveBytes attrs all (length all) (fs ++ fresh ∷ [])) (sym closed_is) whole);
    }

-- where the record stands is told by its place
spot-by : (action : FullAction) (fits : Bool) (opened offset : ℕ) → (action ≢ Wrap → fits ≡ true) → option_map (λ (spot : Spot). spot.at) (next_spot_by action fits opened offset) ≡ Some offset
spot-by Wrap fits opened offset room = refl
spot-by Halt true opened offset room = refl
spot-by Halt false opened offset room = let e = room (λ same. cc) in cc
spot-by Rotate true opened offset room = refl
spot-by Rotate false opened offset room = let e = room (λ same. cc) in cc

pub spot-none : (before : StreamState) (bytes : List ℕ) → IsFitStored before bytes None
    → option_map (λ (spot : Spot). spot.at) (next_spot before (length bytes)) ≡ Some (offset_written before None)
spot-none before bytes fit =
    spot-by before.attrs.action (has_room before.attrs (current_file before.files).bytes (length bytes)) before.opened (next_offset before) (stays-room before bytes (can-store before bytes None fit))

pub spot-some : (before : StreamState) (bytes : List ℕ) (stamps : Stamps) → IsFitStored before bytes (Some stamps)
    → option_map (λ (spot : Spot). spot.at) (next_spot before (length bytes)) ≡ Some (offset_written before (Some stamps))
spot-some before bytes stamps fit =
    let room = has_room before.attrs (current_file before.files).bytes (length bytes) in
    let tests = and_parts (is_rotating before.attrs.action) (not room) (sym fit.changes) in
    ap (λ a. option_map (λ (spot : Spot). spot.at) (next_spot_by a room before.opened (next_offset before))) (rotating-so before.attrs.action tests.0)
    ∙ ap (λ b. option_map (λ (spot : Spot). spot.at) (next_spot_by Rotate b before.opened (next_offset before))) (not-so room tests.1)
