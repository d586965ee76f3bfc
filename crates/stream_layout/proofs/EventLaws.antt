-- What the deeds of each event make of the files of its stream.
use Rattle.std.proofs.Common.{◌≡◌, ◌≢◌, ℕ, suc, ◌+◌, ◌-◌, ◌<◌, ◌≤◌, ℤ, ◌<ℤ◌, true, nat_lt, Some, List, [], ◌∷◌, ◌++◌, length, drop, Option, None, is_some, refl, sym, ap, subst, ◌∙◌, inl, inr, arith, append_assoc}
use Rattle.std.specs.List.{concat, All}
use Rattle.std.specs.FinMap.{get}
use Rattle.std.proofs.lemmas.Bool.{cases_lt, cond-true, cond-false, lt-ltb, le-ltb}
use Rattle.std.proofs.lemmas.List.{length_push, nil_from_length}
use Rattle.std.proofs.lemmas.List.Elements.{All-head, All-tail, All-weaker}
use Rattle.std.proofs.lemmas.Nat.{le-div}
use Rattle.disk_model.specs.Disk.{settled_file, File, Files, overwritten, written_at, synced, renamed}
use Rattle.disk_model.specs.DeviceCalls.{all_applied}
use Rattle.stream_config.specs.declared.attrs.FullAction.{FullAction}
use Rattle.stream_config.specs.declared.attrs.FullAction.TheVariants.{Wrap, Halt, Rotate}
use Rattle.stream_config.specs.declared.attrs.StreamAttrs.{StreamAttrs}
use Rattle.stream_config.specs.declared.state.LogFile.{LogFile}
use Rattle.stream_config.specs.declared.state.StreamState.{StreamState}
use Rattle.stream_config.specs.declared.event.Stamps.{Stamps}
use Rattle.stream_config.specs.Attributes.{IsSizedAlike, IsSized}
use Rattle.stream_config.specs.Events.{open_file, file_begun, file_closed, file_with, last_with, last_closed, most_files, standing, offset_in}
use Rattle.stream_config.specs.Fit.{stamps_of, rises, count_standing, next_first, AreFilled}
use Rattle.stream_config.specs.Sizes.{records_per_file, IsLength}
use Rattle.stream_layout.specs.declared.deed.Deed.{Deed}
use Rattle.stream_layout.specs.declared.deed.Deed.TheVariants.{Create, Write, Rename, Remove}
use Rattle.stream_layout.specs.Names.{log_name}
use Rattle.stream_layout.specs.LogFiles.{Entries, records_in, bytes_in, entries_to, log_entries}
use Rattle.stream_layout.specs.Deeds.{calls_of_all, current_file, removal}
use Rattle.stream_layout.specs.Carrying.{IsStamp, IsFitStream, HaveBytes, entry_at, Stand, replaced}
use Rattle.stream_layout.proofs.CurrentFile.{HasCurrent, unlike, current_file-append, last_closed-append, first_made, last_made, created_all, behind_front, front_all}
use Rattle.stream_layout.proofs.EntryLaws.{Follow, next_first-append, follow-front, follow-last, entries_to-nil, entries_to-cons, entries_to-last, entries_to-full, absent_open, absent_later, absent_earlier}
use Rattle.stream_layout.proofs.FileLaws.{last_stands, carry_write, carry_rename, carry_change, carry_rotation, carry_sole}
use Rattle.stream_layout.proofs.NameLaws.{created_apart, closed_apart}
use Rattle.stream_layout.proofs.StoredBytes.{IsPut, put_record, file_begun_with}

-- a living stream's files, split at the current one
pub record IsLaidOut (attrs : StreamAttrs) (front : List LogFile) (current : LogFile) (taken opened : ℕ) : Type 0 where
  pub sized : IsSized attrs
  pub kept : 1 ≤ attrs.rotated
  pub unclosed : current.closed ≡ None
  pub shut : All (λ (file : LogFile). is_some file.closed ≡ true) front
  pub stamp : IsStamp current.created
  pub stamps : All (λ (file : LogFile). IsStamp file.created) front
  pub made_last : All (λ (file : LogFile). file.created <ℤ current.created) front
  pub made_first : (file : LogFile) (others : List LogFile) → front ≡ file ∷ others → All (λ (other : LogFile). file.created <ℤ other.created) others
  pub count : length front + 1 ≡ count_standing attrs.action attrs.rotated opened
  pub one : attrs.action ≢ Rotate → opened ≡ 1
  pub follow : Follow current.first front
  pub within : current.first ≤ taken

-- records of one size: those that wrap are
pub alike_sized : (attrs : StreamAttrs) → IsSized attrs → 0 < attrs.record_size → IsSizedAlike attrs
alike_sized attrs sized some = elim sized.records [
  | inl alike ↦ alike
  | inr freely ↦ absurd (let none = freely.free in omega (arith, some, none))
]

pub wrap_sized : (attrs : StreamAttrs) → IsSized attrs → attrs.action ≡ Wrap → IsSizedAlike attrs
wrap_sized attrs sized wraps = elim sized.records [
  | inl alike ↦ alike
  | inr freely ↦ absurd (freely.unwrapped wraps)
]

pub some_records : (attrs : StreamAttrs) → IsSizedAlike attrs → 0 < records_per_file attrs
some_records attrs alike =
    let low = alike.least_record in
    let high = alike.least_file in
    le-div 1 attrs.max_file attrs.record_size (omega arith) (omega arith)

follows : (attrs : StreamAttrs) (taken : ℕ) (files : List LogFile) → AreFilled attrs taken files → Follow taken files
follows attrs taken [] filled = tt
follows attrs taken (file ∷ files) filled = (filled.0.order, follows attrs taken files filled.1)

pub laid_out : (state : StreamState) → IsFitStream state → (found : HasCurrent state.files) → IsLaidOut state.attrs found.front found.current state.taken state.opened
laid_out state fit found =
    let front = found.front in
    let current = found.current in
    let rising = subst (λ fs. rises (stamps_of fs) ≡ true) found.whole fit.standing.rising in
    let made = created_all IsStamp state.files fit.stamps in
    let both : All (λ (file : LogFile). IsStamp file.created) (front ++ current ∷ []) = subst (All (λ (file : LogFile). IsStamp file.created)) found.whole made in
    let follow = subst (Follow state.taken) found.whole (follows state.attrs state.taken state.files fit.standing.filled) in
    record {
      sized = fit.attributes.sizes;
      kept = fit.attributes.some_rotated;
      unclosed = found.unclosed;
      shut = found.shut;
      stamp = All-head (λ (file : LogFile). IsStamp file.created) current [] (behind_front (λ (file : LogFile). IsStamp file.created) front (current ∷ []) both);
      stamps = front_all (λ (file : LogFile). IsStamp file.created) front (current ∷ []) both;
      made_last = last_made front current rising;
      made_first = λ file others is.
          front_all (λ (other : LogFile). file.created <ℤ other.created) others (current ∷ [])
          (first_made file (others ++ current ∷ []) (subst (λ fs. rises (stamps_of (fs ++ current ∷ [])) ≡ true) is rising));
      count = sym (length_push front current) ∙ sym (ap length found.whole) ∙ fit.standing.count;
      one = fit.standing.one;
      follow = follow-front state.taken front current follow;
      within = follow-last state.taken front current follow;
    }

pub log_entries-last : (attrs : StreamAttrs) (records : List (List ℕ)) (front : List LogFile) (last : LogFile)
    → log_entries attrs records (front ++ last ∷ [])
    ≡ entries_to attrs records last.first front ++ (log_name attrs last, bytes_in attrs last.first (length records) records) ∷ []
unfolding log_entries
log_entries-last attrs records front last = entries_to-last attrs records (length records) front last

-- what is found, by other words for the entries
by_entries : (before after old new : Entries) (files : Files) (q : List ℕ) (found : Option File) → before ≡ old → after ≡ new
    → found ≡ replaced old new files q → found ≡ replaced before after files q
by_entries before after old new files q found same same' is =
    is ∙ ap (λ es. replaced es new files q) (sym same) ∙ ap (λ es. replaced before es files q) (sym same')

-- a stream ends
pub ended_law : (attrs : StreamAttrs) (front : List LogFile) (current : LogFile) (records : List (List ℕ)) (opened : ℕ) (closed : ℤ) (files : Files)
    → IsLaidOut attrs front current (length records) opened → Stand (log_entries attrs records (front ++ current ∷ [])) files → (q : List ℕ)
    → get (renamed files (log_name attrs (current_file (front ++ current ∷ []))) (log_name attrs (file_closed closed (current_file (front ++ current ∷ []))))) q
    ≡ replaced (log_entries attrs records (front ++ current ∷ [])) (log_entries attrs records (last_closed closed (front ++ current ∷ []))) files q
ended_law attrs front current records opened closed files out stand q =
    let entries = entries_to attrs records current.first front in
    let bytes = bytes_in attrs current.first (length records) records in
    let shut = file_closed closed current in
    let before = log_entries-last attrs records front current in
    let after = ap (log_entries attrs records) (last_closed-append closed front current) ∙ log_entries-last attrs records front shut in
    ap (λ f. get (renamed files (log_name attrs f) (log_name attrs (file_closed closed f))) q) (current_file-append front current)
    ∙ by_entries _ _ _ _ files q _ before after
    (carry_rename entries (log_name attrs current) (log_name attrs shut) bytes files
    (absent_open attrs records current.first front current out.shut out.unclosed)
    (absent_later attrs records current.first front shut out.stamps out.stamp out.made_last)
    (subst (λ es. Stand es files) before stand) q)

-- the closed files stay as they are behind one more record
only_one : (action : FullAction) (rotated opened count : ℕ) → action ≢ Rotate → opened ≡ 1 → count + 1 ≡ count_standing action rotated opened → count ≡ 0
only_one Wrap rotated opened count other one is = omega (arith, one, is)
only_one Halt rotated opened count other one is = omega (arith, one, is)
only_one Rotate rotated opened count other one is = absurd (other refl)

pub none_closed : (attrs : StreamAttrs) (front : List LogFile) (current : LogFile) (taken opened : ℕ) → attrs.action ≢ Rotate → IsLaidOut attrs front current taken opened → front ≡ []
none_closed attrs front current taken opened other out =
    nil_from_length front (only_one attrs.action attrs.rotated opened (length front) other (out.one other) out.count)

front_stays : (action : FullAction) (attrs : StreamAttrs) (front : List LogFile) (current : LogFile) (records : List (List ℕ)) (bytes : List ℕ) (opened : ℕ)
    → attrs.action ≡ action → IsLaidOut attrs front current (length records) opened
    → entries_to attrs (records ++ bytes ∷ []) current.first front ≡ entries_to attrs records current.first front
front_stays Wrap attrs front current records bytes opened is out =
    let none = none_closed attrs front current (length records) opened (λ other. let e = sym is ∙ other in cc) out in
    ap (entries_to attrs (records ++ bytes ∷ []) current.first) none ∙ entries_to-nil attrs (records ++ bytes ∷ []) current.first
    ∙ sym (entries_to-nil attrs records current.first) ∙ ap (entries_to attrs records current.first) (sym none)
front_stays Halt attrs front current records bytes opened is out =
    let none = none_closed attrs front current (length records) opened (λ other. let e = sym is ∙ other in cc) out in
    ap (entries_to attrs (records ++ bytes ∷ []) current.first) none ∙ entries_to-nil attrs (records ++ bytes ∷ []) current.first
    ∙ sym (entries_to-nil attrs records current.first) ∙ ap (entries_to attrs records current.first) (sym none)
front_stays Rotate attrs front current records bytes opened is out =
    entries_to-full attrs records (bytes ∷ []) current.first front is out.follow out.within

pub last_with-append : (at len : ℕ) (front : List LogFile) (current : LogFile) → last_with at len (front ++ current ∷ []) ≡ front ++ file_with at len current ∷ []
last_with-append at len [] current = refl
last_with-append at len (file ∷ []) current = refl
last_with-append at len (file ∷ next ∷ front) current = ap (λ fs. file ∷ fs) (last_with-append at len (next ∷ front) current)

-- the current file has as many bytes as its records
pub current_bytes : (attrs : StreamAttrs) (records : List (List ℕ)) (front : List LogFile) (current : LogFile) → HaveBytes attrs records (length records) (front ++ current ∷ [])
    → current.bytes ≡ length (bytes_in attrs current.first (length records) records)
current_bytes attrs records [] current have = have.0
current_bytes attrs records (file ∷ front) current have = current_bytes attrs records front current have.1

-- what is asked of a record that goes to the current file
pub record IsAdded (attrs : StreamAttrs) (front : List LogFile) (current : LogFile) (records : List (List ℕ)) (bytes : List ℕ) (opened : ℕ) : Type 0 where
  pub out : IsLaidOut attrs front current (length records) opened
  pub sizes : All (λ record_bytes. IsLength attrs (length record_bytes)) records
  pub size : IsLength attrs (length bytes)
  pub full : current.bytes ≡ length (bytes_in attrs current.first (length records) records)

pub alike_all : (attrs : StreamAttrs) (records : List (List ℕ)) → 0 < attrs.record_size → All (λ record_bytes. IsLength attrs (length record_bytes)) records
    → All (λ record_bytes. length record_bytes ≡ attrs.record_size) records
alike_all attrs records some sizes =
    All-weaker (λ (bytes : List ℕ). IsLength attrs (length bytes)) (λ (bytes : List ℕ). length bytes ≡ attrs.record_size) (λ bytes is. is.own some) records sizes

-- where it stands
abbrev pub offset_at : StreamAttrs → (taken bytes : ℕ) → ℕ
offset_at attrs taken bytes = offset_in attrs.action (records_per_file attrs) attrs.record_size taken bytes

pub added_put : (attrs : StreamAttrs) (front : List LogFile) (current : LogFile) (records : List (List ℕ)) (bytes : List ℕ) (opened : ℕ) → IsAdded attrs front current records bytes opened
    → IsPut (records_in attrs.action (records_per_file attrs) current.first (length records) records) (offset_at attrs (length records) current.bytes) bytes
    (records_in attrs.action (records_per_file attrs) current.first (length (records ++ bytes ∷ [])) (records ++ bytes ∷ []))
added_put attrs front current records bytes opened added =
    put_record attrs.action (records_per_file attrs) attrs.record_size current.first current.bytes records bytes
    (λ wraps.
    let alike = wrap_sized attrs added.out.sized wraps in
    let low = alike.least_record in
    let some : 0 < attrs.record_size = omega (arith, low) in
    (some_records attrs alike, alike_all attrs records some added.sizes, added.size.own some))
    added.out.within added.full

-- a record goes to the current file
pub stored_law : (attrs : StreamAttrs) (front : List LogFile) (current : LogFile) (records : List (List ℕ)) (bytes : List ℕ) (opened : ℕ) (files : Files)
    → IsAdded attrs front current records bytes opened → Stand (log_entries attrs records (front ++ current ∷ [])) files → (q : List ℕ)
    → get (synced (written_at files (log_name attrs (current_file (front ++ current ∷ []))) (offset_at attrs (length records) (current_file (front ++ current ∷ [])).bytes) bytes)
    (log_name attrs (current_file (front ++ current ∷ [])))) q
    ≡ replaced (log_entries attrs records (front ++ current ∷ []))
    (log_entries attrs (records ++ bytes ∷ []) (last_with (offset_at attrs (length records) (current_file (front ++ current ∷ [])).bytes) (length bytes) (front ++ current ∷ []))) files q
stored_law attrs front current records bytes opened files added stand q =
    let out = added.out in
    let entries = entries_to attrs records current.first front in
    let at = offset_at attrs (length records) current.bytes in
    let all = records ++ bytes ∷ [] in
    let old = bytes_in attrs current.first (length records) records in
    let name = log_name attrs current in
    let now = file_with at (length bytes) current in
    let put = added_put attrs front current records bytes opened added in
    let before = log_entries-last attrs records front current in
    let after : log_entries attrs all (last_with at (length bytes) (front ++ current ∷ [])) ≡ entries ++ (name, overwritten old at bytes) ∷ [] =
    ap (log_entries attrs all) (last_with-append at (length bytes) front current) ∙ log_entries-last attrs all front now
    ∙ ap (λ es. es ++ (name, bytes_in attrs current.first (length all) all) ∷ []) (front_stays attrs.action attrs front current records bytes opened refl out)
    ∙ ap (λ bs. entries ++ (name, bs) ∷ []) (sym put.bytes_are) in
    ap (λ f. get (synced (written_at files (log_name attrs f) (offset_at attrs (length records) f.bytes) bytes) (log_name attrs f)) q) (current_file-append front current)
    ∙ by_entries _ _ (entries ++ (name, old) ∷ []) (entries ++ (name, overwritten old at bytes) ∷ []) files q _ before
    (ap (λ f. log_entries attrs all (last_with (offset_at attrs (length records) f.bytes) (length bytes) (front ++ current ∷ []))) (current_file-append front current) ∙ after)
    (carry_write entries name old at bytes files (absent_open attrs records current.first front current out.shut out.unclosed)
    (subst (λ es. Stand es files) before stand) put.within q)

-- the current file stands whole, and the place of the record lies in it or behind its end
pub stored_stands : (attrs : StreamAttrs) (front : List LogFile) (current : LogFile) (records : List (List ℕ)) (bytes : List ℕ) (opened : ℕ) (files : Files)
    → IsAdded attrs front current records bytes opened → Stand (log_entries attrs records (front ++ current ∷ [])) files
    → (whole : List ℕ) × (get files (log_name attrs (current_file (front ++ current ∷ []))) ≡ Some (settled_file whole))
    × (offset_at attrs (length records) (current_file (front ++ current ∷ [])).bytes ≤ length whole)
stored_stands attrs front current records bytes opened files added stand =
    let out = added.out in
    let entries = entries_to attrs records current.first front in
    let old = bytes_in attrs current.first (length records) records in
    let put = added_put attrs front current records bytes opened added in
    let before = log_entries-last attrs records front current in
    let stands = last_stands entries (log_name attrs current) old files (absent_open attrs records current.first front current out.shut out.unclosed) (subst (λ es. Stand es files) before stand) in
    let same = current_file-append front current in
    (old, ap (λ f. get files (log_name attrs f)) same ∙ stands, subst (λ (f : LogFile). offset_at attrs (length records) f.bytes ≤ length old) (sym same) put.within)

-- a change of file

-- nothing is removed where no more stand than may
pub removal_none : (attrs : StreamAttrs) (files : List LogFile) → length files ≤ attrs.rotated → removal attrs files ≡ []
removal_none attrs [] few = refl
removal_none attrs (oldest ∷ files) few = cond-false (nat_lt attrs.rotated (length (oldest ∷ files))) (Remove (log_name attrs oldest) ∷ []) [] (le-ltb attrs.rotated (length (oldest ∷ files)) few)

pub removal_oldest : (attrs : StreamAttrs) (oldest : LogFile) (files : List LogFile) → attrs.rotated < length (oldest ∷ files) → removal attrs (oldest ∷ files) ≡ Remove (log_name attrs oldest) ∷ []
removal_oldest attrs oldest files more = cond-true (nat_lt attrs.rotated (length (oldest ∷ files))) (Remove (log_name attrs oldest) ∷ []) [] (lt-ltb attrs.rotated (length (oldest ∷ files)) more)

-- the file that begins with the record
abbrev pub fresh_file : Stamps → List (List ℕ) → List ℕ → LogFile
fresh_file stamps records bytes = file_begun stamps.created (length records) (length bytes)

-- the files behind a record with which a new file begins
changed_entries : (attrs : StreamAttrs) (front : List LogFile) (shut : LogFile) (stamps : Stamps) (records : List (List ℕ)) (bytes : List ℕ)
    → attrs.action ≡ Rotate → Follow (length records) (front ++ shut ∷ [])
    → log_entries attrs (records ++ bytes ∷ []) ((front ++ shut ∷ []) ++ fresh_file stamps records bytes ∷ [])
    ≡ entries_to attrs records shut.first front
    ++ (log_name attrs shut, bytes_in attrs shut.first (length records) records) ∷ (log_name attrs (fresh_file stamps records bytes), bytes) ∷ []
changed_entries attrs front shut stamps records bytes rotates follow =
    let n = records_per_file attrs in
    let all = records ++ bytes ∷ [] in
    let fresh = fresh_file stamps records bytes in
    let closed = front ++ shut ∷ [] in
    let filled : bytes_in attrs (length records) (length all) all ≡ bytes =
    ap (λ a. concat (records_in a n (length records) (length all) all)) rotates ∙ file_begun_with records bytes in
    log_entries-last attrs all closed fresh
    ∙ ap (λ bs. entries_to attrs all (length records) closed ++ (log_name attrs fresh, bs) ∷ []) filled
    ∙ ap (λ es. es ++ (log_name attrs fresh, bytes) ∷ [])
    (entries_to-full attrs records (bytes ∷ []) (length records) closed rotates follow (omega arith) ∙ entries_to-last attrs records (length records) front shut)
    ∙ append_assoc (entries_to attrs records shut.first front) ((log_name attrs shut, bytes_in attrs shut.first (length records) records) ∷ []) ((log_name attrs fresh, bytes) ∷ [])

-- what is common to the ways in which a file changes
pub record IsChange (attrs : StreamAttrs) (front : List LogFile) (current : LogFile) (records : List (List ℕ)) (opened : ℕ) (files : Files) (stamps : Stamps) : Type 0 where
  pub out : IsLaidOut attrs front current (length records) opened
  pub rotates : attrs.action ≡ Rotate
  pub stand : Stand (log_entries attrs records (front ++ current ∷ [])) files
  pub free : get files (log_name attrs (file_closed stamps.closed current)) ≡ None

pub shut_follow : (until : ℕ) (front : List LogFile) (shut : LogFile) → Follow shut.first front → shut.first ≤ until → Follow until (front ++ shut ∷ [])
shut_follow until [] shut follow within = (within, tt)
shut_follow until (file ∷ front) shut follow within =
    (subst (λ next. file.first ≤ next) (sym (next_first-append front (shut ∷ []) until)) follow.0, shut_follow until front shut follow.1 within)

-- the files that a change of file leaves, by the files that stood
abbrev pub changed_files : StreamAttrs → List LogFile → LogFile → Stamps → List (List ℕ) → List ℕ → List LogFile
changed_files attrs front current stamps records bytes =
    standing attrs ((front ++ file_closed stamps.closed current ∷ []) ++ fresh_file stamps records bytes ∷ [])

-- what the deeds of a change of file make of files, by what they remove
abbrev pub changed : StreamAttrs → LogFile → Stamps → List ℕ → List Deed → Files → Files
changed attrs current stamps bytes gone files =
    all_applied (calls_of_all (Rename (log_name attrs current) (log_name attrs (file_closed stamps.closed current))
    ∷ Create (log_name attrs (open_file stamps.created)) ∷ (gone ++ Write (log_name attrs (open_file stamps.created)) 0 bytes ∷ []))) files

abbrev pub ChangeLaw : StreamAttrs → List LogFile → LogFile → List (List ℕ) → List ℕ → Files → Stamps → List ℕ → Type 0
ChangeLaw attrs front current records bytes files stamps q =
    get (changed attrs current stamps bytes (removal attrs ((front ++ file_closed stamps.closed current ∷ []) ++ open_file stamps.created ∷ [])) files) q
    ≡ replaced (log_entries attrs records (front ++ current ∷ [])) (log_entries attrs (records ++ bytes ∷ []) (changed_files attrs front current stamps records bytes)) files q

-- a file more stands
change_kept : (attrs : StreamAttrs) (front : List LogFile) (current : LogFile) (records : List (List ℕ)) (bytes : List ℕ) (opened : ℕ) (files : Files) (stamps : Stamps) (q : List ℕ)
    → IsChange attrs front current records opened files stamps → length front + 1 < attrs.rotated → ChangeLaw attrs front current records bytes files stamps q
change_kept attrs front current records bytes opened files stamps q change few =
    let out = change.out in
    let all = records ++ bytes ∷ [] in
    let shut = file_closed stamps.closed current in
    let fresh = fresh_file stamps records bytes in
    let whole = (front ++ shut ∷ []) ++ fresh ∷ [] in
    let named = (front ++ shut ∷ []) ++ open_file stamps.created ∷ [] in
    let long : length whole ≡ length front + 2 = length_push (front ++ shut ∷ []) fresh ∙ ap (λ l. l + 1) (length_push front shut) ∙ omega arith in
    let long' : length named ≡ length front + 2 = length_push (front ++ shut ∷ []) (open_file stamps.created) ∙ ap (λ l. l + 1) (length_push front shut) ∙ omega arith in
    let stays : standing attrs whole ≡ whole =
    ap (λ a. drop (length whole - most_files a attrs.rotated) whole) change.rotates ∙ ap (λ k. drop k whole) (let none : length whole - attrs.rotated ≡ 0 = omega arith in none) in
    let after = ap (log_entries attrs all) stays
    ∙ changed_entries attrs front shut stamps records bytes change.rotates (shut_follow (length records) front shut out.follow out.within) in
    let before = log_entries-last attrs records front current in
    ap (λ gone. get (changed attrs current stamps bytes gone files) q) (removal_none attrs named (omega arith))
    ∙ by_entries _ _ _ _ files q _ before after
    (carry_change (entries_to attrs records current.first front) (log_name attrs current) (log_name attrs shut) (log_name attrs fresh) (bytes_in attrs current.first (length records) records) bytes files
    (absent_open attrs records current.first front current out.shut out.unclosed)
    (absent_later attrs records current.first front shut out.stamps out.stamp out.made_last)
    (absent_open attrs records current.first front fresh out.shut refl)
    (closed_apart attrs shut fresh refl refl)
    (subst (λ es. Stand es files) before change.stand) q)

-- one file is kept
change_sole : (attrs : StreamAttrs) (current : LogFile) (records : List (List ℕ)) (bytes : List ℕ) (opened : ℕ) (files : Files) (stamps : Stamps) (q : List ℕ)
    → IsChange attrs [] current records opened files stamps → attrs.rotated ≡ 1 → ChangeLaw attrs [] current records bytes files stamps q
change_sole attrs current records bytes opened files stamps q change one =
    let out = change.out in
    let n = records_per_file attrs in
    let all = records ++ bytes ∷ [] in
    let shut = file_closed stamps.closed current in
    let fresh = fresh_file stamps records bytes in
    let stays : standing attrs (shut ∷ fresh ∷ []) ≡ fresh ∷ [] =
    ap (λ a. drop (2 - most_files a attrs.rotated) (shut ∷ fresh ∷ [])) change.rotates ∙ ap (λ r. drop (2 - r) (shut ∷ fresh ∷ [])) one in
    let filled : bytes_in attrs (length records) (length all) all ≡ bytes =
    ap (λ a. concat (records_in a n (length records) (length all) all)) change.rotates ∙ file_begun_with records bytes in
    let alone : (rs : List (List ℕ)) (f : LogFile) → log_entries attrs rs (f ∷ []) ≡ (log_name attrs f, bytes_in attrs f.first (length rs) rs) ∷ [] =
    λ rs f. log_entries-last attrs rs [] f ∙ ap (λ es. es ++ (log_name attrs f, bytes_in attrs f.first (length rs) rs) ∷ []) (entries_to-nil attrs rs f.first) in
    let after = ap (log_entries attrs all) stays ∙ alone all fresh ∙ ap (λ bs. (log_name attrs fresh, bs) ∷ []) filled in
    let before = alone records current in
    ap (λ gone. get (changed attrs current stamps bytes gone files) q) (removal_oldest attrs shut (open_file stamps.created ∷ []) (omega arith))
    ∙ by_entries _ _ _ _ files q _ before after
    (carry_sole (log_name attrs current) (log_name attrs shut) (log_name attrs fresh) (bytes_in attrs current.first (length records) records) bytes files
    (closed_apart attrs shut fresh refl refl) change.free (subst (λ es. Stand es files) before change.stand) q)

-- the oldest of several goes
change_rotated : (attrs : StreamAttrs) (oldest : LogFile) (front : List LogFile) (current : LogFile) (records : List (List ℕ)) (bytes : List ℕ) (opened : ℕ) (files : Files) (stamps : Stamps) (q : List ℕ)
    → IsChange attrs (oldest ∷ front) current records opened files stamps → attrs.rotated ≡ length front + 2 → ChangeLaw attrs (oldest ∷ front) current records bytes files stamps q
change_rotated attrs oldest front current records bytes opened files stamps q change kept =
    let out = change.out in
    let all = records ++ bytes ∷ [] in
    let shut = file_closed stamps.closed current in
    let fresh = fresh_file stamps records bytes in
    let rest = (front ++ shut ∷ []) ++ fresh ∷ [] in
    let named = (front ++ shut ∷ []) ++ open_file stamps.created ∷ [] in
    let long : length rest ≡ length front + 2 = length_push (front ++ shut ∷ []) fresh ∙ ap (λ l. l + 1) (length_push front shut) ∙ omega arith in
    let long' : length named ≡ length front + 2 = length_push (front ++ shut ∷ []) (open_file stamps.created) ∙ ap (λ l. l + 1) (length_push front shut) ∙ omega arith in
    let one : suc (length rest) - attrs.rotated ≡ 1 = omega arith in
    let stays : standing attrs (oldest ∷ rest) ≡ rest =
    ap (λ a. drop (length (oldest ∷ rest) - most_files a attrs.rotated) (oldest ∷ rest)) change.rotates ∙ ap (λ k. drop k (oldest ∷ rest)) one in
    let after = ap (log_entries attrs all) stays
    ∙ changed_entries attrs front shut stamps records bytes change.rotates (shut_follow (length records) front shut out.follow.1 out.within) in
    let entries = entries_to attrs records current.first front in
    let bytes_old = bytes_in attrs current.first (length records) records in
    let gone_bytes = bytes_in attrs oldest.first (next_first front current.first) records in
    let split = entries_to-cons attrs records current.first oldest front in
    let before : log_entries attrs records (oldest ∷ front ++ current ∷ []) ≡ (log_name attrs oldest, gone_bytes) ∷ entries ++ (log_name attrs current, bytes_old) ∷ [] =
    log_entries-last attrs records (oldest ∷ front) current
    ∙ ap (λ es. es ++ (log_name attrs current, bytes_old) ∷ []) split in
    let first = out.made_first oldest front refl in
    let stamp = All-head (λ (file : LogFile). IsStamp file.created) oldest front out.stamps in
    let stamps_behind = All-tail (λ (file : LogFile). IsStamp file.created) oldest front out.stamps in
    let shut_first = All-head (λ (file : LogFile). is_some file.closed ≡ true) oldest front out.shut in
    let less = All-head (λ (file : LogFile). file.created <ℤ current.created) oldest front out.made_last in
    ap (λ gone. get (changed attrs current stamps bytes gone files) q) (removal_oldest attrs oldest named (omega arith))
    ∙ by_entries _ _ _ _ files q _ before after
    (carry_rotation (log_name attrs oldest) gone_bytes entries (log_name attrs current) (log_name attrs shut) (log_name attrs fresh) bytes_old bytes files
    (subst (λ es. entry_at es (log_name attrs current) ≡ None) split (absent_open attrs records current.first (oldest ∷ front) current out.shut out.unclosed))
    (subst (λ es. entry_at es (log_name attrs shut) ≡ None) split (absent_later attrs records current.first (oldest ∷ front) shut out.stamps out.stamp out.made_last))
    (subst (λ es. entry_at es (log_name attrs fresh) ≡ None) split (absent_open attrs records current.first (oldest ∷ front) fresh out.shut refl))
    (absent_earlier attrs records current.first front oldest stamps_behind stamp first)
    (closed_apart attrs shut fresh refl refl)
    (λ same. closed_apart attrs oldest fresh shut_first refl (sym same))
    (λ same. created_apart attrs oldest shut stamp out.stamp (unlike oldest.created current.created less) (sym same))
    (subst (λ es. Stand es files) before change.stand) q)

pub change_law : (attrs : StreamAttrs) (front : List LogFile) (current : LogFile) (records : List (List ℕ)) (bytes : List ℕ) (opened : ℕ) (files : Files) (stamps : Stamps) (q : List ℕ)
    → IsChange attrs front current records opened files stamps → ChangeLaw attrs front current records bytes files stamps q
change_law attrs [] current records bytes opened files stamps q change =
    elim (cases_lt 1 attrs.rotated) [
      | inl few ↦ change_kept attrs [] current records bytes opened files stamps q change few
      | inr full ↦ let kept = change.out.kept in change_sole attrs current records bytes opened files stamps q change (omega arith)
    ]
change_law attrs (oldest ∷ front) current records bytes opened files stamps q change =
    let count = change.out.count ∙ ap (λ a. count_standing a attrs.rotated opened) change.rotates in
    elim (cases_lt (suc (length front) + 1) attrs.rotated) [
      | inl few ↦ change_kept attrs (oldest ∷ front) current records bytes opened files stamps q change few
      | inr full ↦ change_rotated attrs oldest front current records bytes opened files stamps q change (omega arith)
    ]
