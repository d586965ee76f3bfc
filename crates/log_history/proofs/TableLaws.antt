-- What the service keeps after one more change is what the change makes of what it kept before.
use Rattle.std.proofs.Common.{◌≡◌, ℕ, ◌≤◌, ◌==◌, nat_lt, Bool, true, false, not, ◌&&◌, cond, List, [], ◌∷◌, ◌++◌, map, refl, ap, sym, ◌∙◌}
use Rattle.std.specs.Prelude.{Option, Some, None, option_map, filter}
use Rattle.std.specs.Option.{option_map_or}
use Rattle.std.specs.List.{find}
use Rattle.std.proofs.lemmas.List.{map-append}
use Rattle.std.proofs.lemmas.List.Elements.{filter-append}
use Rattle.client_set.specs.Rising.{put, without}
use Rattle.stream_config.specs.declared.attrs.StreamAttrs.{StreamAttrs}
use Rattle.stream_config.specs.declared.attrs.StreamName.{StreamName}
use Rattle.record_print.specs.declared.record.LogRecord.{LogRecord}
use Rattle.stream_config.specs.declared.state.StreamState.{StreamState}
use Rattle.stream_config.specs.Fit.{changes_file}
use Rattle.stream_config.specs.Equality.{same_name}
use Rattle.stream_config.specs.Marks.{made_mark}
use Rattle.stream_config.specs.Events.{state_after}
use Rattle.stream_config.specs.Stamps.{stamp_after}
use Rattle.stream_config.proofs.Equalities.{decides_name}
use Rattle.log_history.specs.Firsts.{change_first}
use Rattle.log_history.specs.Changes.{LogChange, Began, Opened, Stored, Filtered, Closed, Ended}
use Rattle.log_history.specs.Handles.{users, openers}
use Rattle.stream_config.specs.declared.mark.Mark.{Mark}
use Rattle.log_history.specs.Marks.{mark_after}
use Rattle.log_history.specs.Chronicle.{LogSetup, Stream, Chronicle, new_stream, lives, is_living, length_next, is_due, is_idle, is_ending, with_record, last_with_record, all_ended, last_of_ends, after_ends, chronicle}
use Rattle.log_history.specs.Answers.{living_stream}
use Rattle.log_history.specs.Legal.{IsLogHistory}
use Rattle.log_history.specs.Table.{OpenStream, LogTable, state_of, open_stream, table, is_named, with_opener, with_mark, without_opener, new_state, is_changing, last_after_due, storing, with_stored, has_nobody, last_after_ends, kept_streams, closed_streams, left_streams, opened_stream, table_after}
use Rattle.log_history.proofs.FirstLaws.{none_is, Each, Each-find, Each-weaker, Each-filter, AtMostOne, AtMostOne-filter, find-filter, filter-change_first, find-map, filter-map, map-change_first, map-beside, map-at_first}
use Rattle.log_history.proofs.AnswerLaws.{makes-stream}
use Rattle.log_history.proofs.EndLaws.{filter-all_ended}
use Rattle.log_history.proofs.Reaching.{Passes, reached}
use Rattle.log_history.proofs.StepLaws.{HasFull, bytes-standing, state-recorded}
use Rattle.log_history.proofs.StreamLaws.{IsSoundStream, made-is}
use Rattle.log_history.proofs.SoundStreams.{Each-both, sound}
use Rattle.ais_values.proofs.Basics.{none_from}

same_table : (last last' : ℕ) (users users' : List ℕ) (streams streams' : List OpenStream) → last ≡ last' → users ≡ users' → streams ≡ streams' → let kept : LogTable = record { last = last; users = users; streams = streams } in let kept' : LogTable = record { last = last'; users = users'; streams = streams' } in kept ≡ kept'
same_table last last' users users' streams streams' one two three =
    ap (λ (x : ℕ). let kept : LogTable = record { last = x; users = users; streams = streams } in kept) one
    ∙ ap (λ (x : List ℕ). let kept : LogTable = record { last = last'; users = x; streams = streams } in kept) two
    ∙ ap (λ (x : List OpenStream). let kept : LogTable = record { last = last'; users = users'; streams = x } in kept) three

-- the living streams, and those of a name among them
abbrev pub living : List Stream → List Stream
living streams = filter lives streams

abbrev is_called : StreamName → Stream → Bool
is_called name stream = same_name stream.name name

pub find-living : (name : StreamName) (past : List LogChange) (streams : List Stream) → find (is_named name) (map (open_stream past) (living streams)) ≡ option_map (open_stream past) (find (is_living name) streams)
find-living name past streams =
    find-map (open_stream past) (is_called name) (is_named name) (λ _. refl) (living streams)
    ∙ ap (option_map (open_stream past)) (sym (find-filter lives (is_called name) streams))

-- who opens a stream that lives joins its openers alone
opened-streams : (past : List LogChange) (client : ℕ) (name : StreamName) (second number : ℕ) (streams : List Stream) → AtMostOne (is_living name) streams → map (open_stream (Opened client name None second number ∷ past)) (living streams) ≡ change_first (is_named name) (with_opener client) (map (open_stream past) (living streams))
opened-streams past client name second number streams single =
    map-at_first (open_stream past) (is_called name) (is_named name) (λ _. refl) (open_stream (Opened client name None second number ∷ past)) (with_opener client)
    (λ stream is. ap (λ b. let opened : OpenStream = record { state = state_of stream; openers = cond b (put nat_lt client (openers past stream.name)) (openers past stream.name); mark = mark_after past stream.name } in opened) is)
    (λ stream is. ap (λ b. let opened : OpenStream = record { state = state_of stream; openers = cond b (put nat_lt client (openers past stream.name)) (openers past stream.name); mark = mark_after past stream.name } in opened) is)
    (living streams) (AtMostOne-filter lives (is_called name) streams single)

pub closed-streams : (past : List LogChange) (client : ℕ) (name : StreamName) (second : ℕ) (streams : List Stream) → AtMostOne (is_living name) streams → map (open_stream (Closed client name second ∷ past)) (living streams) ≡ closed_streams client name (map (open_stream past) (living streams))
closed-streams past client name second streams single =
    map-at_first (open_stream past) (is_called name) (is_named name) (λ _. refl) (open_stream (Closed client name second ∷ past)) (without_opener client)
    (λ stream is. ap (λ b. let closed : OpenStream = record { state = state_of stream; openers = cond b (without (λ other. other == client) (openers past stream.name)) (openers past stream.name); mark = mark_after past stream.name } in closed) is)
    (λ stream is. ap (λ b. let closed : OpenStream = record { state = state_of stream; openers = cond b (without (λ other. other == client) (openers past stream.name)) (openers past stream.name); mark = mark_after past stream.name } in closed) is)
    (living streams) (AtMostOne-filter lives (is_called name) streams single)

pub left-streams : (past : List LogChange) (client second : ℕ) (streams : List Stream) → map (open_stream (Ended client second ∷ past)) streams ≡ left_streams client (map (open_stream past) streams)
left-streams past client second [] = refl
left-streams past client second (stream ∷ streams) =
    ap (λ rest. open_stream (Ended client second ∷ past) stream ∷ rest) (left-streams past client second streams)

-- a stream that is made stands behind the others, which stay as they are
made-streams : (past : List LogChange) (client : ℕ) (name : StreamName) (attrs : StreamAttrs) (second number created : ℕ) (streams : List Stream) → find (is_living name) streams ≡ None → openers past name ≡ [] → 1 ≤ attrs.rotated → map (open_stream (Opened client name (Some attrs) second number ∷ past)) (living (streams ++ new_stream name attrs created ∷ [])) ≡ map (open_stream past) (living streams) ++ opened_stream client name attrs created number ∷ []
made-streams past client name attrs second number created streams new nobody some =
    let now = open_stream (Opened client name (Some attrs) second number ∷ past) in
    let stream = new_stream name attrs created in
    let none : find (is_called name) (living streams) ≡ None = sym (find-filter lives (is_called name) streams) ∙ new in
    let others : map now (living streams) ≡ map (open_stream past) (living streams) =
    map-beside (open_stream past) (is_called name) (is_named name) (λ _. refl) now
    (λ other is. ap (λ b. let opened : OpenStream = record { state = state_of other; openers = cond b (put nat_lt client (openers past other.name)) (openers past other.name); mark = cond b (made_mark number) (mark_after past other.name) } in opened) is)
    (living streams) none in
    let made_openers : cond (same_name name name) (put nat_lt client (openers past name)) (openers past name) ≡ client ∷ [] =
    ap (λ b. cond b (put nat_lt client (openers past name)) (openers past name)) ((decides_name name name).1 refl) ∙ ap (put nat_lt client) nobody in
    let made : now stream ≡ opened_stream client name attrs created number =
    ap (λ (state : StreamState). let opened : OpenStream = record { state = state; openers = cond (same_name name name) (put nat_lt client (openers past name)) (openers past name); mark = cond (same_name name name) (made_mark number) (mark_after past name) } in opened) (made-is name attrs created some)
    ∙ ap (λ (clients : List ℕ). let opened : OpenStream = record { state = new_state name attrs created; openers = clients; mark = cond (same_name name name) (made_mark number) (mark_after past name) } in opened) made_openers
    ∙ ap (λ b. let opened : OpenStream = record { state = new_state name attrs created; openers = client ∷ []; mark = cond b (made_mark number) (mark_after past name) } in opened) ((decides_name name name).1 refl) in
    ap (map now) (filter-append lives streams (stream ∷ []))
    ∙ map-append now (living streams) (stream ∷ [])
    ∙ ap (λ front. front ++ now stream ∷ []) others
    ∙ ap (λ last. map (open_stream past) (living streams) ++ last ∷ []) made

-- a record stored in a stream that lives is stored in what is kept of it
stored-stream : (past past' : List LogChange) (last second : ℕ) (rec : LogRecord) (stream : Stream) → openers past' stream.name ≡ openers past stream.name → mark_after past' stream.name ≡ mark_after past stream.name → Passes stream → stream.ended ≡ None → HasFull stream → open_stream past' (with_record last second rec stream) ≡ with_stored last second rec (open_stream past stream)
stored-stream past past' last second rec stream same marked passes living full =
    ap (λ (state : StreamState). let opened : OpenStream = record { state = state; openers = openers past' stream.name; mark = mark_after past' stream.name } in opened) (state-recorded last second rec stream passes.sizes passes.some_rotated living full)
    ∙ ap (λ (clients : List ℕ). let opened : OpenStream = record { state = state_after (storing last second rec (state_of stream)); openers = clients; mark = mark_after past' stream.name } in opened) same
    ∙ ap (λ (mark : Mark). let opened : OpenStream = record { state = state_after (storing last second rec (state_of stream)); openers = openers past stream.name; mark = mark } in opened) marked

-- a mask that is set is the mark of its stream alone
filtered-streams : (past : List LogChange) (client : ℕ) (name : StreamName) (mask number : ℕ) (streams : List Stream) → AtMostOne (is_living name) streams → map (open_stream (Filtered client name mask number ∷ past)) (living streams) ≡ change_first (is_named name) (with_mark (record { since = number; mask = mask })) (map (open_stream past) (living streams))
filtered-streams past client name mask number streams single =
    map-at_first (open_stream past) (is_called name) (is_named name) (λ _. refl) (open_stream (Filtered client name mask number ∷ past)) (with_mark (record { since = number; mask = mask }))
    (λ stream is. ap (λ b. let filtered : OpenStream = record { state = state_of stream; openers = openers past stream.name; mark = cond b (record { since = number; mask = mask }) (mark_after past stream.name) } in filtered) is)
    (λ stream is. ap (λ b. let filtered : OpenStream = record { state = state_of stream; openers = openers past stream.name; mark = cond b (record { since = number; mask = mask }) (mark_after past stream.name) } in filtered) is)
    (living streams) (AtMostOne-filter lives (is_called name) streams single)

-- the attributes pass, and as many files are full as the records ask for
abbrev pub KeepsFull : Stream → Type 0
KeepsFull stream = Passes stream × HasFull stream

-- the streams once a record is stored
stored-streams : (past past' : List LogChange) (name : StreamName) (last second : ℕ) (rec : LogRecord) (streams : List Stream) → ((other : StreamName) → openers past' other ≡ openers past other) → ((other : StreamName) → mark_after past' other ≡ mark_after past other) → Each KeepsFull streams → map (open_stream past') (living (change_first (is_living name) (with_record last second rec) streams)) ≡ change_first (is_named name) (with_stored last second rec) (map (open_stream past) (living streams))
stored-streams past past' name last second rec streams same marked passing =
    let kept : Each (λ stream. KeepsFull stream × (lives stream ≡ true)) (living streams) = Each-filter KeepsFull lives streams passing in
    ap (map (open_stream past')) (filter-change_first lives (is_called name) (with_record last second rec) (λ _. refl) streams)
    ∙ map-change_first (open_stream past') (is_called name) (is_named name) (λ _. refl) (λ stream. KeepsFull stream × (lives stream ≡ true)) (with_record last second rec) (with_stored last second rec)
    (λ stream holds. stored-again stream holds) (living streams) kept
    ∙ ap (λ front. change_first (is_named name) (with_stored last second rec) front) (map-same (living streams)) where
      map-same : (these : List Stream) → map (open_stream past') these ≡ map (open_stream past) these
      map-same [] = refl
      map-same (stream ∷ these) =
          ap (λ (clients : List ℕ). let first : OpenStream = record { state = state_of stream; openers = clients; mark = mark_after past' stream.name } in first ∷ map (open_stream past') these) (same stream.name)
          ∙ ap (λ (mark : Mark). let first : OpenStream = record { state = state_of stream; openers = openers past stream.name; mark = mark } in first ∷ map (open_stream past') these) (marked stream.name)
          ∙ ap (λ rest. open_stream past stream ∷ rest) (map-same these)

      stored-again : (stream : Stream) → KeepsFull stream × (lives stream ≡ true) → open_stream past' (with_record last second rec stream) ≡ with_stored last second rec (open_stream past' stream)
      stored-again stream holds =
          stored-stream past' past' last second rec stream refl refl holds.0.0 (none_from stream.ended holds.1) holds.0.1

-- the last stamp once a record is stored
pub changing-is : (rec : LogRecord) (stream : Stream) → Passes stream → is_changing (state_of stream) rec ≡ is_due stream rec
changing-is rec stream passes = ap (λ bytes. changes_file stream.attrs bytes (length_next stream rec)) (bytes-standing stream passes.some_rotated)

stored-last : (past : List LogChange) (name : StreamName) (last second : ℕ) (rec : LogRecord) (streams : List Stream) → Each Passes streams → option_map_or (last_with_record last second rec) (find (is_living name) streams) last ≡ option_map_or (λ (stream : OpenStream). last_after_due last second rec stream.state) (find (is_named name) (map (open_stream past) (living streams))) last
stored-last past name last second rec streams passing =
    by_found (find (is_living name) streams) refl
    ∙ ap (λ found. option_map_or (λ (stream : OpenStream). last_after_due last second rec stream.state) found last) (sym (find-living name past streams)) where
      by_found : (found : Option Stream) → find (is_living name) streams ≡ found → option_map_or (last_with_record last second rec) found last ≡ option_map_or (λ (stream : OpenStream). last_after_due last second rec stream.state) (option_map (open_stream past) found) last
      by_found None is = refl
      by_found (Some stream) is =
          let here = Each-find Passes (is_living name) streams stream passing is in
          ap (λ b. cond b (stamp_after (stamp_after last second) second) last) (sym (changing-is rec stream here.0))

-- the streams that live once those that nobody has open have ended
ended-streams : (past : List LogChange) (last second : ℕ) (streams : List Stream) → map (open_stream past) (living (all_ended (is_ending past) last second streams)) ≡ kept_streams (map (open_stream past) (living streams))
ended-streams past last second streams =
    ap (map (open_stream past)) (filter-all_ended (is_idle past) last second streams)
    ∙ sym (filter-map (open_stream past) (λ stream. not (is_idle past stream)) (λ stream. not (has_nobody stream)) (λ _. refl) (living streams))

-- and the last stamp
ended-last : (past : List LogChange) (last second : ℕ) (streams : List Stream) → last_of_ends (is_ending past) last second streams ≡ last_after_ends last second (map (open_stream past) (living streams))
ended-last past last second [] = refl
ended-last past last second (stream ∷ streams) =
    elim (lives stream) as (λ b. last_of_ends (is_ending past) (cond (b && is_idle past stream) (stamp_after last second) last) second streams ≡ last_after_ends last second (map (open_stream past) (cond b (stream ∷ living streams) (living streams)))) [
      | true ↦ ended-last past (cond (is_idle past stream) (stamp_after last second) last) second streams
      | false ↦ ended-last past last second streams
    ]

-- what is kept once streams have ended, of changes by which the kept streams are these
ended-table : (setup : LogSetup) (past : List LogChange) (second : ℕ) (before : Chronicle) (kept : List OpenStream) → map (open_stream past) (living before.streams) ≡ kept → ((after_ends past second before).last ≡ last_after_ends before.last second kept) × (map (open_stream past) (living (after_ends past second before).streams) ≡ kept_streams kept)
ended-table setup past second before kept is = (
  ended-last past before.last second before.streams ∙ ap (last_after_ends before.last second) is,
  ended-streams past before.last second before.streams ∙ ap kept_streams is,
)

-- **one more change carries what is kept as it should**
pub table-after : (setup : LogSetup) (change : LogChange) (past : List LogChange) → IsLogHistory setup (change ∷ past) → table setup (change ∷ past) ≡ table_after change (table setup past)
table-after setup (Began client) past legal = refl
table-after setup (Opened client name None second number) past legal =
    let before = reached setup past legal.1 in
    let now = chronicle setup past in
    same_table now.last now.last (users past) (users past) _ _ refl refl
    (opened-streams past client name second number now.streams (before.single name))
table-after setup (Opened client name (Some attrs) second number) past legal =
    let before = reached setup past legal.1 in
    let now = chronicle setup past in
    let new = none_is (living_stream setup past name) legal.0.0 in
    let makes = makes-stream setup past client name attrs legal.0.0 legal.0.1 in
    same_table (stamp_after now.last second) (stamp_after now.last second) (users past) (users past) _ _ refl refl
    (made-streams past client name attrs second number (stamp_after now.last second) now.streams new (before.unopened name new) makes.passes.some_rotated)
table-after setup (Stored name rec second) past legal =
    let before = reached setup past legal.1 in
    let now = chronicle setup past in
    let last = now.last in
    same_table _ _ (users past) (users past) _ _ (stored-last past name now.last second rec now.streams before.passing) refl
    (stored-streams past (Stored name rec second ∷ past) name now.last second rec now.streams (λ _. refl) (λ _. refl)
    (Each-both Passes HasFull now.streams before.passing (Each-weaker (IsSoundStream last) HasFull (λ stream is. is.count) now.streams (sound setup past legal.1))))
table-after setup (Filtered client name mask number) past legal =
    let before = reached setup past legal.1 in
    let now = chronicle setup past in
    same_table now.last now.last (users past) (users past) _ _ refl refl
    (filtered-streams past client name mask number now.streams (before.single name))
table-after setup (Closed client name second) past legal =
    let before = reached setup past legal.1 in
    let now = chronicle setup past in
    let ended = ended-table setup (Closed client name second ∷ past) second now (closed_streams client name (map (open_stream past) (living now.streams))) (closed-streams past client name second now.streams (before.single name)) in
    same_table _ _ (users past) (users past) _ _ ended.0 refl ended.1
table-after setup (Ended client second) past legal =
    let now = chronicle setup past in
    let ended = ended-table setup (Ended client second ∷ past) second now (left_streams client (map (open_stream past) (living now.streams))) (left-streams past client second (living now.streams)) in
    same_table _ _ (users (Ended client second ∷ past)) (users (Ended client second ∷ past)) _ _ ended.0 refl ended.1
