-- All stamps of a service differ: each new one comes behind all others.
use Rattle.std.proofs.Common.{◌≡◌, inl, inr, ℕ, ◌<◌, Bool, true, false, ◌&&◌, cond, List, [], ◌∷◌, ◌++◌, refl, ap, sym, ◌∙◌, subst, arith, append_assoc, append-nil}
use Rattle.std.specs.Prelude.{Option, Some, None}
use Rattle.std.specs.Option.{option_map_or, option_to_list}
use Rattle.std.specs.List.{find}
use Rattle.std.proofs.lemmas.Bool.{and_parts}
use Rattle.stream_config.specs.declared.attrs.StreamAttrs.{StreamAttrs}
use Rattle.stream_config.specs.declared.attrs.StreamName.{StreamName}
use Rattle.stream_config.specs.declared.attrs.StreamName.TheVariants as name
use Rattle.stream_config.specs.Stamps.{stamp_after}
use Rattle.record_print.specs.declared.record.LogRecord.{LogRecord}
use Rattle.log_history.specs.Firsts.{change_first}
use Rattle.log_history.specs.Changes.{LogChange, Began, Opened, Stored, Filtered, Closed, Ended}
use Rattle.log_history.specs.Chronicle.{LogSetup, Stream, new_stream, lives, is_living, is_due, is_idle, with_record, last_with_record, with_end, all_ended, last_of_ends, chronicle}
use Rattle.log_history.specs.Stamps.{stamps_of_full, stamps_in, stamps_of_all}
use Rattle.log_history.proofs.OnceLaws.{AreStamps, AreNew, inserted, none-new, one-new, two-new}
use Rattle.ais_values.proofs.Basics.{none_from}

pub stamps_of_full-append : (files more : List (ℕ × ℕ)) → stamps_of_full (files ++ more) ≡ stamps_of_full files ++ stamps_of_full more
stamps_of_full-append [] more = refl
stamps_of_full-append (file ∷ files) more = ap (λ rest. file.0 ∷ file.1 ∷ rest) (stamps_of_full-append files more)

pub stamps_of_all-append : (streams more : List Stream) → stamps_of_all (streams ++ more) ≡ stamps_of_all streams ++ stamps_of_all more
stamps_of_all-append [] more = refl
stamps_of_all-append (stream ∷ streams) more =
    ap (λ rest. stamps_in stream ++ rest) (stamps_of_all-append streams more)
    ∙ sym (append_assoc (stamps_in stream) (stamps_of_all streams) (stamps_of_all more))

-- the stamps of a stream stand between those of the streams before and behind it
pub stamps-around : (front behind : List Stream) (stream : Stream) → stamps_of_all (front ++ stream ∷ behind) ≡ stamps_of_all front ++ (stamps_in stream ++ stamps_of_all behind)
stamps-around front behind stream = stamps_of_all-append front (stream ∷ behind)

-- a stream that gets new stamps
pub changed : (last later : ℕ) (front behind : List Stream) (stream now : Stream) (new : List ℕ) → stamps_in now ≡ stamps_in stream ++ new → AreNew last later new → AreStamps last (stamps_of_all (front ++ stream ∷ behind)) → AreStamps later (stamps_of_all (front ++ now ∷ behind))
changed last later front behind stream now new is fresh are =
    let F = stamps_of_all front in
    let S = stamps_in stream in
    let B = stamps_of_all behind in
    let before : stamps_of_all (front ++ stream ∷ behind) ≡ (F ++ S) ++ B = stamps-around front behind stream ∙ sym (append_assoc F S B) in
    let after : (F ++ S) ++ (new ++ B) ≡ stamps_of_all (front ++ now ∷ behind) =
    append_assoc F S (new ++ B) ∙ ap (λ rest. F ++ rest) (sym (append_assoc S new B) ∙ ap (λ these. these ++ B) (sym is)) ∙ sym (stamps-around front behind now) in
    subst (AreStamps later) after (inserted last later (F ++ S) new B (subst (AreStamps last) before are) fresh)

-- a stream that is made
pub made : (last later : ℕ) (streams : List Stream) (opened : StreamName) (attrs : StreamAttrs) → last < later → AreStamps last (stamps_of_all streams) → AreStamps later (stamps_of_all (streams ++ new_stream opened attrs later ∷ []))
made last later streams opened attrs less are =
    let F = stamps_of_all streams in
    subst (AreStamps later) (sym (stamps_of_all-append streams (new_stream opened attrs later ∷ [])))
    (inserted last later F (later ∷ []) [] (subst (AreStamps last) (sym (append-nil F)) are) (one-new last later less))

-- the stamps that a record brings
abbrev pub stamps_by_record : Bool → (last second : ℕ) → List ℕ
stamps_by_record due last second =
    cond due (stamp_after last second ∷ stamp_after (stamp_after last second) second ∷ []) []

recorded-by : (due : Bool) (full : List (ℕ × ℕ)) (current closing created : ℕ) → stamps_of_full (cond due (full ++ (current, closing) ∷ []) full) ++ cond due created current ∷ [] ≡ (stamps_of_full full ++ current ∷ []) ++ cond due (closing ∷ created ∷ []) []
recorded-by false full current closing created = sym (append-nil (stamps_of_full full ++ current ∷ []))
recorded-by true full current closing created =
    ap (λ these. these ++ created ∷ []) (stamps_of_full-append full ((current, closing) ∷ []))
    ∙ append_assoc (stamps_of_full full) (current ∷ closing ∷ []) (created ∷ [])
    ∙ sym (append_assoc (stamps_of_full full) (current ∷ []) (closing ∷ created ∷ []))

pub stamps-recorded : (last second : ℕ) (rec : LogRecord) (stream : Stream) → stream.ended ≡ None → stamps_in (with_record last second rec stream) ≡ stamps_in stream ++ stamps_by_record (is_due stream rec) last second
stamps-recorded last second rec stream living =
    ap (λ (ended : Option ℕ). stamps_of_full (cond (is_due stream rec) (stream.full ++ (stream.current, stamp_after last second) ∷ []) stream.full) ++ cond (is_due stream rec) (stamp_after (stamp_after last second) second) stream.current ∷ option_to_list ended) living
    ∙ recorded-by (is_due stream rec) stream.full stream.current (stamp_after last second) (stamp_after (stamp_after last second) second)
    ∙ ap (λ (ended : Option ℕ). (stamps_of_full stream.full ++ stream.current ∷ option_to_list ended) ++ stamps_by_record (is_due stream rec) last second) (sym living)

pub new-by-record : (due : Bool) (last second : ℕ) → AreNew last (cond due (stamp_after (stamp_after last second) second) last) (stamps_by_record due last second)
new-by-record false last second = none-new last
new-by-record true last second =
    two-new last (stamp_after last second) (stamp_after (stamp_after last second) second) (omega arith) (omega arith)

pub stamps-ended : (closed : ℕ) (stream : Stream) → stream.ended ≡ None → stamps_in (with_end closed stream) ≡ stamps_in stream ++ closed ∷ []
stamps-ended closed stream living =
    sym (append_assoc (stamps_of_full stream.full) (stream.current ∷ []) (closed ∷ []))
    ∙ ap (λ (ended : Option ℕ). (stamps_of_full stream.full ++ stream.current ∷ option_to_list ended) ++ closed ∷ []) (sym living)

-- where a stream is found, it stands between others, and it alone is changed
pub record IsAmid {X : Type 0} (test : X → Bool) (xs : List X) (x : X) : Type 0 where
  pub front : List X
  pub behind : List X
  pub whole : xs ≡ front ++ x ∷ behind
  pub passes : test x ≡ true
  pub changed : (change : X → X) → change_first test change xs ≡ front ++ change x ∷ behind

pub amid : {X : Type 0} (test : X → Bool) (xs : List X) (x : X) → find test xs ≡ Some x → IsAmid test xs x
amid test [] x found = cc
amid {X} test (y ∷ xs) x found = by_case (test y) refl found (amid test xs x) where
  by_case : (b : Bool) → test y ≡ b → cond b (Some y) (find test xs) ≡ Some x → (find test xs ≡ Some x → IsAmid test xs x) → IsAmid test (y ∷ xs) x
  by_case true is same later =
      let e : y ≡ x = cc in
      record {
        front = [];
        behind = xs;
        whole = ap (λ (z : X). z ∷ xs) e;
        passes = ap test (sym e) ∙ is;
        changed = λ change. ap (λ b. cond b (change y ∷ xs) (y ∷ change_first test change xs)) is ∙ ap (λ (z : X). change z ∷ xs) e;
      }
  by_case false is same later =
      let there = later same in
      record {
        front = y ∷ there.front;
        behind = there.behind;
        whole = ap (λ rest. y ∷ rest) there.whole;
        passes = there.passes;
        changed = λ change. ap (λ b. cond b (change y ∷ xs) (y ∷ change_first test change xs)) is ∙ ap (λ rest. y ∷ rest) (there.changed change);
      }

-- and where none is found, nothing is changed
pub none-amid : {X : Type 0} (test : X → Bool) (change : X → X) (xs : List X) → find test xs ≡ None → change_first test change xs ≡ xs
none-amid test change [] none = refl
none-amid test change (y ∷ xs) none = by_case (test y) none (none-amid test change xs) where
  by_case : (b : Bool) → cond b (Some y) (find test xs) ≡ None → (find test xs ≡ None → change_first test change xs ≡ xs) → cond b (change y ∷ xs) (y ∷ change_first test change xs) ≡ y ∷ xs
  by_case true found later = cc
  by_case false none_behind later = ap (λ rest. y ∷ rest) (later none_behind)

stored-stamps : (name : StreamName) (last second : ℕ) (rec : LogRecord) (streams : List Stream) (found : Option Stream) → find (is_living name) streams ≡ found → AreStamps last (stamps_of_all streams) → AreStamps (option_map_or (last_with_record last second rec) found last) (stamps_of_all (change_first (is_living name) (with_record last second rec) streams))
stored-stamps name last second rec streams None none are =
    subst (λ these. AreStamps last (stamps_of_all these)) (sym (none-amid (is_living name) (with_record last second rec) streams none)) are
stored-stamps name last second rec streams (Some stream) found are =
    let there = amid (is_living name) streams stream found in
    let living = none_from stream.ended (and_parts (lives stream) _ there.passes).0 in
    subst (λ these. AreStamps (last_with_record last second rec stream) (stamps_of_all these)) (sym (there.changed (with_record last second rec)))
    (changed last (last_with_record last second rec stream) there.front there.behind stream (with_record last second rec stream)
    (stamps_by_record (is_due stream rec) last second) (stamps-recorded last second rec stream living) (new-by-record (is_due stream rec) last second)
    (subst (λ these. AreStamps last (stamps_of_all these)) there.whole are))

-- streams in front of those that are looked at
pub one-more : {X : Type 0} (front behind : List X) (x : X) → front ++ x ∷ behind ≡ (front ++ x ∷ []) ++ behind
one-more front behind x = sym (append_assoc front (x ∷ []) behind)

ended-stamps : (idle : Stream → Bool) (second last : ℕ) (front streams : List Stream) → AreStamps last (stamps_of_all (front ++ streams)) → AreStamps (last_of_ends (λ stream. lives stream && idle stream) last second streams) (stamps_of_all (front ++ all_ended (λ stream. lives stream && idle stream) last second streams))
ended-stamps idle second last front [] are = are
ended-stamps idle second last front (stream ∷ streams) are =
    by_case (lives stream && idle stream) refl (λ l these h. ended-stamps idle second l these streams h) where
      by_case : (b : Bool) → (lives stream && idle stream) ≡ b → ((l : ℕ) (these : List Stream) → AreStamps l (stamps_of_all (these ++ streams)) → AreStamps (last_of_ends (λ s. lives s && idle s) l second streams) (stamps_of_all (these ++ all_ended (λ s. lives s && idle s) l second streams))) → AreStamps (last_of_ends (λ s. lives s && idle s) (cond b (stamp_after last second) last) second streams) (stamps_of_all (front ++ cond b (with_end (stamp_after last second) stream ∷ all_ended (λ s. lives s && idle s) (stamp_after last second) second streams) (stream ∷ all_ended (λ s. lives s && idle s) last second streams)))
      by_case true is behind =
          let later = stamp_after last second in
          let now = with_end later stream in
          let living = none_from stream.ended (and_parts (lives stream) (idle stream) is).0 in
          let here = changed last later front streams stream now (later ∷ []) (stamps-ended later stream living) (one-new last later (omega arith)) are in
          subst (λ these. AreStamps (last_of_ends (λ s. lives s && idle s) later second streams) (stamps_of_all these)) (sym (one-more front (all_ended (λ s. lives s && idle s) later second streams) now))
          (behind later (front ++ now ∷ []) (subst (λ these. AreStamps later (stamps_of_all these)) (one-more front streams now) here))
      by_case false is behind =
          subst (λ these. AreStamps (last_of_ends (λ s. lives s && idle s) last second streams) (stamps_of_all these)) (sym (one-more front (all_ended (λ s. lives s && idle s) last second streams) stream))
          (behind last (front ++ stream ∷ []) (subst (λ these. AreStamps last (stamps_of_all these)) (one-more front streams stream) are))

-- **all stamps of a history differ, and none is behind the last one**
pub stamped : (setup : LogSetup) (past : List LogChange) → AreStamps (chronicle setup past).last (stamps_of_all (chronicle setup past).streams)
stamped setup [] =
    let alarm = setup.start in
    let notification = stamp_after alarm setup.start in
    let system = stamp_after notification setup.start in
    let first = new_stream name.Alarm setup.alarm alarm in
    let one : AreStamps alarm (stamps_of_all (first ∷ [])) = record { upto = λ stamp there. elim there [ inl same ↦ omega (arith, same) | inr none ↦ absurd none ]; once = ((λ none. none), tt) } in
    let two = made alarm notification (first ∷ []) name.Notification setup.notification (omega arith) one in
    made notification system (first ∷ new_stream name.Notification setup.notification notification ∷ []) name.System setup.system (omega arith) two
stamped setup (Began client ∷ past) = stamped setup past
stamped setup (Opened client opened None second number ∷ past) = stamped setup past
stamped setup (Opened client opened (Some attrs) second number ∷ past) =
    made (chronicle setup past).last (stamp_after (chronicle setup past).last second) (chronicle setup past).streams opened attrs (omega arith) (stamped setup past)
stamped setup (Stored stored rec second ∷ past) =
    stored-stamps stored (chronicle setup past).last second rec (chronicle setup past).streams (find (is_living stored) (chronicle setup past).streams) refl (stamped setup past)
stamped setup (Filtered client filtered mask number ∷ past) = stamped setup past
stamped setup (Closed client closed second ∷ past) =
    ended-stamps (is_idle (Closed client closed second ∷ past)) second (chronicle setup past).last [] (chronicle setup past).streams (stamped setup past)
stamped setup (Ended client second ∷ past) =
    ended-stamps (is_idle (Ended client second ∷ past)) second (chronicle setup past).last [] (chronicle setup past).streams (stamped setup past)
