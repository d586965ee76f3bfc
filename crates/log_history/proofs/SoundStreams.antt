-- Every stream of a history is sound.
use Rattle.std.proofs.Common.{◌≡◌, ℕ, ◌≤◌, Bool, true, false, cond, List, [], ◌∷◌, refl, ap, sym, ◌∙◌, subst, arith}
use Rattle.std.specs.Prelude.{Option, Some, None}
use Rattle.std.specs.Option.{option_map_or}
use Rattle.std.specs.List.{find}
use Rattle.stream_config.specs.declared.attrs.StreamName.TheVariants as name
use Rattle.stream_config.specs.Stamps.{stamp_after}
use Rattle.log_history.specs.Firsts.{change_first}
use Rattle.log_history.specs.Changes.{LogChange, Began, Opened, Stored, Filtered, Closed, Ended}
use Rattle.log_history.specs.Chronicle.{LogSetup, Stream, new_stream, lives, is_living, files_had, length_next, is_due, is_ending, with_record, last_with_record, last_of_ends, chronicle}
use Rattle.log_history.specs.Rounds.{last_of}
use Rattle.log_history.specs.Answers.{lacks_room}
use Rattle.record_print.specs.declared.record.LogRecord.{LogRecord}
use Rattle.ais_values.proofs.Basics.{none_from}
use Rattle.std.proofs.lemmas.Bool.{and_parts}
use Rattle.log_history.proofs.AnswerLaws.{makes-stream}
use Rattle.log_history.specs.Legal.{IsLogHistory}
use Rattle.log_history.proofs.FirstLaws.{Each, Each-find, Each-push, Each-weaker}
use Rattle.log_history.proofs.EndLaws.{Each-all_ended}
use Rattle.log_history.proofs.Reaching.{Passes, reached}
use Rattle.log_history.proofs.StreamLaws.{IsSoundStream, sound-later, sound-ended, sound-recorded, last-grows, new-sound}

module _ {X : Type 0} (P Q : X → Type 0) where
  pub Each-both : (xs : List X) → Each P xs → Each Q xs → Each (λ x. P x × Q x) xs
  Each-both [] one other = tt
  Each-both (x ∷ xs) one other = ((one.0, other.0), Each-both xs one.1 other.1)

  -- the first element that passes is changed, and the others stay
  Each-first : (test : X → Bool) (change : X → X) → ((x : X) → P x → Q x) → (xs : List X) → ((x : X) → find test xs ≡ Some x → P x → Q (change x)) → Each P xs → Each Q (change_first test change xs)
  Each-first test change weaker [] at each = tt
  Each-first test change weaker (x ∷ xs) at each = by_case (test x) refl (λ later. Each-first test change weaker xs later each.1) where
    by_case : (b : Bool) → test x ≡ b → (((y : X) → find test xs ≡ Some y → P y → Q (change y)) → Each Q (change_first test change xs)) → Each Q (cond b (change x ∷ xs) (x ∷ change_first test change xs))
    by_case true is behind =
        (at x (ap (λ c. cond c (Some x) (find test xs)) is) each.0, Each-weaker P Q weaker xs each.1)
    by_case false is behind =
        (weaker x each.0, behind (λ y found. at y (ap (λ c. cond c (Some x) (find test xs)) is ∙ found)))

pub due-grows : (due : Bool) (last second : ℕ) → last ≤ cond due (stamp_after (stamp_after last second) second) last
due-grows true last second = omega arith
due-grows false last second = omega arith

pub stored-grows : (last second : ℕ) (rec : LogRecord) (found : Option Stream) → last ≤ option_map_or (last_with_record last second rec) found last
stored-grows last second rec None = omega arith
stored-grows last second rec (Some stream) = due-grows (is_due stream rec) last second

-- **every stream of a history is sound**
pub sound : (setup : LogSetup) (past : List LogChange) → IsLogHistory setup past → Each (IsSoundStream (chronicle setup past).last) (chronicle setup past).streams
sound setup [] legal =
    let last = (chronicle setup []).last in (
      new-sound name.Alarm setup.alarm setup.start last (omega arith) legal.alarm.some_rotated,
      (
        new-sound name.Notification setup.notification (stamp_after setup.start setup.start) last (omega arith) legal.notification.some_rotated,
        (new-sound name.System setup.system last last (omega arith) legal.system.some_rotated, tt),
      ),
    )
sound setup (Began client ∷ past) legal = sound setup past legal.1
sound setup (Opened client opened None second number ∷ past) legal = sound setup past legal.1
sound setup (Opened client opened (Some attrs) second number ∷ past) legal =
    let last = (chronicle setup past).last in
    let streams = (chronicle setup past).streams in
    let later = stamp_after last second in
    let makes = makes-stream setup past client opened attrs legal.0.0 legal.0.1 in
    Each-push (IsSoundStream later) streams (new_stream opened attrs later)
    (Each-weaker (IsSoundStream last) (IsSoundStream later) (λ stream is. sound-later last later stream (omega arith) is) streams (sound setup past legal.1))
    (new-sound opened attrs later later (omega arith) makes.passes.some_rotated)
sound setup (Stored stored rec second ∷ past) legal =
    let last = (chronicle setup past).last in
    let streams = (chronicle setup past).streams in
    let test = is_living stored in
    let later = option_map_or (last_with_record last second rec) (find test streams) last in
    Each-first (λ stream. IsSoundStream last stream × Passes stream) (IsSoundStream later) test (with_record last second rec)
    (λ stream is. sound-later last later stream (stored-grows last second rec (find test streams)) is.0) streams
    (λ stream found is.
    let living = and_parts (lives stream) _ (Each-find Passes test streams stream (reached setup past legal.1).passing found).1 in
    subst (λ l. IsSoundStream l (with_record last second rec stream)) (sym (ap (λ f. option_map_or (last_with_record last second rec) f last) found))
    (sound-recorded last second rec stream is.1 (none_from stream.ended living.0)
    (sym (ap (λ f. option_map_or (λ (s : Stream). lacks_room s.attrs (last_of (files_had s)).bytes (length_next s rec)) f false) found) ∙ legal.0.1)
    is.0))
    (Each-both (IsSoundStream last) Passes streams (sound setup past legal.1) (reached setup past legal.1).passing)
sound setup (Filtered client filtered mask number ∷ past) legal = sound setup past legal.1
sound setup (Closed client closed second ∷ past) legal =
    let last = (chronicle setup past).last in
    let streams = (chronicle setup past).streams in
    let ends = is_ending (Closed client closed second ∷ past) in
    let later = last_of_ends ends last second streams in
    Each-weaker (IsSoundStream last) (IsSoundStream later) (λ stream is. sound-later last later stream (last-grows ends last second streams) is)
    (chronicle setup (Closed client closed second ∷ past)).streams
    (Each-all_ended (IsSoundStream last) (λ stamp stream is. sound-ended last stamp stream is) ends last second streams (sound setup past legal.1))
sound setup (Ended client second ∷ past) legal =
    let last = (chronicle setup past).last in
    let streams = (chronicle setup past).streams in
    let ends = is_ending (Ended client second ∷ past) in
    let later = last_of_ends ends last second streams in
    Each-weaker (IsSoundStream last) (IsSoundStream later) (λ stream is. sound-later last later stream (last-grows ends last second streams) is)
    (chronicle setup (Ended client second ∷ past)).streams
    (Each-all_ended (IsSoundStream last) (λ stamp stream is. sound-ended last stamp stream is) ends last second streams (sound setup past legal.1))
