-- What holds of each living stream of a history.
use Rattle.std.proofs.Common.{◌≡◌, ℕ, suc, ◌≤◌, true, List, [], ◌∷◌, length, arith, length-append}
use Rattle.std.specs.Prelude.{Some, None, filter}
use Rattle.std.specs.List.{AllByRecursion}
use Rattle.stream_config.specs.Stamps.{stamp_after}
use Rattle.log_history.specs.Changes.{LogChange, Began, Opened, Stored, Filtered, Closed, Ended}
use Rattle.log_history.specs.Chronicle.{LogSetup, Stream, new_stream, lives, is_living, is_ending, with_record, chronicle}
use Rattle.log_history.specs.Legal.{IsLogHistory}
use Rattle.log_history.proofs.EndLaws.{Each-all_ended}
use Rattle.log_history.proofs.FirstLaws.{Each, Each-push, Each-weaker}
use Rattle.log_history.proofs.Reaching.{Passes, reached}
use Rattle.plain_service.proofs.ListLaws.{Each-becoming, each-of, each-filter}
use Rattle.log_history.proofs.StreamLaws.{IsSoundStream}
use Rattle.log_history.proofs.SoundStreams.{Each-both, sound}

-- a stream has taken no more records than changes were made

abbrev pub HasFew : ℕ → Stream → Type 0
HasFew count stream = length stream.records ≤ count

module _ (past : List LogChange) where
  few-later : (streams : List Stream) → Each (HasFew (length past)) streams → Each (HasFew (suc (length past))) streams
  few-later streams few = Each-weaker (HasFew (length past)) (HasFew (suc (length past))) (λ stream le. omega (arith, le)) streams few

few-records : (setup : LogSetup) (past : List LogChange) → Each (HasFew (length past)) (chronicle setup past).streams
few-records setup [] = (omega arith, (omega arith, (omega arith, tt)))
few-records setup (Began client ∷ past) = few-later past (chronicle setup past).streams (few-records setup past)
few-records setup (Opened client opened None second number ∷ past) =
    few-later past (chronicle setup past).streams (few-records setup past)
few-records setup (Opened client opened (Some attrs) second number ∷ past) =
    let made = new_stream opened attrs (stamp_after (chronicle setup past).last second) in
    Each-push (HasFew (suc (length past))) (chronicle setup past).streams made (few-later past (chronicle setup past).streams (few-records setup past)) (omega arith)
few-records setup (Stored stored rec second ∷ past) =
    let count = length past in
    Each-becoming (HasFew count) (HasFew (suc count)) (is_living stored) (with_record (chronicle setup past).last second rec) (λ stream le. omega (arith, le))
    (λ stream le. omega (arith, le, length-append stream.records (rec ∷ []))) (chronicle setup past).streams (few-records setup past)
few-records setup (Filtered client filtered mask number ∷ past) =
    few-later past (chronicle setup past).streams (few-records setup past)
few-records setup (Closed client closed second ∷ past) =
    Each-all_ended (HasFew (suc (length past))) (λ stamp stream le. le) (is_ending (Closed client closed second ∷ past)) (chronicle setup past).last second (chronicle setup past).streams
    (few-later past (chronicle setup past).streams (few-records setup past))
few-records setup (Ended client second ∷ past) =
    Each-all_ended (HasFew (suc (length past))) (λ stamp stream le. le) (is_ending (Ended client second ∷ past)) (chronicle setup past).last second (chronicle setup past).streams
    (few-later past (chronicle setup past).streams (few-records setup past))

-- what holds of a stream of a history that lives
abbrev pub IsLivingStream : (last count : ℕ) → Stream → Type 0
IsLivingStream last count stream = ((IsSoundStream last stream × Passes stream) × HasFew count stream) × (lives stream ≡ true)

pub living-streams : (setup : LogSetup) (past : List LogChange) → IsLogHistory setup past → AllByRecursion (IsLivingStream (chronicle setup past).last (length past)) (filter lives (chronicle setup past).streams)
living-streams setup past legal =
    let streams = (chronicle setup past).streams in
    let last = (chronicle setup past).last in
    each-filter (λ stream. (IsSoundStream last stream × Passes stream) × HasFew (length past) stream) lives streams
    (each-of (λ stream. (IsSoundStream last stream × Passes stream) × HasFew (length past) stream) streams
    (Each-both (λ stream. IsSoundStream last stream × Passes stream) (HasFew (length past)) streams
    (Each-both (IsSoundStream last) Passes streams (sound setup past legal) (reached setup past legal).passing) (few-records setup past)))
