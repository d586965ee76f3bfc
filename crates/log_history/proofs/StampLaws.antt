-- The last stamp stays within bounds: it runs ahead of the seconds of acceptance by two for each change at most, and leaves room
-- for the stamps by which the living streams end.
use Rattle.std.proofs.Common.{◌≡◌, ℕ, suc, ◌+◌, ◌*◌, ◌≤◌, Bool, true, false, ◌&&◌, cond, List, [], ◌∷◌, ◌++◌, length, refl, ap, ◌∙◌, arith, length-append}
use Rattle.std.specs.Prelude.{⊤, Option, Some, None, filter}
use Rattle.std.specs.Option.{option_map_or}
use Rattle.std.specs.List.{find}
use Rattle.std.proofs.lemmas.List.Elements.{filter-append}
use Rattle.stream_config.specs.Stamps.{stamp_after}
use Rattle.record_print.specs.declared.record.LogRecord.{LogRecord}
use Rattle.log_history.specs.Firsts.{change_first}
use Rattle.log_history.specs.Changes.{LogChange, Began, Opened, Stored, Filtered, Closed, Ended}
use Rattle.log_history.specs.Stamps.{second_in}
use Rattle.log_history.specs.Chronicle.{LogSetup, Stream, new_stream, lives, is_living, is_due, is_idle, is_ending, with_record, last_with_record, with_end, all_ended, last_of_ends, chronicle}

-- how many streams live
abbrev pub living_count : List Stream → ℕ
living_count streams = length (filter lives streams)

-- no second is behind 9,000,000,000
abbrev pub AreTimely : List LogChange → Type 0
AreTimely [] = ⊤
AreTimely (change ∷ past) = (second_in change ≤ 9000000000) × AreTimely past

-- so much room is left after so many changes
pub record HasRoom (count last living : ℕ) : Type 0 where
  pub few : living ≤ 3 + count
  pub bound : last + living ≤ 9000000010 + 2 * count

living-changed : (test : Stream → Bool) (change : Stream → Stream) → ((stream : Stream) → lives (change stream) ≡ lives stream) → (streams : List Stream) → living_count (change_first test change streams) ≡ living_count streams
living-changed test change keeps [] = refl
living-changed test change keeps (stream ∷ streams) = by_case (test stream) (living-changed test change keeps streams) where
  same : (one other : Bool) (rest : List Stream) (x y : Stream) → one ≡ other → length (cond one (x ∷ rest) rest) ≡ length (cond other (y ∷ rest) rest)
  same true true rest x y e = refl
  same true false rest x y e = cc
  same false true rest x y e = cc
  same false false rest x y e = refl

  behind : (alive : Bool) (one other : List Stream) → length one ≡ length other → length (cond alive (stream ∷ one) one) ≡ length (cond alive (stream ∷ other) other)
  behind true one other e = ap suc e
  behind false one other e = e

  by_case : (b : Bool) → living_count (change_first test change streams) ≡ living_count streams → living_count (cond b (change stream ∷ streams) (stream ∷ change_first test change streams)) ≡ living_count (stream ∷ streams)
  by_case true rest = same (lives (change stream)) (lives stream) (filter lives streams) (change stream) stream (keeps stream)
  by_case false rest = behind (lives stream) (filter lives (change_first test change streams)) (filter lives streams) rest

-- each stream that ends gives the place of one living stream for one stamp
ends-room : (past : List LogChange) (second bound : ℕ) → second ≤ 9000000000 → (last kept : ℕ) (streams : List Stream) → last + (kept + living_count streams) ≤ bound → 9000000000 + (kept + living_count streams) ≤ bound → last_of_ends (is_ending past) last second streams + (kept + living_count (all_ended (is_ending past) last second streams)) ≤ bound
ends-room past second bound early last kept [] room start = room
ends-room past second bound early last kept (stream ∷ streams) room start =
    by_case (lives stream) refl (is_idle past stream) room start (λ l k r s. ends-room past second bound early l k streams r s) where
      by_case : (alive : Bool) → lives stream ≡ alive → (idle : Bool) → last + (kept + length (cond alive (stream ∷ filter lives streams) (filter lives streams))) ≤ bound → 9000000000 + (kept + length (cond alive (stream ∷ filter lives streams) (filter lives streams))) ≤ bound → ((l k : ℕ) → l + (k + living_count streams) ≤ bound → 9000000000 + (k + living_count streams) ≤ bound → last_of_ends (is_ending past) l second streams + (k + living_count (all_ended (is_ending past) l second streams)) ≤ bound) → last_of_ends (is_ending past) (cond (alive && idle) (stamp_after last second) last) second streams + (kept + living_count (cond (alive && idle) (with_end (stamp_after last second) stream ∷ all_ended (is_ending past) (stamp_after last second) second streams) (stream ∷ all_ended (is_ending past) last second streams))) ≤ bound
      by_case true is true r s rest = rest (stamp_after last second) kept (omega (arith, r, s, early)) (omega (arith, s))
      by_case true is false r s rest =
          let behind = all_ended (is_ending past) last second streams in
          let counted : living_count (stream ∷ behind) ≡ suc (living_count behind) =
          ap (λ b. length (cond b (stream ∷ filter lives behind) (filter lives behind))) is in
          let later = rest last (suc kept) (omega (arith, r)) (omega (arith, s)) in
          omega (arith, counted, later)
      by_case false is idle r s rest =
          let behind = all_ended (is_ending past) last second streams in
          let counted : living_count (stream ∷ behind) ≡ living_count behind =
          ap (λ b. length (cond b (stream ∷ filter lives behind) (filter lives behind))) is in
          let later = rest last kept r s in
          omega (arith, counted, later)

-- no more streams live when some have ended
ends-few : (ends : Stream → Bool) (last second : ℕ) (streams : List Stream) → living_count (all_ended ends last second streams) ≤ living_count streams
ends-few ends last second [] = omega arith
ends-few ends last second (stream ∷ streams) = by_case (ends stream) (ends-few ends (stamp_after last second) second streams) (ends-few ends last second streams) where
  more : (b : Bool) (count : ℕ) (xs : List Stream) → count ≤ length xs → count ≤ length (cond b (stream ∷ xs) xs)
  more true count xs le = omega (arith, le)
  more false count xs le = le

  both : (b : Bool) (xs ys : List Stream) → length xs ≤ length ys → length (cond b (stream ∷ xs) xs) ≤ length (cond b (stream ∷ ys) ys)
  both true xs ys le = omega (arith, le)
  both false xs ys le = le

  by_case : (b : Bool) → living_count (all_ended ends (stamp_after last second) second streams) ≤ living_count streams → living_count (all_ended ends last second streams) ≤ living_count streams → living_count (cond b (with_end (stamp_after last second) stream ∷ all_ended ends (stamp_after last second) second streams) (stream ∷ all_ended ends last second streams)) ≤ living_count (stream ∷ streams)
  by_case true ended stays = more (lives stream) (living_count (all_ended ends (stamp_after last second) second streams)) (filter lives streams) ended
  by_case false ended stays = both (lives stream) (filter lives (all_ended ends last second streams)) (filter lives streams) stays

room-ended : (past : List LogChange) (second count last : ℕ) (streams : List Stream) → second ≤ 9000000000 → HasRoom count last (living_count streams) → HasRoom (count + 1) (last_of_ends (is_ending past) last second streams) (living_count (all_ended (is_ending past) last second streams))
room-ended past second count last streams early room =
    let few = ends-few (is_ending past) last second streams in
    let bound = ends-room past second (9000000010 + 2 * count) early last 0 streams (omega (arith, room.bound)) (omega (arith, room.few)) in
    record { few = omega (arith, few, room.few); bound = omega (arith, bound) }

room-due : (due : Bool) (last second count living : ℕ) → second ≤ 9000000000 → HasRoom count last living → cond due (stamp_after (stamp_after last second) second) last + living ≤ 9000000010 + 2 * (count + 1)
room-due true last second count living early room = omega (arith, early, room.bound, room.few)
room-due false last second count living early room = omega (arith, room.bound)

room-stored : (rec : LogRecord) (found : Option Stream) (last second count living : ℕ) → second ≤ 9000000000 → HasRoom count last living → option_map_or (last_with_record last second rec) found last + living ≤ 9000000010 + 2 * (count + 1)
room-stored rec None last second count living early room = omega (arith, room.bound)
room-stored rec (Some stream) last second count living early room = room-due (is_due stream rec) last second count living early room

HasRoom-at : (count more last living : ℕ) → more ≡ count → HasRoom count last living → HasRoom more last living
HasRoom-at count more last living e room = record { few = omega (arith, e, room.few); bound = omega (arith, e, room.bound) }

room-unchanged : (count last living : ℕ) → HasRoom count last living → HasRoom (suc count) last living
room-unchanged count last living room = record { few = omega (arith, room.few); bound = omega (arith, room.bound) }

-- **the last stamp after a history**
pub stamp-room : (setup : LogSetup) (past : List LogChange) → setup.start ≤ 9000000000 → AreTimely past → HasRoom (length past) (chronicle setup past).last (living_count (chronicle setup past).streams)
stamp-room setup [] early timely = record { few = omega arith; bound = omega (arith, early) }
stamp-room setup (Began client ∷ past) early timely =
    room-unchanged (length past) (chronicle setup past).last (living_count (chronicle setup past).streams) (stamp-room setup past early timely.1)
stamp-room setup (Opened client opened None second number ∷ past) early timely =
    room-unchanged (length past) (chronicle setup past).last (living_count (chronicle setup past).streams) (stamp-room setup past early timely.1)
stamp-room setup (Opened client opened (Some attrs) second number ∷ past) early timely =
    let room = stamp-room setup past early timely.1 in
    let last = (chronicle setup past).last in
    let streams = (chronicle setup past).streams in
    let made = new_stream opened attrs (stamp_after last second) in
    let counted : living_count (streams ++ made ∷ []) ≡ living_count streams + 1 =
    ap length (filter-append lives streams (made ∷ [])) ∙ length-append (filter lives streams) (made ∷ []) in
    record { few = omega (arith, counted, room.few); bound = omega (arith, counted, room.few, room.bound, timely.0) }
stamp-room setup (Stored stored rec second ∷ past) early timely =
    let room = stamp-room setup past early timely.1 in
    let last = (chronicle setup past).last in
    let streams = (chronicle setup past).streams in
    let counted : living_count (change_first (is_living stored) (with_record last second rec) streams) ≡ living_count streams =
    living-changed (is_living stored) (with_record last second rec) (λ stream. refl) streams in
    let bound = room-stored rec (find (is_living stored) streams) last second (length past) (living_count streams) timely.0 room in
    record { few = omega (arith, counted, room.few); bound = omega (arith, counted, bound) }
stamp-room setup (Filtered client filtered mask number ∷ past) early timely =
    room-unchanged (length past) (chronicle setup past).last (living_count (chronicle setup past).streams) (stamp-room setup past early timely.1)
stamp-room setup (Closed client closed second ∷ past) early timely =
    HasRoom-at (length past + 1) (suc (length past)) (chronicle setup (Closed client closed second ∷ past)).last (living_count (chronicle setup (Closed client closed second ∷ past)).streams) (omega arith)
    (room-ended (Closed client closed second ∷ past) second (length past) (chronicle setup past).last (chronicle setup past).streams timely.0 (stamp-room setup past early timely.1))
stamp-room setup (Ended client second ∷ past) early timely =
    HasRoom-at (length past + 1) (suc (length past)) (chronicle setup (Ended client second ∷ past)).last (living_count (chronicle setup (Ended client second ∷ past)).streams) (omega arith)
    (room-ended (Ended client second ∷ past) second (length past) (chronicle setup past).last (chronicle setup past).streams timely.0 (stamp-room setup past early timely.1))
