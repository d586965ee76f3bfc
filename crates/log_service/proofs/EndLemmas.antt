-- Streams that end when a client leaves them.
use Rattle.std.proofs.Common.{◌≡◌, ℕ, ◌+◌, ◌<◌, ◌≤◌, suc, Bool, true, false, cond, List, [], ◌∷◌, ◌++◌, length, get_or, drop, append_assoc, append-nil, w64, subst, refl, ap, sym, ◌∙◌, arith}
use Rattle.std.proofs.Math.Seq.{drop-cons}
use Rattle.std.proofs.Math.ListN.{drop_of_length-le}
use Rattle.std.proofs.Math.Dec.{T}
use Rattle.std.proofs.lemmas.Bool.{leb-true, le-leb, or_parts}
use mir.Val.{SFits}
use Rattle.stream_config.specs.declared.state.StreamState.{StreamState}
use Rattle.record_print.specs.declared.record.LogRecord.{LogRecord}
use Rattle.std.specs.Prelude.{ℤ, pos, negsuc, ◌≤ℤ◌, unsigned_abs}
use Rattle.std.specs.List.{list_any}
use Rattle.stream_config.specs.declared.event.StreamEvent.{StreamEvent}
use Rattle.stream_config.specs.declared.event.StreamEvent.TheVariants.{Ended}
use Rattle.stream_config.specs.Stamps.{stamp_after}
use Rattle.log_history.specs.Table.{OpenStream, has_nobody, without_opener, is_changing, last_after_due, last_after_ends, ends_in, left_streams}
use Rattle.log_service.specs.Moments.{IsTimeOfCall, IsMoment, second_of}
use Rattle.log_service.specs.Changing.{last_of_end, end_of, last_of_endings, endings_of}
use Rattle.ais_values.proofs.Basics.{true_from_T, pos-unsigned_abs}

-- where nobody is missing, none ends
pub none-last : (last second : ℕ) (streams : List OpenStream) → list_any has_nobody streams ≡ false → last_after_ends last second streams ≡ last
none-last last second [] busy = refl
none-last last second (stream ∷ streams) busy =
    let both = or_parts (has_nobody stream) (list_any has_nobody streams) busy in
    ap (λ b. last_after_ends (cond b (stamp_after last second) last) second streams) both.0 ∙ none-last last second streams both.1

pub none-ends : (last second : ℕ) (streams : List OpenStream) → list_any has_nobody streams ≡ false → ends_in last second streams ≡ []
none-ends last second [] busy = refl
none-ends last second (stream ∷ streams) busy =
    let both = or_parts (has_nobody stream) (list_any has_nobody streams) busy in
    ap (λ b. cond b (Ended stream.state (pos (stamp_after last second)) ∷ ends_in (stamp_after last second) second streams) (ends_in last second streams)) both.0
    ∙ none-ends last second streams both.1

-- one stream more that a client leaves
pub endings-more : (last now : ℤ) (client : ℕ) (stream : OpenStream) (streams : List OpenStream) → endings_of last now client (stream ∷ streams) ≡ end_of last now client stream ++ endings_of (pos (last_of_end last now client stream)) now client streams
endings-more last now client stream streams =
    let closed = stamp_after (unsigned_abs last) (second_of now) in
    elim (has_nobody (without_opener client stream)) as (λ b. cond b (Ended stream.state (pos closed) ∷ ends_in closed (second_of now) (left_streams client streams)) (ends_in (unsigned_abs last) (second_of now) (left_streams client streams)) ≡ cond b (Ended stream.state (pos closed) ∷ []) [] ++ ends_in (cond b closed (unsigned_abs last)) (second_of now) (left_streams client streams)) [
      | true ↦ refl
      | false ↦ refl
    ]

-- the stamps and the ends when a client has left so many of the streams
pub record AreEndings (last now : ℤ) (client : ℕ) (streams : List OpenStream) (left : ℕ) (stamped : ℤ) (events : List StreamEvent) : Type 0 where
  pub from : pos 0 ≤ℤ stamped
  pub to : unsigned_abs stamped ≤ 19999999000 + left
  pub stamp : last_of_endings stamped now client (drop left streams) ≡ last_of_endings last now client streams
  pub ends : events ++ endings_of stamped now client (drop left streams) ≡ endings_of last now client streams

pub pos-from : (n : ℕ) → pos 0 ≤ℤ pos n
pos-from n = record { le = subst (λ (b : Bool). T b) (sym (le-leb 0 n (omega arith))) tt }

pub pos-below : (n most : ℕ) → n ≤ most → pos n ≤ℤ pos most
pos-below n most le = record { le = subst (λ (b : Bool). T b) (sym (le-leb n most le)) tt }

pub abs-bound : (z : ℤ) (most : ℕ) → pos 0 ≤ℤ z → z ≤ℤ pos most → unsigned_abs z ≤ most
abs-bound (pos n) most from to = leb-true n most (true_from_T _ to.le)
abs-bound (negsuc n) most from to = absurd from.le

pub stamp-bound : (last second most : ℕ) (b : Bool) → last ≤ most → second ≤ 9000000000 → 9000000000 ≤ most → cond b (stamp_after last second) last ≤ most + 1
stamp-bound last second most true low early far = omega arith
stamp-bound last second most false low early far = omega arith

pub second-bound : (now : ℤ) → IsTimeOfCall now → second_of now ≤ 9000000000
second-bound (pos n) time = let most : n ≤ 9000000000000000000 = leb-true n 9000000000000000000 (true_from_T _ time.to.le) in omega arith
second-bound (negsuc n) time = absurd time.from.le

pub AreEndings-more : (last now : ℤ) (client : ℕ) (streams : List OpenStream) (left : ℕ) (stream : OpenStream) (stamped new : ℤ) (events more : List StreamEvent) → IsTimeOfCall now → left < length streams → stream ≡ get_or streams left stream → AreEndings last now client streams left stamped events → new ≡ pos (last_of_end stamped now client stream) → more ≡ events ++ end_of stamped now client stream → AreEndings last now client streams (left + 1) new more
AreEndings-more last now client streams left stream stamped new events more time within is before new_is more_is =
    let one : suc left ≡ left + 1 = omega arith in
    let front : drop left streams ≡ stream ∷ drop (left + 1) streams =
    drop-cons streams left stream within ∙ ap (λ first. first ∷ drop (suc left) streams) (sym is) ∙ ap (λ k. stream ∷ drop k streams) one in
    let bound = stamp-bound (unsigned_abs stamped) (second_of now) (19999999000 + left) (has_nobody (without_opener client stream)) before.to (second-bound now time) (omega arith) in
    let same : 19999999000 + left + 1 ≡ 19999999000 + (left + 1) = omega arith in
    subst (λ (z : ℤ). AreEndings last now client streams (left + 1) z more) (sym new_is) (record {
      from = pos-from (last_of_end stamped now client stream);
      to = subst (λ (k : ℕ). last_of_end stamped now client stream ≤ k) same bound;
      stamp = ap (last_of_endings stamped now client) (sym front) ∙ before.stamp;
      ends = ap (λ list. list ++ endings_of (pos (last_of_end stamped now client stream)) now client (drop (left + 1) streams)) more_is
          ∙ append_assoc events (end_of stamped now client stream) (endings_of (pos (last_of_end stamped now client stream)) now client (drop (left + 1) streams))
          ∙ ap (λ list. events ++ list) (sym (endings-more stamped now client stream (drop (left + 1) streams)) ∙ ap (endings_of stamped now client) (sym front))
          ∙ before.ends;
    })

pub AreEndings-none : (last now : ℤ) (client : ℕ) (streams : List OpenStream) (events : List StreamEvent) → IsMoment last now → events ≡ [] → AreEndings last now client streams 0 last events
AreEndings-none last now client streams events moment none = record {
  from = moment.last_from;
  to = let low = abs-bound last 19999999000 moment.last_from moment.last_to in omega arith;
  stamp = refl;
  ends = ap (λ list. list ++ endings_of last now client streams) none;
}

-- when a client has left all of them
pub AreEndings-all : (last now : ℤ) (client : ℕ) (streams : List OpenStream) (left : ℕ) (stamped : ℤ) (events : List StreamEvent) → length streams ≤ left → AreEndings last now client streams left stamped events → (stamped ≡ last_of_endings last now client streams) × (events ≡ endings_of last now client streams)
AreEndings-all last now client streams left stamped events past are =
    let none : drop left streams ≡ [] = drop_of_length-le streams past in (
      sym (pos-unsigned_abs stamped are.from) ∙ ap (last_of_endings stamped now client) (sym none) ∙ are.stamp,
      sym (append-nil events) ∙ ap (λ rest. events ++ endings_of stamped now client rest) (sym none) ∙ are.ends,
    )

-- stamps fit their type
pub ending-fits : (last now : ℤ) (client : ℕ) (stream : OpenStream) (left : ℕ) (stamped : ℤ) → IsTimeOfCall now → unsigned_abs last ≤ 19999999000 + left → left ≤ 100 → stamped ≡ pos (last_of_end last now client stream) → SFits w64 stamped
ending-fits last now client stream left stamped time low few is =
    let bound = stamp-bound (unsigned_abs last) (second_of now) (19999999000 + left) (has_nobody (without_opener client stream)) low (second-bound now time) (omega arith) in
    subst (λ (z : ℤ). SFits w64 z) (sym is) (record { sfits = omega arith })

pub due-bound : (last second : ℕ) (b : Bool) → last ≤ 19999999000 → second ≤ 9000000000 → cond b (stamp_after (stamp_after last second) second) last ≤ 20000000000
due-bound last second true low early = omega arith
due-bound last second false low early = omega arith

pub due-fits : (last now : ℤ) (rec : LogRecord) (state : StreamState) (stamped : ℤ) → IsMoment last now → stamped ≡ pos (last_after_due (unsigned_abs last) (second_of now) rec state) → SFits w64 stamped
due-fits last now rec state stamped moment is =
    let time : IsTimeOfCall now = record { from = moment.from; to = moment.to } in
    let bound = due-bound (unsigned_abs last) (second_of now) (is_changing state rec) (abs-bound last 19999999000 moment.last_from moment.last_to) (second-bound now time) in
    subst (λ (z : ℤ). SFits w64 z) (sym is) (record { sfits = omega arith })
