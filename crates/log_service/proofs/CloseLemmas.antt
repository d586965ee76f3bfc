-- The stream that ends, if one does, when a client closes one of them.
use Rattle.std.proofs.Common.{◌≡◌, ℕ, Bool, true, false, cond, List, [], ◌∷◌, refl, ap, sym, ◌∙◌, subst}
use Rattle.std.specs.Prelude.{Some, None, ℤ, pos, ◌≤ℤ◌, unsigned_abs}
use Rattle.std.specs.List.{find, list_any}
use Rattle.std.proofs.lemmas.Bool.{or_parts}
use Rattle.stream_config.specs.declared.attrs.StreamName.{StreamName}
use Rattle.stream_config.specs.declared.event.StreamEvent.{StreamEvent}
use Rattle.stream_config.specs.declared.event.StreamEvent.TheVariants.{Ended}
use Rattle.stream_config.specs.Stamps.{stamp_after}
use Rattle.log_history.specs.Table.{OpenStream, is_named, has_nobody, without_opener, closed_streams, last_after_ends, ends_in}
use Rattle.log_service.specs.Moments.{second_of}
use Rattle.log_service.specs.Changing.{AreEndsIn, last_of_end, end_of}
use Rattle.log_service.proofs.EndLemmas.{none-last, none-ends}
use Rattle.ais_values.proofs.Basics.{pos-unsigned_abs}

-- there is no such stream, and none ends
nowhere-closed : (client : ℕ) (name : StreamName) (streams : List OpenStream) → find (is_named name) streams ≡ None → closed_streams client name streams ≡ streams
nowhere-closed client name [] none = refl
nowhere-closed client name (stream ∷ streams) none = by_case (is_named name stream) none (nowhere-closed client name streams) where
  by_case : (b : Bool) → cond b (Some stream) (find (is_named name) streams) ≡ None → (find (is_named name) streams ≡ None → closed_streams client name streams ≡ streams) → cond b (without_opener client stream ∷ streams) (stream ∷ closed_streams client name streams) ≡ stream ∷ streams
  by_case true found further = absurd cc
  by_case false behind further = ap (λ rest. stream ∷ rest) (further behind)

pub closes-nowhere : (last now : ℤ) (client : ℕ) (name : StreamName) (streams : List OpenStream) (stamp : ℤ) (events : List StreamEvent) → pos 0 ≤ℤ last → stamp ≡ last → events ≡ [] → list_any has_nobody streams ≡ false → find (is_named name) streams ≡ None → AreEndsIn last now (closed_streams client name streams) (stamp, events)
closes-nowhere last now client name streams stamp events from stamp_is events_are busy none =
    subst (λ (left : List OpenStream). AreEndsIn last now left (stamp, events)) (sym (nowhere-closed client name streams none)) (record {
      stamp = stamp_is ∙ sym (pos-unsigned_abs last from) ∙ ap pos (sym (none-last (unsigned_abs last) (second_of now) streams busy));
      events = events_are ∙ sym (none-ends (unsigned_abs last) (second_of now) streams busy);
    })

-- the closed one alone can end
found-last : (last second : ℕ) (client : ℕ) (name : StreamName) (streams : List OpenStream) (found : OpenStream) → list_any has_nobody streams ≡ false → find (is_named name) streams ≡ Some found → last_after_ends last second (closed_streams client name streams) ≡ cond (has_nobody (without_opener client found)) (stamp_after last second) last
found-last last second client name [] found busy is = absurd cc
found-last last second client name (stream ∷ streams) found busy is =
    let both = or_parts (has_nobody stream) (list_any has_nobody streams) busy in
    by_case (is_named name stream) is both (found-last last second client name streams found both.1) where
      by_case : (b : Bool) → cond b (Some stream) (find (is_named name) streams) ≡ Some found → (has_nobody stream ≡ false) × (list_any has_nobody streams ≡ false) → (find (is_named name) streams ≡ Some found → last_after_ends last second (closed_streams client name streams) ≡ cond (has_nobody (without_opener client found)) (stamp_after last second) last) → last_after_ends last second (cond b (without_opener client stream ∷ streams) (stream ∷ closed_streams client name streams)) ≡ cond (has_nobody (without_opener client found)) (stamp_after last second) last
      by_case true here both further =
          let same : stream ≡ found = cc in
          none-last (cond (has_nobody (without_opener client stream)) (stamp_after last second) last) second streams both.1
          ∙ ap (λ (one : OpenStream). cond (has_nobody (without_opener client one)) (stamp_after last second) last) same
      by_case false behind both further =
          ap (λ b. last_after_ends (cond b (stamp_after last second) last) second (closed_streams client name streams)) both.0
          ∙ further behind

found-ends : (last second : ℕ) (client : ℕ) (name : StreamName) (streams : List OpenStream) (found : OpenStream) → list_any has_nobody streams ≡ false → find (is_named name) streams ≡ Some found → ends_in last second (closed_streams client name streams) ≡ cond (has_nobody (without_opener client found)) (Ended found.state (pos (stamp_after last second)) ∷ []) []
found-ends last second client name [] found busy is = absurd cc
found-ends last second client name (stream ∷ streams) found busy is =
    let both = or_parts (has_nobody stream) (list_any has_nobody streams) busy in
    by_case (is_named name stream) is both (found-ends last second client name streams found both.1) where
      by_case : (b : Bool) → cond b (Some stream) (find (is_named name) streams) ≡ Some found → (has_nobody stream ≡ false) × (list_any has_nobody streams ≡ false) → (find (is_named name) streams ≡ Some found → ends_in last second (closed_streams client name streams) ≡ cond (has_nobody (without_opener client found)) (Ended found.state (pos (stamp_after last second)) ∷ []) []) → ends_in last second (cond b (without_opener client stream ∷ streams) (stream ∷ closed_streams client name streams)) ≡ cond (has_nobody (without_opener client found)) (Ended found.state (pos (stamp_after last second)) ∷ []) []
      by_case true here both further =
          let same : stream ≡ found = cc in
          ap (λ rest. cond (has_nobody (without_opener client stream)) (Ended stream.state (pos (stamp_after last second)) ∷ rest) (ends_in last second streams)) (none-ends (stamp_after last second) second streams both.1)
          ∙ ap (λ rest. cond (has_nobody (without_opener client stream)) (Ended stream.state (pos (stamp_after last second)) ∷ []) rest) (none-ends last second streams both.1)
          ∙ ap (λ (one : OpenStream). cond (has_nobody (without_opener client one)) (Ended one.state (pos (stamp_after last second)) ∷ []) []) same
      by_case false behind both further =
          ap (λ b. cond b (Ended stream.state (pos (stamp_after last second)) ∷ ends_in (stamp_after last second) second (closed_streams client name streams)) (ends_in last second (closed_streams client name streams))) both.0
          ∙ further behind

pub closes-found : (last now : ℤ) (client : ℕ) (name : StreamName) (streams : List OpenStream) (found : OpenStream) (stamp : ℤ) (events : List StreamEvent) → list_any has_nobody streams ≡ false → find (is_named name) streams ≡ Some found → stamp ≡ pos (last_of_end last now client found) → events ≡ end_of last now client found → AreEndsIn last now (closed_streams client name streams) (stamp, events)
closes-found last now client name streams found stamp events busy is stamp_is events_are = record {
  stamp = stamp_is ∙ ap pos (sym (found-last (unsigned_abs last) (second_of now) client name streams found busy is));
  events = events_are ∙ sym (found-ends (unsigned_abs last) (second_of now) client name streams found busy is);
}
