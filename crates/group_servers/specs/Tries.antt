-- Words of bodies alone: standbys that try to take over, one after another.
use Rattle.std.specs.Prelude.{◌≡◌, ℕ, suc, ◌+◌, ◌≤◌, Bool, true, false, not, ◌&&◌, Option, Some, None, option_map, Result, Ok, Err, List, [], ◌∷◌, length}
use Rattle.ais_values.specs.Causes.{Rose}
use Rattle.disk_model.specs.declared.answers.DiskAnswer.{DiskAnswer}
use Rattle.disk_model.specs.Counts.{asked, passed}
use Rattle.disk_model.specs.Seen.{DiskSeen}
use Rattle.disk_model.specs.DeviceCalls.{BreaksOff, LeftAlone, LeftBy, all_applied}
use Rattle.stream_layout.specs.Deeds.{calls_of_all}
use Rattle.mirror.specs.Replicas.{down}
use Rattle.mirror.specs.Pairing.{alone, deeds_kept, keeps_deeds, taken_over}
use Rattle.group_servers.specs.declared.group.Seat.{Seat}
use Rattle.group_servers.specs.Seats.{stands_by}

-- by whom it is taken over: by a standby that keeps no deeds where there is one, and else by any
abbrev pub takes : Bool → Seat → Bool
takes fresh seat = stands_by seat && not (fresh && keeps_deeds seat.node)

-- one of them tried
abbrev pub TriesOne : Seat → Seat → Bool → DiskSeen → DiskSeen → Type 0
TriesOne seat new true held left =
    (new ≡ record seat { node = taken_over seat.node })
    × (left.files ≡ option_map (all_applied (calls_of_all (deeds_kept seat.node.kept))) held.files) × (left.tally.armed ≡ None) × (left.faults ≡ held.faults)
    × (left.tally ≡ passed (length (calls_of_all (deeds_kept seat.node.kept))) held.tally) × (left.stops ≡ held.stops)
TriesOne seat new false held left =
    (new ≡ record seat { node = alone down }) × (count : ℕ)
    × BreaksOff LeftBy (calls_of_all (deeds_kept seat.node.kept)) count held.files left.files × (left.tally.armed ≡ None) × (held.faults ≤ left.faults)
    × Rose held.faults left.faults × (left.tally ≡ passed (suc count) held.tally) × (left.stops ≡ held.stops)

-- the servers, in order, with the place of the one that took over, if one did, and what the disk told before and after
pub data Tries (fresh : Bool) : List Seat → List Seat → Option ℕ → DiskSeen → DiskSeen → Type 0 where
  -- none is left
  nobody : {held : DiskSeen} → Tries fresh [] [] None held held
  -- this one does not try
  passes : {seats new : List Seat} {found : Option ℕ} {held left : DiskSeen} → (seat : Seat) → takes fresh seat ≡ false
      → Tries fresh seats new found held left → Tries fresh (seat ∷ seats) (seat ∷ new) (option_map (λ place. place + 1) found) held left
  -- this one failed
  fails : {seats new : List Seat} {found : Option ℕ} {held mid left : DiskSeen} → (seat fallen : Seat) → takes fresh seat ≡ true
      → TriesOne seat fallen false held mid → Tries fresh seats new found mid left
      → Tries fresh (seat ∷ seats) (fallen ∷ new) (option_map (λ place. place + 1) found) held left
  -- this one took over
  takes_over : {seats : List Seat} {held left : DiskSeen} → (seat now : Seat) → takes fresh seat ≡ true → TriesOne seat now true held left
      → Tries fresh (seat ∷ seats) (now ∷ seats) (Some 0) held left

-- memory was wanting as one of them tried
abbrev pub Lacks : Seat → DiskSeen → DiskSeen → Type 0
Lacks seat held left =
    (count : ℕ) × BreaksOff LeftAlone (calls_of_all (deeds_kept seat.node.kept)) count held.files left.files × (left.faults ≡ held.faults)
    × (left.tally ≡ asked (passed count held.tally)) × (left.stops ≡ held.stops)

-- and so it was behind those that failed, or had nothing to do
pub data TriesPartly (fresh : Bool) : List Seat → DiskSeen → DiskSeen → Type 0 where
  passes_by : {seats : List Seat} {held left : DiskSeen} → (seat : Seat) → takes fresh seat ≡ false
      → TriesPartly fresh seats held left → TriesPartly fresh (seat ∷ seats) held left
  fails_first : {seats : List Seat} {held mid left : DiskSeen} → (seat fallen : Seat) → takes fresh seat ≡ true
      → TriesOne seat fallen false held mid → TriesPartly fresh seats mid left → TriesPartly fresh (seat ∷ seats) held left
  lacks : {seats : List Seat} {held left : DiskSeen} → (seat : Seat) → takes fresh seat ≡ true → Lacks seat held left
      → TriesPartly fresh (seat ∷ seats) held left

-- the place of a server behind one more
abbrev pub Furthers : Result (Option ℕ) DiskAnswer → Result (Option ℕ) DiskAnswer → Type 0
Furthers (Ok found) (Ok more) = more ≡ option_map (λ place. place + 1) found
Furthers (Err answer) (Err other) = other ≡ answer
Furthers _ _ = ⊥
