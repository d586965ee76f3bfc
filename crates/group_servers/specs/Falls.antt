-- Words of bodies alone: servers that go on where the active one went down, on their parts.
use Rattle.std.specs.Prelude.{◌≡◌, ℕ, zero, suc, ◌+◌, ◌⊎◌, Bool, false, Some, None, IfSome, Result, Ok, Err, List, [], ◌∷◌, ◌++◌, map, length}
use Rattle.std.proofs.Common.{inl, inr}
use Rattle.disk_model.specs.Counts.{disarmed}
use Rattle.disk_model.specs.Seen.{DiskSeen}
use Rattle.disk_model.specs.declared.answers.DiskAnswer.{DiskAnswer}
use Rattle.disk_model.specs.declared.answers.DiskAnswer.TheVariants.{Memory, Failed, Stopped}
use Rattle.plain_service.specs.Fitness.{IsFit}
use Rattle.script_lines.specs.declared.line.Server.{Server}
use Rattle.mirror.specs.declared.state.NodeState.{NodeState as Node}
use Rattle.group_servers.specs.declared.group.Seat.{Seat}
use Rattle.group_servers.specs.declared.group.Group.{Group}
use Rattle.group_servers.specs.Lines.{takers, joiners, over_lines, fallen_lines}
use Rattle.group_servers.specs.Rejoins.{Rejoins}
use Rattle.group_servers.specs.Tries.{Tries, TriesPartly}

-- nothing is on the way to a server or back
abbrev pub wayless : Seat → Seat
wayless seat = record seat { link = []; back = [] }

abbrev pub all_wayless : List Seat → List Seat
all_wayless seats = map wayless seats

-- the server at a place and the active one change places
abbrev pub Exchanges : ℕ → List Seat → List Seat → Node → Node → Server → Server → Type 0
Exchanges place [] [] old new acting now = (new ≡ old) × (now ≡ acting)
Exchanges zero (seat ∷ seats) (left ∷ news) old new acting now =
    (left ≡ record seat { node = old }) × (news ≡ seats) × (new ≡ seat.node) × (now ≡ seat.server)
Exchanges (suc place) (seat ∷ seats) (left ∷ news) old new acting now = (left ≡ seat) × Exchanges place seats news old new acting now
Exchanges place _ _ old new acting now = ⊥

-- no count is left on the disk
pub record IsDisarmed (held start : DiskSeen) : Type 0 where
  pub files : start.files ≡ held.files
  pub faults : start.faults ≡ held.faults
  pub armed : start.tally.armed ≡ None
  pub tally : start.tally ≡ disarmed held.tally
  pub stops : start.stops ≡ held.stops

-- a server's service is fit, and it owes no deeds
abbrev pub IsFitNode : Node → Type 0
IsFitNode node = IfSome node.replica.service IsFit × (node.replica.owed ≡ None)

abbrev pub IsFitSeat : Seat → Type 0
IsFitSeat seat = IsFitNode seat.node

-- the standbys tried to take over, over a disk that is not armed, and one of them did: it leads the others
pub record TookOver {n : ℕ} (fresh : Bool) (old new : Group n) (before after : List (List ℕ)) (held left : DiskSeen) : Type 0 where
  pub tried : List Seat
  pub place : ℕ
  pub start : DiskSeen
  pub started : IsDisarmed held start
  pub tries : Tries fresh (all_wayless old.seats) tried (Some place) start left
  pub moved : List Seat
  pub leads : Node
  pub exchanges : Exchanges place tried moved old.active leads old.acting new.acting
  pub joined : Rejoins leads new.active moved new.seats
  pub unarmed : new.armed ≡ false
  pub failed : ℕ
  pub counted : failed + 1 + length (takers fresh tried) ≡ length (takers fresh old.seats)
  pub lines : after ≡ before ++ over_lines old.acting failed (takers fresh old.seats) (joiners old.seats)

-- or all failed
pub record AllFell {n : ℕ} (fresh : Bool) (old new : Group n) (before after : List (List ℕ)) (held left : DiskSeen) : Type 0 where
  pub start : DiskSeen
  pub started : IsDisarmed held start
  pub tries : Tries fresh (all_wayless old.seats) new.seats None start left
  pub active : new.active ≡ old.active
  pub acting : new.acting ≡ old.acting
  pub unarmed : new.armed ≡ false
  pub lines : after ≡ before ++ fallen_lines old.acting (takers fresh old.seats)

-- as one of them tried the server that was active is as it was, and leads still
abbrev pub StaysAt : {n : ℕ} {A B : Type 0} → Group n → Group n → A ⊎ B → Type 0
StaysAt old new (inl tries) = (new.active ≡ old.active) × (new.acting ≡ old.acting)
StaysAt old new (inr over) = Unit {0}

-- or memory was wanting, as one of them tried, or behind it: no server is armed
pub record FellPartly {n : ℕ} (fresh : Bool) (old new : Group n) (held left : DiskSeen) : Type 0 where
  pub unarmed : new.armed ≡ false
  pub start : DiskSeen
  pub started : IsDisarmed held start
  pub part :
      TriesPartly fresh (all_wayless old.seats) start left
      ⊎ ((tried : List Seat) × (place : ℕ) × Tries fresh (all_wayless old.seats) tried (Some place) start left)
  pub stays : StaysAt old new part

-- a takeover, with its lines in the place of those that told all ends, by how it ended
abbrev pub TakesOver : {n : ℕ} → Bool → Result (Unit {0}) DiskAnswer → Group n → Group n → List (List ℕ) → List (List ℕ) → DiskSeen → DiskSeen → Type 0
TakesOver fresh (Ok done) old new before after held left = TookOver fresh old new before after held left
TakesOver fresh (Err Memory) old new before after held left = FellPartly fresh old new held left
TakesOver fresh (Err Failed) old new before after held left = AllFell fresh old new before after held left
TakesOver fresh (Err Stopped) old new before after held left = ⊥
