-- Words of public clauses and laws: what servers make of history and hand.
use Rattle.std.specs.Prelude.{◌≡◌, suc, List, [], ◌∷◌, length}
use Rattle.cluster_facts.specs.Types.{Entry}
use Rattle.cluster_facts.specs.History.{Hand, Empty, Waiting, Applied, Ready, committed_by, time_of}
use Rattle.cluster_facts.specs.World.{World}
use Rattle.cluster_events.specs.Lines.{Told, Committed}

-- a world with this history and this entry in hand
abbrev pub with_core : List Entry → Hand → World → World
with_core past hand world = record world { core = record { answered = past; hand = hand } }

-- what is asked of a relation by what history and hand become: an entry of the time in force is accepted, applied by other servers and so
-- committed, confirmed and answered; or another server takes over
pub record IsCored (R : World → World → List Told → Type 0) : Type 0 where
  pub taken : (world : World) (past : List Entry) (entry : Entry) → time_of entry ≡ world.now
      → R (with_core past Empty world) (with_core past (Waiting entry) world) []
  pub applied : (world : World) (past : List Entry) (entry : Entry)
      → R (with_core past (Waiting entry) world) (with_core past (Applied entry) world) (Committed (suc (length past)) entry ∷ [])
  pub confirmed : (world : World) (past : List Entry) (entry : Entry) → R (with_core past (Applied entry) world) (with_core past (Ready entry) world) []
  pub answered : (world : World) (past : List Entry) (entry : Entry) → R (with_core past (Ready entry) world) (with_core (entry ∷ past) Empty world) []
  pub over : (world : World) (past : List Entry) (hand : Hand) → R (with_core past hand world) (with_core (committed_by past hand) Empty world) []
