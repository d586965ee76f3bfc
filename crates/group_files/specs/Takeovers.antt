-- Words of public clauses: the files of a cluster whose active server goes down: a standby performs the deeds that it keeps.
use Rattle.std.specs.Prelude.{◌≡◌, ℕ, Bool, true, false, ◌⊎◌, List, [], ◌∷◌}
use Rattle.cluster_facts.specs.Types.{Entry}
use Rattle.cluster_facts.specs.Service.{Plain}
use Rattle.cluster_facts.specs.Storage.{Disk, Storage, Between}
use Rattle.cluster_facts.specs.History.{Hand, Waiting, Ready, accepted_by, committed_by}
use Rattle.cluster_facts.specs.Ranges.{AreInRange}
use Rattle.cluster_events.specs.Servers.{State}
use Rattle.cluster_events.specs.Serving.{IsSteady}
use Rattle.group_cluster.specs.Seats.{Sent, Stance, Standby, Peers, IsGroup, is_standby, any_seat}
use Rattle.group_cluster.specs.Falling.{catches, caught_seats, caught_hand, is_fresh}

-- the deeds of the last entry
abbrev pub last_deeds : (disk : Disk) → Storage disk → List Entry → List disk.DeviceCall
last_deeds disk storage [] = []
last_deeds disk storage (entry ∷ past) = storage.deeds past entry

-- the files of the answered entries; where an entry is ready, its deeds may be begun, any number of times
abbrev pub FilesLeft : (disk : Disk) → Storage disk → List Entry → Hand → disk.Files → Type 0
FilesLeft disk storage past (Ready entry) files = Between disk storage (entry ∷ past) files
FilesLeft disk storage past _ files = files ≡ storage.files past

-- the active server of such a state may go down and a standby take over
pub record CanFall (size : ℕ) (plain : Plain) (disk : Disk) (storage : Storage disk) (state : State Peers) (files : disk.Files) : Type 0 where
  pub steady : IsSteady plain (IsGroup size) state
  pub standby : any_seat is_standby state.peers.seats ≡ true
  pub range : AreInRange (accepted_by state.world.core.answered state.world.core.hand)
  pub left : FilesLeft disk storage state.world.core.answered state.world.core.hand files

-- the history by which the others go on: what was committed, with an entry that waited where a standby applied it
abbrev pub left_history : State Peers → List Entry
left_history state =
    let hand = state.world.core.hand in
    committed_by state.world.core.answered (caught_hand (catches state.peers.seats hand) hand)

-- some standby keeps no deeds once every standby has the entry in hand, or none
abbrev pub has_fresh : State Peers → Bool
has_fresh state = any_seat is_fresh (caught_seats (catches state.peers.seats state.world.core.hand) state.peers.seats)

-- What a standby stands for.

-- the history that it applied: that one to which an entry goes has not applied it
abbrev pub history_of : List Entry → Hand → Stance → List Entry
history_of past hand (Standby on_way Sent keeps) = past
history_of past hand stance = accepted_by past hand

-- it is the committed history, or that with the waiting entry
abbrev pub IsFollowed : List Entry → Hand → Stance → Type 0
IsFollowed past hand (Standby on_way mark keeps) =
    (history_of past hand (Standby on_way mark keeps) ≡ committed_by past hand)
    ⊎ ((entry : Entry) × (hand ≡ Waiting entry)
    × (history_of past hand (Standby on_way mark keeps) ≡ entry ∷ committed_by past hand))
IsFollowed past hand stance = Unit {0}

-- one that keeps no deeds has the answered history, and with the deeds of an entry in hand it has nothing to do
abbrev pub IsFresh : (disk : Disk) (storage : Storage disk) → List Entry → Hand → disk.Files → Stance → Type 0
IsFresh disk storage past hand files (Standby on_way mark false) =
    (history_of past hand (Standby on_way mark false) ≡ past) × (files ≡ storage.files past)
IsFresh disk storage past hand files stance = Unit {0}
