-- Words of public clauses: the history of a cluster, kept as its answered entries and the entry in hand; what is legal.
use Rattle.std.specs.Prelude.{◌≡◌, ℕ, suc, ◌+◌, true, ◌==◌, nat_lt, nat_le, if◌then◌else◌, ◌≤ℤ◌, ℤ, List, [], ◌∷◌, length}
use Rattle.cluster_facts.specs.Types.{Entry, Called, Receipted}
use Rattle.cluster_facts.specs.Lists.{IsNumbered}
use Rattle.cluster_facts.specs.Messages.{calls_in}
use Rattle.cluster_facts.specs.Service.{Plain, is_new}

-- the entry in hand of the active server: none; one that waits for the partner to apply it; one that the partner applied; one that is ready to work
pub data Hand : Type 0 where
  Empty : Hand
  Waiting : (entry : Entry) → Hand
  Applied : (entry : Entry) → Hand
  Ready : (entry : Entry) → Hand

-- the entries whose work is done, the newest first, and the entry in hand
pub record Core : Type 0 where
  pub answered : List Entry
  pub hand : Hand

-- the history with the entry in hand, once that is committed; an entry that waits is not
abbrev pub committed_by : List Entry → Hand → List Entry
committed_by past Empty = past
committed_by past (Waiting entry) = past
committed_by past (Applied entry) = entry ∷ past
committed_by past (Ready entry) = entry ∷ past

-- the history with the entry in hand, committed or not
abbrev pub accepted_by : List Entry → Hand → List Entry
accepted_by past Empty = past
accepted_by past (Waiting entry) = entry ∷ past
accepted_by past (Applied entry) = entry ∷ past
accepted_by past (Ready entry) = entry ∷ past

-- the history of the cluster
abbrev pub committed : Core → List Entry
committed core = committed_by core.answered core.hand

abbrev pub accepted : Core → List Entry
accepted core = accepted_by core.answered core.hand

abbrev pub time_of : Entry → ℤ
time_of (Called client number time call) = time
time_of (Receipted client key through time) = time

-- times never fall along the history, and are at most this one
abbrev pub NeverAbove : ℤ → List Entry → Type 0
NeverAbove now [] = Unit {0}
NeverAbove now (entry ∷ past) = (time_of entry ≤ℤ now) × NeverAbove (time_of entry) past

-- each receipt was new as it came
abbrev pub ReceiptsAreNew : Plain → List Entry → Type 0
ReceiptsAreNew plain [] = Unit {0}
ReceiptsAreNew plain (Receipted client key through time ∷ past) =
    (is_new plain past client key through ≡ true) × ReceiptsAreNew plain past
ReceiptsAreNew plain (_ ∷ past) = ReceiptsAreNew plain past

-- a history is legal by a time where each client's calls stand in it once each, in order of their numbers, each receipt was
-- new, and times never fall
pub record IsLegal (plain : Plain) (now : ℤ) (past : List Entry) : Type 0 where
  pub numbered : (client : ℕ) → IsNumbered (calls_in client past)
  pub receipts : ReceiptsAreNew plain past
  pub times : NeverAbove now past

-- how a request is judged: by its number and the count of the client's calls in the history
pub data Judged : Type 0 where
  New : Judged
  Repeat : Judged
  Old : Judged
  Ahead : Judged

-- the next number is new, a greater one ahead; of the others the last 32 are repeats
abbrev pub judged : ℕ → ℕ → Judged
judged number count =
    if number == suc count then New else
    if nat_lt count number then Ahead else
    if nat_le (number + 32) count then Old else Repeat

-- the same of a client's request after a history
abbrev pub judged_call : List Entry → ℕ → ℕ → Judged
judged_call past client number = judged number (length (calls_in client past))

-- an entry may follow a history: a call is new, or a receipt is
abbrev pub MayFollow : Plain → List Entry → Entry → Type 0
MayFollow plain past (Called client number time call) = judged_call past client number ≡ New
MayFollow plain past (Receipted client key through time) = is_new plain past client key through ≡ true
