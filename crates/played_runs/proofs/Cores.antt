-- What servers make of history and hand leaves a relation that reads neither.
use Rattle.std.proofs.Common.{ℕ, suc, List, [], ◌∷◌, length}
use Rattle.cluster_facts.specs.Types.{Entry}
use Rattle.cluster_facts.specs.History.{Hand, Empty, Waiting, Applied, Ready, committed_by}
use Rattle.cluster_facts.specs.World.{World}
use Rattle.cluster_events.specs.Lines.{Told, Committed}
use Rattle.cluster_events.specs.Cores.{IsCored, with_core}

-- a relation that reads neither
pub cored-alone : (R : World → World → List Told → Type 0) → ((world : World) (one other : List Entry) (hand next : Hand) → R (with_core one hand world) (with_core other next world) []) → ((world : World) (past : List Entry) (hand next : Hand) (number : ℕ) (entry : Entry) → R (with_core past hand world) (with_core past next world) (Committed number entry ∷ [])) → IsCored R
cored-alone R quiet commits = record {
  taken = λ world past entry at. quiet world past past Empty (Waiting entry);
  applied = λ world past entry. commits world past (Waiting entry) (Applied entry) (suc (length past)) entry;
  confirmed = λ world past entry. quiet world past past (Applied entry) (Ready entry);
  answered = λ world past entry. quiet world past (entry ∷ past) (Ready entry) Empty;
  over = λ world past hand. quiet world past (committed_by past hand) hand Empty;
}
