-- Words of public clauses: a server that comes back with what its journal holds.
use Rattle.std.specs.Prelude.{◌≡◌, ◌⊎◌, ℕ, suc, nat_le, if◌then◌else◌, Option, Some, option_map, IfSome, List, [], ◌∷◌, ◌++◌, length, reverse}
use Rattle.disk_model.specs.Disk.{Files}
use Rattle.disk_model.specs.DeviceCalls.{all_applied}
use Rattle.stream_layout.specs.Deeds.{calls_of_all}
use Rattle.script_lines.specs.declared.line.Server.TheVariants.{A}
use Rattle.calls.specs.declared.entry.Entry.{Entry}
use Rattle.cluster_events.specs.declared.lines.ServerRole.TheVariants.{Active}
use Rattle.event_text.specs.Texts.{entry_line, server_line}
use Rattle.mirror.specs.declared.state.NodeState.{NodeState}
use Rattle.mirror.specs.declared.node.Tie.TheVariants.{Linked}
use Rattle.mirror.specs.Pairing.{deeds_kept}
use Rattle.journal_found.specs.Found.{Follower, Found}
use Rattle.journal_start.specs.declared.cold.Cold.{Cold}
use Rattle.journal_start.specs.Starts.{bytes_in, HasStarted, TriesFound}
use Rattle.lone_server.specs.declared.lone.Lone.{Lone}

-- the line of an entry behind the first `known`
abbrev pub new_lines : ℕ → ℕ → Entry → List (List ℕ)
new_lines known number entry = if nat_le number known then [] else entry_line number entry ∷ []

-- the lines of entries that follow so many others
abbrev pub found_lines : ℕ → ℕ → List Entry → List (List ℕ)
found_lines known before [] = []
found_lines known before (entry ∷ entries) = new_lines known (suc before) entry ++ found_lines known (suc before) entries

-- one more entry was taken behind a history
pub record TakesOne (known : ℕ) (entry : Entry) (past found : List Entry) (before after : List (List ℕ)) : Type 0 where
  pub history : found ≡ entry ∷ past
  pub lines : after ≡ before ++ new_lines known (suc (length past)) entry

-- the entries that are found are the history, and those behind the first `known` are told
pub record TakesAll (known : ℕ) (entries found : List Entry) (before after : List (List ℕ)) : Type 0 where
  pub history : found ≡ reverse entries
  pub lines : after ≡ before ++ found_lines known 0 entries

-- and then that the server is active
pub record TellsAll (known : ℕ) (entries found : List Entry) (before after : List (List ℕ)) : Type 0 where
  pub history : found ≡ reverse entries
  pub lines : after ≡ before ++ found_lines known 0 entries ++ server_line A Active ∷ []

-- the server is linked to its journal
abbrev pub linked : NodeState → NodeState
linked node = record node { tie = Linked; promised = [] }

-- the server that started is in the place of the one that was down, and is told
pub record Installs (cold : Cold) (old new : Lone) (past found : List Entry) (before after : List (List ℕ)) : Type 0 where
  pub is : new ≡ record old { node = linked cold.node; journal = cold.journal }
  pub tells : TellsAll (length past) cold.entries found before after

-- it started from the journal
pub record ComesBack (old new : Lone) (past found : List Entry) (before after : List (List ℕ)) (held left first last : Option Files) : Type 0 where
  pub cold : Cold
  pub started : HasStarted cold held left first last
  pub installs : Installs cold old new past found before after

-- it did not come back: the record disk was left alone, or the last deeds of what was found broke off, or they were done
abbrev pub LeavesFound : Option Files → Option Files → Option Files → Type 0
LeavesFound held before after =
    TriesFound held before after
    ⊎ ((bytes : List ℕ) × (past : List Entry) × (follower : Follower)
    × IfSome held (λ files. Some bytes ≡ bytes_in files)
    × Found bytes past follower
    × (after ≡ option_map (all_applied (calls_of_all (deeds_kept follower.kept))) before))
