-- Words of bodies alone: a world that is put together of its parts, and results that end alike.
use Rattle.std.specs.Prelude.{ℕ, true, false, Bool, Some, None, List, Result, Ok, Err, OnOk, IfErr}
use Rattle.std.specs.Result.{is_ok}
use Rattle.disk_model.specs.declared.answers.DiskAnswer.{DiskAnswer}
use Rattle.script_lines.specs.declared.line.Line.{Line}
use Rattle.script_lines.specs.declared.line.Line.TheVariants as line
use Rattle.script_lines.specs.declared.line.Server.TheVariants.{A}
use Rattle.cluster_rounds.specs.declared.cluster.Cluster.{Cluster}
use Rattle.cluster_lines.specs.Playing.{LooksBy}
use Rattle.journal_start.specs.declared.cold.ColdAnswer.{ColdAnswer}
use Rattle.journal_start.specs.declared.cold.ColdAnswer.TheVariants.{Memory, Failed, Stopped, NoJournal, Refused}
use Rattle.journal_start.specs.Starts.{told_as}
use Rattle.cold_servers.specs.declared.solo.Solo.{Solo}
use Rattle.cold_servers.specs.ColdSeen.{ColdSeen, Outlives, Rises}
use Rattle.command_journal.specs.declared.answer.EventAnswer.{EventAnswer}
use Rattle.command_journal.specs.declared.answer.EventAnswer.TheVariants as event
use Rattle.command_journal.specs.declared.world.ColdWorld.{ColdWorld}
use Rattle.command_journal.specs.Playing.{BreaksLine, DoesLine}
use Rattle.command_journal.specs.Worlds.{HasParts}

-- the world of these parts
abbrev pub whole_of : Cluster Solo → ColdWorld
whole_of parts = record {
  node = parts.servers.lone.node;
  journal = parts.servers.lone.journal;
  link = parts.servers.lone.link;
  back = parts.servers.lone.back;
  net = parts.net;
  agents = parts.agents;
  history = parts.history;
  now = parts.now;
  armed = parts.servers.lone.armed;
  callbacks = parts.callbacks;
}

-- the same end, as an answer of a cold start
abbrev pub cold_as : {T : Type 0} → Result T DiskAnswer → Result T ColdAnswer
cold_as (Ok done) = Ok done
cold_as (Err answer) = Err (told_as answer)

-- `restart a`
abbrev pub is_start : Line → Bool
is_start (line.Restart A) = true
is_start _ = false

-- what asks something of the server, or shows files
abbrev pub asks_server : Line → Bool
asks_server (line.Deliver place) = true
asks_server (line.Resend client) = true
asks_server line.Mirror = true
asks_server line.Ack = true
asks_server line.Work = true
asks_server line.Push = true
asks_server line.Settle = true
asks_server line.Files = true
asks_server (line.Cat name) = true
asks_server (line.Crash server) = true
asks_server (line.Arm server count) = true
asks_server line.Disarm = true
asks_server (line.Restart server) = true
asks_server _ = false

-- why an event was not done, with the lines of what was done until then
abbrev pub answered : List (List ℕ) → ColdAnswer → EventAnswer
answered lines Memory = event.Memory
answered lines Failed = event.DiskFault lines
answered lines Stopped = event.Memory
answered lines NoJournal = event.Journal None
answered lines (Refused place) = event.Journal (Some place)

-- how the counts of faults went, by the end
abbrev pub CountsBy : {T : Type 0} → ColdSeen → ColdSeen → Result T ColdAnswer → Type 0
CountsBy held left (Err Failed) = Rises held left
CountsBy held left _ = Outlives held left

-- all that a line came to, by its end
pub record PlaysLine {T : Type 0} (result : Result T ColdAnswer) (next : Line) (old new : Cluster Solo) (before after : List (List ℕ))
    (held left : ColdSeen) : Type 0 where
  pub ok : OnOk result (DoesLine next old new before after held left)
  pub stands : OnOk result (HasParts new left)
  pub broken : IfErr result (λ answer. BreaksLine answer next old new before after held left)
  pub counts : CountsBy held left result
  pub looks : LooksBy next held.disk.files (is_ok result) held.disk.tally left.disk.tally
