-- How the disk's count of faults went, from what an event came to.
use Rattle.std.proofs.Common.{Bool, true, false, List, ℕ, ◌≤◌, le_refl, le_trans, subst, sym}
use Rattle.std.specs.Prelude.{Result, Ok, Err, OnOk, IfOk, IfErr}
use Rattle.disk_model.specs.Seen.{DiskSeen}
use Rattle.disk_model.specs.declared.answers.DiskAnswer.{DiskAnswer}
use Rattle.disk_model.specs.declared.answers.DiskAnswer.TheVariants.{Memory, Failed, Stopped}
use Rattle.script_lines.specs.declared.line.Line.TheVariants as line
use Rattle.script_lines.specs.declared.line.Server.{Server}
use Rattle.cluster_events.proofs.Devices.{rose-later}
use Rattle.cluster_rounds.specs.declared.cluster.Cluster.{Cluster}
use Rattle.cluster_rounds.specs.Came.{Advances, ComesOff}
use Rattle.cluster_rounds.specs.Counted.{Counted}
use Rattle.cluster_rounds.specs.Rounds.{EndOver, EndsStep}
use Rattle.cluster_rounds.specs.Worlds.{HasStateOn, any_state}
use Rattle.cluster_rounds.specs.Seen.{counters_of}
use Rattle.cluster_lines.specs.Playing.{BreaksOff}
use Rattle.group_servers.specs.declared.group.Group.{Group}
use Rattle.group_servers.specs.GroupKit.{group_kit, group_script}
use Rattle.group_servers.specs.GroupUses.{crash-later, lacks-later}

module _ (n : ℕ) where
  pub off-counted : {T : Type 0} (r : Result T DiskAnswer) (Ends : EndOver (group_kit n)) (old new : Cluster (Group n)) (before after : List (List ℕ)) (held left : DiskSeen) → HasStateOn (group_kit n) any_state old held → OnOk r (held.faults ≤ left.faults) → IfErr r (λ answer. ComesOff (group_kit n) any_state Ends answer old new before after held left) → Counted {T = T} (group_kit n) held left r
  off-counted (Ok x) Ends old new before after held left has done off = done
  off-counted (Err Memory) Ends old new before after held left has done off =
      let lacks = (off has.setup has.state has.good has.shows has.count tt).1 in
      lacks-later has.setup has.state new.history.entries new.servers (counters_of held) (counters_of left) lacks
  off-counted (Err Stopped) Ends old new before after held left has done off = (off has.setup has.state has.good has.shows has.count tt).uses.later
  off-counted (Err Failed) Ends old new before after held left has done off =
      let faults = (off has.setup has.state has.good has.shows has.count tt).faults in
      record {
        later = le_trans faults.before_it faults.behind_it;
        rose = rose-later held.faults faults.between left.faults faults.before_it faults.rose;
      }

  -- so they went in the line of a crash
  pub crash-counted : {T : Type 0} (r : Result T DiskAnswer) (server : Server) (old new : Cluster (Group n)) (before after : List (List ℕ)) (held left : DiskSeen) → HasStateOn (group_kit n) any_state old held → OnOk r (held.faults ≤ left.faults) → IfErr r (λ answer. BreaksOff (group_kit n) group_script answer (line.Crash server) old new before after held left) → Counted {T = T} (group_kit n) held left r
  crash-counted (Ok x) server old new before after held left has done off = done
  crash-counted (Err Memory) server old new before after held left has done off =
      let lacks = (off has.setup has.state has.good has.shows has.count).1 in
      crash-later has.setup has.state new.history.entries new.servers (counters_of held) (counters_of left) lacks
  crash-counted (Err Stopped) server old new before after held left has done off =
      absurd (off has.setup has.state has.good has.shows has.count)
  crash-counted (Err Failed) server old new before after held left has done off =
      let faults = (off has.setup has.state has.good has.shows has.count).faults in
      record {
        later = le_trans faults.before_it faults.behind_it;
        rose = rose-later held.faults faults.between left.faults faults.before_it faults.rose;
      }

  -- a step was made, or there was none
  advanced : (went : Bool) (old new : Cluster (Group n)) (before after : List (List ℕ)) (held left : DiskSeen) → HasStateOn (group_kit n) any_state old held → Advances (group_kit n) went old new before after held left → held.faults ≤ left.faults
  advanced true old new before after held left has advances = (advances has.setup has.state has.good has.shows has.count tt).uses.later
  advanced false old new before after held left has advances = subst (λ (d : DiskSeen). held.faults ≤ d.faults) (sym advances.2) (le_refl held.faults)

  pub advance-counted : (r : Result Bool DiskAnswer) (old new : Cluster (Group n)) (before after : List (List ℕ)) (held left : DiskSeen) → HasStateOn (group_kit n) any_state old held → IfOk r (λ went. Advances (group_kit n) went old new before after held left) → IfErr r (λ answer. ComesOff (group_kit n) any_state (EndsStep (group_kit n)) answer old new before after held left) → Counted {T = Bool} (group_kit n) held left r
  advance-counted (Ok went) old new before after held left has advances off = advanced went old new before after held left has advances
  advance-counted (Err answer) old new before after held left has advances off = off-counted {T = Bool} (Err answer) (EndsStep (group_kit n)) old new before after held left has tt off
