-- A step of a drain as the line that makes it alone, at a state in which the server is up.
use Rattle.std.proofs.Common.{◌≡◌, inl, inr, ℕ, zero, suc, Bool, true, false, ◌||◌, Option, Some, None, List, ◌++◌, refl, ap, sym, subst, ◌∙◌, arith}
use Rattle.std.proofs.lemmas.Bool.Decides.{nat_tests}
use Rattle.disk_model.specs.Counts.{IsShort, reaches}
use Rattle.disk_model.specs.declared.answers.DiskAnswer.TheVariants.{Failed, Stopped}
use Rattle.script_lines.specs.declared.line.Line.{Line}
use Rattle.script_lines.specs.declared.line.Line.TheVariants as line
use Rattle.plain_service.specs.Setups.{Setup}
use Rattle.service_laws.specs.PlainOf.{plain_of}
use Rattle.cluster_facts.specs.Types.{Entry}
use Rattle.cluster_facts.specs.History.{Hand, Waiting, Ready}
use Rattle.cluster_events.specs.Devices.{Device, EventBy}
use Rattle.cluster_events.specs.Events.{mirror_next, work_next}
use Rattle.cluster_events.specs.Outcomes.{Outcome}
use Rattle.cluster_events.specs.Servers.{State}
use Rattle.cluster_clients.specs.Taken.{kept_lines}
use Rattle.event_text.specs.Texts.{printed}
use Rattle.cluster_rounds.specs.declared.cluster.Cluster.{Cluster}
use Rattle.cluster_rounds.specs.Came.{Came, Ended, Halted}
use Rattle.cluster_rounds.specs.Kits.{device_by, servers_at}
use Rattle.cluster_rounds.specs.Rounds.{EndsStep}
use Rattle.cluster_lines.specs.Playing.{LineEnded, Played}
use Rattle.cluster_lines.specs.Shelves.{shelf_of}
use Rattle.cluster_lines.proofs.LineSteps.{own-shelf}
use Rattle.cold_cluster.specs.Cold.{Alone, IsBeside, append_count}
use Rattle.cold_cluster.specs.Ended.{EndsBy, FailsAppend, FailsIn, FailsWork}
use Rattle.cold_cluster.specs.Lines.{HappensUp, IsLeft, append_next, or_fall, perform_next, stops_append, stops_work}
use Rattle.cold_servers.specs.declared.solo.Solo.{Solo}
use Rattle.cold_servers.specs.ColdCounts.{CountsEnd, CountsLine}
use Rattle.cold_servers.specs.ColdKit.{cold_kit, cold_script}
use Rattle.cold_servers.specs.ColdScript.{while-up}
use Rattle.cold_servers.specs.ColdSeen.{ColdSeen, TellsBoth}

-- A count that is not reached, in an append and in the deeds of an entry.

pub far-append : (armed : Option ℕ) → IsShort append_count armed → reaches append_count armed ≡ false
far-append armed short = short (omega arith)

pub far-work : (calls : ℕ) (armed : Option ℕ) → IsLeft armed → IsShort calls armed → reaches calls armed ≡ false
far-work calls None left short = refl
far-work zero (Some count) left short = grind (arith, nat_tests)
far-work (suc calls) (Some count) left short = short (omega arith)

-- What is in hand tells which disk may stop.

append-stops : (device : Device) (past : List Entry) (hand : Hand) (entry : Entry) (armed beside : Option ℕ) → hand ≡ Waiting entry
    → (stops_append hand beside || stops_work device past hand armed) ≡ true → stops_append hand beside ≡ true
append-stops device past hand entry armed beside is stops =
    let S : Hand → Type 0 = λ h. (stops_append h beside || stops_work device past h armed) ≡ true in
    subst (λ (h : Hand). stops_append h beside ≡ true) (sym is) (or-false (reaches append_count beside) (subst S is stops))
  where
    or-false : (one : Bool) → (one || false) ≡ true → one ≡ true
    or-false true stops = refl
    or-false false stops = stops

work-stops : (device : Device) (past : List Entry) (hand : Hand) (entry : Entry) (armed beside : Option ℕ) → hand ≡ Ready entry
    → (stops_append hand beside || stops_work device past hand armed) ≡ true → stops_work device past hand armed ≡ true
work-stops device past hand entry armed beside is stops =
    let S : Hand → Type 0 = λ h. (stops_append h beside || stops_work device past h armed) ≡ true in
    subst (λ (h : Hand). stops_work device past h armed ≡ true) (sym is) (subst S is stops)

-- Lines that are told are printed, where none is on a message without effect.
module _ (setup : Setup) (state : State Alone) (new : Cluster Solo) (before after : List (List ℕ)) (held left : ColdSeen) (up : state.peers.up ≡ true) where
  -- a line that was done
  came-played : (next : Line) (event : EventBy Alone) (loud : Bool) (came : Came cold_kit setup state event new before after loud held left) → HappensUp (plain_of setup) (shelf_of setup) (device_by setup came.happened) next state came.outcome → (IsBeside state.peers.mirrored → CountsLine next setup state came.outcome.state held left) → kept_lines came.outcome.told ≡ printed came.outcome.told → TellsBoth setup state held → Played cold_kit cold_script setup state next new before after held left
  came-played next event loud came happens counts quiet tells = record {
    shelf = shelf_of setup;
    shelf_is = own-shelf setup held.disk.files;
    happened = came.happened;
    outcome = came.outcome;
    leads = while-up (plain_of setup) (shelf_of setup) (device_by setup came.happened) state came.outcome next up happens;
    uses = record { never = came.uses.never; counts = counts };
    is = (came.played.shows, came.played.good, came.played.lines ∙ ap (λ (l : List (List ℕ)). before ++ l) quiet);
    count = came.count;
    files = came.played.files tells;
  }

  -- one in which a disk stopped
  halted-played : (next : Line) → (halted : Halted cold_kit setup state (EndsStep cold_kit Stopped setup) new before after held left) → HappensUp (plain_of setup) (shelf_of setup) (device_by setup halted.happened) next state halted.end → (IsBeside state.peers.mirrored → CountsLine next setup state halted.end.state held left) → TellsBoth setup state held → Played cold_kit cold_script setup state next new before after held left
  halted-played next halted happens counts tells =
      let stop = halted.ends.is halted.happened (λ number above within. refl) in
      let quiet : kept_lines halted.end.told ≡ printed halted.end.told = subst (λ (o : Outcome (State Alone)). kept_lines o.told ≡ printed o.told) (sym stop.is) refl in
      record {
        shelf = shelf_of setup;
        shelf_is = own-shelf setup held.disk.files;
        happened = halted.happened;
        outcome = halted.end;
        leads = while-up (plain_of setup) (shelf_of setup) (device_by setup halted.happened) state halted.end next up happens;
        uses = record { never = halted.uses.never; counts = counts };
        is = (halted.shows, halted.good, halted.lines ∙ ap (λ (l : List (List ℕ)). before ++ l) quiet);
        count = halted.count;
        files = halted.files tells;
      }

  -- one that ended by a fault
  ended-line : (next : Line) → (ended : Ended cold_kit setup state (EndsStep cold_kit Failed setup) new before after held left) → EndsBy true (plain_of setup) (device_by setup ended.happened) next state ended.end → (IsBeside state.peers.mirrored → CountsEnd next setup state ended.end.state held left) → LineEnded cold_kit cold_script setup state next new before after held left
  ended-line next ended ends counts =
      let fail = ended.ends.is ended.happened (λ number above within. refl) in
      let quiet : kept_lines ended.end.told ≡ printed ended.end.told = subst (λ (o : Outcome (State Alone)). kept_lines o.told ≡ printed o.told) (sym fail.is) refl in
      record {
        happened = ended.happened;
        end = ended.end;
        ends = subst (λ (b : Bool). EndsBy b (plain_of setup) (device_by setup ended.happened) next state ended.end) (sym up) ends;
        faults = record { never = ended.faults.never; counts = counts };
        good = ended.good;
        says = ended.says;
        fell = ended.fell;
        net = ended.net;
        agents = ended.agents;
        history = ended.history;
        now = ended.now;
        callbacks = ended.callbacks;
        lines = ended.lines ∙ ap (λ (l : List (List ℕ)). before ++ l) quiet;
        files = ended.files;
      }

  -- **`mirror`**

  pub mirror-played : (entry : Entry) (loud : Bool) → state.world.core.hand ≡ Waiting entry → reaches append_count state.peers.beside ≡ false → (came : Came cold_kit setup state (λ fails now. mirror_next (servers_at cold_kit setup fails) now) new before after loud held left) → kept_lines came.outcome.told ≡ printed came.outcome.told → TellsBoth setup state held → Played cold_kit cold_script setup state line.Mirror new before after held left
  mirror-played entry loud waits far came quiet tells =
      let so : came.outcome ≡ mirror_next (servers_at cold_kit setup came.happened) state = sym (came.comes.is came.happened (λ number above within. refl)) in
      let none : stops_append state.world.core.hand state.peers.beside ≡ false = subst (λ (h : Hand). stops_append h state.peers.beside ≡ false) (sym waits) far in
      let happens : came.outcome ≡ append_next (plain_of setup) (device_by setup came.happened) state = so ∙ ap (λ (b : Bool). or_fall b (mirror_next (servers_at cold_kit setup came.happened) state) state) (sym none) in
      came-played line.Mirror (λ fails now. mirror_next (servers_at cold_kit setup fails) now) loud came happens (λ beside. inl (came.uses.done beside)) quiet tells

  pub mirror-halted : (entry : Entry) → state.world.core.hand ≡ Waiting entry → Halted cold_kit setup state (EndsStep cold_kit Stopped setup) new before after held left → TellsBoth setup state held → Played cold_kit cold_script setup state line.Mirror new before after held left
  mirror-halted entry waits halted tells =
      let core = state.world.core in
      let stop = halted.ends.is halted.happened (λ number above within. refl) in
      let some = append-stops (device_by setup halted.happened) core.answered core.hand entry state.peers.armed state.peers.beside waits stop.stops in
      let happens : halted.end ≡ append_next (plain_of setup) (device_by setup halted.happened) state = stop.is ∙ ap (λ (b : Bool). or_fall b (mirror_next (servers_at cold_kit setup halted.happened) state) state) (sym some) in
      halted-played line.Mirror halted happens (λ beside. inr (halted.uses.broke beside)) tells

  pub mirror-ended : (entry : Entry) → state.world.core.hand ≡ Waiting entry → Ended cold_kit setup state (EndsStep cold_kit Failed setup) new before after held left → LineEnded cold_kit cold_script setup state line.Mirror new before after held left
  mirror-ended entry waits ended =
      let fail = ended.ends.is ended.happened (λ number above within. refl) in
      ended-line line.Mirror ended (subst FailsAppend (sym waits) tt, fail.is) (λ beside. ended.faults.broke beside)

  -- **`work`**

  pub work-played : (entry : Entry) (loud : Bool) → state.world.core.hand ≡ Ready entry → (came : Came cold_kit setup state (λ fails now. work_next (servers_at cold_kit setup fails) now) new before after loud held left) → stops_work (device_by setup came.happened) state.world.core.answered (Ready entry) state.peers.armed ≡ false → kept_lines came.outcome.told ≡ printed came.outcome.told → TellsBoth setup state held → Played cold_kit cold_script setup state line.Work new before after held left
  work-played entry loud ready came far quiet tells =
      let so : came.outcome ≡ work_next (servers_at cold_kit setup came.happened) state = sym (came.comes.is came.happened (λ number above within. refl)) in
      let device = device_by setup came.happened in
      let none : stops_work device state.world.core.answered state.world.core.hand state.peers.armed ≡ false = subst (λ (h : Hand). stops_work device state.world.core.answered h state.peers.armed ≡ false) (sym ready) far in
      let happens : came.outcome ≡ perform_next (plain_of setup) device state = so ∙ ap (λ (b : Bool). or_fall b (work_next (servers_at cold_kit setup came.happened) state) state) (sym none) in
      came-played line.Work (λ fails now. work_next (servers_at cold_kit setup fails) now) loud came happens (λ beside. inl (came.uses.done beside)) quiet tells

  pub work-halted : (entry : Entry) → state.world.core.hand ≡ Ready entry → Halted cold_kit setup state (EndsStep cold_kit Stopped setup) new before after held left → TellsBoth setup state held → Played cold_kit cold_script setup state line.Work new before after held left
  work-halted entry ready halted tells =
      let core = state.world.core in
      let device = device_by setup halted.happened in
      let stop = halted.ends.is halted.happened (λ number above within. refl) in
      let some = work-stops device core.answered core.hand entry state.peers.armed state.peers.beside ready stop.stops in
      let happens : halted.end ≡ perform_next (plain_of setup) device state = stop.is ∙ ap (λ (b : Bool). or_fall b (work_next (servers_at cold_kit setup halted.happened) state) state) (sym some) in
      halted-played line.Work halted happens (λ beside. inr (halted.uses.broke beside)) tells

  pub work-ended : (entry : Entry) → state.world.core.hand ≡ Ready entry → Ended cold_kit setup state (EndsStep cold_kit Failed setup) new before after held left → LineEnded cold_kit cold_script setup state line.Work new before after held left
  work-ended entry ready ended =
      let core = state.world.core in
      let device = device_by setup ended.happened in
      let fail = ended.ends.is ended.happened (λ number above within. refl) in
      let fails : FailsWork device core.answered core.hand = subst (λ (h : Hand). FailsWork device core.answered h) (sym ready) (subst (λ (h : Hand). FailsIn device core.answered h) ready fail.fails) in
      ended-line line.Work ended (fails, fail.is) (λ beside. ended.faults.broke beside)
