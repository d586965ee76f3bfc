-- Lines on the server and its journal alone, while it is up, that ask no disk, and those that are refused.
use Rattle.std.proofs.Common.{◌≡◌, inl, ℕ, ◌≤◌, Bool, true, false, None, List, [], refl, ap, sym, subst, ◌∙◌}
use Rattle.std.specs.Prelude.{IsSome, Result, Ok, Err, OnOk, OnErr}
use Rattle.disk_model.specs.declared.answers.DiskAnswer.{DiskAnswer}
use Rattle.disk_model.specs.declared.answers.DiskAnswer.TheVariants.{Memory}
use Rattle.script_lines.specs.declared.line.Line.{Line}
use Rattle.script_lines.specs.declared.line.Line.TheVariants as line
use Rattle.script_lines.specs.declared.line.Server.TheVariants.{A, B}
use Rattle.plain_service.specs.Setups.{Setup}
use Rattle.service_laws.specs.PlainOf.{plain_of}
use Rattle.cluster_facts.specs.Types.{Entry}
use Rattle.cluster_facts.specs.History.{Hand, Empty, Waiting, Applied, Ready}
use Rattle.cluster_events.specs.Events.{refuse}
use Rattle.cluster_events.specs.Ending.{is_crash}
use Rattle.cluster_events.specs.Servers.{State}
use Rattle.cluster_clients.proofs.DispatchSteps.{on-err}
use Rattle.mirror.specs.declared.state.NodeState.{NodeState}
use Rattle.cluster_rounds.specs.declared.cluster.Cluster.{Cluster}
use Rattle.cluster_rounds.specs.Worlds.{Does, HasStateOn, IsGood, Shows, any_state}
use Rattle.cluster_rounds.proofs.BrokenClients.{same-breaks}
use Rattle.cluster_rounds.proofs.BrokenSteps.{shown-ends}
use Rattle.cluster_lines.specs.Answers.{EndsAs}
use Rattle.cluster_lines.specs.Lines.{shows_files}
use Rattle.cluster_lines.specs.Own.{DoesOn, PlaysLine}
use Rattle.cluster_lines.specs.Shelves.{shelf_of}
use Rattle.cluster_lines.specs.Showing.{refused}
use Rattle.cluster_lines.proofs.OwnLines.{alone-line, disk-line}
use Rattle.cold_cluster.specs.Cold.{Alone, IsBeside}
use Rattle.cold_cluster.specs.Lines.{HappensUp, alone}
use Rattle.lone_server.specs.declared.lone.Lone.{Lone}
use Rattle.lone_server.specs.Working.{HearsBack}
use Rattle.cold_servers.specs.declared.solo.Solo.{Solo}
use Rattle.cold_servers.specs.ColdCounts.{CameBack, CountsLine, Idle}
use Rattle.cold_servers.specs.ColdKit.{cold_kit, cold_script}
use Rattle.cold_servers.specs.ColdLaws.{cold_laws}
use Rattle.cold_servers.specs.ColdNodes.{OwnBy, active_by, back_by, link_by, up_by}
use Rattle.cold_servers.specs.ColdScript.{cold_follows, while-up}
use Rattle.cold_servers.specs.ColdSeen.{ColdSeen}
use Rattle.cold_servers.specs.CountLaws.{done-none, idle-same}
use Rattle.cold_servers.specs.Steps.{AllUp, IsRefusedUp, disarmed_both, disk_armed, fell, journal_armed}
use Rattle.cold_servers.proofs.AckState.{acks-left, acked_by, acks-happen, is-applied}
use Rattle.cold_servers.proofs.AdvanceSteps.{back-off, stood-least}
use Rattle.cold_servers.proofs.HearState.{is-idle}
use Rattle.cold_servers.proofs.JoinState.{is-waiting}
use Rattle.cold_servers.proofs.WorkState.{is-ready}

-- What a line counts that is refused: nothing.

same-back : (up : Bool) (seen : ColdSeen) → CameBack up up seen seen
same-back true seen = idle-same seen
same-back false seen = idle-same seen

pub refused-counts : (next : Line) (setup : Setup) (state : State Alone) (seen : ColdSeen) → shows_files next ≡ false → IsBeside state.peers.mirrored → CountsLine next setup state state seen seen
refused-counts line.Mirror setup state seen unshown beside = inl (done-none setup state state seen refl refl refl beside)
refused-counts line.Work setup state seen unshown beside = inl (done-none setup state state seen refl refl refl beside)
refused-counts line.Settle setup state seen unshown beside = inl (done-none setup state state seen refl refl refl beside)
refused-counts line.Files setup state seen unshown beside = cc
refused-counts (line.Cat name) setup state seen unshown beside = cc
refused-counts (line.Restart server) setup state seen unshown beside = same-back state.peers.up seen
refused-counts _ setup state seen unshown beside = idle-same seen

pub refused-line : {T E : Type 0} (r : Result T E) (s : Result T DiskAnswer) (next : Line) (old : Cluster Solo) (before after : List (List ℕ)) (held : ColdSeen) → shows_files next ≡ false → EndsAs r s → HasStateOn cold_kit any_state old held → AllUp old → IsRefusedUp next old → OnOk r (Does cold_kit (refused cold_kit next) old old before after) → PlaysLine cold_kit cold_script s next old old before after held held
refused-line r s next old before after held unshown same has up refuses does =
    alone-line cold_kit cold_laws cold_script cold_follows r s next (refused cold_kit next) old old before after held same has
    (λ setup state good shows count. while-up (plain_of setup) (shelf_of setup) _ state (refused cold_kit next setup state) next (up setup state good shows) (refuses setup state good shows (shelf_of setup) _))
    (λ setup state good shows count. record { never = λ number. refl; counts = λ beside. refused-counts next setup state held unshown beside })
    (λ setup state. record { armed = λ seen told. told; tells = λ seen told. told })
    does (on-err r (same-breaks cold_kit cold_laws old))

-- Which lines are refused.

module _ (old : Cluster Solo) (up : AllUp old) where
  own-so : (setup : Setup) (state : State Alone) → IsGood cold_kit setup state → Shows cold_kit setup state old → old.servers.lone ≡ up_by setup state.world.core.answered state.world.core.hand state.peers
  own-so setup state good shows =
      subst (λ (b : Bool). OwnBy b setup state.world.core.answered state.world.core.hand state.peers old.servers.lone) (up setup state good shows) shows.own

  -- `mirror` where nothing is on the way
  pub mirror-refused : old.servers.lone.link ≡ [] → IsRefusedUp line.Mirror old
  mirror-refused none setup state good shows shelf device = by-hand state.world.core.hand refl
    where
      R : State Alone → Type 0
      R now = HappensUp (plain_of setup) shelf device line.Mirror now (refuse (alone (plain_of setup) device) line.Mirror now)

      link : link_by state.world.core.answered state.world.core.hand ≡ []
      link = sym (ap (λ (s : Lone). s.link) (own-so setup state good shows)) ∙ none

      by-hand : (hand : Hand) → state.world.core.hand ≡ hand → R state
      by-hand Empty is = subst R (is-idle state good.steady.good (up setup state good shows) is) refl
      by-hand (Waiting entry) is = let some = subst (λ (h : Hand). link_by state.world.core.answered h ≡ []) is link in cc
      by-hand (Applied entry) is = subst R (is-applied state entry good.steady.good (up setup state good shows) is) refl
      by-hand (Ready entry) is = subst R (is-ready state entry good.steady.good (up setup state good shows) is) refl

  -- `ack` where nothing came back
  pub ack-refused : old.servers.lone.back ≡ [] → IsRefusedUp line.Ack old
  ack-refused none setup state good shows shelf device = by-hand state.world.core.hand refl
    where
      R : State Alone → Type 0
      R now = HappensUp (plain_of setup) shelf device line.Ack now (refuse (alone (plain_of setup) device) line.Ack now)

      back : back_by state.world.core.answered state.world.core.hand ≡ []
      back = sym (ap (λ (s : Lone). s.back) (own-so setup state good shows)) ∙ none

      by-hand : (hand : Hand) → state.world.core.hand ≡ hand → R state
      by-hand Empty is = subst R (is-idle state good.steady.good (up setup state good shows) is) refl
      by-hand (Waiting entry) is = subst R (is-waiting state entry good.steady.good (up setup state good shows) is) refl
      by-hand (Applied entry) is = let some = subst (λ (h : Hand). back_by state.world.core.answered h ≡ []) is back in cc
      by-hand (Ready entry) is = subst R (is-ready state entry good.steady.good (up setup state good shows) is) refl

  -- `work` where no entry is ready
  pub work-refused : (IsSome old.servers.lone.node.replica.owed × (old.servers.lone.node.waits ≡ None) → ⊥) → IsRefusedUp line.Work old
  work-refused none setup state good shows shelf device = by-hand state.world.core.hand refl
    where
      R : State Alone → Type 0
      R now = HappensUp (plain_of setup) shelf device line.Work now (refuse (alone (plain_of setup) device) line.Work now)

      node : old.servers.lone.node ≡ active_by setup state.world.core.answered state.world.core.hand
      node = ap (λ (s : Lone). s.node) (own-so setup state good shows)

      ready : (entry : Entry) → state.world.core.hand ≡ Ready entry → ⊥
      ready entry is =
          let at : old.servers.lone.node ≡ active_by setup state.world.core.answered (Ready entry) = node ∙ ap (active_by setup state.world.core.answered) is in
          none (subst (λ (n : NodeState). IsSome n.replica.owed) (sym at) refl, ap (λ (n : NodeState). n.waits) at)

      by-hand : (hand : Hand) → state.world.core.hand ≡ hand → R state
      by-hand Empty is = subst R (is-idle state good.steady.good (up setup state good shows) is) refl
      by-hand (Waiting entry) is = subst R (is-waiting state entry good.steady.good (up setup state good shows) is) refl
      by-hand (Applied entry) is = subst R (is-applied state entry good.steady.good (up setup state good shows) is) refl
      by-hand (Ready entry) is = absurd (ready entry is)

-- **`ack`**, where it is heard that the entry joined

pub ack-line : {T : Type 0} (x : T) (old : Cluster Solo) (servers : Lone) (lines : List (List ℕ)) (held : ColdSeen) → HasStateOn cold_kit any_state old held → AllUp old → (heard : Bool) → (old.servers.lone.back ≡ [] → ⊥) → HearsBack heard old.servers.lone servers → PlaysLine {T = T} cold_kit cold_script (Ok x) line.Ack old (record old { servers = record { lone = servers } }) lines lines held held
ack-line x old servers lines held has up false some hears = absurd (some hears.0)
ack-line x old servers lines held has up true some hears =
    disk-line cold_kit cold_laws cold_script cold_follows (Ok x) line.Ack acked_by old (record old { servers = record { lone = servers } }) lines lines held held has
    (λ setup state good shows count. while-up (plain_of setup) (shelf_of setup) _ state (acked_by setup state) line.Ack (up setup state good shows) refl)
    (λ setup state good shows count.
    let is = up setup state good shows in
    let left = acks-left setup state old servers held good shows count is hears in
    (acks-happen setup state old servers lines good shows is hears, left.0, left.1, record { never = λ number. refl; counts = λ beside. idle-same held }))
    tt (cold_laws.stands held)

-- memory was wanting
pub ack-off : {T : Type 0} (next : Line) (old : Cluster Solo) (servers : Lone) (lines : List (List ℕ)) (held : ColdSeen) → servers.armed ≡ old.servers.lone.armed → PlaysLine {T = T} cold_kit cold_script (Err Memory) next old (record old { servers = record { lone = servers } }) lines lines held held
ack-off next old servers lines held stays = record {
  ok = tt;
  stands = tt;
  broken = λ setup state good shows count. back-off old servers lines lines held stays setup state good shows count tt;
  counts = cold_laws.stands held;
}

-- **a crash**

module _ {T E : Type 0} (r : Result T E) (s : Result T DiskAnswer) (next : Line) (old new : Cluster Solo) (before after : List (List ℕ)) (held left : ColdSeen) where
  -- where nothing changed
  unchanged-line : EndsAs r s → OnOk r (PlaysLine cold_kit cold_script s next old new before after held left) → OnErr r ((new ≡ old) × (left ≡ held)) → PlaysLine cold_kit cold_script s next old new before after held left
  unchanged-line same done kept = by r s same done kept
    where
      by : (r : Result T E) (s : Result T DiskAnswer) → EndsAs r s → OnOk r (PlaysLine cold_kit cold_script s next old new before after held left) → OnErr r ((new ≡ old) × (left ≡ held)) → PlaysLine cold_kit cold_script s next old new before after held left
      by (Ok x) s same done kept = done
      by (Err e) (Ok y) same done kept = elim same [ ]
      by (Err e) (Err f) same done kept =
          let D : ColdSeen → Type 0 = λ d. PlaysLine {T = T} cold_kit cold_script (Err f) next old new before after held d in
          let W : Cluster Solo → Type 0 = λ w. PlaysLine {T = T} cold_kit cold_script (Err f) next old w before after held held in
          let A : DiskAnswer → Type 0 = λ a. PlaysLine {T = T} cold_kit cold_script (Err a) next old old before after held held in
          subst D (sym kept.1) (subst W (sym kept.0) (subst A (sym same) (record {
            ok = tt;
            stands = tt;
            broken = λ setup state good shows count. (same-breaks cold_kit cold_laws old held setup state good shows, cold_laws.lacks_same (is_crash next) setup state old.history.entries old.servers held (shown-ends cold_kit cold_laws setup state old shows));
            counts = cold_laws.stands held;
          })))

-- the counts of faults stood in what asked nothing
pub idle-outlives : (held left : ColdSeen) → Idle held left → cold_kit.Outlives held left
idle-outlives held left idle = record {
  disk = stood-least held.disk.faults left.disk.faults idle.disk.faults;
  journal = stood-least held.journal.faults left.journal.faults idle.journal.faults;
}

pub beside-of : (old : Cluster Solo) (held : ColdSeen) → (has : HasStateOn cold_kit any_state old held) → IsBeside has.state.peers.mirrored
beside-of old held has = has.good.steady.good.1

crash-done : {T : Type 0} (x : T) (old new : Cluster Solo) (before after : List (List ℕ)) (held left : ColdSeen) → HasStateOn cold_kit any_state old held → AllUp old → DoesOn cold_kit cold_script (line.Crash A) fell old new before after held left → PlaysLine {T = T} cold_kit cold_script (Ok x) (line.Crash A) old new before after held left
crash-done x old new before after held left has up does =
    disk-line cold_kit cold_laws cold_script cold_follows (Ok x) (line.Crash A) fell old new before after held left has
    (λ setup state good shows count. while-up (plain_of setup) (shelf_of setup) _ state (fell setup state) (line.Crash A) (up setup state good shows) refl)
    does tt (idle-outlives held left ((does has.setup has.state has.good has.shows has.count).3.counts (beside-of old held has)))

pub crash-line : {T E : Type 0} (r : Result T E) (s : Result T DiskAnswer) (old new : Cluster Solo) (before after : List (List ℕ)) (held left : ColdSeen) → EndsAs r s → HasStateOn cold_kit any_state old held → AllUp old → OnOk r (DoesOn cold_kit cold_script (line.Crash A) fell old new before after held left) → OnErr r ((new ≡ old) × (left ≡ held)) → PlaysLine cold_kit cold_script s (line.Crash A) old new before after held left
crash-line {T} {E} r s old new before after held left same has up does kept =
    unchanged-line r s (line.Crash A) old new before after held left same (done r s same does) kept
  where
    done : (r : Result T E) (s : Result T DiskAnswer) → EndsAs r s → OnOk r (DoesOn cold_kit cold_script (line.Crash A) fell old new before after held left) → OnOk r (PlaysLine cold_kit cold_script s (line.Crash A) old new before after held left)
    done (Ok x) (Ok y) same does = crash-done y old new before after held left has up does
    done (Ok x) (Err f) same does = elim same [ ]
    done (Err e) s same does = tt

-- **disks are armed, and disarmed**

pub arm-disk-line : {T : Type 0} (x : T) (count : ℕ) (old new : Cluster Solo) (lines : List (List ℕ)) (held left : ColdSeen) → 1 ≤ count → HasStateOn cold_kit any_state old held → AllUp old → DoesOn cold_kit cold_script (line.Arm A count) (disk_armed count) old new lines lines held left → PlaysLine {T = T} cold_kit cold_script (Ok x) (line.Arm A count) old new lines lines held left
arm-disk-line x count old new lines held left some has up does =
    disk-line cold_kit cold_laws cold_script cold_follows (Ok x) (line.Arm A count) (disk_armed count) old new lines lines held left has
    (λ setup state good shows counted. while-up (plain_of setup) (shelf_of setup) _ state (disk_armed count setup state) (line.Arm A count) (up setup state good shows) (some, refl))
    does tt (idle-outlives held left ((does has.setup has.state has.good has.shows has.count).3.counts (beside-of old held has)))

pub arm-journal-line : {T : Type 0} (x : T) (count : ℕ) (old new : Cluster Solo) (lines : List (List ℕ)) (held left : ColdSeen) → 1 ≤ count → HasStateOn cold_kit any_state old held → AllUp old → DoesOn cold_kit cold_script (line.Arm B count) (journal_armed count) old new lines lines held left → PlaysLine {T = T} cold_kit cold_script (Ok x) (line.Arm B count) old new lines lines held left
arm-journal-line x count old new lines held left some has up does =
    disk-line cold_kit cold_laws cold_script cold_follows (Ok x) (line.Arm B count) (journal_armed count) old new lines lines held left has
    (λ setup state good shows counted. while-up (plain_of setup) (shelf_of setup) _ state (journal_armed count setup state) (line.Arm B count) (up setup state good shows) (some, refl))
    does tt (idle-outlives held left ((does has.setup has.state has.good has.shows has.count).3.counts (beside-of old held has)))

pub disarm-line : {T : Type 0} (x : T) (old new : Cluster Solo) (lines : List (List ℕ)) (held left : ColdSeen) → HasStateOn cold_kit any_state old held → AllUp old → DoesOn cold_kit cold_script line.Disarm disarmed_both old new lines lines held left → PlaysLine {T = T} cold_kit cold_script (Ok x) line.Disarm old new lines lines held left
disarm-line x old new lines held left has up does =
    disk-line cold_kit cold_laws cold_script cold_follows (Ok x) line.Disarm disarmed_both old new lines lines held left has
    (λ setup state good shows count. while-up (plain_of setup) (shelf_of setup) _ state (disarmed_both setup state) line.Disarm (up setup state good shows) refl)
    does tt (idle-outlives held left ((does has.setup has.state has.good has.shows has.count).3.counts (beside-of old held has)))
