-- Servers beside an active one are such servers as a cluster may have.
use Rattle.std.specs.Prelude.{◌≡◌, ℕ, is_some, IfSome}
use Rattle.std.proofs.Common.{refl, ap, sym, subst, le_refl, le_trans, ◌∙◌}
use Rattle.cluster_facts.specs.History.{Core}
use Rattle.cluster_events.specs.Servers.{State}
use Rattle.group_cluster.specs.Seats.{Stance, Out, Owed, Linking, Standby, Peers, is_up, count_seats}
use Rattle.group_cluster.specs.Group.{sent_to}
use Rattle.group_cluster.proofs.Saying.{group-serves}
use Rattle.cluster_rounds.specs.Kits.{IsKit, calm_servers}
use Rattle.lead_rounds.proofs.GroupSteps.{group-unasked, group-steps-unasked, accept-measured}
use Rattle.cluster_rounds.specs.Resting.{Rests}
use Rattle.cluster_rounds.specs.Resting.Rests.{begun, moved, accepted}
use Rattle.plain_service.specs.Setups.{Setup}
use Rattle.plain_service.specs.Storing.{files_of}
use Rattle.cluster_events.proofs.Devices.{rose-later}
use Rattle.cluster_rounds.proofs.FilesSteps.{between-behind, left-between, left-both, left-same, left-told}
use Rattle.cluster_rounds.specs.Seen.{counters_of}
use Rattle.group_servers.specs.declared.group.Group.{Group}
use Rattle.group_servers.specs.GroupCounts.{count_up}
use Rattle.group_servers.specs.GroupKit.{group_kit}
use Rattle.group_servers.specs.GroupUses.{faults-behind, lacks-behind, lacks-none, lacks-quiet, stood-later, up-on, uses-both, uses-none, uses-printed}

-- what asks no disk answers no entry
pub rests-answered : (n : ℕ) (setup : Setup) {state new : State Peers} → Rests (calm_servers (group_kit n) setup) state new
    → new.world.core.answered ≡ state.world.core.answered
rests-answered n setup begun = refl
rests-answered n setup (moved rests new core peers) = ap (λ (c : Core). c.answered) core ∙ rests-answered n setup rests
rests-answered n setup (accepted rests entry empty) = rests-answered n setup rests

-- nor does a server go down
sent-up : (stance : Stance) → is_up (sent_to stance) ≡ is_up stance
sent-up Out = refl
sent-up Owed = refl
sent-up (Linking sent) = refl
sent-up (Standby on_way mark keeps) = refl

pub rests-up : (n : ℕ) (setup : Setup) {state new : State Peers} → Rests (calm_servers (group_kit n) setup) state new
    → count_up new ≡ count_up state
rests-up n setup begun = refl
rests-up n setup (moved rests new core peers) = ap (λ (p : Peers). count_seats is_up p.seats) peers ∙ rests-up n setup rests
rests-up n setup (accepted {now = now} rests entry empty) = up-on sent_to sent-up now.peers.seats ∙ rests-up n setup rests

-- nor does another one become active
pub rests-acting : (n : ℕ) (setup : Setup) {state new : State Peers} → Rests (calm_servers (group_kit n) setup) state new
    → new.peers.acting ≡ state.peers.acting
rests-acting n setup begun = refl
rests-acting n setup (moved rests new core peers) = ap (λ (p : Peers). p.acting) peers ∙ rests-acting n setup rests
rests-acting n setup (accepted rests entry empty) = rests-acting n setup rests

pub group_laws : (n : ℕ) → IsKit (group_kit n)
group_laws n = record {
  serves = λ plain device is_plain. group-serves n plain device is_plain;
  unasked = λ plain device is_plain. group-unasked n plain device is_plain;
  steps = λ plain device. refl;
  stepped = λ plain device is_plain. group-steps-unasked n plain device is_plain;
  alike = λ plain one other. refl;
  keeps = λ plain device entry state. refl;
  armed = λ plain device entry state seen is. is;
  armed_as = λ setup past hand peers servers seen own is. ap (λ (servers : Group n). servers.armed) own ∙ ap is_some (sym is);
  accepts = λ setup fails entry state seen empty tells. tells;
  measured = λ plain device entry state empty good. accept-measured entry state empty;
  moves = λ setup old new seen core peers tells. subst (λ (c : Core). IfSome seen.files (λ files. files ≡ files_of setup c.answered)) (sym core) tells;
  left_same = λ setup state seen tells. left-same setup state seen.files tells;
  left_told = λ setup state held left leaves. left-told setup state held.files left.files leaves;
  left_both = λ setup middle state held told left first second. left-both setup middle state held.files told.files left.files first second;
  left_between = λ setup state held left begins steady range leaves. left-between setup state held.files left.files begins steady.sound range leaves;
  between_behind = λ setup middle past held told left leaves between. between-behind setup middle past held.files told.files left.files leaves between;
  shown = λ one beside. refl;
  read_armed = λ peers one two beside read is. read.armed ∙ is;
  read_left = λ setup state one two beside read tells. read.files ∙ left-same setup state one.files tells;
  read_lacks = λ setup state entries servers one two beside ends read faults.
      lacks-quiet setup state entries servers 0 (counters_of one) (counters_of two) ends read.changing faults read.stops;
  read_outlives = λ one two beside read faults. stood-later (counters_of one) (counters_of two) faults;
  read_rises = λ one two beside read later rose. record { later = later; rose = rose };
  unused = λ setup state outcome seen rests.
      uses-none setup state outcome.state outcome.told (counters_of seen) (rests-answered n setup rests) (rests-up n setup rests)
      (rests-acting n setup rests);
  used_both = λ setup one two state first second held told left before after.
      uses-both setup one two state first.state second.state first.told second.told
      (counters_of held) (counters_of told) (counters_of left) before after;
  used_printed = λ setup happened state outcome held left uses.
      uses-printed setup happened state outcome.state outcome.told (counters_of held) (counters_of left) uses;
  halts_behind = λ setup one two state first end held told left before after.
      uses-both setup one two state first.state end.state first.told end.told
      (counters_of held) (counters_of told) (counters_of left) before after;
  faults_behind = λ setup one two state first end held told left before after.
      faults-behind setup one two state first.state end.state first.told
      (counters_of held) (counters_of told) (counters_of left) before after;
  lacks_same = λ crash setup state entries servers seen ends. lacks-none crash setup state entries servers (counters_of seen) ends;
  lacks_behind = λ setup happened state first entries servers held told left before after.
      lacks-behind setup happened state first.state first.told entries servers
      (counters_of held) (counters_of told) (counters_of left) before after;
  stands = λ seen. le_refl seen.faults;
  further = λ one two three first second. le_trans first second;
  rises = λ one two three first second. record {
    later = le_trans first second.later;
    rose = rose-later one.faults two.faults three.faults first second.rose;
  };
  wild = λ servers old new entries seen grows wild. wild;
  read_wild = λ servers net entries one two beside read wild. wild;
}
