-- What a line left that was not done, and how the disk's count of faults went in a line.
use Rattle.std.proofs.Common.{◌≡◌, ℕ, inl, inr, Bool, true, false, List, [], refl, ap, sym, subst, is_ok}
use Rattle.std.specs.Prelude.{Result, Ok, Err, OnOk, OnErr, IfErr, IsErrOf}
use Rattle.ais_values.specs.Causes.{RoseExactlyOn}
use Rattle.disk_model.specs.Seen.{DiskSeen}
use Rattle.disk_model.specs.declared.answers.DiskAnswer.{DiskAnswer}
use Rattle.disk_model.specs.declared.answers.DiskAnswer.TheVariants.{Memory, Failed, Stopped}
use Rattle.script_lines.specs.declared.line.Line.{Line}
use Rattle.script_lines.specs.declared.line.Line.TheVariants as line
use Rattle.plain_service.specs.Setups.{Setup}
use Rattle.service_laws.specs.PlainOf.{plain_of}
use Rattle.disk_model.specs.declared.tally.Tally.{Tally}
use Rattle.cluster_facts.specs.Lists.{without}
use Rattle.cluster_facts.specs.History.{committed}
use Rattle.cluster_clients.specs.Looks.{Looks}
use Rattle.cluster_events.specs.Lines.{is_ignored}
use Rattle.cluster_events.specs.Outcomes.{Outcome}
use Rattle.cluster_events.specs.Servers.{State}
use Rattle.cluster_events.specs.Devices.{EndBy}
use Rattle.cluster_events.specs.Ending.{is_crash}
use Rattle.cluster_events.proofs.Promised.{Says-printed}
use Rattle.cluster_rounds.specs.declared.cluster.Cluster.{Cluster}
use Rattle.cluster_rounds.specs.Kits.{IsKit, Kit, device_by}
use Rattle.cluster_rounds.specs.Scripts.{Script}
use Rattle.cluster_rounds.specs.Worlds.{HasStateOn, IsGood, Shows, any_state}
use Rattle.cluster_rounds.specs.Broken.{Broken, BreaksAlone}
use Rattle.cluster_rounds.proofs.BrokenSteps.{armed-shown, broken-ends, left-between, shown-ends, whole-broken}
use Rattle.cluster_rounds.proofs.UnaskedSteps.{unasked-same}
use Rattle.cluster_rounds.specs.Rounds.{EndsSettle}
use Rattle.cluster_rounds.specs.Came.{ComesOff, Ended}
use Rattle.cluster_rounds.specs.Counted.{Counted}
use Rattle.cluster_rounds.specs.Seen.{IsRead}
use Rattle.cluster_rounds.proofs.BrokenClients.{same-breaks}
use Rattle.cluster_lines.specs.Playing.{BreaksOff, EndsLine, FaultLeaves, LineEnded, SharesIn, ShowFails}
use Rattle.cluster_lines.specs.Following.{IsScript}
use Rattle.cluster_lines.specs.Answers.{EndsAs}

-- a disk that was looked at was only read
pub looked-read : (one two : DiskSeen) (Due : ℕ → Type 0) (done : Bool) → two.files ≡ one.files → two.stops ≡ one.stops → Looks Due done one.tally two.tally → IsRead one two
looked-read one two Due done files stops looks = record {
  files = files;
  changing = ap (λ (t : Tally). t.changing) looks.counted;
  armed = ap (λ (t : Tally). t.armed) looks.counted;
  stops = stops;
}

module _ {Peers Group : Type 0} (kit : Kit Peers Group) (laws : IsKit kit) where
  pub alone-as : (old new : Cluster Group) → new ≡ old → (BreaksAlone kit) old new
  alone-as old new same = subst ((BreaksAlone kit) old) (sym same) ((same-breaks kit laws) old)

  -- How the counts went.

  -- a cluster over a disk that was only read
  pub read-stands : (world : Cluster Group) (one two beside : DiskSeen) → IsRead one two → (HasStateOn kit) any_state world (kit.see one beside) → (HasStateOn kit) any_state world (kit.see two beside)
  read-stands world one two beside read has =
      record { setup = has.setup; state = has.state; good = has.good; shows = has.shows; count = laws.read_armed has.state.peers one two beside read has.count; so = tt }

  pub ends-counts : {T E : Type 0} (r : Result T E) (s : Result T DiskAnswer) (seen : kit.Seen) → EndsAs r s → Counted kit seen seen s
  ends-counts (Ok x) (Ok y) seen same = laws.stands seen
  ends-counts (Ok x) (Err f) seen same = elim same [ ]
  ends-counts (Err e) (Ok y) seen same = elim same [ ]
  ends-counts {T = T} (Err e) (Err f) seen same = subst (λ (answer : DiskAnswer). Counted {T = T} kit seen seen (Err answer)) (sym same) (laws.stands seen)

  pub shown-counts : {T : Type 0} (r : Result T DiskAnswer) (one two beside : DiskSeen) → IsRead one two → RoseExactlyOn one.faults two.faults r Failed → (IsErrOf r Stopped → ⊥) → Counted kit (kit.see one beside) (kit.see two beside) r
  shown-counts (Ok x) one two beside read cause never = laws.read_outlives one two beside read cause.stands
  shown-counts (Err Memory) one two beside read cause never = elim cause.stands [
    | inl is ↦ cc
    | inr same ↦ laws.read_outlives one two beside read same
  ]
  shown-counts (Err Failed) one two beside read cause never = laws.read_rises one two beside read cause.later (cause.rose refl)
  shown-counts (Err Stopped) one two beside read cause never = absurd (never refl)

  -- what is so of a disk that only was read is so of it now
  pub shown-ok : {T Q P : Type 0} (r : Result T DiskAnswer) (one two : DiskSeen) → RoseExactlyOn one.faults two.faults r Failed → (is_ok r ≡ true → two.faults ≡ one.faults → Q → P) → OnOk r Q → OnOk r P
  shown-ok (Ok x) one two cause step holds = step refl cause.stands holds
  shown-ok (Err answer) one two cause step holds = tt

module _ {Peers Group : Type 0} (kit : Kit Peers Group) (laws : IsKit kit) (script : Script Peers kit.Seen) (follows : IsScript kit script) where
  -- a line that leaves the disk alone
  pub ends-broken : {T E : Type 0} (r : Result T E) (s : Result T DiskAnswer) (next : Line) (old new : Cluster Group) (before after : List (List ℕ)) (held : kit.Seen) → EndsAs r s → OnErr r ((BreaksAlone kit) old new) → IfErr s (λ answer. (BreaksOff kit script) answer next old new before after held held)
  ends-broken (Ok x) (Ok y) next old new before after held same breaks = tt
  ends-broken (Ok x) (Err f) next old new before after held same breaks = elim same [ ]
  ends-broken (Err e) (Ok y) next old new before after held same breaks = elim same [ ]
  ends-broken (Err e) (Err f) next old new before after held same breaks =
      let off : (BreaksOff kit script) Memory next old new before after held held = λ setup state good shows count.
      let broken = breaks held setup state good shows in
      (broken, laws.lacks_same (is_crash next) setup state new.history.entries new.servers held ((broken-ends kit laws) setup state held held new broken))
      in
      subst (λ answer. (BreaksOff kit script) answer next old new before after held held) (sym same) off

  -- **an event that ended is its line's end, with its lines on messages without effect left out**
  pub ended-line : (next : Line) (Ends : Setup → EndBy Peers) (setup : Setup) (state : State Peers) (new : Cluster Group) (before after : List (List ℕ)) (held left : kit.Seen) → ((fails : ℕ → ℕ) (end : Outcome (State Peers)) → Ends setup fails state end → (EndsLine kit script) next setup fails state (record { state = end.state; told = without is_ignored end.told })) → ((happened : ℕ → ℕ) (end : Outcome (State Peers)) → kit.Faults setup happened state end held left → script.Faults next setup happened state (record { state = end.state; told = without is_ignored end.told }) held left) → (Ended kit) setup state (Ends setup) new before after held left → (LineEnded kit script) setup state next new before after held left
  ended-line next Ends setup state new before after held left as_line as_fault ended = record {
    happened = ended.happened;
    end = record { state = ended.end.state; told = without is_ignored ended.end.told };
    ends = as_line ended.happened ended.end (ended.ends.is ended.happened (λ number above within. refl));
    faults = as_fault ended.happened ended.end ended.faults;
    good = ended.good;
    says = Says-printed (plain_of setup) state.world ended.end.state.world ended.end.told ended.says;
    fell = ended.fell;
    net = ended.net;
    agents = ended.agents;
    history = ended.history;
    now = ended.now;
    callbacks = ended.callbacks;
    lines = ended.lines;
    files = ended.files;
  }

  -- `settle` that broke off by no stop
  pub settle-broken : (answer : DiskAnswer) (old new : Cluster Group) (before after : List (List ℕ)) (held left : kit.Seen) → (SharesIn kit script) line.Settle old → (answer ≡ Stopped → ⊥) → (ComesOff kit) any_state (EndsSettle kit) answer old new before after held left → (BreaksOff kit script) answer line.Settle old new before after held left
  settle-broken Memory old new before after held left shared never off = λ setup state good shows count. off setup state good shows count tt
  settle-broken Stopped old new before after held left shared never off = absurd (never refl)
  settle-broken Failed old new before after held left shared never off = λ setup state good shows count.
      ended-line line.Settle (EndsSettle kit Failed) setup state new before after held left
      (λ fails end ends. follows.settles (plain_of setup) (device_by setup fails) state end (shared setup state good shows) ends) (λ happened end faults. follows.settle_faults setup happened state end held left faults) (off setup state good shows count tt)

  -- files were to be shown
  read-lacks : (one two beside : DiskSeen) → IsRead one two → two.faults ≡ one.faults → (setup : Setup) (state : State Peers) (world : Cluster Group) → (IsGood kit) setup state → (Shows kit) setup state world → (Broken kit) setup state (kit.see one beside) (kit.see two beside) world × kit.Lacks false setup state world.history.entries world.servers (kit.see one beside) (kit.see two beside)
  read-lacks one two beside read faults setup state world good shows =
      let nothing = unasked-same (plain_of setup) state.world in
      let left : kit.Tells setup state (kit.see one beside) → kit.Between setup (committed state.world.core) (kit.see one beside) (kit.see two beside) = λ tells. (left-between kit laws) setup state (kit.see one beside) (kit.see two beside) good (laws.read_left setup state one two beside read tells) in
      let armed : kit.Armed state.peers (kit.see one beside) → kit.ArmedAs world.servers (kit.see two beside) = λ is. (armed-shown kit laws) setup state (kit.see two beside) world shows (laws.read_armed state.peers one two beside read is) in
      ((whole-broken kit laws) setup state state [] (kit.see one beside) (kit.see two beside) world good.steady.sound nothing shows.net shows.agents shows.history shows.now armed left, laws.read_lacks setup state world.history.entries world.servers one two beside ((shown-ends kit laws) setup state world shows) read faults)

  pub show-broken : {T : Type 0} (r : Result T DiskAnswer) (next : Line) (old : Cluster Group) (before after : List (List ℕ)) (one two beside : DiskSeen) → is_crash next ≡ false → (FaultLeaves kit script) next old old before before (kit.see one beside) (kit.see two beside) → IsRead one two → RoseExactlyOn one.faults two.faults r Failed → (IsErrOf r Failed → after ≡ before) → (IsErrOf r Stopped → ⊥) → IfErr r (λ answer. (BreaksOff kit script) answer next old old before after (kit.see one beside) (kit.see two beside))
  show-broken (Ok x) next old before after one two beside none leaves read cause stays never = tt
  show-broken (Err Memory) next old before after one two beside none leaves read cause stays never = λ setup state good shows count. elim cause.stands [
    | inl is ↦ cc
    | inr same ↦ subst (λ (crash : Bool). (Broken kit) setup state (kit.see one beside) (kit.see two beside) old × kit.Lacks crash setup state old.history.entries old.servers (kit.see one beside) (kit.see two beside)) (sym none) (read-lacks one two beside read same setup state old good shows)
  ]
  show-broken (Err Stopped) next old before after one two beside none leaves read cause stays never = absurd (never refl)
  show-broken (Err Failed) next old before after one two beside none leaves read cause stays never =
      subst (λ (lines : List (List ℕ)). (FaultLeaves kit script) next old old before lines (kit.see one beside) (kit.see two beside)) (sym (stays refl)) leaves

  pub show-fails : (one two beside : DiskSeen) → IsRead one two → (ShowFails kit script) (kit.see one beside) (kit.see two beside)
  show-fails one two beside read = record { one = one; two = two; beside = beside; held_is = refl; left_is = refl; read = read }

  pub files-broken : {T : Type 0} (r : Result T DiskAnswer) (next : Line) (old : Cluster Group) (before after : List (List ℕ)) (one two beside : DiskSeen) → next ≡ line.Files → IsRead one two → RoseExactlyOn one.faults two.faults r Failed → (IsErrOf r Failed → after ≡ before) → (IsErrOf r Stopped → ⊥) → IfErr r (λ answer. (BreaksOff kit script) answer next old old before after (kit.see one beside) (kit.see two beside))
  files-broken r next old before after one two beside is read cause stays never =
      show-broken r next old before after one two beside (ap is_crash is) (subst (λ (n : Line). (FaultLeaves kit script) n old old before before (kit.see one beside) (kit.see two beside)) (sym is) (refl, refl, show-fails one two beside read)) read cause stays never

  pub cat-broken : {T : Type 0} (r : Result T DiskAnswer) (next : Line) (name : List ℕ) (old : Cluster Group) (before after : List (List ℕ)) (one two beside : DiskSeen) → next ≡ line.Cat name → IsRead one two → RoseExactlyOn one.faults two.faults r Failed → (IsErrOf r Failed → after ≡ before) → (IsErrOf r Stopped → ⊥) → IfErr r (λ answer. (BreaksOff kit script) answer next old old before after (kit.see one beside) (kit.see two beside))
  cat-broken r next name old before after one two beside is read cause stays never =
      show-broken r next old before after one two beside (ap is_crash is) (subst (λ (n : Line). (FaultLeaves kit script) n old old before before (kit.see one beside) (kit.see two beside)) (sym is) (refl, refl, show-fails one two beside read)) read cause stays never
