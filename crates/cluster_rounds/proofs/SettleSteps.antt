-- Rounds one after another, and where `settle` ends.
use Rattle.std.proofs.Common.{◌≡◌, ℕ, suc, Bool, true, false, List, [], ◌++◌, refl, ap, sym, ◌∙◌, subst, append_assoc, append-nil, arith}
use Rattle.disk_model.specs.declared.answers.DiskAnswer.{DiskAnswer}
use Rattle.disk_model.specs.declared.answers.DiskAnswer.TheVariants.{Memory, Failed, Stopped}
use Rattle.plain_service.specs.Setups.{Setup}
use Rattle.service_laws.specs.PlainOf.{plain_of}
use Rattle.service_laws.proofs.ServiceLaws.{is_plain}
use Rattle.cluster_facts.specs.Lists.{without}
use Rattle.cluster_facts.specs.History.{committed}
use Rattle.cluster_events.specs.Lines.{is_ignored}
use Rattle.cluster_events.specs.Outcomes.{Outcome, behind}
use Rattle.cluster_events.specs.Servers.{State}
use Rattle.cluster_events.specs.Settling.{round, is_loud, Rounds}
use Rattle.cluster_events.specs.Settling.Rounds.{Begun, Further}
use Rattle.cluster_events.specs.Devices.{answered_in, spliced}
use Rattle.cluster_events.proofs.Telling.{Says-both}
use Rattle.cluster_events.proofs.Carrying.{rounds-carry}
use Rattle.cluster_events.proofs.Devices.{agrees-first, agrees-second}
use Rattle.cluster_rounds.specs.declared.cluster.Cluster.{Cluster}
use Rattle.cluster_clients.specs.Taken.{kept_lines}
use Rattle.cluster_clients.proofs.ToldLines.{kept-append}
use Rattle.cluster_rounds.specs.Came.{Comes, ComesOff}
use Rattle.cluster_rounds.specs.Kits.{IsKit, Kit, servers_at}
use Rattle.cluster_rounds.specs.Resting.Rests.{begun}
use Rattle.cluster_rounds.specs.PartlyDone.{SaysUnasked}
use Rattle.cluster_rounds.specs.Rounds.{EndsRound, EndsSettle, round_by}
use Rattle.cluster_rounds.specs.Settling.{DoesSettle, SettlesSo, Settling}
use Rattle.cluster_rounds.specs.Worlds.{HasStateOn, IsGood, any_state}
use Rattle.cluster_rounds.proofs.BrokenSteps.{files-after, happened-broken}
use Rattle.cluster_rounds.proofs.KitSteps.{at-serves, at-unasked}

module _ {Peers Group : Type 0} (kit : Kit Peers Group) (laws : IsKit kit) where
  pub settling-begins : (world : Cluster Group) (lines : List (List ℕ)) (disk : kit.Seen) → (SettlesSo kit) world world lines lines true disk disk
  settling-begins world lines disk setup start good shows counted = record {
    happened = λ number. 0;
    state = start;
    told = [];
    later = omega arith;
    rounds = λ fails agrees. Begun;
    uses = laws.unused setup start (record { state = start; told = [] }) disk begun;
    shows = shows;
    good = good;
    count = counted;
    lines = sym (append-nil lines);
    files = laws.left_same setup start disk;
  }

  -- the state for the next round
  pub settling-on : (old now : Cluster Group) (before between : List (List ℕ)) (loud : Bool) (held told : kit.Seen) → (HasStateOn kit) any_state old held → (SettlesSo kit) old now before between loud held told → (HasStateOn kit) any_state now told
  settling-on old now before between loud held told has settles =
      let so_far = settles has.setup has.state has.good has.shows has.count in
      record { setup = has.setup; state = so_far.state; good = so_far.good; shows = so_far.shows; count = so_far.count; so = tt }

  pub settling-next : (old now new : Cluster Group) (before between after : List (List ℕ)) (loud : Bool) (held told left : kit.Seen) → (SettlesSo kit) old now before between true held told → (Comes kit) any_state (round_by kit) now new between after loud told left → (SettlesSo kit) old new before after loud held left
  settling-next old now new before between after loud held told left settles comes setup start good shows counted =
      let plain = plain_of setup in
      let so_far = settles setup start good shows counted in
      let came = comes setup so_far.state so_far.good so_far.shows so_far.count tt in
      let outcome = came.outcome in
      let next = came.played in
      let early = so_far.later in
      let late = came.comes.later in
      record {
        happened = spliced (answered_in so_far.state) so_far.happened came.happened;
        state = outcome.state;
        told = outcome.told ++ so_far.told;
        later = omega arith;
        rounds = λ fails agrees.
            let servers = servers_at kit setup fails in
            let before_it = so_far.rounds fails (agrees-first (answered_in start) (answered_in so_far.state) (answered_in outcome.state) so_far.happened came.happened fails late agrees) in
            let same = came.comes.is fails (agrees-second (answered_in start) (answered_in so_far.state) (answered_in outcome.state) so_far.happened came.happened fails early agrees) in
            let R : Outcome (State Peers) → Type 0 = λ o. Rounds plain servers start o.state (o.told ++ so_far.told) (is_loud o.told) in
            let further : R (round plain servers so_far.state) = Further before_it in
            subst (λ (b : Bool). Rounds plain servers start outcome.state (outcome.told ++ so_far.told) b) (sym next.loudness) (subst R same further);
        uses = laws.used_both setup so_far.happened came.happened start (record { state = so_far.state; told = so_far.told }) outcome held told left so_far.uses came.uses;
        shows = next.shows;
        good = next.good;
        count = came.count;
        lines =
            next.lines ∙ ap (λ l. l ++ kept_lines outcome.told) so_far.lines
            ∙ append_assoc before (kept_lines so_far.told) (kept_lines outcome.told)
            ∙ ap (λ l. before ++ l) (sym (kept-append outcome.told so_far.told));
        files = λ tells.
            let leaves = so_far.files tells in
            laws.left_both setup so_far.state outcome.state held told left leaves (next.files (laws.left_told setup so_far.state held told leaves));
      }

  pub settling-ends : (old new : Cluster Group) (before after : List (List ℕ)) (loud : Bool) (held last : kit.Seen) → loud ≡ false → (SettlesSo kit) old new before after loud held last → (DoesSettle kit) old new before after held last
  settling-ends old new before after loud held last quiet settles setup state good shows counted =
      let done = settles setup state good shows counted in
      let R : Bool → Type 0 = λ b. Rounds (plain_of setup) (servers_at kit setup done.happened) state done.state done.told b in
      record {
        happened = done.happened;
        outcome = record { state = done.state; told = without is_ignored done.told };
        settles = record { lines = done.told; rounds = subst R quiet (done.rounds done.happened (λ number above within. refl)); printed = refl };
        uses = laws.used_printed setup done.happened state (record { state = done.state; told = done.told }) held last done.uses;
        is = (done.shows, done.good, done.lines);
        count = done.count;
        files = done.files;
      }

  -- a round breaks off after rounds that were loud

  settling-says : (setup : Setup) (start : State Peers) (now : Cluster Group) (before between : List (List ℕ)) (held told : kit.Seen) → (IsGood kit) setup start → (so_far : (Settling kit) setup start now before between true held told) → SaysUnasked (plain_of setup) start.world so_far.state.world so_far.told
  settling-says setup start now before between held told good so_far =
      let plain = plain_of setup in
      let rounds = so_far.rounds so_far.happened (λ number above within. refl) in
      (rounds-carry plain (is_plain setup) (servers_at kit setup so_far.happened) kit.Good ((at-serves kit laws) setup so_far.happened) (SaysUnasked plain) ((at-unasked kit laws) setup so_far.happened) start good.steady rounds).carried

  pub settling-off : (answer : DiskAnswer) (old now new : Cluster Group) (before between after : List (List ℕ)) (held told left : kit.Seen) → (SettlesSo kit) old now before between true held told → (ComesOff kit) any_state (EndsRound kit) answer now new between after told left → (ComesOff kit) any_state (EndsSettle kit) answer old new before after held left
  settling-off Memory old now new before between after held told left settles off setup state good shows counted so =
      let so_far = settles setup state good shows counted in
      let broken = off setup so_far.state so_far.good so_far.shows so_far.count tt in
      ((happened-broken kit laws) setup state so_far.state so_far.told held told left new (settling-says setup state now before between held told good so_far) (λ armed. so_far.count) so_far.files broken.0, laws.lacks_behind setup so_far.happened state (record { state = so_far.state; told = so_far.told }) new.history.entries new.servers held told left so_far.uses broken.1)
  settling-off Stopped old now new before between after held told left settles off setup state good shows counted so =
      let so_far = settles setup state good shows counted in
      let halted = off setup so_far.state so_far.good so_far.shows so_far.count tt in
      let early = so_far.later in
      let late = halted.ends.later in
      record {
        happened = spliced (answered_in so_far.state) so_far.happened halted.happened;
        end = behind (record { state = so_far.state; told = so_far.told }) halted.end;
        ends = record {
          later = omega arith;
          is = λ fails agrees. record {
            between = so_far.state;
            lines = so_far.told;
            rounds = so_far.rounds fails (agrees-first (answered_in state) (answered_in so_far.state) (suc (answered_in halted.end.state)) so_far.happened halted.happened fails (omega arith) agrees);
            last = halted.end;
            ends = halted.ends.is fails (agrees-second (answered_in state) (answered_in so_far.state) (suc (answered_in halted.end.state)) so_far.happened halted.happened fails early agrees);
            is = refl;
          };
        };
        uses = laws.halts_behind setup so_far.happened halted.happened state (record { state = so_far.state; told = so_far.told }) halted.end held told left so_far.uses halted.uses;
        good = halted.good;
        says = Says-both (plain_of setup) state.world so_far.state.world halted.end.state.world so_far.told halted.end.told (settling-says setup state now before between held told good so_far).says halted.says;
        shows = halted.shows;
        count = halted.count;
        lines =
            halted.lines ∙ ap (λ l. l ++ kept_lines halted.end.told) so_far.lines
            ∙ append_assoc before (kept_lines so_far.told) (kept_lines halted.end.told)
            ∙ ap (λ l. before ++ l) (sym (kept-append halted.end.told so_far.told));
        files = λ tells.
            let leaves = so_far.files tells in
            laws.left_both setup so_far.state halted.end.state held told left leaves (halted.files (laws.left_told setup so_far.state held told leaves));
      }
  settling-off Failed old now new before between after held told left settles off setup state good shows counted so =
      let so_far = settles setup state good shows counted in
      let ended = off setup so_far.state so_far.good so_far.shows so_far.count tt in
      let early = so_far.later in
      let late = ended.ends.later in
      let end = behind (record { state = so_far.state; told = so_far.told }) ended.end in
      record {
        happened = spliced (answered_in so_far.state) so_far.happened ended.happened;
        end = end;
        ends = record {
          later = omega arith;
          is = λ fails agrees. record {
            between = so_far.state;
            lines = so_far.told;
            rounds = so_far.rounds fails (agrees-first (answered_in state) (answered_in so_far.state) (suc (answered_in ended.end.state)) so_far.happened ended.happened fails (omega arith) agrees);
            last = ended.end;
            ends = ended.ends.is fails (agrees-second (answered_in state) (answered_in so_far.state) (suc (answered_in ended.end.state)) so_far.happened ended.happened fails early agrees);
            is = refl;
          };
        };
        faults = laws.faults_behind setup so_far.happened ended.happened state (record { state = so_far.state; told = so_far.told }) ended.end held told left so_far.uses ended.faults;
        good = ended.good;
        says = Says-both (plain_of setup) state.world so_far.state.world ended.end.state.world so_far.told ended.end.told (settling-says setup state now before between held told good so_far).says ended.says;
        fell = ended.fell;
        net = ended.net;
        agents = ended.agents;
        history = ended.history;
        now = ended.now;
        callbacks = ended.callbacks;
        lines =
            ended.lines ∙ ap (λ l. l ++ kept_lines ended.end.told) so_far.lines
            ∙ append_assoc before (kept_lines so_far.told) (kept_lines ended.end.told)
            ∙ ap (λ l. before ++ l) (sym (kept-append ended.end.told so_far.told));
        files = (files-after kit laws) setup state so_far.state (committed ended.end.state.world.core) held told left so_far.files ended.files;
      }
