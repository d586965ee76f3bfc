-- What lines of the servers' own come to, by the events that they are.
use Rattle.std.proofs.Common.{ℕ, List}
use Rattle.std.specs.Prelude.{Result, OnOk, OnErr, IfErr}
use Rattle.std.proofs.lemmas.Result.{on_ok_weaker}
use Rattle.disk_model.specs.declared.answers.DiskAnswer.{DiskAnswer}
use Rattle.script_lines.specs.declared.line.Line.{Line}
use Rattle.plain_service.specs.Setups.{Setup}
use Rattle.service_laws.specs.PlainOf.{plain_of}
use Rattle.cluster_events.specs.Servers.{State}
use Rattle.cluster_rounds.specs.declared.cluster.Cluster.{Cluster}
use Rattle.cluster_rounds.specs.Kits.{IsKit, Kit, device_by}
use Rattle.cluster_rounds.specs.Scripts.{Script}
use Rattle.cluster_rounds.specs.Counted.{Counted}
use Rattle.cluster_rounds.specs.Worlds.{Does, Event, HasStateOn, IsGood, Shows, any_state}
use Rattle.cluster_rounds.specs.Broken.{BreaksAlone}
use Rattle.cluster_lines.specs.Shelves.{shelf_of}
use Rattle.cluster_lines.specs.Playing.{BreaksOff, Plays}
use Rattle.cluster_lines.specs.Following.{IsScript}
use Rattle.cluster_lines.specs.Answers.{EndsAs}
use Rattle.cluster_lines.specs.Own.{DoesOn, PlaysLine}
use Rattle.cluster_lines.proofs.KeepSteps.{LeavesAlone}
use Rattle.cluster_lines.proofs.LineSteps.{ends-ok, own-shelf}
use Rattle.cluster_lines.proofs.LineBroken.{ends-broken, ends-counts}

module _ {Peers Group : Type 0} (kit : Kit Peers Group) (laws : IsKit kit) (script : Script Peers kit.Seen) (follows : IsScript kit script) where
  -- what the disks counted is what such a line counts
  abbrev pub UsesSo : Line → (Event kit) → Cluster Group → kit.Seen → kit.Seen → Type 0
  UsesSo next event old held left =
      (setup : Setup) (state : State Peers) → (IsGood kit) setup state → (Shows kit) setup state old → kit.Armed state.peers held
      → script.Uses next setup (λ number. 0) state (event setup state) held left

  -- an event that leaves the disk alone
  pub does-on : (next : Line) (event : (Event kit)) (old new : Cluster Group) (before after : List (List ℕ)) (held : kit.Seen) → ((setup : Setup) (state : State Peers) → (LeavesAlone kit laws) setup state (event setup state)) → UsesSo next event old held held → (Does kit) event old new before after → (DoesOn kit script) next event old new before after held held
  does-on next event old new before after held keeps uses does setup state good shows count = (
    does setup state good shows,
    (keeps setup state).armed held count,
    λ tells. laws.left_same setup (event setup state).state held ((keeps setup state).tells held tells),
    uses setup state good shows count,
  )

  -- what a line leads to of which it is so
  abbrev pub LeadsSo : Line → (Event kit) → Cluster Group → kit.Seen → Type 0
  LeadsSo next event old held =
      (setup : Setup) (state : State Peers) → (IsGood kit) setup state → (Shows kit) setup state old → kit.Armed state.peers held
      → script.Leads (plain_of setup) (shelf_of setup) (device_by setup (λ number. 0)) next state (event setup state)

  on-plays : (next : Line) (event : (Event kit)) (old new : Cluster Group) (before after : List (List ℕ)) (held left : kit.Seen) → LeadsSo next event old held → (DoesOn kit script) next event old new before after held left → (Plays kit script) next old new before after held left
  on-plays next event old new before after held left leads does setup state good shows count tells =
      let done = does setup state good shows count in
      record {
        shelf = shelf_of setup;
        shelf_is = own-shelf setup (kit.files held);
        happened = λ number. 0;
        outcome = event setup state;
        leads = leads setup state good shows count;
        uses = done.3;
        is = done.0;
        count = done.1;
        files = done.2 tells;
      }

  on-stands : (next : Line) (event : (Event kit)) (old new : Cluster Group) (before after : List (List ℕ)) (held left : kit.Seen) → (HasStateOn kit) any_state old held → (DoesOn kit script) next event old new before after held left → (HasStateOn kit) any_state new left
  on-stands next event old new before after held left has does =
      let done = does has.setup has.state has.good has.shows has.count in
      record { setup = has.setup; state = (event has.setup has.state).state; good = done.0.1; shows = done.0.0; count = done.1; so = tt }

  -- **a line that leaves the disk alone**
  pub alone-line : {T E : Type 0} (r : Result T E) (s : Result T DiskAnswer) (next : Line) (event : (Event kit)) (old new : Cluster Group) (before after : List (List ℕ)) (held : kit.Seen) → EndsAs r s → (HasStateOn kit) any_state old held → LeadsSo next event old held → UsesSo next event old held held → ((setup : Setup) (state : State Peers) → (LeavesAlone kit laws) setup state (event setup state)) → OnOk r ((Does kit) event old new before after) → OnErr r ((BreaksAlone kit) old new) → PlaysLine kit script s next old new before after held held
  alone-line r s next event old new before after held same has leads uses keeps does breaks = record {
    ok = ends-ok r s same (λ (d : (Does kit) event old new before after). on-plays next event old new before after held held leads (does-on next event old new before after held keeps uses d)) does;
    stands = ends-ok r s same (λ (d : (Does kit) event old new before after). on-stands next event old new before after held held has (does-on next event old new before after held keeps uses d)) does;
    broken = (ends-broken kit laws script follows) r s next old new before after held same breaks;
    counts = (ends-counts kit laws) r s held same;
  }

  -- **one over a disk, which may end by a fault**
  pub disk-line : {T : Type 0} (r : Result T DiskAnswer) (next : Line) (event : (Event kit)) (old new : Cluster Group) (before after : List (List ℕ)) (held left : kit.Seen) → (HasStateOn kit) any_state old held → LeadsSo next event old held → OnOk r ((DoesOn kit script) next event old new before after held left) → IfErr r (λ answer. (BreaksOff kit script) answer next old new before after held left) → Counted kit held left r → PlaysLine kit script r next old new before after held left
  disk-line r next event old new before after held left has leads does broken counts = record {
    ok = on_ok_weaker r (λ (d : (DoesOn kit script) next event old new before after held left). on-plays next event old new before after held left leads d) does;
    stands = on_ok_weaker r (λ (d : (DoesOn kit script) next event old new before after held left). on-stands next event old new before after held left has d) does;
    broken = broken;
    counts = counts;
  }
