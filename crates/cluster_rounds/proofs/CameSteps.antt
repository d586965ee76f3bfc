-- Events that came to an outcome, or ended, one after another.
use Rattle.std.proofs.Common.{◌≡◌, ℕ, ◌≤◌, Bool, false, ◌||◌, List, ◌++◌, length, ap, sym, ◌∙◌, subst, append_assoc, arith}
use Rattle.std.proofs.lemmas.List.{length-append}
use Rattle.disk_model.specs.declared.answers.DiskAnswer.{DiskAnswer}
use Rattle.disk_model.specs.declared.answers.DiskAnswer.TheVariants.{Memory, Failed, Stopped}
use Rattle.plain_service.specs.Setups.{Setup}
use Rattle.service_laws.specs.PlainOf.{plain_of}
use Rattle.cluster_facts.specs.Lists.{EndsIn}
use Rattle.cluster_facts.specs.History.{committed}
use Rattle.cluster_events.specs.Outcomes.{Outcome, behind}
use Rattle.cluster_events.specs.Servers.{State}
use Rattle.cluster_events.specs.Devices.{EventBy, answered_in, spliced}
use Rattle.cluster_events.proofs.Telling.{Says-both}
use Rattle.cluster_events.proofs.Devices.{after_by, comes-alone, comes-both, comes-as, comes-once, ends-behind}
use Rattle.cluster_rounds.specs.declared.cluster.Cluster.{Cluster}
use Rattle.cluster_clients.specs.Taken.{kept_lines}
use Rattle.cluster_clients.proofs.ToldLines.{kept-append}
use Rattle.cluster_rounds.specs.Broken.{BreaksAloneIf}
use Rattle.cluster_rounds.specs.Came.{Came, Comes, ComesOff}
use Rattle.cluster_rounds.specs.Kits.{IsKit, Kit, calm_servers}
use Rattle.cluster_rounds.specs.Resting.{Rests}
use Rattle.cluster_rounds.specs.PartlyDone.{SaysUnasked}
use Rattle.cluster_rounds.specs.Rounds.{EndOver, EventOver, Plays}
use Rattle.cluster_rounds.specs.Worlds.{Event, HasStateOn, IsGood, Shows}
use Rattle.cluster_rounds.proofs.ArmedSteps.{Keeps}
use Rattle.cluster_rounds.proofs.BrokenSteps.{broken-ends, files-after, happened-broken}
use Rattle.cluster_rounds.proofs.RoundSteps.{played-both}

-- a list that ends in another is no shorter
pub ends-longer : {X : Type 0} (new old : List X) → EndsIn new old → length old ≤ length new
ends-longer new old ends =
    let whole = length-append ends.0 old in
    let same : length new ≡ length (ends.0 ++ old) = ap length ends.1 in
    omega arith

module _ {Peers Group : Type 0} (kit : Kit Peers Group) (laws : IsKit kit) where
  -- what an event leads to from a state of which P is so: Q is so there, and its lines say what happened
  abbrev pub Leads : (P Q : State Peers → Type 0) → (Event kit) → Type 0
  Leads P Q event =
      (setup : Setup) (state : State Peers) → (IsGood kit) setup state → P state
      → Q (event setup state).state × SaysUnasked (plain_of setup) state.world (event setup state).state.world (event setup state).told

  -- the same of one that may work entries, whichever works fail
  abbrev pub LeadsBy : (P Q : State Peers → Type 0) → (EventOver kit) → Type 0
  LeadsBy P Q event =
      (setup : Setup) (fails : ℕ → ℕ) (state : State Peers) → (IsGood kit) setup state → P state
      → Q (event setup fails state).state × SaysUnasked (plain_of setup) state.world (event setup fails state).state.world (event setup fails state).told

  -- so it is of what it came to
  came-leads : (P Q : State Peers → Type 0) (event : (EventOver kit)) (setup : Setup) (state : State Peers) (new : Cluster Group) (before after : List (List ℕ)) (loud : Bool) (held left : kit.Seen) → LeadsBy P Q event → (IsGood kit) setup state → P state → (came : (Came kit) setup state (event setup) new before after loud held left) → Q came.outcome.state × SaysUnasked (plain_of setup) state.world came.outcome.state.world came.outcome.told
  came-leads P Q event setup state new before after loud held left leads good so came =
      let L : Outcome (State Peers) → Type 0 = λ o. Q o.state × SaysUnasked (plain_of setup) state.world o.state.world o.told in
      subst L (comes-once (event setup) came.happened state came.outcome came.comes) (leads setup came.happened state good so)

  came-both : (setup : Setup) (state : State Peers) (first second : EventBy Peers) (middle new : Cluster Group) (before between after : List (List ℕ)) (a b : Bool) (held told left : kit.Seen) → (one : (Came kit) setup state first middle before between a held told) → (Came kit) setup one.outcome.state second new between after b told left → (Came kit) setup state (after_by first second) new before after (a || b) held left
  came-both setup state first second middle new before between after a b held told left one two = record {
    happened = spliced (answered_in one.outcome.state) one.happened two.happened;
    outcome = behind one.outcome two.outcome;
    comes = comes-both first second one.happened two.happened state one.outcome two.outcome one.comes two.comes;
    uses = laws.used_both setup one.happened two.happened state one.outcome two.outcome held told left one.uses two.uses;
    played = (played-both kit laws) setup state one.outcome (λ now. two.outcome) middle new before between after a b held told left one.played two.played;
    count = two.count;
  }

  -- the same event, said in another way
  pub came-as : (setup : Setup) (state : State Peers) (first second : EventBy Peers) (new : Cluster Group) (before after : List (List ℕ)) (loud : Bool) (held left : kit.Seen) → ((fails : ℕ → ℕ) → first fails state ≡ second fails state) → (Came kit) setup state first new before after loud held left → (Came kit) setup state second new before after loud held left
  came-as setup state first second new before after loud held left same came = record {
    happened = came.happened;
    outcome = came.outcome;
    comes = comes-as first second came.happened state came.outcome same came.comes;
    uses = came.uses;
    played = came.played;
    count = came.count;
  }

  -- an event asks no disk
  abbrev pub AsksNone : (P : State Peers → Type 0) → (Event kit) → Type 0
  AsksNone P event =
      (setup : Setup) (state : State Peers) → (IsGood kit) setup state → P state → Rests (calm_servers kit setup) state (event setup state).state

  -- an event that works nothing
  pub plays-come : (P Q : State Peers → Type 0) (event : (Event kit)) (old new : Cluster Group) (before after : List (List ℕ)) (loud : Bool) (disk : kit.Seen) → Leads P Q event → (Keeps kit laws) event → AsksNone P event → (Plays kit) P event old new before after loud → (Comes kit) P (λ setup fails. event setup) old new before after loud disk disk
  plays-come P Q event old new before after loud disk leads keeps rests plays setup state good shows counted so =
      let says = (leads setup state good so).1 in
      record {
        happened = λ number. 0;
        outcome = event setup state;
        comes = comes-alone (event setup) (λ number. 0) state (ends-longer (event setup state).state.world.core.answered state.world.core.answered says.says.answers);
        uses = laws.unused setup state (event setup state) disk (rests setup state good so);
        played = plays disk setup state good shows so;
        count = keeps setup state disk counted;
      }

  -- one event after another is a third
  abbrev pub Joins : (P : State Peers → Type 0) → (first second both : (EventOver kit)) → Type 0
  Joins P first second both =
      (setup : Setup) (fails : ℕ → ℕ) (state : State Peers) → (IsGood kit) setup state → P state → after_by (first setup) (second setup) fails state ≡ both setup fails state

  pub comes-after : (P Q : State Peers → Type 0) (first second both : (EventOver kit)) (old middle new : Cluster Group) (before between after : List (List ℕ)) (a b : Bool) (held told left : kit.Seen) → Joins P first second both → LeadsBy P Q first → (Comes kit) P first old middle before between a held told → (Comes kit) Q second middle new between after b told left → (Comes kit) P both old new before after (a || b) held left
  comes-after P Q first second both old middle new before between after a b held told left joins leads one two setup state good shows counted so =
      let came = one setup state good shows counted so in
      let next = came-leads P Q first setup state middle before between a held told leads good so came in
      let more = two setup came.outcome.state came.played.good came.played.shows came.count next.0 in
      came-as setup state (after_by (first setup) (second setup)) (both setup) new before after (a || b) held left (λ fails. joins setup fails state good so) (came-both setup state (first setup) (second setup) middle new before between after a b held told left came more)

  -- the state for what follows
  pub on-after : (P Q : State Peers → Type 0) (event : (EventOver kit)) (old new : Cluster Group) (before after : List (List ℕ)) (loud : Bool) (held left : kit.Seen) → LeadsBy P Q event → (HasStateOn kit) P old held → (Comes kit) P event old new before after loud held left → (HasStateOn kit) Q new left
  on-after P Q event old new before after loud held left leads has comes =
      let came = comes has.setup has.state has.good has.shows has.count has.so in
      let next = came-leads P Q event has.setup has.state new before after loud held left leads has.good has.so came in
      record { setup = has.setup; state = came.outcome.state; good = came.played.good; shows = came.played.shows; count = came.count; so = next.0 }

  -- what holds of states of which more is so
  abbrev pub Follows : (P Q : State Peers → Type 0) → Cluster Group → Type 0
  Follows P Q world = (setup : Setup) (state : State Peers) → (IsGood kit) setup state → (Shows kit) setup state world → P state → Q state

  pub alone-so : (P Q : State Peers → Type 0) (old new : Cluster Group) → Follows P Q old → (BreaksAloneIf kit) Q old new → (BreaksAloneIf kit) P old new
  alone-so P Q old new follows breaks held setup state good shows so = breaks held setup state good shows (follows setup state good shows so)

  -- Events that break off after others.

  -- an event without a disk lacks memory
  pub alone-off : (P : State Peers → Type 0) (Ends : (EndOver kit)) (old new : Cluster Group) (before after : List (List ℕ)) (disk : kit.Seen) → (BreaksAloneIf kit) P old new → (ComesOff kit) P Ends Memory old new before after disk disk
  alone-off P Ends old new before after disk breaks setup state good shows counted so =
      let broken = breaks disk setup state good shows so in
      (broken, laws.lacks_same false setup state new.history.entries new.servers disk ((broken-ends kit laws) setup state disk disk new broken))

  -- what is played alone, and then memory runs out
  pub plays-lack : (P Q : State Peers → Type 0) (event : (Event kit)) (old middle new : Cluster Group) (before between : List (List ℕ)) (loud : Bool) → Leads P Q event → (Keeps kit laws) event → (Plays kit) P event old middle before between loud → (BreaksAloneIf kit) Q middle new → (BreaksAloneIf kit) P old new
  plays-lack P Q event old middle new before between loud leads keeps plays breaks held setup state good shows so =
      let outcome = event setup state in
      let played = plays held setup state good shows so in
      let next = leads setup state good so in
      (happened-broken kit laws) setup state outcome.state outcome.told held held held new next.1 (keeps setup state held) played.files (breaks held setup outcome.state played.good played.shows next.0)

  -- what follows an event ends, and so both
  abbrev pub EndsBy : (P : State Peers → Type 0) → (EventOver kit) → (Inner Outer : (EndOver kit)) → Type 0
  EndsBy P first Inner Outer =
      (answer : DiskAnswer) (setup : Setup) (fails : ℕ → ℕ) (state : State Peers) → (IsGood kit) setup state → P state
      → (stop : Outcome (State Peers)) → Inner answer setup fails (first setup fails state).state stop
      → Outer answer setup fails state (behind (first setup fails state) stop)

  lacks-after : (P Q : State Peers → Type 0) (Inner Outer : (EndOver kit)) (first : (EventOver kit)) (old middle new : Cluster Group) (before between after : List (List ℕ)) (a : Bool) (held told left : kit.Seen) → LeadsBy P Q first → (Comes kit) P first old middle before between a held told → (ComesOff kit) Q Inner Memory middle new between after told left → (ComesOff kit) P Outer Memory old new before after held left
  lacks-after P Q Inner Outer first old middle new before between after a held told left leads comes breaks setup state good shows counted so =
      let came = comes setup state good shows counted so in
      let next = came-leads P Q first setup state middle before between a held told leads good so came in
      let broken = breaks setup came.outcome.state came.played.good came.played.shows came.count next.0 in
      ((happened-broken kit laws) setup state came.outcome.state came.outcome.told held told left new next.1 (λ armed. came.count) came.played.files broken.0, laws.lacks_behind setup came.happened state came.outcome new.history.entries new.servers held told left came.uses broken.1)

  ended-after : (P Q : State Peers → Type 0) (Inner Outer : (EndOver kit)) (first : (EventOver kit)) (old middle new : Cluster Group) (before between after : List (List ℕ)) (a : Bool) (held told left : kit.Seen) → EndsBy P first Inner Outer → LeadsBy P Q first → (Comes kit) P first old middle before between a held told → (ComesOff kit) Q Inner Failed middle new between after told left → (ComesOff kit) P Outer Failed old new before after held left
  ended-after P Q Inner Outer first old middle new before between after a held told left stops leads comes ends setup state good shows counted so =
      let came = comes setup state good shows counted so in
      let next = came-leads P Q first setup state middle before between a held told leads good so came in
      let ended = ends setup came.outcome.state came.played.good came.played.shows came.count next.0 in
      record {
        happened = spliced (answered_in came.outcome.state) came.happened ended.happened;
        end = behind came.outcome ended.end;
        ends = ends-behind (first setup) (Inner Failed setup) (Outer Failed setup) came.happened ended.happened state came.outcome ended.end (λ fails stop. stops Failed setup fails state good so stop) came.comes ended.ends;
        faults = laws.faults_behind setup came.happened ended.happened state came.outcome ended.end held told left came.uses ended.faults;
        good = ended.good;
        says = Says-both (plain_of setup) state.world came.outcome.state.world ended.end.state.world came.outcome.told ended.end.told next.1.says ended.says;
        fell = ended.fell;
        net = ended.net;
        agents = ended.agents;
        history = ended.history;
        now = ended.now;
        callbacks = ended.callbacks;
        lines =
            ended.lines ∙ ap (λ l. l ++ kept_lines ended.end.told) came.played.lines
            ∙ append_assoc before (kept_lines came.outcome.told) (kept_lines ended.end.told)
            ∙ ap (λ l. before ++ l) (sym (kept-append ended.end.told came.outcome.told));
        files = (files-after kit laws) setup state came.outcome.state (committed ended.end.state.world.core) held told left came.played.files ended.files;
      }

  halted-after : (P Q : State Peers → Type 0) (Inner Outer : (EndOver kit)) (first : (EventOver kit)) (old middle new : Cluster Group) (before between after : List (List ℕ)) (a : Bool) (held told left : kit.Seen) → EndsBy P first Inner Outer → LeadsBy P Q first → (Comes kit) P first old middle before between a held told → (ComesOff kit) Q Inner Stopped middle new between after told left → (ComesOff kit) P Outer Stopped old new before after held left
  halted-after P Q Inner Outer first old middle new before between after a held told left stops leads comes halts setup state good shows counted so =
      let came = comes setup state good shows counted so in
      let next = came-leads P Q first setup state middle before between a held told leads good so came in
      let halted = halts setup came.outcome.state came.played.good came.played.shows came.count next.0 in
      record {
        happened = spliced (answered_in came.outcome.state) came.happened halted.happened;
        end = behind came.outcome halted.end;
        ends = ends-behind (first setup) (Inner Stopped setup) (Outer Stopped setup) came.happened halted.happened state came.outcome halted.end (λ fails stop. stops Stopped setup fails state good so stop) came.comes halted.ends;
        uses = laws.halts_behind setup came.happened halted.happened state came.outcome halted.end held told left came.uses halted.uses;
        good = halted.good;
        says = Says-both (plain_of setup) state.world came.outcome.state.world halted.end.state.world came.outcome.told halted.end.told next.1.says halted.says;
        shows = halted.shows;
        count = halted.count;
        lines =
            halted.lines ∙ ap (λ l. l ++ kept_lines halted.end.told) came.played.lines
            ∙ append_assoc before (kept_lines came.outcome.told) (kept_lines halted.end.told)
            ∙ ap (λ l. before ++ l) (sym (kept-append halted.end.told came.outcome.told));
        files = λ tells.
            let leaves = came.played.files tells in
            laws.left_both setup came.outcome.state halted.end.state held told left leaves (halted.files (laws.left_told setup came.outcome.state held told leaves));
      }

  pub off-after : (P Q : State Peers → Type 0) (Inner Outer : (EndOver kit)) (first : (EventOver kit)) (answer : DiskAnswer) (old middle new : Cluster Group) (before between after : List (List ℕ)) (a : Bool) (held told left : kit.Seen) → EndsBy P first Inner Outer → LeadsBy P Q first → (Comes kit) P first old middle before between a held told → (ComesOff kit) Q Inner answer middle new between after told left → (ComesOff kit) P Outer answer old new before after held left
  off-after P Q Inner Outer first Memory old middle new before between after a held told left stops =
      lacks-after P Q Inner Outer first old middle new before between after a held told left
  off-after P Q Inner Outer first Stopped old middle new before between after a held told left stops =
      halted-after P Q Inner Outer first old middle new before between after a held told left stops
  off-after P Q Inner Outer first Failed old middle new before between after a held told left stops =
      ended-after P Q Inner Outer first old middle new before between after a held told left stops

  -- memory ran out for what works nothing, after an event
  pub alone-after : (P Q : State Peers → Type 0) (Outer : (EndOver kit)) (first : (EventOver kit)) (old middle new : Cluster Group) (before between after : List (List ℕ)) (a : Bool) (held left : kit.Seen) → LeadsBy P Q first → (Comes kit) P first old middle before between a held left → (BreaksAloneIf kit) Q middle new → (ComesOff kit) P Outer Memory old new before after held left
  alone-after P Q Outer first old middle new before between after a held left leads comes breaks =
      lacks-after P Q Outer Outer first old middle new before between after a held left left leads comes (alone-off Q Outer middle new between after left breaks)

  -- what ends in one sense ends in another, from all states of the cluster
  abbrev pub EndsAs : (Inner Outer : (EndOver kit)) → Cluster Group → Type 0
  EndsAs Inner Outer world =
      (answer : DiskAnswer) (setup : Setup) (fails : ℕ → ℕ) (state : State Peers) → (Shows kit) setup state world → (stop : Outcome (State Peers))
      → Inner answer setup fails state stop → Outer answer setup fails state stop

  pub off-as : (P Q : State Peers → Type 0) (Inner Outer : (EndOver kit)) (answer : DiskAnswer) (old new : Cluster Group) (before after : List (List ℕ)) (held left : kit.Seen) → EndsAs Inner Outer old → Follows P Q old → (ComesOff kit) Q Inner answer old new before after held left → (ComesOff kit) P Outer answer old new before after held left
  off-as P Q Inner Outer Memory old new before after held left as_outer follows breaks setup state good shows counted so = breaks setup state good shows counted (follows setup state good shows so)
  off-as P Q Inner Outer Stopped old new before after held left as_outer follows halts setup state good shows counted so =
      let halted = halts setup state good shows counted (follows setup state good shows so) in
      record {
        happened = halted.happened;
        end = halted.end;
        ends = record { later = halted.ends.later; is = λ fails agrees. as_outer Stopped setup fails state shows halted.end (halted.ends.is fails agrees) };
        uses = halted.uses;
        good = halted.good;
        says = halted.says;
        shows = halted.shows;
        count = halted.count;
        lines = halted.lines;
        files = halted.files;
      }
  off-as P Q Inner Outer Failed old new before after held left as_outer follows ends setup state good shows counted so =
      let ended = ends setup state good shows counted (follows setup state good shows so) in
      record {
        happened = ended.happened;
        end = ended.end;
        ends = record { later = ended.ends.later; is = λ fails agrees. as_outer Failed setup fails state shows ended.end (ended.ends.is fails agrees) };
        faults = ended.faults;
        good = ended.good;
        says = ended.says;
        fell = ended.fell;
        net = ended.net;
        agents = ended.agents;
        history = ended.history;
        now = ended.now;
        callbacks = ended.callbacks;
        lines = ended.lines;
        files = ended.files;
      }
