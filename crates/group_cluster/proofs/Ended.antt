-- Where a fault ends a run, what the servers' steps keep is kept, and all promises hold.
use Rattle.std.proofs.Common.{◌≡◌, ℕ, ℤ, suc, Bool, false, if◌then◌else◌, List, ◌∷◌, ◌++◌, length, refl, ap, sym, ◌∙◌, subst, arith}
use Rattle.script_lines.specs.declared.line.Line.{Line}
use Rattle.script_lines.specs.declared.line.Line.TheVariants as line
use Rattle.cluster_facts.specs.Types.{Call, Reply, Entry, Called, Receipted, Answer}
use Rattle.cluster_facts.specs.Lists.{Stands, IsNumbered, without}
use Rattle.cluster_facts.specs.Messages.{calls_in, messages_in}
use Rattle.cluster_facts.specs.Service.{Plain, IsPlain}
use Rattle.cluster_facts.specs.History.{Hand, Empty, Waiting, Applied, Ready, committed_by}
use Rattle.cluster_facts.specs.World.{World}
use Rattle.cluster_facts.specs.Facts.{IsSound, IsOfRun}
use Rattle.cluster_facts.proofs.Words.{by_test, All-at, IsNumbered-bound}
use Rattle.cluster_events.specs.Lines.{Told, Stood, is_ignored}
use Rattle.cluster_events.specs.declared.lines.ServerRole.TheVariants as role
use Rattle.cluster_events.specs.Outcomes.{Outcome}
use Rattle.cluster_events.specs.Cores.{IsCored, with_core}
use Rattle.cluster_events.specs.Servers.{State}
use Rattle.cluster_events.specs.Devices.{Device}
use Rattle.cluster_events.specs.Ending.{LacksLast, is_crash}
use Rattle.cluster_events.specs.Saying.{Says}
use Rattle.cluster_events.specs.Serving.{IsSteady, IsCarried}
use Rattle.cluster_events.proofs.Telling.{Says-both}
use Rattle.cluster_events.proofs.Promised.{Says-printed, at-end}
use Rattle.cluster_events.proofs.Quiet.{answers-called}
use Rattle.cluster_events.proofs.Runs.{any-says}
use Rattle.cluster_events.proofs.Carrying.{IsTold}
use Rattle.cluster_events.proofs.Walking.{ByKind, Others, IsByKind}
use Rattle.group_cluster.specs.Seats.{Stance, Out, Owed, Linking, Standby, Peers, on_seats, Agree, AreNames, names_of, is_named, IsGroup, is_standby}
use Rattle.group_cluster.specs.Falling.{catches, caught_seats, caught_hand, caught_lines, named}
use Rattle.group_cluster.specs.Group.{group, group_start}
use Rattle.group_cluster.specs.Running.{GroupStepBy}
use Rattle.group_cluster.specs.Ended.{left_out, ended_by, ended, EndsGroup, EndsGroupStep, EndsSettle, GroupEnds, EndKeepsPromises, EndLacksReply}
use Rattle.group_cluster.proofs.Seating.{all-made, apart-on, apart-caught, names-on, names-caught}
use Rattle.group_cluster.proofs.Stepping.{Bears, over-sound, over-down, all-stood-go}
use Rattle.group_cluster.proofs.Serving.{group-carries, group-stepped}
use Rattle.group_cluster.proofs.Saying.{says-borne, group-serves, group-says}
use Rattle.group_cluster.proofs.Running.{start-steady, group-is-kept}
use Rattle.group_cluster.proofs.Ends.{settle-tells}
use Rattle.group_cluster.proofs.Walking.{told-bears}

left-agrees : (stance : Stance) → Agree Empty (left_out stance)
left-agrees Out = tt
left-agrees Owed = tt
left-agrees (Linking sent) = tt
left-agrees (Standby on_way mark keeps) = tt

-- a call whose entry is ready has no reply in the net
unposted : (plain : Plain) (world : World) (past : List Entry) (client number : ℕ) (time : ℤ) (call : Call) (reply : Reply) → IsSound plain (with_core past (Ready (Called client number time call)) world) → Stands (Answer client number reply) (messages_in world.net) → ⊥
unposted plain world past client number time call reply sound stands =
    let before = calls_in client past in
    let told = All-at (IsOfRun plain past) (Answer client number reply) (messages_in world.net) sound.facts.run stands in
    let called = answers-called plain client number reply past told in
    let N : Bool → Type 0 = λ b. IsNumbered (if b then (number, call) ∷ before else before) → (number ≡ suc (length before)) × IsNumbered before in
    let numbered = by_test N client client (λ same of. of) (λ different. absurd (different refl)) (sound.facts.legal.numbered client) in
    let next = numbered.0 in
    let most = (IsNumbered-bound (number, called.0) before numbered.1 called.1).1 in
    absurd (omega arith)

-- nor has the last entry where it is in hand
pub lacks-last : (plain : Plain) (world : World) (past : List Entry) (hand : Hand) (entry : Entry) → hand ≡ Ready entry → IsSound plain (with_core past hand world) → LacksLast (committed_by past hand) (messages_in world.net)
lacks-last plain world past (Ready (Called client number time call)) entry is sound =
    λ reply stands. unposted plain world past client number time call reply sound stands
lacks-last plain world past (Ready (Receipted client key through time)) entry is sound = tt
lacks-last plain world past Empty entry is sound = cc
lacks-last plain world past (Waiting other) entry is sound = cc
lacks-last plain world past (Applied other) entry is sound = cc

-- over any relation that the servers' steps and rounds keep, and that needs no lines on messages without effect
module _ (size : ℕ) (plain : Plain) (is_plain : IsPlain plain) (device : Device) (R : World → World → List Told → Type 0) (bears : Bears plain R) (carried : IsCarried plain (group plain device) (IsGroup size) R) (printed : (old new : World) (told : List Told) → R old new told → R old new (without is_ignored told)) where
  abbrev Keeps : State Peers → Outcome (State Peers) → Type 0
  Keeps state outcome = IsSteady plain (IsGroup size) outcome.state × R state.world outcome.state.world outcome.told

  caught-keeps : (state : State Peers) (catching : Bool) → IsSteady plain (IsGroup size) state → Keeps state (ended_by catching state)
  caught-keeps state catching steady =
      let world = state.world in
      let past = world.core.answered in
      let hand = world.core.hand in
      let seats = caught_seats catching state.peers.seats in
      let same : names_of (on_seats left_out seats) ≡ names_of state.peers.seats = names-on left_out seats ∙ names-caught catching state.peers.seats in
      let new = with_core (committed_by past (caught_hand catching hand)) Empty world in (
        record {
          sound = over-sound size plain is_plain device R bears world past catching hand steady.sound;
          good = record {
            agree = all-made (Agree Empty) left_out left-agrees seats;
            waits = tt;
            armed = tt;
            apart = apart-on state.peers.acting left_out refl seats (apart-caught state.peers.acting catching state.peers.seats steady.good.apart);
            names = subst (AreNames size) (sym same) steady.good.names;
            acts = ap (is_named state.peers.acting) same ∙ steady.good.acts;
          };
        },
        all-stood-go size plain is_plain device R bears world new role.Down (named is_standby seats) (Stood state.peers.acting role.Down ∷ caught_lines catching past hand) (over-down size plain is_plain device R bears world past catching hand state.peers.acting steady.sound),
      )

  ended-keeps : (state : State Peers) → IsSteady plain (IsGroup size) state → Keeps state (ended state)
  ended-keeps state steady = caught-keeps state (catches state.peers.seats state.world.core.hand) steady

  -- what is left where a work ends: nothing is in hand, and the last entry has no reply
  abbrev IsLeft : State Peers → Type 0
  IsLeft state = (state.world.core.hand ≡ Empty) × LacksLast state.world.core.answered (messages_in state.world.net)

  ready-left : (state : State Peers) (hand : Hand) (entry : Entry) → hand ≡ Ready entry → committed_by state.world.core.answered (caught_hand (catches state.peers.seats hand) hand) ≡ committed_by state.world.core.answered hand
  ready-left state (Ready entry) other is = refl
  ready-left state Empty other is = cc
  ready-left state (Waiting entry) other is = cc
  ready-left state (Applied entry) other is = cc

  work-keeps : (state : State Peers) (end : Outcome (State Peers)) → IsSteady plain (IsGroup size) state → EndsGroup device state end → Keeps state end × IsLeft end.state
  work-keeps state end steady ends =
      let past = state.world.core.answered in
      let hand = state.world.core.hand in
      let lacks = lacks-last plain state.world past hand ends.entry ends.ready steady.sound in
      let left = ready-left state hand ends.entry ends.ready in
      let L : List Entry → Type 0 = λ history. LacksLast history (messages_in state.world.net) in
      subst (λ (o : Outcome (State Peers)). Keeps state o × IsLeft o.state) (sym ends.is) (ended-keeps state steady, (refl, subst L (sym left) lacks))

  -- `settle`, with lines on messages without effect left out
  settle-keeps : (state : State Peers) (end : Outcome (State Peers)) → IsSteady plain (IsGroup size) state → EndsSettle plain device state end → Keeps state end × IsLeft end.state
  settle-keeps state end steady ends =
      let whole = settle-tells plain is_plain (group plain device) (IsGroup size) (group-serves size plain device is_plain) R carried (group-stepped size plain is_plain device R bears)
      IsLeft (EndsGroupStep plain device) (λ now last good step. work-keeps now last good step.works) state ends.whole steady ends.ends in
      subst (λ (o : Outcome (State Peers)). Keeps state o × IsLeft o.state) (sym ends.is) ((whole.0.0, printed state.world ends.whole.state.world ends.whole.told whole.0.1), whole.1)

  -- the facts and the relation hold where the event of a line ends, and nothing is in hand
  line-keeps : (next : Line) (state : State Peers) (end : Outcome (State Peers)) → IsSteady plain (IsGroup size) state → GroupEnds plain device next state end → Keeps state end × (end.state.world.core.hand ≡ Empty)
  line-keeps line.Work state end steady ends = let keeps = work-keeps state end steady ends in (keeps.0, keeps.1.0)
  line-keeps (line.Crash server) state end steady ends =
      subst (λ (o : Outcome (State Peers)). Keeps state o × (o.state.world.core.hand ≡ Empty)) (sym ends.is) (ended-keeps state steady, refl)
  line-keeps line.Settle state end steady ends = let keeps = settle-keeps state end steady ends in (keeps.0, keeps.1.0)
  line-keeps _ state end steady ends = elim ends [ ]

  last-lacks : (next : Line) (state : State Peers) (end : Outcome (State Peers)) → IsSteady plain (IsGroup size) state → is_crash next ≡ false → GroupEnds plain device next state end → LacksLast end.state.world.core.answered (messages_in end.state.world.net)
  last-lacks line.Work state end steady calm ends = (work-keeps state end steady ends).1.1
  last-lacks line.Settle state end steady calm ends = (settle-keeps state end steady ends).1.1
  last-lacks (line.Crash server) state end steady calm ends = cc
  last-lacks _ state end steady calm ends = elim ends [ ]

-- **where the event of a line ends, a relation that rounds and what servers make of history and hand keep is kept too**
pub end-walks : (size : ℕ) (plain : Plain) → IsPlain plain → (device : Device) (R : ByKind) → IsTold plain (R Others) → IsCored (R Others) → IsByKind plain R → (next : Line) (state : State Peers) (end : Outcome (State Peers)) → IsSteady plain (IsGroup size) state → GroupEnds plain device next state end → R Others state.world end.state.world end.told
end-walks size plain is_plain device R told cored by_kind next state end steady ends =
    let bears = told-bears plain (R Others) told by_kind.shows cored in
    let carried = group-carries size plain is_plain device (R Others) bears told in
    (line-keeps size plain is_plain device (R Others) bears carried by_kind.printed next state end steady ends).0.1

-- its lines say what happened
module _ (size : ℕ) (plain : Plain) (is_plain : IsPlain plain) (device : Device) where
  abbrev Tells : State Peers → Outcome (State Peers) → Type 0
  Tells state outcome = IsSteady plain (IsGroup size) outcome.state × Says plain state.world outcome.state.world outcome.told

  pub ended-tells : (state : State Peers) → IsSteady plain (IsGroup size) state → Tells state (ended state)
  ended-tells state steady =
      ended-keeps size plain is_plain device (Says plain) (says-borne plain) (group-says size plain device is_plain) (Says-printed plain) state steady

  -- and nothing is in hand
  pub line-tells : (next : Line) (state : State Peers) (end : Outcome (State Peers)) → IsSteady plain (IsGroup size) state → GroupEnds plain device next state end → Tells state end × (end.state.world.core.hand ≡ Empty)
  line-tells next state end steady ends =
      line-keeps size plain is_plain device (Says plain) (says-borne plain) (group-says size plain device is_plain) (Says-printed plain) next state end steady ends

  pub line-lacks : (next : Line) (state : State Peers) (end : Outcome (State Peers)) → IsSteady plain (IsGroup size) state → is_crash next ≡ false → GroupEnds plain device next state end → LacksLast end.state.world.core.answered (messages_in end.state.world.net)
  line-lacks next state end steady calm ends =
      last-lacks size plain is_plain device (Says plain) (says-borne plain) (group-says size plain device is_plain) (Says-printed plain) next state end steady calm ends

pub end-keeps : EndKeepsPromises
end-keeps size plain is_plain shelf calls device others can now places first lines state told mark next end run ends =
    let start = group_start others now places in
    let said = any-says plain (IsGroup size) (GroupStepBy plain shelf calls) (group-is-kept size plain is_plain shelf calls) start first (start-steady size plain others can now places) run in
    let last = line-tells size plain is_plain device next state end said.0 ends in
    at-end plain end.state.world (end.told ++ told) now places last.0.0.sound (Says-both plain start.world state.world end.state.world told end.told said.1 last.0.1)

pub end-lacks : EndLacksReply
end-lacks size plain is_plain device next state end steady calm ends = line-lacks size plain is_plain device next state end steady calm ends
