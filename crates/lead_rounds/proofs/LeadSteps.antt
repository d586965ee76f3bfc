-- What holds of a good state, and the conditions of what its active server is called with.
use Rattle.std.proofs.Common.{◌≡◌, ℕ, ℤ, ◌<◌, Bool, List, length, sym, subst, arith}
use Rattle.std.specs.Prelude.{Result, Ok, Err, IfOk}
use mir.Syntax.{w64}
use mir.Val.{to_z, of_z}
use Rattle.wire.specs.MessageSpelling.{MessageInRange}
use Rattle.plain_service.specs.Setups.{Setup, IsMoment}
use Rattle.plain_service.specs.Legal.{IsHistory}
use Rattle.plain_service.specs.Values.{saved_of}
use Rattle.service_laws.specs.PlainOf.{plain_of}
use Rattle.service_laws.proofs.ServiceLaws.{is_plain}
use Rattle.service_laws.proofs.HistoryLaws.{history-of}
use Rattle.cluster_facts.specs.Types.{Entry, Message, Request, Receipt}
use Rattle.cluster_facts.specs.Lists.{Stands}
use Rattle.cluster_facts.specs.Messages.{messages_in}
use Rattle.cluster_facts.specs.History.{Hand, Empty, Waiting, Applied, Ready, accepted, accepted_by}
use Rattle.cluster_events.specs.Outcomes.{Outcome}
use Rattle.cluster_events.specs.Servers.{State}
use Rattle.cluster_events.specs.Serving.{IsSteady}
use Rattle.cluster_events.proofs.Carrying.{Goes, hear-goes}
use Rattle.mirror.specs.declared.heard.Heard.{Heard}
use Rattle.mirror.specs.declared.state.NodeState.{NodeState as Node}
use Rattle.mirror.specs.Hearing.{CanHear}
use Rattle.mirror.specs.Replicas.{HasRoom}
use Rattle.mirror.specs.Pairing.{IsHeard}
use Rattle.mirror.proofs.ReplicaLaws.{count-is}
use Rattle.plain_service.proofs.MomentLaws.{moment-same}
use Rattle.cluster_rounds.specs.declared.cluster.Cluster.{Cluster}
use Rattle.cluster_rounds.specs.Kits.{IsKit, Kit, servers_at}
use Rattle.cluster_rounds.specs.PartlyDone.{SaysUnasked}
use Rattle.cluster_rounds.specs.Worlds.{IsGood, Shows, heard_by}
use Rattle.cluster_rounds.proofs.KitSteps.{calm-serves, calm-unasked}
use Rattle.lead_rounds.specs.Leading.{lead_by}

-- Histories.

answered-by : (setup : Setup) (past : List Entry) (hand : Hand) → IsHistory setup (accepted_by past hand) → IsHistory setup past
answered-by setup past Empty history = history
answered-by setup past (Waiting entry) history = history.1
answered-by setup past (Applied entry) history = history.1
answered-by setup past (Ready entry) history = history.1

pub can-hear : (message : Message) (now : ℤ) → MessageInRange message → IsMoment now → CanHear message now
can-hear (Request client number call) now range moment =
    let first = range.1.least in
    (record { from = range.0.least; to = range.0.most }, omega arith, moment)
can-hear (Receipt client key through) now range moment = (record { from = range.0.least; to = range.0.most }, moment)
can-hear _ now range moment = tt

-- There is room for an entry where nothing is in hand.

room-by : (setup : Setup) (past : List Entry) (hand : Hand) (linked : Bool) → HasRoom (lead_by setup past hand linked).replica.service → hand ≡ Empty → length past < 4000000000
room-by setup past Empty linked room empty =
    let number = count-is setup past in
    let below : (saved_of setup past).number < 4000000000 = room in
    omega arith
room-by setup past (Waiting entry) linked room empty = cc
room-by setup past (Applied entry) linked room empty = cc
room-by setup past (Ready entry) linked room empty = cc

pub has-room : (setup : Setup) (past : List Entry) (hand : Hand) (linked : Bool) (node : Node) → node ≡ lead_by setup past hand linked → HasRoom node.replica.service → hand ≡ Empty → length past < 4000000000
has-room setup past hand linked node led room empty =
    room-by setup past hand linked (subst (λ (n : Node). HasRoom n.replica.service) led room) empty

-- Clauses on one result.

pub both-ok : {T E : Type 0} (r : Result T E) (P Q : T → Type 0) → IfOk r P → IfOk r Q → IfOk r (λ x. P x × Q x)
both-ok (Ok x) P Q one other = (one, other)
both-ok (Err e) P Q one other = tt

module _ {P S : Type 0} (kit : Kit P S) (laws : IsKit kit) where
  -- Histories.

  pub accepted-history : (setup : Setup) (state : State P) → IsGood kit setup state → IsHistory setup (accepted state.world.core)
  accepted-history setup state good =
      history-of setup good.begins state.world.now (accepted state.world.core) good.steady.sound.facts.legal good.range

  pub answered-history : (setup : Setup) (state : State P) → IsGood kit setup state → IsHistory setup state.world.core.answered
  answered-history setup state good =
      answered-by setup state.world.core.answered state.world.core.hand (accepted-history setup state good)

  -- The moment that a world is at.

  pub moment-of : (setup : Setup) (state : State P) (world : Cluster S) → IsGood kit setup state → Shows kit setup state world → IsMoment world.now
  moment-of setup state world good shows = subst IsMoment (sym shows.now) good.moment

  pub hear-conditions : (setup : Setup) (state : State P) (world : Cluster S) (message : Message) → IsGood kit setup state → Shows kit setup state world → MessageInRange message → CanHear message (to_z w64 (of_z w64 world.now))
  hear-conditions setup state world message good shows range =
      let moment = moment-of setup state world good shows in
      subst (λ now. CanHear message now) (sym (moment-same world.now moment)) (can-hear message world.now range moment)

  -- what a server answered at that moment
  pub heard-then : (setup : Setup) (state : State P) (world : Cluster S) (message : Message) (heard : Heard) (old new : Node) → IsGood kit setup state → Shows kit setup state world → IsHeard message (to_z w64 (of_z w64 world.now)) old heard new → IsHeard message world.now old heard new
  heard-then setup state world message heard old new good shows is =
      subst (λ now. IsHeard message now old heard new) (moment-same world.now (moment-of setup state world good shows)) is

  -- What hearing a message leads to.

  abbrev pub GoesSo : Setup → State P → Outcome (State P) → Type 0
  GoesSo setup state outcome = Goes (SaysUnasked (plain_of setup)) (IsSteady (plain_of setup) kit.Good) state outcome

  pub heard-goes : (setup : Setup) (place : ℕ) (message : Message) (state : State P) → IsGood kit setup state → Stands message (messages_in state.world.net) → GoesSo setup state (heard_by kit place message setup state)
  heard-goes setup place message state good stands =
      let plain = plain_of setup in
      hear-goes plain (is_plain setup) (servers_at kit setup (λ number. 0)) kit.Good (calm-serves kit laws setup) (SaysUnasked plain) (calm-unasked kit laws setup) place message state stands good.steady
