use Rattle.std.proofs.Common.{◌≡◌, ℕ, Some, List, slice_get, sym, subst}
use Rattle.std.proofs.lemmas.Result.{IfOk-weaker, IfErr-weaker}
use Rattle.wire.specs.declared.message.Message.{Message}
use Rattle.cluster_facts.specs.Agents.{Agent, resent}
use Rattle.client_agent.specs.Seen.{Seen, seen_of}
use Rattle.cluster_rounds.proofs.rounds.turn_client.Goals as goal
use Rattle.cluster_clients.specs.Clients.{StandsAt, IsAbsent}
use Rattle.cluster_rounds.specs.Came.{Comes, ComesOff}
use Rattle.cluster_rounds.specs.Rounds.{EndsClient, EndsTurns, IsIdleWithAll, turns_by}
use Rattle.cluster_rounds.specs.Worlds.{IsIdle}
use Rattle.cluster_rounds.proofs.BrokenClients.{same-breaks-if}
use Rattle.cluster_rounds.proofs.CameSteps.{alone-off}
use Rattle.cluster_rounds.proofs.RoundSteps.{sent-are}
use Rattle.cluster_rounds.proofs.TurnSteps.{client-absent, client-comes, client-off, client-ready}
use Rattle.cluster_rounds.specs.Wild.{AllPosted, GoesWild, StandsOn, always}
use Rattle.cluster_rounds.proofs.WildSteps.{asks-on, goes-so, wild-same}
use Rattle.cluster_rounds.proofs.WildClients.{sent-posted}

pub returns-in-None-clause-ok : goal.returns-in-None-clause-ok
returns-in-None-clause-ok g c =
    (client-absent g.S.Serving.kit g.met.S.Serving.laws) c.args.client c.args.world.now c.args.lines.now.items (g.S.Serving.kit.see (g.D.SharedDisk.seen c.args.disk.now) (g.J.SharedDisk.seen c.args.beside.now)) (subst (IsAbsent c.args.client) c.as_slice.ensures (λ rising. sym (c.in-None.ensures.place rising)))

pub turn_all-turned-requires : goal.turn_all-turned-requires
turn_all-turned-requires g c =
    let agents = c.args.world.now.agents in
    let messages = c.in-Ok.messages in
    let found : StandsAt c.args.client c.in-Some.at agents = subst (StandsAt c.args.client c.in-Some.at) c.as_slice.ensures c.in-Some.ensures.own in
    let S : List Seen → Type 0 = λ l. (receiver places : ℕ) (agent : Agent) → slice_get l c.in-Some.at ≡ Some (seen_of receiver places agent) → messages ≡ resent receiver agent in
    let sent : S agents = subst S c.as_slice-2.ensures c.in-Ok.ensures in
    let old = c.args.world.now in
    let are = (sent-are g.S.Serving.kit g.met.S.Serving.laws) c.args.client c.in-Some.at messages old found sent in
    let held = g.S.Serving.kit.see (g.D.SharedDisk.seen c.args.disk.now) (g.J.SharedDisk.seen c.args.beside.now) in
    subst (λ (l : List Message). (StandsOn g.S.Serving.kit) (IsIdleWithAll l) (AllPosted l) old held) (sym c.as_slice-in-Ok.ensures)
    ((asks-on g.S.Serving.kit) always (AllPosted messages) old old held held c.requires
    (λ has. (client-ready g.S.Serving.kit g.met.S.Serving.laws) c.args.client messages old held are has)
    (λ seen_world wild so. ((wild-same g.S.Serving.kit) seen_world old held wild, sent-posted c.args.client c.in-Some.at messages old seen_world found sent wild.clients wild.shows)))

pub returns-in-Ok-clause-ok : goal.returns-in-Ok-clause-ok
returns-in-Ok-clause-ok g c =
    let agents = c.args.world.now.agents in
    let messages = c.in-Ok.messages in
    let found : StandsAt c.args.client c.in-Some.at agents = subst (StandsAt c.args.client c.in-Some.at) c.as_slice.ensures c.in-Some.ensures.own in
    let S : List Seen → Type 0 = λ l. (receiver places : ℕ) (agent : Agent) → slice_get l c.in-Some.at ≡ Some (seen_of receiver places agent) → messages ≡ resent receiver agent in
    let sent : S agents = subst S c.as_slice-2.ensures c.in-Ok.ensures in
    let old = c.args.world.now in
    let are = (sent-are g.S.Serving.kit g.met.S.Serving.laws) c.args.client c.in-Some.at messages old found sent in
    let new = c.turn_all-turned.new.world in
    let before = c.args.lines.now.items in
    let after = c.turn_all-turned.new.lines.items in
    let held = g.S.Serving.kit.see (g.D.SharedDisk.seen c.args.disk.now) (g.J.SharedDisk.seen c.args.beside.now) in
    let left = g.S.Serving.kit.see (g.D.SharedDisk.seen c.turn_all-turned.new.disk) (g.J.SharedDisk.seen c.turn_all-turned.new.beside) in
    IfOk-weaker c.turn_all-turned.result _ _ (λ loud comes. (client-comes g.S.Serving.kit g.met.S.Serving.laws) c.args.client messages old new before after loud held left are (subst (λ (l : List Message). (Comes g.S.Serving.kit) (IsIdleWithAll l) ((turns_by g.S.Serving.kit) l) old new before after loud held left) c.as_slice-in-Ok.ensures comes)) c.turn_all-turned.ensures.ok

pub returns-in-Ok-clause-err : goal.returns-in-Ok-clause-err
returns-in-Ok-clause-err g c =
    let agents = c.args.world.now.agents in
    let messages = c.in-Ok.messages in
    let found : StandsAt c.args.client c.in-Some.at agents = subst (StandsAt c.args.client c.in-Some.at) c.as_slice.ensures c.in-Some.ensures.own in
    let S : List Seen → Type 0 = λ l. (receiver places : ℕ) (agent : Agent) → slice_get l c.in-Some.at ≡ Some (seen_of receiver places agent) → messages ≡ resent receiver agent in
    let sent : S agents = subst S c.as_slice-2.ensures c.in-Ok.ensures in
    let old = c.args.world.now in
    let are = (sent-are g.S.Serving.kit g.met.S.Serving.laws) c.args.client c.in-Some.at messages old found sent in
    let new = c.turn_all-turned.new.world in
    let before = c.args.lines.now.items in
    let after = c.turn_all-turned.new.lines.items in
    let held = g.S.Serving.kit.see (g.D.SharedDisk.seen c.args.disk.now) (g.J.SharedDisk.seen c.args.beside.now) in
    let left = g.S.Serving.kit.see (g.D.SharedDisk.seen c.turn_all-turned.new.disk) (g.J.SharedDisk.seen c.turn_all-turned.new.beside) in
    IfErr-weaker c.turn_all-turned.result _ _ (λ answer off. (client-off g.S.Serving.kit g.met.S.Serving.laws) c.args.client messages answer old new before after held left are (subst (λ (l : List Message). (ComesOff g.S.Serving.kit) (IsIdleWithAll l) ((EndsTurns g.S.Serving.kit) l) answer old new before after held left) c.as_slice-in-Ok.ensures off)) c.turn_all-turned.ensures.err

pub returns-in-Err-clause-err : goal.returns-in-Err-clause-err
returns-in-Err-clause-err g c =
    let world = c.args.world.now in
    let lines = c.args.lines.now.items in
    (alone-off g.S.Serving.kit g.met.S.Serving.laws) IsIdle ((EndsClient g.S.Serving.kit) c.args.client) world world lines lines (g.S.Serving.kit.see (g.D.SharedDisk.seen c.args.disk.now) (g.J.SharedDisk.seen c.args.beside.now)) ((same-breaks-if g.S.Serving.kit g.met.S.Serving.laws) IsIdle world)

pub returns-in-None-clause-wild : goal.returns-in-None-clause-wild
returns-in-None-clause-wild g c = λ seen_world wild so. (wild-same g.S.Serving.kit) seen_world c.args.world.now (g.S.Serving.kit.see (g.D.SharedDisk.seen c.args.disk.now) (g.J.SharedDisk.seen c.args.beside.now)) wild

pub returns-in-Ok-clause-wild : goal.returns-in-Ok-clause-wild
returns-in-Ok-clause-wild g c =
    let held = g.S.Serving.kit.see (g.D.SharedDisk.seen c.args.disk.now) (g.J.SharedDisk.seen c.args.beside.now) in
    let left = g.S.Serving.kit.see (g.D.SharedDisk.seen c.turn_all-turned.new.disk) (g.J.SharedDisk.seen c.turn_all-turned.new.beside) in
    let agents = c.args.world.now.agents in
    let messages = c.in-Ok.messages in
    let found : StandsAt c.args.client c.in-Some.at agents = subst (StandsAt c.args.client c.in-Some.at) c.as_slice.ensures c.in-Some.ensures.own in
    let S : List Seen → Type 0 = λ l. (receiver places : ℕ) (agent : Agent) → slice_get l c.in-Some.at ≡ Some (seen_of receiver places agent) → messages ≡ resent receiver agent in
    let sent : S agents = subst S c.as_slice-2.ensures c.in-Ok.ensures in
    let old = c.args.world.now in
    let W : List Message → Type 0 = λ l. (GoesWild g.S.Serving.kit) (AllPosted l) c.turn_all-turned.result old c.turn_all-turned.new.world held left in
    (goes-so g.S.Serving.kit) always (AllPosted messages) c.turn_all-turned.result old c.turn_all-turned.new.world held left
    (λ seen_world wild so. sent-posted c.args.client c.in-Some.at messages old seen_world found sent wild.clients wild.shows)
    (subst W c.as_slice-in-Ok.ensures c.turn_all-turned.ensures.wild)
