use Rattle.std.proofs.Common.{◌≡◌, List, get_or, ap, sym, ◌∙◌, subst}
use Rattle.std.proofs.lemmas.Result.{on_ok_weaker, on_err_weaker}
use Rattle.std.specs.Prelude.{OnOk}
use Rattle.wire.specs.declared.message.Message.{Message}
use Rattle.client_agent.specs.Seen.{Seen}
use Rattle.cluster_rounds.proofs.resending.resend.Goals as goal
use Rattle.cluster_clients.specs.Clients.{StandsAt, IsAbsent}
use Rattle.cluster_rounds.specs.Broken.{BreaksAloneIf}
use Rattle.cluster_rounds.specs.Delivered.{AllStandIn, HearsAll}
use Rattle.cluster_rounds.proofs.BrokenClients.{resends-break, same-breaks}
use Rattle.cluster_rounds.proofs.ChainSteps.{resends, resends-nothing, resent-standing}
use Rattle.cluster_rounds.specs.Wild.{AllPosted, KeepsWild, StandsOf, always}
use Rattle.cluster_rounds.proofs.WildSteps.{asks-from, wild-same}
use Rattle.cluster_rounds.proofs.WildClients.{resent-at}

pub returns-in-None-clause-ok : goal.returns-in-None-clause-ok
returns-in-None-clause-ok g c =
    (resends-nothing g.S.Serving.kit g.met.S.Serving.laws) c.args.client c.args.world.now c.args.lines.now.items (subst (IsAbsent c.args.client) c.as_slice.ensures (λ rising. sym (c.in-None.ensures.place rising)))

pub hear_all-heard-requires : goal.hear_all-heard-requires
hear_all-heard-requires g c =
    let old = c.args.world.now in
    let agent = c.index-as_slice-at.result in
    let found : StandsAt c.args.client c.in-Some.at old.agents = subst (StandsAt c.args.client c.in-Some.at) c.as_slice.ensures c.in-Some.ensures.own in
    let is : agent ≡ get_or old.agents c.in-Some.at agent = c.index-as_slice-at.is ∙ ap (λ (s : List Seen). get_or s c.in-Some.at agent) c.as_slice-2.ensures in
    let S : List Message → Type 0 = λ messages. (StandsOf g.S.Serving.kit) (AllStandIn messages) (AllPosted messages) old in
    subst S (sym c.as_slice-in-Ok.ensures)
    ((asks-from g.S.Serving.kit) always (AllPosted c.in-Ok.messages) old old c.requires
    (λ has. (resent-standing g.S.Serving.kit g.met.S.Serving.laws) c.args.client c.in-Some.at old agent c.in-Ok.messages has found is c.in-Ok.ensures)
    (λ disks seen wild so. ((wild-same g.S.Serving.kit) seen old disks wild, resent-at c.args.client c.in-Some.at old agent c.in-Ok.messages seen found is c.in-Ok.ensures wild.clients wild.shows)))

pub returns-in-Ok-clause-ok : goal.returns-in-Ok-clause-ok
returns-in-Ok-clause-ok g c =
    let old = c.args.world.now in
    let new = c.hear_all-heard.new.world in
    let agent = c.index-as_slice-at.result in
    let found : StandsAt c.args.client c.in-Some.at old.agents = subst (StandsAt c.args.client c.in-Some.at) c.as_slice.ensures c.in-Some.ensures.own in
    let is : agent ≡ get_or old.agents c.in-Some.at agent = c.index-as_slice-at.is ∙ ap (λ (s : List Seen). get_or s c.in-Some.at agent) c.as_slice-2.ensures in
    let H : List Message → Type 0 = λ messages. (HearsAll g.S.Serving.kit) messages old new c.args.lines.now.items c.hear_all-heard.new.lines.items in
    on_ok_weaker c.hear_all-heard.result (λ hears. (resends g.S.Serving.kit g.met.S.Serving.laws) c.args.client c.in-Some.at old new agent c.in-Ok.messages c.args.lines.now.items c.hear_all-heard.new.lines.items found is c.in-Ok.ensures (subst H c.as_slice-in-Ok.ensures hears)) c.hear_all-heard.ensures.ok

pub returns-in-Ok-clause-err : goal.returns-in-Ok-clause-err
returns-in-Ok-clause-err g c =
    let old = c.args.world.now in
    let new = c.hear_all-heard.new.world in
    let agent = c.index-as_slice-at.result in
    let found : StandsAt c.args.client c.in-Some.at old.agents = subst (StandsAt c.args.client c.in-Some.at) c.as_slice.ensures c.in-Some.ensures.own in
    let is : agent ≡ get_or old.agents c.in-Some.at agent = c.index-as_slice-at.is ∙ ap (λ (s : List Seen). get_or s c.in-Some.at agent) c.as_slice-2.ensures in
    let B : List Message → Type 0 = λ messages. (BreaksAloneIf g.S.Serving.kit) (AllStandIn messages) old new in
    on_err_weaker c.hear_all-heard.result (λ breaks. (resends-break g.S.Serving.kit g.met.S.Serving.laws) c.args.client c.in-Some.at old new agent c.in-Ok.messages found is c.in-Ok.ensures (subst B c.as_slice-in-Ok.ensures breaks)) c.hear_all-heard.ensures.err

pub returns-in-Err-clause-err : goal.returns-in-Err-clause-err
returns-in-Err-clause-err g c = (same-breaks g.S.Serving.kit g.met.S.Serving.laws) c.args.world.now

pub returns-in-None-clause-wild : goal.returns-in-None-clause-wild
returns-in-None-clause-wild g c = λ disks seen wild so. (wild-same g.S.Serving.kit) seen c.args.world.now disks wild

pub returns-in-Ok-clause-wild : goal.returns-in-Ok-clause-wild
returns-in-Ok-clause-wild g c =
    let old = c.args.world.now in
    let new = c.hear_all-heard.new.world in
    let agent = c.index-as_slice-at.result in
    let found : StandsAt c.args.client c.in-Some.at old.agents = subst (StandsAt c.args.client c.in-Some.at) c.as_slice.ensures c.in-Some.ensures.own in
    let is : agent ≡ get_or old.agents c.in-Some.at agent = c.index-as_slice-at.is ∙ ap (λ (s : List Seen). get_or s c.in-Some.at agent) c.as_slice-2.ensures in
    let W : List Message → Type 0 = λ messages. OnOk c.hear_all-heard.result ((KeepsWild g.S.Serving.kit) (AllPosted messages) old new) in
    on_ok_weaker c.hear_all-heard.result (λ (keeps : (KeepsWild g.S.Serving.kit) (AllPosted c.in-Ok.messages) old new). (λ disks seen wild so. keeps disks seen wild (resent-at c.args.client c.in-Some.at old agent c.in-Ok.messages seen found is c.in-Ok.ensures wild.clients wild.shows)))
    (subst W c.as_slice-in-Ok.ensures c.hear_all-heard.ensures.wild)
