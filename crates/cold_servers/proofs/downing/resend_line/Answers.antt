use Rattle.std.proofs.Common.{◌≡◌, List, get_or, ap, sym, ◌∙◌, subst}
use Rattle.std.specs.List.{AllByRecursion}
use Rattle.std.proofs.lemmas.Result.{on_ok_weaker}
use Rattle.wire.specs.MessageSpelling.{MessageInRange}
use Rattle.wire.specs.declared.message.Message.{Message}
use Rattle.client_agent.specs.Seen.{Seen}
use Rattle.cluster_clients.specs.Clients.{StandsAt, IsAbsent}
use Rattle.cluster_clients.proofs.DispatchSteps.{on-err}
use Rattle.cluster_rounds.proofs.BrokenClients.{same-breaks}
use Rattle.cluster_rounds.proofs.WildSteps.{on-ok}
use Rattle.cluster_lines.proofs.WildLines.{same-wild}
use Rattle.cold_servers.specs.ColdKit.{cold_kit}
use Rattle.cold_servers.specs.ColdLaws.{cold_laws}
use Rattle.cold_servers.specs.Ignoring.{IgnoresAll}
use Rattle.cold_servers.proofs.DownSteps.{resends-down, resends-none}
use Rattle.cold_servers.proofs.SilentLines.{resent-so}
use Rattle.cold_servers.proofs.downing.resend_line.Goals as goal

pub returns-in-None-clause-ok : goal.returns-in-None-clause-ok
returns-in-None-clause-ok c = resends-none c.args.client c.args.world.now c.args.lines.now.items (subst (IsAbsent c.args.client) c.as_slice.ensures (λ rising. sym (c.in-None.ensures.place rising)))

pub ignore_all-done-requires : goal.ignore_all-done-requires
ignore_all-done-requires c =
    let old = c.args.world.now in
    let agent = c.index-as_slice-at.result in
    let found : StandsAt c.args.client c.in-Some.at old.agents = subst (StandsAt c.args.client c.in-Some.at) c.as_slice.ensures c.in-Some.ensures.own in
    let is : agent ≡ get_or old.agents c.in-Some.at agent = c.index-as_slice-at.is ∙ ap (λ (s : List Seen). get_or s c.in-Some.at agent) c.as_slice-2.ensures in
    subst (AllByRecursion MessageInRange) (sym c.as_slice-in-Ok.ensures)
    (resent-so c.args.client c.in-Some.at old agent c.in-Ok.messages c.requires found is c.in-Ok.ensures)

pub returns-in-Ok-clause-ok : goal.returns-in-Ok-clause-ok
returns-in-Ok-clause-ok c =
    let old = c.args.world.now in
    let agent = c.index-as_slice-at.result in
    let found : StandsAt c.args.client c.in-Some.at old.agents = subst (StandsAt c.args.client c.in-Some.at) c.as_slice.ensures c.in-Some.ensures.own in
    let is : agent ≡ get_or old.agents c.in-Some.at agent = c.index-as_slice-at.is ∙ ap (λ (s : List Seen). get_or s c.in-Some.at agent) c.as_slice-2.ensures in
    let I : List Message → Type 0 = λ messages. IgnoresAll messages old.net c.args.lines.now.items c.ignore_all-done.new.lines.items in
    on_ok_weaker c.ignore_all-done.result (λ ignores. resends-down c.args.client c.in-Some.at old agent c.in-Ok.messages c.args.lines.now.items c.ignore_all-done.new.lines.items found is c.in-Ok.ensures (subst I c.as_slice-in-Ok.ensures ignores)) c.ignore_all-done.ensures

pub returns-in-Ok-clause-err : goal.returns-in-Ok-clause-err
returns-in-Ok-clause-err c = on-err c.ignore_all-done.result ((same-breaks cold_kit cold_laws) c.args.world.now)

pub returns-in-Err-clause-err : goal.returns-in-Err-clause-err
returns-in-Err-clause-err c = (same-breaks cold_kit cold_laws) c.args.world.now

pub returns-in-None-clause-wild : goal.returns-in-None-clause-wild
returns-in-None-clause-wild c = (same-wild cold_kit cold_laws) c.args.world.now

pub returns-in-Ok-clause-wild : goal.returns-in-Ok-clause-wild
returns-in-Ok-clause-wild c = on-ok c.ignore_all-done.result ((same-wild cold_kit cold_laws) c.args.world.now)
