use Rattle.std.proofs.Common.{List, sym, subst}
use Rattle.std.proofs.lemmas.Result.{IfOk-weaker, on_err_weaker}
use Rattle.client_agent.specs.Seen.{Seen}
use Rattle.cluster_clients.specs.PartlyDone.{TakesPartly}
use Rattle.cluster_clients.specs.Taken.{number_told}
use Rattle.cluster_clients.proofs.DeliverySteps.{found-within, found-for, fit-receipt}
use Rattle.cluster_clients.proofs.TakingSteps.{takes-told, taken-partly, nothing-taken}
use Rattle.cluster_clients.proofs.taking.take_at.Goals as goal

pub receive_at-requires-clause-client : goal.receive_at-requires-clause-client
receive_at-requires-clause-client g c =
    found-for c.args.client c.args.at c.args.agents.now c.args.message.now c.requires.found c.requires.receiver

pub tell_taken-requires : goal.tell_taken-requires
tell_taken-requires g c =
    fit-receipt c.args.client c.args.at c.args.message.now c.args.agents.now c.receive_at.new.agents c.in-Ok.taken c.requires.found c.requires.receiver c.requires.range (found-within c.args.client c.args.at c.args.agents.now c.requires.found) c.in-Ok.ensures.ok

pub returns-in-Ok-clause-ok : goal.returns-in-Ok-clause-ok
returns-in-Ok-clause-ok g c =
    IfOk-weaker c.tell_taken.result _ _ (λ loud told. takes-told c.args.place c.args.client c.args.at c.args.message.now c.args.net.now c.tell_taken.new.net c.args.agents.now c.receive_at.new.agents c.args.lines.now.items c.tell_taken.new.lines.items c.in-Ok.taken loud c.requires.receiver c.requires.found c.in-Ok.ensures.ok told) c.tell_taken.ensures.ok

pub returns-in-Ok-clause-err : goal.returns-in-Ok-clause-err
returns-in-Ok-clause-err g c =
    on_err_weaker c.tell_taken.result (taken-partly (number_told c.args.place) c.args.client c.args.at c.args.message.now c.args.net.now c.tell_taken.new.net c.args.agents.now c.receive_at.new.agents c.in-Ok.taken c.requires.receiver c.requires.found c.in-Ok.ensures.ok) c.tell_taken.ensures.err

pub returns-in-Err-clause-err : goal.returns-in-Err-clause-err
returns-in-Err-clause-err g c =
    let place = number_told c.args.place in
    let net = c.args.net.now in
    let old = c.args.agents.now in
    subst (λ (agents : List Seen). TakesPartly place c.args.message.now net net old agents) (sym c.in-Err.ensures.err) (nothing-taken place c.args.message.now net old)
