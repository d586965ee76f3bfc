use Rattle.std.proofs.Common.{◌≡◌, ◌++◌, Some, ap, sym, subst, ◌∙◌}
use Rattle.cluster_clients.specs.Clients.{IsAbsent}
use Rattle.cluster_clients.specs.Taken.{number_told}
use Rattle.cluster_clients.specs.Taking.{receiver_of, missed_lines}
use Rattle.cluster_clients.proofs.TakingSteps.{takes-nothing, takes-absent, nothing-taken}
use Rattle.cluster_clients.proofs.taking.take.Goals as goal

pub returns-in-None-clause-ok : goal.returns-in-None-clause-ok
returns-in-None-clause-ok g c =
    takes-nothing c.args.place c.args.message.now c.args.net.now c.args.agents.now c.args.lines.now.items (sym c.in-None.ensures)

pub returns-in-Ok-clause-ok : goal.returns-in-Ok-clause-ok
returns-in-Ok-clause-ok g c =
    let old = c.args.agents.now in
    let client = c.in-Some.client in
    let before = c.args.lines.now.items in
    let receiver : receiver_of c.args.message.now ≡ Some client = sym c.in-Some.ensures in
    let none : IsAbsent client old = subst (IsAbsent client) c.as_slice.ensures (λ rising. sym (c.in-None-place_of.ensures.place rising)) in
    takes-absent c.args.place client c.args.message.now c.args.net.now old before c.put_missed.new.lines.items receiver none (c.in-Ok.ensures ∙ ap (λ why. before ++ missed_lines c.args.place why) c.missed_by_none.ensures)

pub returns-in-Err-clause-err : goal.returns-in-Err-clause-err
returns-in-Err-clause-err g c =
    nothing-taken (number_told c.args.place) c.args.message.now c.args.net.now c.args.agents.now
