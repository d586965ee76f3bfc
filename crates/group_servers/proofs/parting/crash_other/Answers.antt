use Rattle.std.proofs.Common.{ℕ, Option, ◌++◌, option_map, refl, ap, ◌∙◌}
use Rattle.std.specs.Option.{option_to_list}
use Rattle.cluster_facts.specs.Types.{Entry}
use Rattle.cluster_clients.proofs.DispatchSteps.{on-err}
use Rattle.group_servers.specs.Parted.{lost_entry, lost_lines}
use Rattle.group_servers.proofs.FailSteps.{parts}
use Rattle.group_servers.proofs.GoodSteps.{untold-breaks}
use Rattle.group_servers.proofs.parting.crash_other.Goals as goal

pub push_caught-requires : goal.push_caught-requires
push_caught-requires g c = c.in_ok-reserve.ensures.ok

pub returns-in-Ok-clause-ok : goal.returns-in-Ok-clause-ok
returns-in-Ok-clause-ok g c =
    let old = c.args.world.now in
    let lost = c.drop_at-lost.result in
    let found = c.lost_entry.ensures ∙ ap (λ goes. lost_entry goes lost) c.any_goes-goes.ensures in
    let entries = c.push_caught.ensures ∙ (λ i. option_to_list (c.in-Ok.ensures.0 i) ++ c.in_ok-reserve.ensures.entries i) ∙ ap (λ (f : Option (ℕ × Entry)). option_to_list (option_map (λ (p : ℕ × Entry). p.1) f) ++ old.history.entries) found in
    let lines = c.in-Ok.ensures.1 ∙ ap (λ f. c.args.lines.now.items ++ lost_lines f c.args.server) found in
    parts g.row.N c.args.server old c.settle.new.active c.drop_at-lost.new.seats c.push_caught.new.history lost c.args.lines.now.items c.put_parted.new.lines.items c.requires.follows c.drop_at-lost.ensures c.settle.ensures entries lines

pub returns-in-Err-clause-err : goal.returns-in-Err-clause-err
returns-in-Err-clause-err g c = λ held setup state good shows. untold-breaks g.row.N setup state held c.args.world.now _ good shows refl refl c.in_ok-reserve.ensures.entries refl refl

pub returns-in_err-reserve-clause-err : goal.returns-in_err-reserve-clause-err
returns-in_err-reserve-clause-err g c =
    on-err c.from_residual.result (λ held setup state good shows. untold-breaks g.row.N setup state held c.args.world.now _ good shows refl refl c.in_err-reserve.ensures.entries refl refl)
