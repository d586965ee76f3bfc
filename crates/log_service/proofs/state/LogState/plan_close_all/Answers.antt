use Rattle.std.proofs.Common.{◌≡◌, List, length, refl, sym, subst, ap, ◌∙◌, rules, arith}
use Rattle.std.proofs.lemmas.Int.{to_z-of_z}
use Rattle.ais_values.specs.declared.status.Status.TheVariants as status
use Rattle.log_history.specs.KeptAnswers.{end_status}
use Rattle.log_history.specs.Table.{OpenStream, LogTable, without_opener, left_streams}
use Rattle.log_service.specs.Changing.{AreEndsIn}
use Rattle.log_service.proofs.KeptLemmas.{AreFew-mapped, few-bound, ends-fit, moment-of, moment-fits, same_table}
use Rattle.log_service.proofs.StatePlans.{ended-as}
use Rattle.log_service.proofs.state.LogState.plan_close_all.Goals as goal

pub endings-requires-clause-few : goal.endings-requires-clause-few
endings-requires-clause-few c =
    let short = few-bound c.self.inside.streams.items c.self.invariant.few in
    omega (arith, ap length c.as_slice-streams.ensures.value)

pub returns-clause-ok : goal.returns-clause-ok
returns-clause-ok c =
    let now_fits = c.ranges.now in
    let last = c.self.inside.last in
    let moment = moment-of last c.args.now c.args.self.now.table c.self.invariant.from (ap (λ (kept : LogTable). kept.last) (same_table c.self.view_is)) c.requires in
    let last_fits = moment-fits last c.args.now moment in
    let items = c.self.inside.streams.items in
    let left = left_streams c.args.client items in
    let stamped = c.in_ok-last.last in
    let events = c.in_ok-last.events in
    let ok : c.end_status-status.result ≡ status.Ok = search rules in
    let ends = subst (λ (list : List OpenStream). AreEndsIn last c.args.now (left_streams c.args.client list) (stamped, events)) c.as_slice-streams.ensures.value (record { stamp = simp to_z-of_z at c.in_ok-last.ensures.stamp; events = simp to_z-of_z at c.in_ok-last.ensures.events }) in
    let short = few-bound left (AreFew-mapped (without_opener c.args.client) (λ _. refl) items c.self.invariant.few) in
    let fits = ends-fit last c.args.now left (stamped, events) moment (omega arith) ends in
    ended-as last c.self.inside.users items c.args.self.now.table (same_table c.self.view_is) c.self.invariant.few c.self.invariant.busy c.args.now (end_status c.args.self.now.table c.args.client) c.args.client stamped events c.accepted.result (sym ok ∙ c.end_status-status.ensures) ends (simp to_z-of_z at c.accepted.ensures)
