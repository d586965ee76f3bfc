use Rattle.std.proofs.Common.{◌≡◌, List, refl, sym, subst, ap, ◌∙◌, rules, arith}
use Rattle.std.proofs.lemmas.Int.{to_z-of_z}
use Rattle.ais_values.specs.declared.status.Status.TheVariants as status
use Rattle.log_history.specs.KeptAnswers.{close_status}
use Rattle.log_history.specs.Table.{OpenStream, LogTable, is_named, without_opener, closed_streams}
use Rattle.log_service.specs.Changing.{AreEndsIn}
use Rattle.log_service.proofs.KeptLemmas.{AreFew-changed, few-bound, ends-fit, moment-of, moment-fits, same_table}
use Rattle.log_service.proofs.StatePlans.{closed-as}
use Rattle.log_service.proofs.state.LogState.plan_close.Goals as goal

pub returns-clause-ok : goal.returns-clause-ok
returns-clause-ok c =
    let now_fits = c.ranges.now in
    let last = c.self.inside.last in
    let moment = moment-of last c.args.now c.args.self.now.table c.self.invariant.from (ap (λ (kept : LogTable). kept.last) (same_table c.self.view_is)) c.requires in
    let last_fits = moment-fits last c.args.now moment in
    let items = c.self.inside.streams.items in
    let left = closed_streams c.args.client c.args.name.now items in
    let stamped = c.in_ok-last.last in
    let events = c.in_ok-last.events in
    let ok : c.close_status-status.result ≡ status.Ok = search rules in
    let told = simp to_z-of_z at c.in_ok-last.ensures in
    let ends = subst (λ (list : List OpenStream). AreEndsIn last c.args.now (closed_streams c.args.client c.args.name.now list) (stamped, events)) c.as_slice-streams.ensures.value told in
    let short = few-bound left (AreFew-changed (without_opener c.args.client) (λ _. refl) (is_named c.args.name.now) items c.self.invariant.few) in
    let fits = ends-fit last c.args.now left (stamped, events) moment (omega arith) ends in
    closed-as last c.self.inside.users items c.args.self.now.table (same_table c.self.view_is) c.self.invariant.few c.self.invariant.busy c.args.now (close_status c.args.self.now.table c.args.client c.args.name.now) c.args.client c.args.name.now c.in_ok-name.name stamped events c.accepted.result (sym ok ∙ c.close_status-status.ensures) ends c.in_ok-name.ensures (simp to_z-of_z at c.accepted.ensures)
