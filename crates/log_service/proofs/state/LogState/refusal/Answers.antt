use mir.Syntax.{w64}
use mir.Val.{SFits}
use Rattle.std.proofs.Common.{refl, rules}
use Rattle.std.proofs.lemmas.Int.{to_z-of_z}
use Rattle.log_service.proofs.KeptLemmas.{same_table}
use Rattle.log_service.proofs.StatePlans.{refused-as}
use Rattle.log_service.proofs.state.LogState.refusal.Goals as goal

pub returns-clause-plan : goal.returns-clause-plan
returns-clause-plan c =
    let last = c.self.inside.last in
    let last_fits : SFits w64 last = search rules in
    let told = simp to_z-of_z at c.refused.ensures in
    λ filtered mark change.
    refused-as last c.self.inside.users c.self.inside.streams.items c.args.self.now.table (same_table c.self.view_is) c.self.invariant.few c.self.invariant.busy
    c.args.answer filtered mark change c.args.answer c.refused.result refl c.requires c.self.invariant.from told
