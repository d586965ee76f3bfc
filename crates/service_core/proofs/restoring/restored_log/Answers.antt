use Rattle.std.proofs.Common.{◌≡◌, rules, ap, sym, ◌∙◌, subst, to_z, of_z, w64}
use Rattle.std.specs.Prelude.{ℤ, unsigned_abs}
use Rattle.log_service.specs.State.{IsSoundTable, joined_streams, table_with}
use Rattle.service_core.proofs.RestoringLaws.{log-made}
use Rattle.service_core.proofs.restoring.restored_log.Goals as goal

pub rebuild-requires-clause-sound : goal.rebuild-requires-clause-sound
rebuild-requires-clause-sound c =
    let last = c.args.last_stamp in
    let parts = c.in_ok-states in
    let last_is : to_z w64 (of_z w64 last) ≡ last = search rules in
    let made = log-made (unsigned_abs last) c.args.users c.args.streams parts.states parts.openers parts.marks parts.ensures.0 parts.ensures.1 parts.ensures.2 in
    subst (λ (these : ℤ). IsSoundTable (table_with (unsigned_abs these) c.args.users (joined_streams parts.states parts.openers parts.marks))) (sym last_is)
    (subst IsSoundTable (sym made) c.requires.sound)

pub returns : goal.returns
returns c =
    let last = c.args.last_stamp in
    let parts = c.in_ok-states in
    let last_is : to_z w64 (of_z w64 last) ≡ last = search rules in
    c.in_ok-log.ensures
    ∙ ap (λ (these : ℤ). table_with (unsigned_abs these) c.args.users (joined_streams parts.states parts.openers parts.marks)) last_is
    ∙ log-made (unsigned_abs last) c.args.users c.args.streams parts.states parts.openers parts.marks parts.ensures.0 parts.ensures.1 parts.ensures.2
