use Rattle.std.proofs.Common.{subst, w64}
use Rattle.std.specs.Prelude.{ℤ}
use Rattle.std.proofs.lemmas.Int.{to_z-of_z}
use Rattle.service_core.proofs.OpeningLaws.{LogBegins, begun-fit, opened-as}
use Rattle.service_core.proofs.opening.opened.Goals as goal

pub deeds_of_all-requires : goal.deeds_of_all-requires
deeds_of_all-requires c =
    let log = c.in_ok-log.log.table in
    let events = c.in_ok-log.events in
    let begun = subst (λ (start : ℤ). LogBegins start c.args.wells log events) (to_z-of_z w64 c.args.start c.ranges.start) c.in_ok-log.ensures in
    begun-fit c.args.start c.args.cap c.args.wells log events c.as_slice.result.now c.requires begun c.as_slice.ensures

pub returns : goal.returns
returns c =
    let log = c.in_ok-log.log.table in
    let events = c.in_ok-log.events in
    let begun = subst (λ (start : ℤ). LogBegins start c.args.wells log events) (to_z-of_z w64 c.args.start c.ranges.start) c.in_ok-log.ensures in
    opened-as c.args.start c.args.cap c.args.wells log events c.as_slice.result.now c.in_ok-deeds.deeds c.unused.result begun c.as_slice.ensures c.in_ok-deeds.ensures.ok c.unused.ensures
