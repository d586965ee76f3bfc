use Rattle.std.proofs.Common.{[], ◌∙◌, subst, w64}
use Rattle.std.specs.Prelude.{ℤ}
use Rattle.std.proofs.lemmas.Int.{to_z-of_z}
use Rattle.service_table.proofs.SavedLaws.{table-stands}
use Rattle.service_core.specs.Inside.{kept_table}
use Rattle.service_core.proofs.OpeningLaws.{Opens, opened-kept}
use Rattle.service_core.proofs.service.Service.new.Goals as goal

pub service_of-requires : goal.service_of-requires
service_of-requires c =
    let kept = c.in_ok-kept.kept in
    let deeds = c.in_ok-kept.deeds in
    let opened = subst (λ (start : ℤ). Opens start c.args.cap c.args.wells kept deeds) (to_z-of_z w64 c.args.start c.ranges.start) c.in_ok-kept.ensures in
    opened-kept c.args.start c.args.cap c.args.wells kept deeds c.requires opened

pub returns : goal.returns
returns c =
    let kept = c.in_ok-kept.kept in
    let deeds = c.in_ok-kept.deeds in
    let opened = subst (λ (start : ℤ). Opens start c.args.cap c.args.wells kept deeds) (to_z-of_z w64 c.args.start c.ranges.start) c.in_ok-kept.ensures in
    λ setup begins.
    let is = opened setup begins in
    record { stands = c.in_ok-service.ensures ∙ table-stands setup [] (kept_table kept) is.now; deeds = is.done }
