use Rattle.std.proofs.Common.{◌≡◌, ℕ, suc, true, false, List, refl, ap, sym, ◌∙◌, subst, arith}
use Rattle.std.specs.Prelude.{IfSome}
use Rattle.std.specs.FinMap as files
use Rattle.disk_model.specs.Counts.{read_more}
use Rattle.cluster_clients.proofs.ListingSteps.{item_read}
use Rattle.world_runs.proofs.FigureLaws.{asked-next, files-next, looked-in, names-told_in, names_in}
use Rattle.world_runs.proofs.figures.count_files.Goals as goal

pub loop-name-preserved : goal.loop-name-preserved
loop-name-preserved g c =
    let now = c.in-Ok-with_file.ensures in
    let is = item_read c.as_slice-name-items.result.now c.loop-name.name-index c.loop-name.name-index _ _ c.as_slice.ensures.bytes c.name-item.is refl in
    record {
      counted = files-next _ _ _ _ _ _ _ c.loop-name.invariant.same c.loop-name-test.true is now.counted c.loop-name.invariant.counted;
      same = now.same ∙ c.loop-name.invariant.same;
      stops = now.stops ∙ c.loop-name.invariant.stops;
      asked = asked-next c.loop-name.name-index _ _ _ c.loop-name.invariant.asked now.asked;
      stands = now.cause.stands ∙ c.loop-name.invariant.stands;
    }

pub returns-in-Err-clause-looks : goal.returns-in-Err-clause-looks
returns-in-Err-clause-looks g c =
    let held = (g.D.SharedDisk.seen c.args.disk.now).files in
    looked-in held (names_in held) 1 false (g.D.SharedDisk.seen c.args.disk.now).tally (g.D.SharedDisk.seen c.names.new.self).tally (names-told_in held) (omega arith) (λ done. absurd (cc)) c.names.ensures.counted

pub returns-in-Err-with_file-clause-looks : goal.returns-in-Err-with_file-clause-looks
returns-in-Err-with_file-clause-looks g c =
    let held = (g.D.SharedDisk.seen c.args.disk.now).files in
    let names = c.as_slice-name-items.result.now in
    let place = c.loop-name.name-index in
    let told = subst (λ (all : List (List ℕ)). IfSome held (λ f. all ≡ files.keys f)) (sym c.as_slice-name-items.ensures) c.in-Ok.ensures.listed in
    let inside = c.loop-name-test.true in
    looked-in held names (suc (suc place)) false (g.D.SharedDisk.seen c.args.disk.now).tally (g.D.SharedDisk.seen c.with_file.new.disk).tally told (omega arith) (λ done. absurd (cc)) (c.in-Err-with_file.ensures.asked ∙ ap (read_more 1) c.loop-name.invariant.asked)

pub returns-clause-looks : goal.returns-clause-looks
returns-clause-looks g c =
    let held = (g.D.SharedDisk.seen c.args.disk.now).files in
    let names = c.as_slice-name-items.result.now in
    let told = subst (λ (all : List (List ℕ)). IfSome held (λ f. all ≡ files.keys f)) (sym c.as_slice-name-items.ensures) c.in-Ok.ensures.listed in
    let low = c.loop-name-test.false in
    let high = c.loop-name.auto.name-index-end in
    looked-in held names (suc c.loop-name.name-index) true (g.D.SharedDisk.seen c.args.disk.now).tally (g.D.SharedDisk.seen c.loop-name.disk).tally told (omega arith) (λ done. omega arith) c.loop-name.invariant.asked
