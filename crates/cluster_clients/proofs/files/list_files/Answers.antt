use Rattle.std.proofs.Common.{◌≡◌, ℕ, List, refl, sym, ◌∙◌, subst, arith}
use Rattle.std.specs.Prelude.{IfSome}
use Rattle.std.specs.FinMap as files
use Rattle.cluster_clients.proofs.ListingSteps.{listing_next, item_read}
use Rattle.cluster_clients.proofs.LookSteps.{counted-next, list-broken, list-unnamed, list-whole}
use Rattle.cluster_clients.proofs.files.list_files.Goals as goal

pub loop-name-preserved : goal.loop-name-preserved
loop-name-preserved g c =
    let now = c.in-Ok-put_file_of.ensures in
    let is = item_read c.as_slice-name-items.result.now c.loop-name.name-index c.loop-name.name-index _ _ c.as_slice.ensures.bytes c.name-item.is refl in
    record {
      listed = listing_next _ _ _ _ _ _ _ _ c.loop-name-test.true is c.loop-name.invariant.listed now.added now.same;
      stands = now.cause.stands ∙ c.loop-name.invariant.stands;
      stops = now.stops ∙ c.loop-name.invariant.stops;
      counted = counted-next c.loop-name.name-index _ _ _ c.loop-name.invariant.counted now.counted;
    }

pub returns-in-Err-clause-looks : goal.returns-in-Err-clause-looks
returns-in-Err-clause-looks g c =
    list-unnamed (g.D.SharedDisk.seen c.args.disk.now).files (g.D.SharedDisk.seen c.args.disk.now).tally (g.D.SharedDisk.seen c.names.new.self).tally c.names.ensures.counted

pub returns-in-Err-put_file_of-clause-looks : goal.returns-in-Err-put_file_of-clause-looks
returns-in-Err-put_file_of-clause-looks g c =
    let held = (g.D.SharedDisk.seen c.args.disk.now).files in
    let told = subst (λ (names : List (List ℕ)). IfSome held (λ f. names ≡ files.keys f)) (sym c.as_slice-name-items.ensures) c.in-Ok.ensures.listed in
    list-broken held c.as_slice-name-items.result.now c.loop-name.name-index (g.D.SharedDisk.seen c.args.disk.now).tally (g.D.SharedDisk.seen c.loop-name.disk).tally (g.D.SharedDisk.seen c.put_file_of.new.disk).tally told c.loop-name-test.true c.loop-name.invariant.counted c.in-Err-put_file_of.ensures.counted

pub returns-clause-looks : goal.returns-clause-looks
returns-clause-looks g c =
    let held = (g.D.SharedDisk.seen c.args.disk.now).files in
    let told = subst (λ (names : List (List ℕ)). IfSome held (λ f. names ≡ files.keys f)) (sym c.as_slice-name-items.ensures) c.in-Ok.ensures.listed in
    let low = c.loop-name-test.false in
    let high = c.loop-name.auto.name-index-end in
    list-whole held c.as_slice-name-items.result.now c.loop-name.name-index (g.D.SharedDisk.seen c.args.disk.now).tally (g.D.SharedDisk.seen c.loop-name.disk).tally told (omega arith) c.loop-name.invariant.counted
