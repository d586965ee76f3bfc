use Rattle.std.proofs.Common.{List, subst}
use Rattle.std.proofs.lemmas.Int.{to_z-of_z}
use Rattle.stream_config.specs.declared.attrs.StreamAttrs.{StreamAttrs}
use Rattle.log_service.specs.Moments.{second_of}
use Rattle.log_service.specs.Beginning.{HasWells}
use Rattle.log_service.proofs.BeginLemmas.{begun, third-fits}
use Rattle.log_service.proofs.state.LogState.new.Goals as goal

pub returns : goal.returns
returns c = λ setup begins.
    let start_fits = c.ranges.start in
    let told = simp to_z-of_z at c.in_ok-last.ensures in
    let last_fits = third-fits c.args.start c.requires.time c.in_ok-last.last told.stamp in
    let has : HasWells (second_of c.args.start) c.args.wells c.in_ok-last.last c.in_ok-last.streams.items c.in_ok-last.events =
    subst (λ (wells : List StreamAttrs). HasWells (second_of c.args.start) wells c.in_ok-last.last c.in_ok-last.streams.items c.in_ok-last.events) c.as_slice.ensures told in
    simp to_z-of_z (begun setup c.args.start c.args.wells c.in_ok-last.last c.new.result c.in_ok-last.streams.items c.in_ok-last.events c.new.ensures begins has)
