use Rattle.stream_config.specs.Attributes.{kind_of}
use Rattle.log_service.proofs.WriteLemmas.{severity-fits}
use Rattle.log_service.proofs.state.LogState.filters.Goals as goal

pub is_filtered-requires : goal.is_filtered-requires
is_filtered-requires c =
    let time_fits = c.ranges.time in
    severity-fits (kind_of c.args.name.now) c.args.time c.args.header.now c.requires
