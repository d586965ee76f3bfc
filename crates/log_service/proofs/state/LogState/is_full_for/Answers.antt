use Rattle.stream_config.specs.Attributes.{kind_of}
use Rattle.log_history.specs.Times.{record_at}
use Rattle.log_service.proofs.WriteLemmas.{has-parts}
use Rattle.log_service.proofs.state.LogState.is_full_for.Goals as goal

pub returns : goal.returns
returns c =
    let time_fits = c.ranges.time in
    let now_fits = c.ranges.now in
    c.is_full.ensures (record_at c.args.time c.args.header.now c.args.body.now c.args.now)
    (has-parts (kind_of c.args.name.now) c.args.time c.args.header.now c.args.body.now c.args.now time_fits now_fits c.requires.moment.from c.read_event.ensures c.requires.writable)
