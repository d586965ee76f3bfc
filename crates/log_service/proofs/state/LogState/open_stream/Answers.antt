use Rattle.std.proofs.Common.{sym, ap, ◌∙◌}
use Rattle.std.specs.Prelude.{Option}
use Rattle.std.specs.Option.{option_copied}
use Rattle.stream_config.specs.declared.attrs.StreamAttrs.{StreamAttrs}
use Rattle.log_history.specs.Changes.{Opened}
use Rattle.log_history.specs.Table.{table_after, events_of}
use Rattle.log_service.specs.Moments.{second_of}
use Rattle.log_service.specs.declared.step.Step.{Step}
use Rattle.log_service.proofs.OpenLemmas.{making-none}
use Rattle.log_service.proofs.state.LogState.open_stream.Goals as goal

pub returns-then-is_living-clause-ok : goal.returns-then-is_living-clause-ok
returns-then-is_living-clause-ok c =
    let old = c.args.self.now.table in
    let name = c.args.name.now in
    let second = second_of c.args.now in
    let none = making-none old.streams name (option_copied c.args.create) (sym c.if-is_living.ensures) in
    λ ok. record {
      now = c.in_ok-step.ensures.now second c.args.number ∙ ap (λ (making : Option StreamAttrs). table_after (Opened c.args.client name making second c.args.number) old) (sym none);
      done = ap (λ (step : Step). step.events) c.in_ok-step.ensures.step ∙ ap (λ (making : Option StreamAttrs). events_of (Opened c.args.client name making second c.args.number) old) (sym none);
    }
