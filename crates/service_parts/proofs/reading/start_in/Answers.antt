use Rattle.std.proofs.Common.{◌≡◌, subst, w64}
use Rattle.std.specs.Prelude.{ℤ, option_map, reverse}
use Rattle.std.proofs.lemmas.Int.{to_z-of_z}
use Rattle.alarm_view.specs.Alarms.{notifications}
use Rattle.alarm_view.specs.Nearest.{cursor_before}
use Rattle.alarm_view.specs.Search.{starting}
use Rattle.service_parts.proofs.Lookups.{start-value}
use Rattle.service_parts.proofs.reading.start_in.Goals as goal

pub returns : goal.returns
returns c =
    subst (λ (v : ℤ). c.start.result ≡ option_map cursor_before (starting c.args.mode v c.args.filters.now (reverse (notifications c.args.alarms.now.kept)))) (to_z-of_z w64 c.args.value c.ranges.value)
    (start-value c.args.mode _ c.args.filters.now c.args.alarms.now.kept c.start.result c.start.ensures.order c.start.ensures.found c.start.ensures.none)
