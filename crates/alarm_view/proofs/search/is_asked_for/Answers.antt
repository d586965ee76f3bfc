use Rattle.ntf_filters.proofs.Meaning.{matches-value}
use Rattle.alarm_view.proofs.search.is_asked_for.Goals as goal

pub returns : goal.returns
returns c = matches-value c.args.filters.now c.args.alarm.now c.matches.result c.matches.ensures
