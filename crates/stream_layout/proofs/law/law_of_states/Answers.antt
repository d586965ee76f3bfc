use Rattle.std.proofs.Common.{Some, None}
use Rattle.stream_layout.proofs.FitSteps.{can-store, fit-none, fit-some, first-grows}
use Rattle.stream_layout.proofs.RecordSteps.{are-none, are-some, spot-none, spot-some}
use Rattle.stream_layout.proofs.law.law_of_states.Goals as goal

pub returns-clause-fit : goal.returns-clause-fit
returns-clause-fit c before bytes None fit later = fit-none before bytes (can-store before bytes None fit)
returns-clause-fit c before bytes (Some stamps) fit later = fit-some before bytes stamps (can-store before bytes (Some stamps) fit) later

pub returns-clause-records : goal.returns-clause-records
returns-clause-records c before bytes None records fit are = are-none before bytes records fit are
returns-clause-records c before bytes (Some stamps) records fit are = are-some before bytes stamps records fit are

pub returns-clause-spots : goal.returns-clause-spots
returns-clause-spots c before bytes None fit = spot-none before bytes fit
returns-clause-spots c before bytes (Some stamps) fit = spot-some before bytes stamps fit

pub returns-clause-first : goal.returns-clause-first
returns-clause-first c = first-grows
