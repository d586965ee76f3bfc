use Rattle.service_fit.proofs.FitSteps.{fit-call, fit-receipt}
use Rattle.service_fit.proofs.law.law_of_fitness.Goals as goal

pub returns : goal.returns
returns c = record { call = fit-call; receipt = fit-receipt }
