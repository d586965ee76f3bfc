use Rattle.ntf_history.proofs.FitLaws.{has-users, users-rising, last_id-bound}
use Rattle.ntf_history.proofs.law.law_of_users.Goals as goal

pub returns : goal.returns
returns c = record { users = has-users; order = users-rising; ids = last_id-bound }
