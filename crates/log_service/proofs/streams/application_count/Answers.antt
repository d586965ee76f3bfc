use Rattle.std.proofs.Common.{rules}
use Rattle.log_service.proofs.streams.application_count.Goals as goal

pub returns : goal.returns
returns c = search rules
