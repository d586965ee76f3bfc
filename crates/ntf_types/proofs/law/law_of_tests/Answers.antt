use Rattle.ntf_types.proofs.SoundLaws.{is_sound-decides}
use Rattle.ntf_types.proofs.law.law_of_tests.Goals as goal

pub returns : goal.returns
returns c = is_sound-decides
