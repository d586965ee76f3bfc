use Rattle.plain_service.proofs.FilesLaws.{files-work, files-open}
use Rattle.plain_service.proofs.storage.law_of_files.Goals as goal

pub returns : goal.returns
returns c = record { entries = files-work; start = files-open }
