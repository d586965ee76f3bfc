use Rattle.plain_service.proofs.RecordLaws.{record-at-place, record-stays, record-told_later, record-own, record-alone}
use Rattle.plain_service.proofs.storage.law_of_records.Goals as goal

pub returns : goal.returns
returns c = record {
  told = record-told_later;
  stays = λ setup entry past history client number stored.
      record-stays setup entry past client number stored history;
  stands = λ setup past history client number stored place.
      record-at-place setup past client number stored place history;
  own = record-own;
  alone = λ setup past history client other number second stored later place.
      record-alone setup past client other number second stored later place history;
}
