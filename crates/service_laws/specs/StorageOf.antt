-- Words of public clauses: the files of the plain service as the cluster sees them: deeds as device calls, and where records stand.
use Rattle.std.specs.Prelude.{ℕ, List}
use Rattle.stream_layout.specs.Deeds.{calls_of_all}
use Rattle.cluster_facts.specs.Storage.{Storage}
use Rattle.plain_service.specs.Setups.{Setup}
use Rattle.plain_service.specs.Storing.{files_of, deeds_of, opening_of}
use Rattle.plain_service.specs.Records.{StoredRecord, record_of, place_of, IsAt, is_stored}
use Rattle.service_laws.specs.Disks.{service_disk}

abbrev pub storage_of : Setup → Storage service_disk
storage_of setup = record {
  files = files_of setup;
  deeds = λ past entry. calls_of_all (deeds_of setup past entry);
  opening = calls_of_all (opening_of setup);
  Record = StoredRecord;
  Place = List ℕ × ℕ;
  is_stored = is_stored;
  record_of = record_of setup;
  place = place_of setup;
  IsAt = IsAt;
}
