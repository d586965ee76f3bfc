use Rattle.std.proofs.Common.{subst}
use Rattle.log_history.specs.Chronicle.{chronicle}
use Rattle.log_history.proofs.FirstLaws.{Each}
use Rattle.log_history.proofs.Reaching.{Passes, reached}
use Rattle.log_history.proofs.StreamLaws.{IsSoundStream}
use Rattle.log_history.proofs.SoundStreams.{sound}
use Rattle.log_history.proofs.FilesLaws.{Each-amid}
use Rattle.log_history.proofs.SlotLaws.{place-slot}
use Rattle.log_history.proofs.RecordLaws.{amid-at, record-stored, record-kept, record-stands, record-apart}
use Rattle.log_history.proofs.law.law_of_records.Goals as goal

pub returns : goal.returns
returns c = record {
  stored = record-stored;
  kept = record-kept;
  stands = λ setup past legal few stream number bytes place.
      record-stands setup past stream number bytes place legal few;
  alone = λ setup past legal few one other number second place.
      record-apart setup past one other number second place legal few;
  slots = λ setup past legal stream number one place is some found.
      let streams = (chronicle setup past).streams in
      let among = amid-at streams stream one is in
      let passes = Each-amid Passes among.front among.behind one (subst (Each Passes) among.whole (reached setup past legal).passing) in
      let sound_is = Each-amid (IsSoundStream (chronicle setup past).last) among.front among.behind one (subst (Each (IsSoundStream (chronicle setup past).last)) among.whole (sound setup past legal)) in
      place-slot one number place passes sound_is.count some found;
}
