use Rattle.std.proofs.Common.{sym, ap, subst, ◌∙◌}
use Rattle.std.specs.Prelude.{option_map}
use Rattle.disk_model.specs.Disk.{settled_file}
use Rattle.log_history.specs.Chronicle.{chronicle}
use Rattle.log_history.proofs.FirstLaws.{Each}
use Rattle.log_history.proofs.StreamLaws.{IsSoundStream}
use Rattle.log_history.proofs.SoundStreams.{sound}
use Rattle.log_history.proofs.RecordLaws.{amid-at}
use Rattle.log_history.proofs.FoundLaws.{disk-holds, file-at}
use Rattle.log_history.proofs.FilesLaws.{Each-amid, change-carries, start-carries}
use Rattle.log_history.proofs.law.law_of_files.Goals as goal

pub returns : goal.returns
returns c = record {
  found = λ setup past name. disk-holds setup past name ∙ ap (option_map settled_file) (sym (file-at setup past name));
  changes = change-carries;
  start = start-carries;
  stamped = λ setup past legal stream one is.
      let streams = (chronicle setup past).streams in
      let among = amid-at streams stream one is in
      let holds = IsSoundStream (chronicle setup past).last in
      let sound_is = Each-amid holds among.front among.behind one (subst (Each holds) among.whole (sound setup past legal)) in
      sym sound_is.count;
}
