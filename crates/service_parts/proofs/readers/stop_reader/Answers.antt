use Rattle.std.proofs.Common.{not, rules, ◌∙◌}
use Rattle.std.proofs.lemmas.Fn.{filter_same}
use Rattle.calls.specs.declared.saved.SavedReader.{SavedReader}
use Rattle.service_table.specs.Tables.{is_reader_for}
use Rattle.ntf_service.proofs.Received.{filter-without}
use Rattle.service_parts.proofs.readers.stop_reader.Goals as goal

pub returns : goal.returns
returns c =
    filter_same _ (λ (kept : SavedReader). not (is_reader_for c.args.client kept)) _ (λ x b f' k. search rules) _ _ c.retain.ensures.filtered ∙ filter-without (is_reader_for c.args.client) c.args.readers.now.items
