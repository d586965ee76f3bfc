use Rattle.std.proofs.Common.{not, rules}
use Rattle.std.proofs.lemmas.List.Elements.{filter_from_retain}
use Rattle.log_history.specs.Table.{OpenStream, has_nobody}
use Rattle.log_service.proofs.streams.drop_idle.Goals as goal

pub returns : goal.returns
returns c =
    filter_from_retain _ (λ (stream : OpenStream). not (has_nobody stream)) (λ p x b q h. search rules) _ c.args.streams.now.items c.retain.new.self.items c.retain.ensures.filtered
