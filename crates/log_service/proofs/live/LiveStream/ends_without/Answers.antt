use Rattle.std.proofs.Common.{◌==◌, ◌&&◌, ap, ◌∙◌, rules, tests}
use Rattle.std.proofs.lemmas.Iterator.{YieldsList-from_slice}
use Rattle.std.proofs.lemmas.Iterator.Search.{all_from_yields_List}
use Rattle.client_set.specs.Rising.{without}
use Rattle.log_history.specs.Chronicle.{is_empty}
use Rattle.log_history.specs.Table.{OpenStream}
use Rattle.log_service.proofs.StreamLemmas.{list_all-only}
use Rattle.log_service.proofs.live.LiveStream.ends_without.Goals as goal

pub returns-then-is_of_application : goal.returns-then-is_of_application
returns-then-is_of_application c =
    let client = c.args.client in
    let every = all_from_yields_List (λ other. other == client) _ _ c.all.result c.all.ensures.ran (YieldsList-from_slice c.self.inside.openers cc) (λ x b q k. search (rules, tests)) in
    every ∙ list_all-only client c.self.inside.openers
    ∙ ap (λ (stream : OpenStream). is_empty (without (λ other. other == client) stream.openers)) c.self.view_is
    ∙ ap (λ b. b && is_empty (without (λ other. other == client) c.args.self.now.openers)) c.if-is_of_application.ensures
