use Rattle.std.proofs.Common.{◌≡◌, ◌∙◌, ap, sym, Some}
use Rattle.std.proofs.lemmas.Bool.Decides.{Decides-at}
use Rattle.ntf_filters.specs.Meaning.{filter_for}
use Rattle.ntf_filters.specs.Matching.{admitted_by, matches}
use Rattle.ntf_filters.proofs.Meaning.{matches-decides}
use Rattle.ntf_filters.proofs.matching.matches.Goals as goal

pub returns-in-Some : goal.returns-in-Some
returns-in-Some c =
    let filters = c.args.filters.now in
    let notification = c.args.notification.now in
    let there : filter_for filters notification.body ≡ Some c.in-Some.filter = cc in
    Decides-at c.is_admitted.result (matches filters notification) (c.is_admitted.ensures ∙ sym (ap (admitted_by notification) there)) (matches-decides filters notification)
