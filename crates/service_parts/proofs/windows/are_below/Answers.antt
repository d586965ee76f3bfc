use Rattle.std.proofs.Common.{◌∙◌, sym}
use Rattle.service_table.specs.declared.caller.ClientWindow.{ClientWindow}
use Rattle.service_parts.proofs.ClientPlaces.{past-place}
use Rattle.service_parts.proofs.windows.are_below.Goals as goal

pub returns-in-Some : goal.returns-in-Some
returns-in-Some c =
    λ less. past-place (λ (x : ClientWindow). x.client) c.args.client c.args.callers.now c.in-Some.last.now c.requires c.in-Some.ensures.value (sym c.is_below.ensures ∙ less)
