use Rattle.std.proofs.Common.{◌≡◌, false, true, arith}
use Rattle.service_table.specs.Tables.{is_window_for}
use Rattle.service_parts.proofs.Lookups.{found-there, none-there, none-at}
use Rattle.service_parts.proofs.windows.window_at.Goals as goal

pub returns-then-place-callers : goal.returns-then-place-callers
returns-then-place-callers c =
    none-there c.args.client c.args.callers.now c.place_of-place.result c.requires c.place_of-place.ensures (λ d within. absurd (omega (arith, within, c.if-place-callers.true)))

pub returns-then-not-is_for : goal.returns-then-not-is_for
returns-then-not-is_for c =
    let other : is_window_for c.args.client c.index-callers-place.result ≡ false = first_of (cc, grind arith, cc c.if-not-is_for.ensures) in
    none-at c.args.client c.args.callers.now c.place_of-place.result c.index-callers-place.result c.requires c.place_of-place.ensures c.index-callers-place.is other

pub returns : goal.returns
returns c =
    let own : is_window_for c.args.client c.index-callers-place.result ≡ true = first_of (cc, grind arith, cc c.if-not-is_for.ensures) in
    found-there c.args.client c.args.callers.now c.place_of-place.result c.index-callers-place.result c.place_of-place.ensures (omega (arith, c.if-place-callers.false)) c.index-callers-place.is own
