use Rattle.std.proofs.Common.{arith}
use Rattle.saved_fit.proofs.WindowLaws.{found-at, none-there, none-at}
use Rattle.saved_fit.proofs.asking.window_of.Goals as goal

pub returns-then-place-windows : goal.returns-then-place-windows
returns-then-place-windows c =
    none-there c.args.client c.count_below-place.result c.args.windows.now c.requires c.count_below-place.ensures.cut
    (λ d within. absurd (omega (arith, within, c.if-place-windows.true)))

pub returns-then-window-client : goal.returns-then-window-client
returns-then-window-client c =
    none-at c.args.client c.count_below-place.result c.args.windows.now c.index-windows-place.result c.requires c.count_below-place.ensures.cut c.index-windows-place.is c.if-window-client.true

pub returns : goal.returns
returns c =
    found-at c.args.client c.count_below-place.result c.args.windows.now c.index-windows-place.result c.count_below-place.ensures.cut (omega (arith, c.if-place-windows.false)) c.index-windows-place.is c.if-window-client.false
