use Rattle.std.proofs.Common.{arith}
use Rattle.std.proofs.lemmas.List.Sorted.{searched}
use Rattle.client_set.proofs.Places.{found, is_place_of, non_decreasing}
use Rattle.client_set.proofs.client_set.place_of.Goals as goal

pub returns : goal.returns
returns c =
    let clients = c.args.clients.now in
    found clients c.args.client c.binary_search.result c.requires (searched clients c.args.client c.binary_search.result c.binary_search.ensures.position (non_decreasing clients c.requires))

pub returns-then-clients-place : goal.returns-then-clients-place
returns-then-clients-place c =
    let place = c.saturating_sub-place.result in
    is_place_of c.args.clients.now c.args.client place c.requires (omega (arith, c.if-place-clients.true)) c.if-clients-place.true
