use Rattle.std.proofs.Common.{◌≡◌, length, refl, arith}
use Rattle.cluster_clients.proofs.Places.{stands-read, found-place, none-past, none-other}
use Rattle.cluster_clients.proofs.agents.place_of.Goals as goal

pub returns-then-place-agents-clause-place : goal.returns-then-place-agents-clause-place
returns-then-place-agents-clause-place c =
    λ rising. none-past c.args.client c.count_below-place.result c.args.agents.now c.if-place-agents.true rising (c.count_below-place.ensures.cut rising)

pub returns-then-client-clause-place : goal.returns-then-client-clause-place
returns-then-client-clause-place c =
    let agents = c.args.agents.now in
    let one = c.index-agents-place.result in
    let other : (one.client ≡ c.args.client) → ⊥ = λ same. absurd (omega (arith, c.if-client.true, c.client.ensures, same)) in
    λ rising. none-other c.args.client c.count_below-place.result (length agents) agents one refl (omega (arith, c.if-place-agents.false)) c.index-agents-place.is other rising (c.count_below-place.ensures.cut rising)

pub returns-clause-own : goal.returns-clause-own
returns-clause-own c =
    let agents = c.args.agents.now in
    let one = c.index-agents-place.result in
    let own : one.client ≡ c.args.client = omega (arith, c.if-client.false, c.client.ensures) in
    stands-read c.args.client c.count_below-place.result (length agents) agents one refl (omega (arith, c.if-place-agents.false)) c.index-agents-place.is own

pub returns-clause-place : goal.returns-clause-place
returns-clause-place c =
    let agents = c.args.agents.now in
    let one = c.index-agents-place.result in
    let own : one.client ≡ c.args.client = omega (arith, c.if-client.false, c.client.ensures) in
    let stands = stands-read c.args.client c.count_below-place.result (length agents) agents one refl (omega (arith, c.if-place-agents.false)) c.index-agents-place.is own in
    λ rising. found-place c.args.client c.count_below-place.result agents (c.count_below-place.ensures.cut rising) stands
