use Rattle.std.proofs.Common.{◌≡◌, ◌+◌, suc, [], ◌∷◌, ◌++◌, cond, take, ap, sym, ◌∙◌, arith}
use Rattle.ntf_service.specs.ByKind.{has_filter, positions, filters_of, places_in}
use Rattle.ntf_service.proofs.Positions.{positions-fewer, positions-next}
use Rattle.ntf_service.proofs.by_kind.ByKind.of.Goals as goal

pub add-requires-clause-behind : goal.add-requires-clause-behind
add-requires-clause-behind c = λ kind.
    positions-fewer (has_filter kind) c.args.subs.now c.loop-place.place (places_in kind c.loop-place.by_kind) (c.loop-place.invariant kind)

pub loop-place-preserved : goal.loop-place-preserved
loop-place-preserved c = λ kind.
    let place = c.loop-place.place in
    let test = has_filter kind in
    let front = positions test (filters_of (take place c.args.subs.now)) in
    let next : place + 1 ≡ suc place = omega arith in
    c.add.ensures kind ∙ ap (λ places. places ++ cond (test c.get.result.now) (place ∷ []) []) (c.loop-place.invariant kind) ∙ ap (λ set. front ++ cond (test set) (place ∷ []) []) c.get.ensures ∙ sym (positions-next test c.args.subs.now place (place + 1) c.index-subs-place.result c.index-subs-place.is (omega (arith, c.loop-place-test.true)) next)
