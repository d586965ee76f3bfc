use Rattle.std.proofs.Common.{◌≡◌, ◌<◌, ℕ, List, length, get_or, nat_lt, ap, sym, subst, ◌∙◌, arith}
use Rattle.client_set.specs.Rising.{IsRising}
use Rattle.stream_config.specs.Marks.{first_mark}
use Rattle.log_service.proofs.PlaceLemmas.{read-same}
use Rattle.log_service.proofs.BeginLemmas.{AreJoined-within, AreJoined-sound}
use Rattle.log_service.proofs.begin.rebuilt.Goals as goal

pub push_rebuilt-requires-clause-rising : goal.push_rebuilt-requires-clause-rising
push_rebuilt-requires-clause-rising c =
    let joined = c.loop-state.invariant.2 in
    let made = c.loop-state.streams.items in
    let clients = c.index-openers-place.result in
    let mark = get_or c.args.marks.now (length made) first_mark in
    let within = AreJoined-within _ _ _ _ _ _ _ joined c.in-Some.state _ c.in-Some.ensures.steps.0 in
    let place = c.len-place.ensures ∙ c.loop-state.streams.ok.0 in
    let low : length made < length c.args.openers.now = omega (arith, within, c.requires.lengths) in
    let low_mark : length made < length c.args.marks.now = omega (arith, within, c.requires.marks) in
    let read : clients ≡ get_or c.args.openers.now (length made) clients = c.index-openers-place.is ∙ ap (λ n. get_or c.args.openers.now n clients) place in
    let read_mark = read-same c.args.marks.now (length made) first_mark low_mark in
    subst (λ (these : List ℕ). IsRising nat_lt these) (sym c.as_slice-clients.ensures)
    (AreJoined-sound _ _ _ _ _ _ _ joined c.requires.sound c.in-Some.state _ clients mark c.in-Some.ensures.steps.0 low low_mark read read_mark).openers

pub push_rebuilt-requires-clause-passes : goal.push_rebuilt-requires-clause-passes
push_rebuilt-requires-clause-passes c =
    let joined = c.loop-state.invariant.2 in
    let made = c.loop-state.streams.items in
    let clients = c.index-openers-place.result in
    let mark = get_or c.args.marks.now (length made) first_mark in
    let within = AreJoined-within _ _ _ _ _ _ _ joined c.in-Some.state _ c.in-Some.ensures.steps.0 in
    let place = c.len-place.ensures ∙ c.loop-state.streams.ok.0 in
    let low : length made < length c.args.openers.now = omega (arith, within, c.requires.lengths) in
    let low_mark : length made < length c.args.marks.now = omega (arith, within, c.requires.marks) in
    let read : clients ≡ get_or c.args.openers.now (length made) clients = c.index-openers-place.is ∙ ap (λ n. get_or c.args.openers.now n clients) place in
    let read_mark = read-same c.args.marks.now (length made) first_mark low_mark in
    (AreJoined-sound _ _ _ _ _ _ _ joined c.requires.sound c.in-Some.state _ clients mark c.in-Some.ensures.steps.0 low low_mark read read_mark).passes

pub push_rebuilt-requires-clause-few : goal.push_rebuilt-requires-clause-few
push_rebuilt-requires-clause-few c =
    let joined = c.loop-state.invariant.2 in
    let made = c.loop-state.streams.items in
    let clients = c.index-openers-place.result in
    let mark = get_or c.args.marks.now (length made) first_mark in
    let within = AreJoined-within _ _ _ _ _ _ _ joined c.in-Some.state _ c.in-Some.ensures.steps.0 in
    let place = c.len-place.ensures ∙ c.loop-state.streams.ok.0 in
    let low : length made < length c.args.openers.now = omega (arith, within, c.requires.lengths) in
    let low_mark : length made < length c.args.marks.now = omega (arith, within, c.requires.marks) in
    let read : clients ≡ get_or c.args.openers.now (length made) clients = c.index-openers-place.is ∙ ap (λ n. get_or c.args.openers.now n clients) place in
    let read_mark = read-same c.args.marks.now (length made) first_mark low_mark in
    (AreJoined-sound _ _ _ _ _ _ _ joined c.requires.sound c.in-Some.state _ clients mark c.in-Some.ensures.steps.0 low low_mark read read_mark).few
