use Rattle.std.proofs.Common.{◌≡◌, List, ℕ, suc, ◌-◌, ◌<◌, Some, length, slice_get, refl, ap, ◌∙◌, arith}
use Rattle.std.proofs.lemmas.Option.{slice_get_read}
use Rattle.message_net.specs.Nets.{bytes_at, front_of, newest_with, net_before}
use Rattle.message_net.proofs.Found.{length-net, older-found}
use Rattle.message_net.proofs.net.Net.older_with.Goals as goal

pub returns : goal.returns
returns c bytes stands =
    let inside = c.self.inside in
    let place = c.args.place in
    let older = inside.older.items in
    let strings = inside.strings.keys in
    let up : place ≡ suc (place - 1) = omega (arith, c.requires.0) in
    let all = length-net strings in
    let long = ap length c.self.view_is in
    let within : place - 1 < length older = omega (arith, c.requires.0, c.requires.1, c.self.invariant.count) in
    let at : slice_get older (place - 1) ≡ Some c.index.result.now = slice_get_read older (length older) (place - 1) c.index.result.now refl within c.index.ensures in
    older-found strings older place (place - 1) bytes c.index.result.now c.self.invariant.older up at (ap (bytes_at place) c.self.view_is ∙ stands) ∙ ap (λ (net : List (List ℕ)). newest_with (front_of bytes) (net_before place net)) c.self.view_is
