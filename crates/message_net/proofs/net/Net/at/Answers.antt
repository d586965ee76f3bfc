use Rattle.std.proofs.Common.{◌≡◌, ℕ, ◌-◌, suc, Some, option_map, ap, sym, ◌∙◌, arith}
use Rattle.std.specs.Global.{Vec}
use Rattle.message_net.specs.Nets.{bytes_at}
use Rattle.message_net.proofs.Places.{nothing_at_zero, at-strings}
use Rattle.message_net.proofs.net.Net.at.Goals as goal

pub returns-then-k-eq0 : goal.returns-then-k-eq0
returns-then-k-eq0 c =
    let zero_is : c.args.k ≡ 0 = omega arith in
    sym (ap (λ k. bytes_at k c.args.self.now) zero_is ∙ nothing_at_zero c.args.self.now)

pub returns-in-Some : goal.returns-in-Some
returns-in-Some c =
    let up : c.args.k ≡ suc (c.args.k - 1) = omega arith in
    ap Some c.as_slice.ensures.value ∙ ap (option_map (λ (bytes : Vec ℕ). bytes.items)) c.in-Some.ensures.key ∙ sym (at-strings c.self.inside.strings.keys c.args.k (c.args.k - 1) up) ∙ ap (bytes_at c.args.k) c.self.view_is

pub returns-in-None : goal.returns-in-None
returns-in-None c =
    let up : c.args.k ≡ suc (c.args.k - 1) = omega arith in
    ap (option_map (λ (bytes : Vec ℕ). bytes.items)) c.in-None.ensures.key ∙ sym (at-strings c.self.inside.strings.keys c.args.k (c.args.k - 1) up) ∙ ap (bytes_at c.args.k) c.self.view_is
