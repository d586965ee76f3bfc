use Rattle.std.proofs.Common.{◌≡◌, List, ℕ, Some, true, false, not, ap, sym, ◌∙◌, subst}
use Rattle.std.specs.Prelude.{IsOk, IsTrue, IfOk, OnOk}
use Rattle.message_net.specs.Nets.{knows, place_of, posted}
use Rattle.message_net.proofs.Places.{knows-place, posted-known}
use Rattle.message_net.proofs.net.Net.post.Goals as goal

-- bytes that have a place are known
known : (c : goal.In-Some) → knows c.args.bytes.now c.args.self.now ≡ true
known c = (knows-place c.args.bytes.now c.args.self.now).1 c.in-Some.place (sym c.in-Some.ensures)

pub returns-in-Some-clause-net : goal.returns-in-Some-clause-net
returns-in-Some-clause-net c = posted-known c.args.bytes.now c.args.self.now (known c)

pub returns-in-Some-clause-first : goal.returns-in-Some-clause-first
returns-in-Some-clause-first c = ap not (sym (known c))

pub returns-in_err-string-clause-known : goal.returns-in_err-string-clause-known
returns-in_err-string-clause-known c = λ knows_it.
    let unknown = (knows-place c.args.bytes.now c.args.self.now).0 (sym c.in_default.ensures) in
    absurd (let both : false ≡ true = sym unknown ∙ knows_it in cc)

pub returns-clause-net : goal.returns-clause-net
returns-clause-net c =
    subst (λ (bytes : List ℕ). OnOk c.post_owned.result (c.post_owned.new.self ≡ posted bytes c.args.self.now)) c.in_ok-string.ensures.items c.post_owned.ensures.net

pub returns-clause-place : goal.returns-clause-place
returns-clause-place c =
    subst (λ (bytes : List ℕ). IfOk c.post_owned.result (λ it. place_of bytes c.post_owned.new.self ≡ Some it.place)) c.in_ok-string.ensures.items c.post_owned.ensures.place

pub returns-clause-first : goal.returns-clause-first
returns-clause-first c =
    subst (λ (bytes : List ℕ). IfOk c.post_owned.result (λ it. it.new ≡ not (knows bytes c.args.self.now))) c.in_ok-string.ensures.items c.post_owned.ensures.first

pub returns-clause-known : goal.returns-clause-known
returns-clause-known c =
    subst (λ (bytes : List ℕ). IsTrue (knows bytes c.args.self.now) → IsOk c.post_owned.result) c.in_ok-string.ensures.items c.post_owned.ensures.known
