use Rattle.std.proofs.Common.{◌≡◌, Some, None, List, ℕ, ap, sym, ◌∙◌}
use Rattle.std.specs.Cmp.Lexicographic.{same_text}
use Rattle.message_net.specs.Nets.{knows, newest_with}
use Rattle.lead_server.proofs.AgainLaws.{is-posted, known-like, newest-by}
use Rattle.lead_server.proofs.again.is_newest.Goals as goal

pub returns-then-eq-clause-posted : goal.returns-then-eq-clause-posted
returns-then-eq-clause-posted c = λ yes.
    let net = c.args.net.now in
    let string = c.in_ok-bytes.bytes.items in
    let same : c.in-Some.known.now ≡ string = same_text _ _ c.if-eq.ensures ∙ c.as_slice-text.ensures.value in
    let known = known-like (newest_with c.front_of.result net) c.in-Some.known.now net c.in-Some.ensures in
    is-posted c.law_of_spellings.ensures c.args.message.now string net c.in_ok-bytes.ensures (sym (ap (λ (text : List ℕ). knows text net) same) ∙ known)

pub returns-then-eq-clause-value : goal.returns-then-eq-clause-value
returns-then-eq-clause-value c =
    c.if-eq.ensures
    ∙ newest-by (Some c.in-Some.known.now) c.args.message.now c.in_ok-bytes.bytes.items c.as_slice-text.result.now c.front_of.result c.args.net.now c.in_ok-bytes.ensures c.as_slice-text.ensures.value c.front_of.ensures c.in-Some.ensures

pub returns-clause-value : goal.returns-clause-value
returns-clause-value c =
    c.if-eq.ensures
    ∙ newest-by (Some c.in-Some.known.now) c.args.message.now c.in_ok-bytes.bytes.items c.as_slice-text.result.now c.front_of.result c.args.net.now c.in_ok-bytes.ensures c.as_slice-text.ensures.value c.front_of.ensures c.in-Some.ensures

pub returns-in-None-clause-value : goal.returns-in-None-clause-value
returns-in-None-clause-value c =
    newest-by None c.args.message.now c.in_ok-bytes.bytes.items c.as_slice-text.result.now c.front_of.result c.args.net.now c.in_ok-bytes.ensures c.as_slice-text.ensures.value c.front_of.ensures c.in-None.ensures
