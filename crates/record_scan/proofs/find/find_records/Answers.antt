use Rattle.std.proofs.Common.{◌≡◌, ◌+◌, ◌∷◌, [], ◌++◌, List, ℕ, length, drop, refl, sym, ap, ◌∙◌, subst, arith, length-drop}
use Rattle.std.proofs.lemmas.List.{take_rest}
use Rattle.record_scan.specs.Numbers.{HasText, AreNumbers, AreFound}
use Rattle.record_scan.proofs.NumberLaws.{IsPassed, one_found, one_passed, all_passed}
use Rattle.record_scan.proofs.find.find_records.Goals as goal
use Rattle.record_scan.proofs.find.find_records.Goals.{then-branch+in_ok-push, else-branch}

pub loop-length-preserved : goal.loop-length-preserved
loop-length-preserved c =
    let rest = c.loop-length.rest.now in
    let long = c.in-Some.length in
    let Passes : List ℕ → Type 0 = HasText c.args.expr.now.pieces c.args.size c.args.token c.args.wanted.now in
    let same = take_rest rest long in
    let some = c.in-Some.ensures.some in
    let inside = c.in-Some.ensures.inside in
    let left = ap length same in
    let dropped = length-drop long rest in
    let counted = c.loop-length.invariant.counted in
    record {
      passed = subst (λ left. IsPassed (AreNumbers Passes) c.args.size c.args.bytes.now left c.if-branch.found.items (c.loop-length.number + 1)) (sym same)
          (elim c.if-branch.branch [
            | then-branch+in_ok-push w ↦
                let found : c.if-branch.found.items ≡ c.loop-length.found.items ++ (c.loop-length.number + 1) ∷ [] = ap (λ v. v.items) w.found-is ∙ w.in_ok-push.ensures.items in
                subst (λ numbers. IsPassed (AreNumbers Passes) c.args.size c.args.bytes.now (drop long rest) numbers (c.loop-length.number + 1)) (sym found)
                (one_found Passes c.args.size c.args.bytes.now rest c.loop-length.found.items c.loop-length.number long c.loop-length.invariant.passed c.in-Some.ensures.first (c.in_ok-has_text.ensures.0 w.if-branch.true))
            | else-branch w ↦
                let found : c.if-branch.found.items ≡ c.loop-length.found.items = ap (λ v. v.items) w.found-is in
                subst (λ numbers. IsPassed (AreNumbers Passes) c.args.size c.args.bytes.now (drop long rest) numbers (c.loop-length.number + 1)) (sym found)
                (one_passed Passes c.args.size c.args.bytes.now rest c.loop-length.found.items c.loop-length.number long c.loop-length.invariant.passed c.in-Some.ensures.first
                (λ has. let yes = c.in_ok-has_text.ensures.1 has in let no = w.if-branch.false in cc))
          ]);
      counted = omega arith;
    }

pub returns : goal.returns
returns c =
    let Are = AreNumbers (HasText c.args.expr.now.pieces c.args.size c.args.token c.args.wanted.now) in
    let so = c.loop-length.invariant.passed in
    let all = all_passed Are c.args.size c.args.bytes.now c.loop-length.rest.now c.loop-length.found.items c.loop-length.number so refl c.in_default.ensures.first in
    subst (AreFound c.args.expr.now.pieces c.args.size c.args.token c.args.wanted.now c.args.bytes.now) (sym c.from_vec.ensures) (so.records, c.loop-length.rest.now, all.0, all.1)
