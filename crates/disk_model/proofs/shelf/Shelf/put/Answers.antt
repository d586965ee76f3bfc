use Rattle.std.proofs.Common.{◌≡◌, true, sym, ◌∙◌, ap, subst, List, ℕ}
use Rattle.std.specs.Ordering.{nat_cmp}
use Rattle.std.specs.Cmp.Lexicographic.{slice_cmp, nat_list_cmp_total}
use Rattle.std.specs.FinMap.{from_sorted}
use Rattle.std.specs.FinMap.Entries.{is_sorted}
use Rattle.std.proofs.lemmas.Result.{on_ok_weaker}
use Rattle.disk_model.specs.Disk.{File}
use Rattle.disk_model.proofs.Shelving.{names_differ, either_way, sorted_put, put_shelved, find_shelved}
use Rattle.disk_model.proofs.shelf.Shelf.put.Goals as goal

pub invariant_of-self : goal.invariant_of-self
invariant_of-self c =
    either_way c.put_in.result c.put_in.ensures.ok c.put_in.ensures.err
    (λ e. subst (λ (es : List (List ℕ × File)). is_sorted (slice_cmp nat_cmp) es ≡ true) (sym e) (sorted_put nat_list_cmp_total names_differ c.args.name.now c.args.file _ c.self.invariant))
    (λ e. subst (λ (es : List (List ℕ × File)). is_sorted (slice_cmp nat_cmp) es ≡ true) (sym e) c.self.invariant)

pub returns-clause-ok : goal.returns-clause-ok
returns-clause-ok c =
    rw (← c.self.view_is) (on_ok_weaker c.put_in.result (λ e. ap from_sorted e ∙ put_shelved nat_list_cmp_total names_differ c.args.name.now c.args.file _ c.self.invariant) c.put_in.ensures.ok)

pub returns-clause-standing : goal.returns-clause-standing
returns-clause-standing c =
    rw (← c.self.view_is, find_shelved nat_list_cmp_total names_differ c.args.name.now _ c.self.invariant) c.put_in.ensures.standing
