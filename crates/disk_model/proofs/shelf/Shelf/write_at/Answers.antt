use Rattle.std.proofs.Common.{◌≡◌, true, sym, ◌∙◌, ap, subst, List, ℕ}
use Rattle.std.specs.Ordering.{nat_cmp}
use Rattle.std.specs.Cmp.Lexicographic.{slice_cmp, nat_list_cmp_total}
use Rattle.std.specs.FinMap.{from_sorted}
use Rattle.std.specs.FinMap.Entries.{is_sorted}
use Rattle.std.proofs.lemmas.Result.{on_ok_weaker}
use Rattle.disk_model.specs.Disk.{File, file_written}
use Rattle.disk_model.proofs.Shelving.{names_differ, either_way, sorted_adjusted, adjusted_shelved}
use Rattle.disk_model.proofs.shelf.Shelf.write_at.Goals as goal

pub invariant_of-self : goal.invariant_of-self
invariant_of-self c =
    either_way c.write_in.result c.write_in.ensures.ok c.write_in.ensures.err
    (λ e. subst (λ (es : List (List ℕ × File)). is_sorted (slice_cmp nat_cmp) es ≡ true) (sym e) (sorted_adjusted nat_list_cmp_total names_differ (file_written c.args.at c.args.bytes.now) c.args.name.now _ c.self.invariant))
    (λ e. subst (λ (es : List (List ℕ × File)). is_sorted (slice_cmp nat_cmp) es ≡ true) (sym e) c.self.invariant)

pub returns-clause-ok : goal.returns-clause-ok
returns-clause-ok c =
    rw (← c.self.view_is) (on_ok_weaker c.write_in.result
    (λ e. ap from_sorted e ∙ adjusted_shelved nat_list_cmp_total names_differ (file_written c.args.at c.args.bytes.now) c.args.name.now _ c.self.invariant) c.write_in.ensures.ok)
