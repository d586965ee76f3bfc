use Rattle.std.proofs.Common.{◌≡◌, true, sym, ◌∙◌, ap, subst, List, ℕ}
use Rattle.std.specs.Ordering.{nat_cmp}
use Rattle.std.specs.Cmp.Lexicographic.{slice_cmp, nat_list_cmp_total}
use Rattle.std.specs.FinMap.{from_sorted}
use Rattle.std.specs.FinMap.Entries.{is_sorted}
use Rattle.disk_model.specs.Disk.{File, file_cut}
use Rattle.disk_model.proofs.Shelving.{names_differ, sorted_adjusted, adjusted_shelved}
use Rattle.disk_model.proofs.shelf.Shelf.cut.Goals as goal

pub invariant_of-self : goal.invariant_of-self
invariant_of-self c = subst (λ (es : List (List ℕ × File)). is_sorted (slice_cmp nat_cmp) es ≡ true) (sym c.cut_in.ensures) (sorted_adjusted nat_list_cmp_total names_differ (file_cut c.args.len) c.args.name.now _ c.self.invariant)

pub returns : goal.returns
returns c =
    rw (← c.self.view_is) (ap from_sorted c.cut_in.ensures ∙ adjusted_shelved nat_list_cmp_total names_differ (file_cut c.args.len) c.args.name.now _ c.self.invariant)
