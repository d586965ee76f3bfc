use Rattle.std.proofs.Common.{◌≡◌, true, sym, ◌∙◌, ap, subst, List, ℕ}
use Rattle.std.specs.Ordering.{nat_cmp}
use Rattle.std.specs.Cmp.Lexicographic.{slice_cmp, nat_list_cmp_total}
use Rattle.std.specs.FinMap.{from_sorted}
use Rattle.std.specs.FinMap.Entries.{is_sorted}
use Rattle.disk_model.specs.Disk.{File}
use Rattle.disk_model.proofs.Shelving.{names_differ, sorted_without, without_shelved, find_shelved}
use Rattle.disk_model.proofs.shelf.Shelf.take.Goals as goal

pub invariant_of-self : goal.invariant_of-self
invariant_of-self c = subst (λ (es : List (List ℕ × File)). is_sorted (slice_cmp nat_cmp) es ≡ true) (sym c.take_out.ensures.left) (sorted_without nat_list_cmp_total names_differ c.args.name.now _ c.self.invariant)

pub returns-clause-found : goal.returns-clause-found
returns-clause-found c = rw (← c.self.view_is) (c.take_out.ensures.found ∙ sym (find_shelved nat_list_cmp_total names_differ c.args.name.now _ c.self.invariant))

pub returns-clause-left : goal.returns-clause-left
returns-clause-left c = rw (← c.self.view_is) (ap from_sorted c.take_out.ensures.left ∙ without_shelved nat_list_cmp_total names_differ c.args.name.now _ c.self.invariant)
