use Rattle.std.proofs.Common.{◌≡◌, true, sym, ◌∙◌, ap, subst, List, ℕ}
use Rattle.std.specs.Ordering.{nat_cmp}
use Rattle.std.specs.Cmp.Lexicographic.{slice_cmp}
use Rattle.std.specs.FinMap.{from_sorted}
use Rattle.std.specs.FinMap.Entries.{is_sorted}
use Rattle.disk_model.specs.Disk.{File}
use Rattle.disk_model.proofs.Crashing.{sorted-crashed, crash_shelved}
use Rattle.disk_model.proofs.shelf.Shelf.crash.Goals as goal

pub invariant_of-self : goal.invariant_of-self
invariant_of-self c =
    subst (λ (es : List (List ℕ × File)). is_sorted (slice_cmp nat_cmp) es ≡ true) (sym c.crash_in.ensures) (sorted-crashed c.args.torn.now c.self.inside.entries.items c.self.invariant)

pub returns : goal.returns
returns c = rw (← c.self.view_is) (ap from_sorted c.crash_in.ensures ∙ crash_shelved c.args.torn.now c.self.inside.entries.items c.self.invariant)
