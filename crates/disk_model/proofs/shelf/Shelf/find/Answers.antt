use Rattle.std.proofs.Common.{sym, ◌∙◌, ap}
use Rattle.std.specs.Ordering.{nat_cmp}
use Rattle.std.specs.Cmp.Lexicographic.{slice_cmp, nat_list_cmp_total}
use Rattle.std.specs.FinMap.Entries.{find}
use Rattle.disk_model.proofs.Shelving.{names_differ, find_shelved}
use Rattle.disk_model.proofs.shelf.Shelf.find.Goals as goal

pub returns : goal.returns
returns c =
    rw (← c.self.view_is) (c.get_in.ensures ∙ ap (find (slice_cmp nat_cmp) c.args.name.now) c.as_slice.ensures.value
    ∙ sym (find_shelved nat_list_cmp_total names_differ c.args.name.now _ c.self.invariant))
