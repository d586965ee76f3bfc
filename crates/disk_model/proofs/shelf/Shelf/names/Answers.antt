use Rattle.std.proofs.Common.{sym, ◌∙◌, ap, List, ℕ, map}
use Rattle.std.specs.Cmp.Lexicographic.{nat_list_cmp_total}
use Rattle.disk_model.specs.Disk.{File}
use Rattle.disk_model.proofs.Shelving.{names_differ, keys_shelved}
use Rattle.disk_model.proofs.shelf.Shelf.names.Goals as goal

pub returns : goal.returns
returns c =
    rw (← c.self.view_is) (c.from_vec.ensures ∙ c.in_ok-names.ensures ∙ ap (map (λ (e : List ℕ × File). e.0)) c.as_slice.ensures.value
    ∙ sym (keys_shelved nat_list_cmp_total names_differ _ c.self.invariant))
