use Rattle.std.proofs.Common.{◌∙◌, ap}
use Rattle.std.specs.Ordering.{nat_cmp}
use Rattle.std.specs.Cmp.Lexicographic.{slice_cmp}
use Rattle.std.specs.FinMap.{from_sorted}
use Rattle.disk_model.proofs.Shelving.{no_entries}
use Rattle.disk_model.proofs.shelf.Shelf.new.Goals as goal

pub returns : goal.returns
returns c = ap from_sorted c.new.ensures.items ∙ no_entries (slice_cmp nat_cmp)
