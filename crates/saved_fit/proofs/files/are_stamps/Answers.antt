use Rattle.std.proofs.Common.{subst, w64}
use Rattle.std.specs.Prelude.{IsTrue, ◌↔◌, ℤ}
use Rattle.std.specs.List.{AllByRecursion}
use Rattle.std.proofs.lemmas.Int.{to_z-of_z}
use Rattle.saved_fit.specs.Files.{HasStampsUpTo}
use Rattle.saved_fit.proofs.FileLaws.{stamps-same}
use Rattle.saved_fit.proofs.files.are_stamps.Goals as goal

pub returns : goal.returns
returns c =
    let files = c.args.files.now in
    let told = subst (λ (z : ℤ). IsTrue c.each_has_stamps.result ↔ AllByRecursion (HasStampsUpTo z) files) (to_z-of_z w64 c.args.last c.ranges.last) c.each_has_stamps.ensures in
    let same = stamps-same c.args.last files in
    (λ yes. same.0 (told.0 yes), λ all. told.1 (same.1 all))
