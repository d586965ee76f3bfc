-- Whether a file goes, and that it is the oldest.
use Rattle.std.proofs.Common.{sym, ap, ◌∙◌, ◌∷◌, [], arith}
use Rattle.stream_layout.specs.declared.deed.Deed.TheVariants as deed
use Rattle.stream_layout.specs.Names.{log_name}
use Rattle.stream_layout.proofs.DeedLaws.{none_goes, oldest_goes}
use Rattle.stream_layout.proofs.listing.remove_oldest.Goals as goal

pub returns-then-files-from : goal.returns-then-files-from
returns-then-files-from c =
    sym (none_goes c.args.attrs.now c.args.files.now c.args.stamps (omega (arith, c.from.ensures)))

pub returns : goal.returns
returns c =
    ap (λ name. deed.Remove name ∷ []) (c.in_ok-name.ensures ∙ ap (log_name c.args.attrs.now) c.oldest_of.ensures)
    ∙ sym (oldest_goes c.args.attrs.now c.args.files.now c.args.stamps c.requires.some (omega (arith, c.from.ensures)))
