use Rattle.std.proofs.Common.{append_assoc, refl}
use Rattle.script_printer.proofs.streams.put_create.Goals as goal

pub returns : goal.returns
returns c =
    rw (c.in_ok-put_attrs.ensures, c.in_ok-put.ensures, append_assoc, c.in-Some.is) refl
