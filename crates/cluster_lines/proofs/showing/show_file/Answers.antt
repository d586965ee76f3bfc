use Rattle.std.proofs.Common.{◌≡◌, subst}
use Rattle.std.specs.Prelude.{IfSome}
use Rattle.cluster_clients.specs.Files.{bytes_of}
use Rattle.cluster_lines.proofs.ShowSteps.{file-shown}
use Rattle.cluster_lines.proofs.showing.show_file.Goals as goal

pub returns-in-Ok-tell_read-clause-ok : goal.returns-in-Ok-tell_read-clause-ok
returns-in-Ok-tell_read-clause-ok g c =
    let held = (g.D.SharedDisk.seen c.args.disk.now).files in
    let told = subst (λ name. IfSome held (λ f. c.in-Ok.read ≡ bytes_of f name)) c.as_slice.ensures.bytes c.in-Ok.ensures.told in
    (file-shown g.S.Serving.kit) c.args.line.now c.args.name.now c.in-Ok.read c.args.world.now c.args.lines.now.items c.tell_read.new.lines.items held c.requires told c.in-Ok-tell_read.ensures
