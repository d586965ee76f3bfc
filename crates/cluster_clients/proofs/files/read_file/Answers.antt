use Rattle.std.proofs.Common.{◌≡◌, ℕ, Option, Ok, Err, subst}
use Rattle.std.specs.Prelude.{IfSome}
use Rattle.ais_values.specs.declared.seq.Seq.{Seq}
use Rattle.disk_model.specs.Disk.{length_of}
use Rattle.cluster_clients.proofs.LookSteps.{file-read, file-unsized}
use Rattle.cluster_clients.proofs.files.read_file.Goals as goal

pub returns-in-Err-Failed-clause-looks : goal.returns-in-Err-Failed-clause-looks
returns-in-Err-Failed-clause-looks g c =
    file-unsized c.args.name.now (g.D.SharedDisk.seen c.args.disk.now).files (g.D.SharedDisk.seen c.args.disk.now).tally (g.D.SharedDisk.seen c.len.new.self).tally c.len.ensures.counted

pub returns-in-Ok-clause-looks : goal.returns-in-Ok-clause-looks
returns-in-Ok-clause-looks g c =
    let held = (g.D.SharedDisk.seen c.args.disk.now).files in
    let told = subst (λ (size : Option ℕ). IfSome held (λ f. size ≡ length_of f c.args.name.now)) c.in-Ok-Some.field-0-is c.in-Ok-Some.ensures.told in
    file-read {T = Seq ℕ} c.args.name.now held c.in-Ok-Some.size (Ok c.in-Ok.bytes) (g.D.SharedDisk.seen c.args.disk.now).tally (g.D.SharedDisk.seen c.len.new.self).tally (g.D.SharedDisk.seen c.read_front.new.disk).tally told c.in-Ok-Some.ensures.counted (λ none i. (g.D.SharedDisk.seen (c.in-Ok.ensures.unread none i)).tally) c.in-Ok.ensures.counted

pub returns-in-Err-clause-looks : goal.returns-in-Err-clause-looks
returns-in-Err-clause-looks g c =
    let held = (g.D.SharedDisk.seen c.args.disk.now).files in
    let told = subst (λ (size : Option ℕ). IfSome held (λ f. size ≡ length_of f c.args.name.now)) c.in-Ok-Some.field-0-is c.in-Ok-Some.ensures.told in
    file-read {T = Seq ℕ} c.args.name.now held c.in-Ok-Some.size (Err c.in-Err.answer) (g.D.SharedDisk.seen c.args.disk.now).tally (g.D.SharedDisk.seen c.len.new.self).tally (g.D.SharedDisk.seen c.read_front.new.disk).tally told c.in-Ok-Some.ensures.counted (λ none i. (g.D.SharedDisk.seen (c.in-Err.ensures.unread none i)).tally) c.in-Err.ensures.counted
