use Rattle.std.proofs.Common.{◌≡◌, ℕ, ◌+◌, ap, arith, length}
use Rattle.wire.specs.MessageSpelling.{message_text}
use Rattle.journal_start.specs.declared.journal.Journal.{Journal}
use Rattle.journal_start.proofs.JournalLaws.{spelled-long}
use Rattle.journal_start.proofs.journal.Journal.make.Goals as goal

pub returns-in-Ok-make_file-clause-made : goal.returns-in-Ok-make_file-clause-made
returns-in-Ok-make_file-clause-made g c =
    let spelled = c.in-Ok.ensures in
    let long = spelled-long c.args.snapshot.now c.in-Ok.behind.items spelled in
    let size = c.len.ensures in
    let same : c.len.result ≡ 5 + length (message_text c.args.snapshot.now) = omega (arith, long, size) in
    (ap (λ (n : ℕ). let made : Journal = record { end = n; number = 0 } in made) same, (spelled.fits, spelled.short))
