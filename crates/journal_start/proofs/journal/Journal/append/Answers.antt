use Rattle.std.proofs.Common.{◌≡◌, inl, inr, ℕ, ◌+◌, refl, ap, ◌∙◌, arith, length}
use Rattle.wire.specs.MessageSpelling.{message_text}
use Rattle.journal_start.specs.Journals.{longer_by}
use Rattle.journal_start.proofs.JournalLaws.{spelled-long}
use Rattle.journal_start.proofs.journal.Journal.append.Goals as goal

pub returns-in-Ok-append_text-clause-done : goal.returns-in-Ok-append_text-clause-done
returns-in-Ok-append_text-clause-done g c =
    let spelled = c.in-Ok.ensures in
    let long = spelled-long c.args.message.now c.in-Ok.behind.items spelled in
    let size = c.len.ensures in
    let same : c.len.result ≡ 5 + length (message_text c.args.message.now) = omega (arith, long, size) in
    (c.in-Some.ensures ∙ ap (λ (n : ℕ). longer_by n c.args.self.now) same, (spelled.fits, spelled.short))

-- a message for which the disk was asked was spelled

pub returns-in-Ok-append_text-clause-joins : goal.returns-in-Ok-append_text-clause-joins
returns-in-Ok-append_text-clause-joins g c = inr (c.in-Ok.ensures.fits, c.in-Ok.ensures.short)

-- or the disk was not asked

pub returns-in-Err-clause-joins : goal.returns-in-Err-clause-joins
returns-in-Err-clause-joins g c = inl refl

pub returns-in-None-clause-joins : goal.returns-in-None-clause-joins
returns-in-None-clause-joins g c = inl refl
