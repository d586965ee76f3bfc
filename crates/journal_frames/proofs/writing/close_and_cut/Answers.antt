use Rattle.std.proofs.Common.{◌≡◌, inl, ℕ, [], ◌∷◌, option_map, sym, subst, length-append, arith}
use Rattle.std.specs.Prelude.{Bool, OnOk}
use Rattle.std.proofs.lemmas.Result.{on_ok_weaker}
use Rattle.disk_model.specs.Disk.{Files, written_at, synced}
use Rattle.disk_model.specs.DeviceCalls.{CallWrite, CallSync, all_applied, BreaksOff, LeftOn}
use Rattle.journal_frames.specs.Frames.{HasFile, behind_cut, framed, gate_closed, journal_name, journal_of}
use Rattle.journal_frames.specs.Staging.{HasStaged, IsMoving, Shut}
use Rattle.std.proofs.Common.{Ok, Err}
use Rattle.std.specs.Prelude.{Result}
use Rattle.disk_model.specs.declared.answers.DiskAnswer.{DiskAnswer}
use Rattle.journal_frames.proofs.Unarmed.{unarmed-calls, unarmed-then}
use Rattle.journal_frames.proofs.Mending.{told-both}
use Rattle.journal_frames.proofs.Keeping.{keeps-then, keeps-more, closing-done, closing-broken}
use Rattle.journal_frames.proofs.writing.close_and_cut.Goals as goal

pub returns-then-closed-clause-done : goal.returns-then-closed-clause-done
returns-then-closed-clause-done g c =
    let D : Bool → Type 0 = λ closed. OnOk c.cut_behind.result ((g.J.SharedDisk.seen c.cut_behind.new.disk).files ≡ option_map (λ (f : Files). behind_cut c.args.end (gate_closed c.args.end closed f)) (g.J.SharedDisk.seen c.args.disk.now).files) in
    subst D (sym c.if-closed.true) c.cut_behind.ensures.done

pub returns-in-Ok-clause-done : goal.returns-in-Ok-clause-done
returns-in-Ok-clause-done g c =
    let closing : Files → Files = λ f. synced (written_at f journal_name c.args.end (0 ∷ [])) journal_name in
    let closed : (g.J.SharedDisk.seen c.write_through.new.disk).files ≡ option_map closing (g.J.SharedDisk.seen c.args.disk.now).files = c.in-Ok.ensures.performs.0 in
    let D : Bool → Type 0 = λ shut. OnOk c.cut_behind-in-Ok.result ((g.J.SharedDisk.seen c.cut_behind-in-Ok.new.disk).files ≡ option_map (λ (f : Files). behind_cut c.args.end (gate_closed c.args.end shut f)) (g.J.SharedDisk.seen c.args.disk.now).files) in
    subst D (sym c.if-closed.false)
    (on_ok_weaker c.cut_behind-in-Ok.result (λ (done : (g.J.SharedDisk.seen c.cut_behind-in-Ok.new.disk).files ≡ option_map (behind_cut c.args.end) (g.J.SharedDisk.seen c.write_through.new.disk).files). told-both closing (behind_cut c.args.end) _ _ _ closed done) c.cut_behind-in-Ok.ensures.done)

pub returns-in-Ok-clause-moving : goal.returns-in-Ok-clause-moving
returns-in-Ok-clause-moving g c = λ open_gate texts text all one at.
    let low = length-append (framed texts) (0 ∷ []) in
    keeps-more (HasFile journal_name (IsMoving texts text)) (HasFile journal_name (Shut (journal_of texts))) (HasStaged texts text) _ _
    (keeps-then (HasFile journal_name (IsMoving texts text)) (HasFile journal_name (Shut (journal_of texts))) (HasFile journal_name (Shut (journal_of texts))) _ _ _
    (closing-done texts text all one _ _ (subst (λ (end : ℕ). (g.J.SharedDisk.seen c.write_through.new.disk).files ≡ option_map (all_applied (CallWrite journal_name end (0 ∷ []) ∷ CallSync journal_name ∷ [])) (g.J.SharedDisk.seen c.args.disk.now).files) at c.in-Ok.ensures.performs.0))
    (c.cut_behind-in-Ok.ensures.kept (journal_of texts) (omega (arith, at, low))))
    (λ files has. (has.0, has.1, inl has.2))

pub returns-in-Err-clause-moving : goal.returns-in-Err-clause-moving
returns-in-Err-clause-moving g c = λ open_gate texts text all one at.
    closing-broken texts text c.in-Err.answer c.in-Err.ensures.performs.0 _ _
    (subst (λ (end : ℕ). BreaksOff (LeftOn c.in-Err.answer) (CallWrite journal_name end (0 ∷ []) ∷ CallSync journal_name ∷ []) c.in-Err.ensures.performs.0 (g.J.SharedDisk.seen c.args.disk.now).files (g.J.SharedDisk.seen c.write_through.new.disk).files) at c.in-Err.ensures.performs.1)

pub returns-in-Ok-clause-unarmed : goal.returns-in-Ok-clause-unarmed
returns-in-Ok-clause-unarmed g c =
    let old = (g.J.SharedDisk.seen c.args.disk.now).tally in
    let middle = (g.J.SharedDisk.seen c.write_through.new.disk).tally in
    let new = (g.J.SharedDisk.seen c.cut_behind-in-Ok.new.disk).tally in
    unarmed-then (tt {0}) c.cut_behind-in-Ok.result old middle new
    (unarmed-calls (CallWrite journal_name c.args.end (0 ∷ []) ∷ CallSync journal_name ∷ []) (Ok (tt {0})) (g.J.SharedDisk.seen c.args.disk.now).files (g.J.SharedDisk.seen c.write_through.new.disk).files old middle c.in-Ok.ensures.performs)
    c.cut_behind-in-Ok.ensures.unarmed

pub returns-in-Err-clause-unarmed : goal.returns-in-Err-clause-unarmed
returns-in-Err-clause-unarmed g c =
    let result : Result (Unit {0}) DiskAnswer = Err c.in-Err.answer in
    unarmed-calls (CallWrite journal_name c.args.end (0 ∷ []) ∷ CallSync journal_name ∷ []) result
    (g.J.SharedDisk.seen c.args.disk.now).files (g.J.SharedDisk.seen c.write_through.new.disk).files
    (g.J.SharedDisk.seen c.args.disk.now).tally (g.J.SharedDisk.seen c.write_through.new.disk).tally c.in-Err.ensures.performs
