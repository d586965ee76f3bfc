use Rattle.std.proofs.Common.{ℕ, List, subst}
use Rattle.std.proofs.lemmas.Result.{IfOk-weaker}
use Rattle.trio_lines.specs.declared.line.TrioLine.{TrioLine}
use Rattle.trio_lines.specs.Lines.{SpellsTrio}
use Rattle.plain_service.specs.Setups.{Setup}
use Rattle.spare_server.specs.Playing.{BeginsTrio}
use Rattle.spare_server.proofs.beginning.started_by.Goals as goal

pub started-requires : goal.started-requires
started-requires c =
    let B : TrioLine → Type 0 = λ next. (setup : Setup) × (places : ℕ) × BeginsTrio next setup places in
    let S : TrioLine → Type 0 = λ next. (raw : List ℕ) × SpellsTrio next raw in
    record { line = subst B c.in-Plain.is c.requires.line; spelled = subst S c.in-Plain.is c.requires.spelled }

pub returns-in-Plain : goal.returns-in-Plain
returns-in-Plain c =
    IfOk-weaker c.started.result _ _ (λ made starts setup places begins. starts setup places (subst (λ (next : TrioLine). BeginsTrio next setup places) c.in-Plain.is begins)) c.started.ensures
