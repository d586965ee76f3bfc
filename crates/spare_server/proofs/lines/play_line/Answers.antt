use Rattle.std.proofs.Common.{inl, refl, sym, subst}
use Rattle.std.specs.Prelude.{OnOk, IfErr}
use Rattle.std.specs.Result.{is_ok}
use Rattle.std.proofs.lemmas.Result.{on_ok_weaker, IfErr-weaker}
use Rattle.trio_lines.specs.declared.line.TrioLine.{TrioLine}
use Rattle.trio_lines.specs.declared.line.TrioLine.TheVariants.{Plain}
use Rattle.trio_lines.specs.Lines.{SpellsTrio}
use Rattle.cluster_lines.specs.Lines.{CanPlay}
use Rattle.cluster_lines.specs.Playing.{LooksBy}
use Rattle.cluster_lines.proofs.LineSpelled.{spelled-fits}
use Rattle.cluster_rounds.specs.Worlds.{any_state}
use Rattle.cluster_rounds.proofs.ArmedSteps.{state-told}
use Rattle.group_servers.specs.GroupKit.{group_kit, group_script}
use Rattle.group_servers.specs.GroupLaws.{group_laws}
use Rattle.spare_server.specs.Happening.{group_line}
use Rattle.spare_server.specs.Parts.{Breaks, Plays}
use Rattle.spare_server.proofs.LineSteps.{plays-as, third-of}
use Rattle.spare_server.proofs.OwnSteps.{ack-breaks, ack-plays, mirror-breaks, mirror-plays, own-counts}
use Rattle.spare_server.proofs.lines.play_line.Goals as goal

pub play-requires-clause-state : goal.play-requires-clause-state
play-requires-clause-state g c κs within = inl c.requires.state

pub play-requires-clause-range : goal.play-requires-clause-range
play-requires-clause-range g c κs within =
    let spelled = subst (λ (next : TrioLine). SpellsTrio next c.requires.spelled.0) c.in-Plain.is c.requires.spelled.1 in
    (spelled-fits c.in-Plain.shared c.requires.spelled.0 spelled).0

pub play-requires-clause-can : goal.play-requires-clause-can
play-requires-clause-can g c κs within =
    subst (λ (next : TrioLine). CanPlay group_script c.args.parts.now.now (group_line next)) c.in-Plain.is c.requires.can

pub play-requires-clause-shares : goal.play-requires-clause-shares
play-requires-clause-shares g c κs within = λ setup state good shows. tt

pub returns-in-Plain-clause-ok : goal.returns-in-Plain-clause-ok
returns-in-Plain-clause-ok g c =
    let held = g.D.SharedDisk.seen c.args.disk.now in
    let left = g.D.SharedDisk.seen c.play.new.disk in
    let old = c.args.parts.now in
    let before = c.args.lines.now.items in
    let after = c.play.new.lines.items in
    on_ok_weaker c.play.result
    (λ plays. subst (λ (next : TrioLine). Plays next old c.play.new.world before after held left) (sym c.in-Plain.is) (plays-as (Plain c.in-Plain.shared) tt old c.play.new.world before after held left plays))
    c.play.ensures.ok

pub returns-in-Plain-clause-broken : goal.returns-in-Plain-clause-broken
returns-in-Plain-clause-broken g c =
    let held = g.D.SharedDisk.seen c.args.disk.now in
    let left = g.D.SharedDisk.seen c.play.new.disk in
    IfErr-weaker c.play.result _ _ (λ answer broken. subst (λ (next : TrioLine). Breaks answer next c.args.parts.now c.play.new.world c.args.lines.now.items c.play.new.lines.items held left) (sym c.in-Plain.is) broken) c.play.ensures.broken

pub returns-in-Plain-clause-looks : goal.returns-in-Plain-clause-looks
returns-in-Plain-clause-looks g c =
    let held = g.D.SharedDisk.seen c.args.disk.now in
    let left = g.D.SharedDisk.seen c.play.new.disk in
    subst (λ (next : TrioLine). LooksBy (group_line next) held.files (is_ok c.play.result) held.tally left.tally) (sym c.in-Plain.is) c.play.ensures.looks

-- the lines on one server's messages

pub mirror_line-requires : goal.mirror_line-requires
mirror_line-requires g c =
    record { state = (state-told (group_kit 3) (group_laws 3)) any_state c.args.parts.now (g.D.SharedDisk.seen c.args.disk.now) c.requires.state; line = c.in-Mirror.is }

pub ack_line-requires : goal.ack_line-requires
ack_line-requires g c =
    record { state = (state-told (group_kit 3) (group_laws 3)) any_state c.args.parts.now (g.D.SharedDisk.seen c.args.disk.now) c.requires.state; line = c.in-Ack.is }

pub returns-in-Mirror-clause-ok : goal.returns-in-Mirror-clause-ok
returns-in-Mirror-clause-ok g c =
    let held = g.D.SharedDisk.seen c.args.disk.now in
    let new = c.mirror_line.new.parts in
    let before = c.args.lines.now.items in
    let after = c.mirror_line.new.lines.items in
    subst (λ (next : TrioLine). OnOk c.as_answer.result (Plays next c.args.parts.now new before after held held)) (sym c.in-Mirror.is)
    (mirror-plays c.mirror_line.result c.as_answer.result c.args.parts.now new before after held c.in-Mirror.server c.as_answer.ensures c.mirror_line.ensures.ok)

pub returns-in-Mirror-clause-broken : goal.returns-in-Mirror-clause-broken
returns-in-Mirror-clause-broken g c =
    let held = g.D.SharedDisk.seen c.args.disk.now in
    let new = c.mirror_line.new.parts in
    let before = c.args.lines.now.items in
    let after = c.mirror_line.new.lines.items in
    subst (λ (next : TrioLine). IfErr c.as_answer.result (λ answer. Breaks answer next c.args.parts.now new before after held held)) (sym c.in-Mirror.is)
    (mirror-breaks c.mirror_line.result c.as_answer.result c.args.parts.now new before after held c.in-Mirror.server c.as_answer.ensures c.mirror_line.ensures.err)

pub returns-in-Mirror-clause-counts : goal.returns-in-Mirror-clause-counts
returns-in-Mirror-clause-counts g c = own-counts c.mirror_line.result c.as_answer.result (g.D.SharedDisk.seen c.args.disk.now) c.as_answer.ensures

pub returns-in-Mirror-clause-looks : goal.returns-in-Mirror-clause-looks
returns-in-Mirror-clause-looks g c =
    let held = g.D.SharedDisk.seen c.args.disk.now in
    subst (λ (next : TrioLine). LooksBy (group_line next) held.files (is_ok c.as_answer.result) held.tally held.tally) (sym c.in-Mirror.is) (λ own. refl)

pub returns-in-Ack-clause-ok : goal.returns-in-Ack-clause-ok
returns-in-Ack-clause-ok g c =
    let held = g.D.SharedDisk.seen c.args.disk.now in
    let new = c.ack_line.new.parts in
    let before = c.args.lines.now.items in
    let after = c.ack_line.new.lines.items in
    subst (λ (next : TrioLine). OnOk c.as_answer-in-Ack.result (Plays next c.args.parts.now new before after held held)) (sym c.in-Ack.is)
    (ack-plays c.ack_line.result c.as_answer-in-Ack.result c.args.parts.now new before after held c.in-Ack.server c.as_answer-in-Ack.ensures c.ack_line.ensures.ok)

pub returns-in-Ack-clause-broken : goal.returns-in-Ack-clause-broken
returns-in-Ack-clause-broken g c =
    let held = g.D.SharedDisk.seen c.args.disk.now in
    let new = c.ack_line.new.parts in
    let before = c.args.lines.now.items in
    let after = c.ack_line.new.lines.items in
    subst (λ (next : TrioLine). IfErr c.as_answer-in-Ack.result (λ answer. Breaks answer next c.args.parts.now new before after held held)) (sym c.in-Ack.is)
    (ack-breaks c.ack_line.result c.as_answer-in-Ack.result c.args.parts.now new before after held c.in-Ack.server c.as_answer-in-Ack.ensures c.ack_line.ensures.err)

pub returns-in-Ack-clause-counts : goal.returns-in-Ack-clause-counts
returns-in-Ack-clause-counts g c = own-counts c.ack_line.result c.as_answer-in-Ack.result (g.D.SharedDisk.seen c.args.disk.now) c.as_answer-in-Ack.ensures

pub returns-in-Ack-clause-looks : goal.returns-in-Ack-clause-looks
returns-in-Ack-clause-looks g c =
    let held = g.D.SharedDisk.seen c.args.disk.now in
    subst (λ (next : TrioLine). LooksBy (group_line next) held.files (is_ok c.as_answer-in-Ack.result) held.tally held.tally) (sym c.in-Ack.is) (λ own. refl)

-- those on the third server

pub play_third-requires-clause-third : goal.play_third-requires-clause-third
play_third-requires-clause-third g c κs within = third-of c.args.line.now c.in_default.not-Plain c.in_default.not-Mirror c.in_default.not-Ack
