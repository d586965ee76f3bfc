use Rattle.std.proofs.Common.{refl, subst, ap, ◌∙◌, w64, to_z, of_z}
use Rattle.std.proofs.lemmas.Int.{to_z-of_z}
use Rattle.plain_service.specs.Values.{saved_of}
use Rattle.service_fit.proofs.HistoryFit.{history-fit}
use Rattle.mirror.specs.declared.heard.Heard.{Heard}
use Rattle.mirror.specs.Pairing.{newest, mirrors, IsMirrored, IsMirroredByValue}
use Rattle.mirror.specs.Preparing.{entry_by, held_back}
use Rattle.mirror.proofs.PairingLaws.{mirrored-by}
use Rattle.mirror.proofs.ByValueLaws.{mirrored-by_value}
use Rattle.mirror.proofs.Wanted.{held-wanted}
use Rattle.mirror.proofs.pairing.hear_linked.Goals as goal

pub returns-clause-rest : goal.returns-clause-rest
returns-clause-rest c =
    let a = c.args in
    let heard = c.in_ok-heard.heard in
    let later = c.hold_back.new.heard in
    let number = c.next_number-number.result in
    let moment = to_z w64 (of_z w64 a.now) in
    λ setup past history same.
    let saved = saved_of setup past in
    let fit = history-fit setup past history in
    let held = held-wanted saved moment a.message.now a.replica.now c.receive.new.self heard later number c.in_ok-mirror.mirror fit same c.in_ok-mirror.ensures (c.in_ok-heard.ensures.value saved fit same) c.hold_back.ensures.heard in
    subst (λ moment. IsMirrored setup past moment a.message.now a.waits.now later c.receive.new.self c.hold_back.new.waits) (to_z-of_z w64 a.now c.ranges.now)
    (mirrored-by setup past moment a.message.now a.replica.now c.receive.new.self number (mirrors number (entry_by a.message.now moment)) heard later a.waits.now c.hold_back.new.waits same c.next_number-number.ensures refl (c.in_ok-heard.ensures.rest setup past history same) held c.hold_back.ensures.waits)

pub returns-clause-held : goal.returns-clause-held
returns-clause-held c = λ saved owed same.
    let busy = c.in_ok-heard.ensures.held saved owed same in (
      c.hold_back.ensures.heard ∙ ap (λ (h : Heard). held_back h.committed c.in_ok-mirror.mirror h) busy.0,
      busy.1,
      c.hold_back.ensures.waits ∙ ap (λ (h : Heard). newest h.committed c.args.waits.now) busy.0,
    )

pub returns-clause-value : goal.returns-clause-value
returns-clause-value c =
    let a = c.args in
    let heard = c.in_ok-heard.heard in
    let later = c.hold_back.new.heard in
    let number = c.next_number-number.result in
    let moment = to_z w64 (of_z w64 a.now) in
    λ saved fit same.
    let heard-so = c.in_ok-heard.ensures.value saved fit same in
    let held = held-wanted saved moment a.message.now a.replica.now c.receive.new.self heard later number c.in_ok-mirror.mirror fit same c.in_ok-mirror.ensures heard-so c.hold_back.ensures.heard in
    subst (λ moment. IsMirroredByValue saved moment a.message.now a.waits.now later c.receive.new.self c.hold_back.new.waits) (to_z-of_z w64 a.now c.ranges.now)
    (mirrored-by_value saved moment a.message.now a.replica.now c.receive.new.self number (mirrors number (entry_by a.message.now moment)) heard later a.waits.now c.hold_back.new.waits same c.next_number-number.ensures refl heard-so held c.hold_back.ensures.waits)
