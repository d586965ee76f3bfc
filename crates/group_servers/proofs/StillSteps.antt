-- An entry in hand that has no deeds: no call of the disk is made, and so none breaks off.
use Rattle.std.proofs.Common.{◌≡◌, false, not, ◌==◌, Option, List, [], ◌∷◌, ◌++◌, length, ap, sym, ◌∙◌}
use Rattle.disk_model.specs.declared.answers.DiskAnswer.{DiskAnswer}
use Rattle.disk_model.specs.declared.tally.Tally.{Tally}
use Rattle.disk_model.specs.DeviceCalls.{DeviceCall, Breaks}
use Rattle.disk_model.specs.Disk.{Files}
use Rattle.stream_layout.specs.declared.deed.Deed.{Deed}
use Rattle.stream_layout.specs.Deeds.{calls_of_all}
use Rattle.mirror.specs.declared.owed.Owed.{Owed}
use Rattle.mirror.specs.Working.{deeds_in, has_deeds}
use Rattle.group_servers.proofs.SeatTurns.{empty}

no-calls : (deeds : List Deed) → not (length deeds == 0) ≡ false → calls_of_all deeds ≡ []
no-calls deeds none = ap calls_of_all (empty deeds none)

no-break : (calls done undone : List DeviceCall) (broken : DeviceCall) → calls ≡ [] → calls ≡ done ++ broken ∷ undone → ⊥
no-break calls [] undone broken none is = let never = sym none ∙ is in cc
no-break calls (first ∷ done) undone broken none is = let never = sym none ∙ is in cc

pub never-breaks : (owed : Option Owed) (answer : DiskAnswer) (old new : Option Files) (before after : Tally) → has_deeds owed ≡ false → Breaks answer (calls_of_all (deeds_in owed)) old new before after → ⊥
never-breaks owed answer old new before after none broke =
    let off = broke.1 in
    no-break (calls_of_all (deeds_in owed)) off.done off.undone off.broken (no-calls (deeds_in owed) none) off.in_order
