use Rattle.std.proofs.Common.{ℕ, ◌+◌, List, sym, subst, arith}
use Rattle.alarm_view.specs.declared.alarm.KeptAlarm.{KeptAlarm}
use Rattle.alarm_view.specs.Alarms.{IsAboveAll}
use Rattle.alarm_view.proofs.Keeping.{IsAboveAll-added}
use Rattle.service_tests.proofs.alarm_view_tests.add.Goals as goal

pub add-requires : goal.add-requires
add-requires c =
    let P : ℕ → Type 0 = λ id. IsAboveAll c.args.number id c.args.view.now.kept in
    record {
      alarm = c.in_ok-alarm.ensures.alarm;
      bound = omega (arith, c.requires.bound);
      above = subst P (sym c.in_ok-alarm.ensures.id) c.requires.above;
    }

pub returns : goal.returns
returns c =
    let P : ℕ → Type 0 = λ id. IsAboveAll c.args.number id c.args.view.now.kept in
    let above = subst P (sym c.in_ok-alarm.ensures.id) c.requires.above in
    let Q : List KeptAlarm → Type 0 = IsAboveAll (c.args.number + 1) (c.in_ok-alarm.alarm.id + 1) in
    let added = subst Q (sym c.in_ok-add.ensures.ok) (IsAboveAll-added c.args.number c.in_ok-alarm.alarm c.args.view.now.kept above) in
    let R : ℕ → Type 0 = λ id. IsAboveAll (c.args.number + 1) (id + 1) c.add.new.self.kept in
    subst R c.in_ok-alarm.ensures.id added
