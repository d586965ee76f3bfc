use Rattle.std.proofs.Common.{◌≡◌, Bool, true, sym, subst}
use Rattle.std.specs.Result.{is_ok}
use Rattle.std.specs.Prelude.{OnOk, IfErr}
use Rattle.script_lines.specs.declared.line.Line.{Line}
use Rattle.script_lines.specs.declared.line.Line.TheVariants as line
use Rattle.cluster_clients.specs.Looks.{FileCalls, ListCalls}
use Rattle.cluster_rounds.specs.Worlds.{any_state}
use Rattle.cluster_rounds.proofs.ArmedSteps.{state-told}
use Rattle.cluster_lines.specs.Playing.{BreaksOff, LooksBy, Plays, SharesIn}
use Rattle.cluster_lines.proofs.LineBroken.{cat-broken, ends-broken, ends-counts, files-broken, looked-read, read-stands, shown-counts, shown-ok}
use Rattle.cluster_lines.proofs.LineSteps.{alone-stands, ends-ok, looks-alone, played-as, plays-alone, plays-cat, plays-files, shows-none}
use Rattle.cluster_rounds.specs.Wild.{always}
use Rattle.cluster_rounds.proofs.WildSteps.{asks-of, on-ok, wild-same}
use Rattle.cluster_lines.proofs.WildLines.{ends-wild, shown-wild}
use Rattle.cluster_lines.proofs.playing.play_shared.Goals as goal

pub show_file-requires : goal.show_file-requires
show_file-requires g c = c.in-Cat.is

pub play_alone-requires-clause-state : goal.play_alone-requires-clause-state
play_alone-requires-clause-state g c κs within =
    let held = g.S.Serving.kit.see (g.D.SharedDisk.seen c.args.disk.now) (g.J.SharedDisk.seen c.args.beside.now) in
    (asks-of g.S.Serving.kit) always always c.args.world.now c.args.world.now held held c.requires.state
    (λ has. (state-told g.S.Serving.kit g.met.S.Serving.laws) any_state c.args.world.now held has)
    (λ seen wild so. ((wild-same g.S.Serving.kit) seen c.args.world.now held wild, tt))

pub play_alone-requires-clause-range : goal.play_alone-requires-clause-range
play_alone-requires-clause-range g c κs within = c.requires.range

pub play_alone-requires-clause-shares : goal.play_alone-requires-clause-shares
play_alone-requires-clause-shares g c κs within = c.requires.shares

pub play_alone-requires-clause-can : goal.play_alone-requires-clause-can
play_alone-requires-clause-can g c κs within = c.requires.can

-- `settle`

pub settle_line-requires : goal.settle_line-requires
settle_line-requires g c = record { state = c.requires.state; shares = subst (λ (next : Line). (SharesIn g.S.Serving.kit g.S.Serving.script) next c.args.world.now) c.in-Settle.is c.requires.shares }

pub returns-in-Settle-clause-ok : goal.returns-in-Settle-clause-ok
returns-in-Settle-clause-ok g c =
    let old = c.args.world.now in
    let new = c.settle_line.new.world in
    let before = c.args.lines.now.items in
    let after = c.settle_line.new.lines.items in
    let held = g.S.Serving.kit.see (g.D.SharedDisk.seen c.args.disk.now) (g.J.SharedDisk.seen c.args.beside.now) in
    let left = g.S.Serving.kit.see (g.D.SharedDisk.seen c.settle_line.new.disk) (g.J.SharedDisk.seen c.settle_line.new.beside) in
    let P : Line → Type 0 = λ next. OnOk c.settle_line.result ((Plays g.S.Serving.kit g.S.Serving.script) next old new before after held left) in
    subst P (sym c.in-Settle.is) c.settle_line.ensures.ok

pub returns-in-Settle-clause-broken : goal.returns-in-Settle-clause-broken
returns-in-Settle-clause-broken g c =
    let old = c.args.world.now in
    let new = c.settle_line.new.world in
    let before = c.args.lines.now.items in
    let after = c.settle_line.new.lines.items in
    let held = g.S.Serving.kit.see (g.D.SharedDisk.seen c.args.disk.now) (g.J.SharedDisk.seen c.args.beside.now) in
    let left = g.S.Serving.kit.see (g.D.SharedDisk.seen c.settle_line.new.disk) (g.J.SharedDisk.seen c.settle_line.new.beside) in
    let B : Line → Type 0 = λ next. IfErr c.settle_line.result (λ answer. (BreaksOff g.S.Serving.kit g.S.Serving.script) answer next old new before after held left) in
    subst B (sym c.in-Settle.is) c.settle_line.ensures.broken

pub returns-in-Settle-clause-looks : goal.returns-in-Settle-clause-looks
returns-in-Settle-clause-looks g c =
    subst (λ (next : Line). LooksBy next (g.D.SharedDisk.seen c.args.disk.now).files (is_ok c.settle_line.result) (g.D.SharedDisk.seen c.args.disk.now).tally (g.D.SharedDisk.seen c.settle_line.new.disk).tally) (sym c.in-Settle.is) tt

-- `files`

pub returns-in-Files-clause-ok : goal.returns-in-Files-clause-ok
returns-in-Files-clause-ok g c =
    let old = c.args.world.now in
    let before = c.args.lines.now.items in
    let after = c.show_files.new.lines.items in
    let one = g.D.SharedDisk.seen c.args.disk.now in
    let two = g.D.SharedDisk.seen c.show_files.new.disk in
    let beside = g.J.SharedDisk.seen c.args.beside.now in
    let read = looked-read one two (ListCalls one.files) (is_ok c.show_files.result) c.show_files.ensures.same c.show_files.ensures.stops c.show_files.ensures.looks in
    let looks : is_ok c.show_files.result ≡ true → LooksBy line.Files one.files true one.tally two.tally = λ done. subst (λ (b : Bool). LooksBy line.Files one.files b one.tally two.tally) done c.show_files.ensures.looks in
    (shown-ok g.S.Serving.kit g.met.S.Serving.laws) {P = (Plays g.S.Serving.kit g.S.Serving.script) c.args.line.now old old before after (g.S.Serving.kit.see one beside) (g.S.Serving.kit.see two beside)} c.show_files.result one two c.show_files.ensures.cause
    (λ done faults shows. (played-as g.S.Serving.kit g.met.S.Serving.laws g.S.Serving.script g.met.S.Scripted.follows) line.Files c.args.line.now old old before after (g.S.Serving.kit.see one beside) (g.S.Serving.kit.see two beside) c.in-Files.is ((plays-files g.S.Serving.kit g.met.S.Serving.laws g.S.Serving.script g.met.S.Scripted.follows) old before after one two beside (subst (λ (next : Line). (SharesIn g.S.Serving.kit g.S.Serving.script) next old) c.in-Files.is c.requires.shares) (looks done) read faults shows)) c.show_files.ensures.ok

pub returns-in-Files-clause-stands : goal.returns-in-Files-clause-stands
returns-in-Files-clause-stands g c =
    let old = c.args.world.now in
    let before = c.args.lines.now.items in
    let after = c.show_files.new.lines.items in
    let one = g.D.SharedDisk.seen c.args.disk.now in
    let two = g.D.SharedDisk.seen c.show_files.new.disk in
    let beside = g.J.SharedDisk.seen c.args.beside.now in
    let read = looked-read one two (ListCalls one.files) (is_ok c.show_files.result) c.show_files.ensures.same c.show_files.ensures.stops c.show_files.ensures.looks in
    λ has. on-ok c.show_files.result ((read-stands g.S.Serving.kit g.met.S.Serving.laws) old one two beside read has)

pub returns-in-Files-clause-broken : goal.returns-in-Files-clause-broken
returns-in-Files-clause-broken g c =
    let old = c.args.world.now in
    let before = c.args.lines.now.items in
    let after = c.show_files.new.lines.items in
    let one = g.D.SharedDisk.seen c.args.disk.now in
    let two = g.D.SharedDisk.seen c.show_files.new.disk in
    let beside = g.J.SharedDisk.seen c.args.beside.now in
    let read = looked-read one two (ListCalls one.files) (is_ok c.show_files.result) c.show_files.ensures.same c.show_files.ensures.stops c.show_files.ensures.looks in
    (files-broken g.S.Serving.kit g.met.S.Serving.laws g.S.Serving.script g.met.S.Scripted.follows) c.show_files.result c.args.line.now old before after one two beside c.in-Files.is read c.show_files.ensures.cause c.show_files.ensures.stays c.show_files.ensures.never_stopped

pub returns-in-Files-clause-counts : goal.returns-in-Files-clause-counts
returns-in-Files-clause-counts g c =
    let old = c.args.world.now in
    let before = c.args.lines.now.items in
    let after = c.show_files.new.lines.items in
    let one = g.D.SharedDisk.seen c.args.disk.now in
    let two = g.D.SharedDisk.seen c.show_files.new.disk in
    let beside = g.J.SharedDisk.seen c.args.beside.now in
    let read = looked-read one two (ListCalls one.files) (is_ok c.show_files.result) c.show_files.ensures.same c.show_files.ensures.stops c.show_files.ensures.looks in
    (shown-counts g.S.Serving.kit g.met.S.Serving.laws) c.show_files.result one two beside read c.show_files.ensures.cause c.show_files.ensures.never_stopped

pub returns-in-Files-clause-wild : goal.returns-in-Files-clause-wild
returns-in-Files-clause-wild g c =
    let one = g.D.SharedDisk.seen c.args.disk.now in
    let two = g.D.SharedDisk.seen c.show_files.new.disk in
    let beside = g.J.SharedDisk.seen c.args.beside.now in
    let read = looked-read one two (ListCalls one.files) (is_ok c.show_files.result) c.show_files.ensures.same c.show_files.ensures.stops c.show_files.ensures.looks in
    (shown-wild g.S.Serving.kit g.met.S.Serving.laws) c.show_files.result c.args.world.now one two beside read

pub returns-in-Files-clause-looks : goal.returns-in-Files-clause-looks
returns-in-Files-clause-looks g c =
    subst (λ (next : Line). LooksBy next (g.D.SharedDisk.seen c.args.disk.now).files (is_ok c.show_files.result) (g.D.SharedDisk.seen c.args.disk.now).tally (g.D.SharedDisk.seen c.show_files.new.disk).tally) (sym c.in-Files.is) c.show_files.ensures.looks

-- `cat`

pub returns-in-Cat-clause-ok : goal.returns-in-Cat-clause-ok
returns-in-Cat-clause-ok g c =
    let old = c.args.world.now in
    let before = c.args.lines.now.items in
    let after = c.show_file.new.lines.items in
    let one = g.D.SharedDisk.seen c.args.disk.now in
    let two = g.D.SharedDisk.seen c.show_file.new.disk in
    let beside = g.J.SharedDisk.seen c.args.beside.now in
    let read = looked-read one two (FileCalls c.in-Cat.name one.files) (is_ok c.show_file.result) c.show_file.ensures.same c.show_file.ensures.stops c.show_file.ensures.looks in
    let looks : is_ok c.show_file.result ≡ true → LooksBy (line.Cat c.in-Cat.name) one.files true one.tally two.tally = λ done. subst (λ (b : Bool). LooksBy (line.Cat c.in-Cat.name) one.files b one.tally two.tally) done c.show_file.ensures.looks in
    (shown-ok g.S.Serving.kit g.met.S.Serving.laws) {P = (Plays g.S.Serving.kit g.S.Serving.script) c.args.line.now old old before after (g.S.Serving.kit.see one beside) (g.S.Serving.kit.see two beside)} c.show_file.result one two c.show_file.ensures.cause
    (λ done faults shows. (played-as g.S.Serving.kit g.met.S.Serving.laws g.S.Serving.script g.met.S.Scripted.follows) (line.Cat c.in-Cat.name) c.args.line.now old old before after (g.S.Serving.kit.see one beside) (g.S.Serving.kit.see two beside) c.in-Cat.is ((plays-cat g.S.Serving.kit g.met.S.Serving.laws g.S.Serving.script g.met.S.Scripted.follows) c.in-Cat.name old before after one two beside (subst (λ (next : Line). (SharesIn g.S.Serving.kit g.S.Serving.script) next old) c.in-Cat.is c.requires.shares) (looks done) read faults shows)) c.show_file.ensures.ok

pub returns-in-Cat-clause-stands : goal.returns-in-Cat-clause-stands
returns-in-Cat-clause-stands g c =
    let old = c.args.world.now in
    let before = c.args.lines.now.items in
    let after = c.show_file.new.lines.items in
    let one = g.D.SharedDisk.seen c.args.disk.now in
    let two = g.D.SharedDisk.seen c.show_file.new.disk in
    let beside = g.J.SharedDisk.seen c.args.beside.now in
    let read = looked-read one two (FileCalls c.in-Cat.name one.files) (is_ok c.show_file.result) c.show_file.ensures.same c.show_file.ensures.stops c.show_file.ensures.looks in
    λ has. on-ok c.show_file.result ((read-stands g.S.Serving.kit g.met.S.Serving.laws) old one two beside read has)

pub returns-in-Cat-clause-broken : goal.returns-in-Cat-clause-broken
returns-in-Cat-clause-broken g c =
    let old = c.args.world.now in
    let before = c.args.lines.now.items in
    let after = c.show_file.new.lines.items in
    let one = g.D.SharedDisk.seen c.args.disk.now in
    let two = g.D.SharedDisk.seen c.show_file.new.disk in
    let beside = g.J.SharedDisk.seen c.args.beside.now in
    let read = looked-read one two (FileCalls c.in-Cat.name one.files) (is_ok c.show_file.result) c.show_file.ensures.same c.show_file.ensures.stops c.show_file.ensures.looks in
    (cat-broken g.S.Serving.kit g.met.S.Serving.laws g.S.Serving.script g.met.S.Scripted.follows) c.show_file.result c.args.line.now c.in-Cat.name old before after one two beside c.in-Cat.is read c.show_file.ensures.cause c.show_file.ensures.stays c.show_file.ensures.never_stopped

pub returns-in-Cat-clause-counts : goal.returns-in-Cat-clause-counts
returns-in-Cat-clause-counts g c =
    let old = c.args.world.now in
    let before = c.args.lines.now.items in
    let after = c.show_file.new.lines.items in
    let one = g.D.SharedDisk.seen c.args.disk.now in
    let two = g.D.SharedDisk.seen c.show_file.new.disk in
    let beside = g.J.SharedDisk.seen c.args.beside.now in
    let read = looked-read one two (FileCalls c.in-Cat.name one.files) (is_ok c.show_file.result) c.show_file.ensures.same c.show_file.ensures.stops c.show_file.ensures.looks in
    (shown-counts g.S.Serving.kit g.met.S.Serving.laws) c.show_file.result one two beside read c.show_file.ensures.cause c.show_file.ensures.never_stopped

pub returns-in-Cat-clause-wild : goal.returns-in-Cat-clause-wild
returns-in-Cat-clause-wild g c =
    let one = g.D.SharedDisk.seen c.args.disk.now in
    let two = g.D.SharedDisk.seen c.show_file.new.disk in
    let beside = g.J.SharedDisk.seen c.args.beside.now in
    let read = looked-read one two (FileCalls c.in-Cat.name one.files) (is_ok c.show_file.result) c.show_file.ensures.same c.show_file.ensures.stops c.show_file.ensures.looks in
    (shown-wild g.S.Serving.kit g.met.S.Serving.laws) c.show_file.result c.args.world.now one two beside read

pub returns-in-Cat-clause-looks : goal.returns-in-Cat-clause-looks
returns-in-Cat-clause-looks g c =
    subst (λ (next : Line). LooksBy next (g.D.SharedDisk.seen c.args.disk.now).files (is_ok c.show_file.result) (g.D.SharedDisk.seen c.args.disk.now).tally (g.D.SharedDisk.seen c.show_file.new.disk).tally) (sym c.in-Cat.is) c.show_file.ensures.looks

-- all others leave the disk alone

pub returns-in_default-clause-looks : goal.returns-in_default-clause-looks
returns-in_default-clause-looks g c =
    looks-alone c.args.line.now (g.D.SharedDisk.seen c.args.disk.now).files (is_ok c.as_answer.result) (g.D.SharedDisk.seen c.args.disk.now).tally c.in_default.not-Files c.in_default.not-Cat

pub returns-in_default-clause-ok : goal.returns-in_default-clause-ok
returns-in_default-clause-ok g c =
    let old = c.args.world.now in
    let new = c.play_alone.new.world in
    let before = c.args.lines.now.items in
    let after = c.play_alone.new.lines.items in
    let held = g.S.Serving.kit.see (g.D.SharedDisk.seen c.args.disk.now) (g.J.SharedDisk.seen c.args.beside.now) in
    ends-ok c.play_alone.result c.as_answer.result c.as_answer.ensures (λ plays. (plays-alone g.S.Serving.kit g.met.S.Serving.laws g.S.Serving.script g.met.S.Scripted.follows) c.args.line.now old new before after held c.requires.shared (shows-none c.args.line.now c.in_default.not-Files c.in_default.not-Cat) c.requires.shares plays) c.play_alone.ensures.ok

pub returns-in_default-clause-stands : goal.returns-in_default-clause-stands
returns-in_default-clause-stands g c =
    λ has. ends-ok c.play_alone.result c.as_answer.result c.as_answer.ensures (λ plays. (alone-stands g.S.Serving.kit g.met.S.Serving.laws) c.args.line.now c.args.world.now c.play_alone.new.world c.args.lines.now.items c.play_alone.new.lines.items (g.S.Serving.kit.see (g.D.SharedDisk.seen c.args.disk.now) (g.J.SharedDisk.seen c.args.beside.now)) has plays) c.play_alone.ensures.ok

pub returns-in_default-clause-broken : goal.returns-in_default-clause-broken
returns-in_default-clause-broken g c =
    let held = g.S.Serving.kit.see (g.D.SharedDisk.seen c.args.disk.now) (g.J.SharedDisk.seen c.args.beside.now) in
    (ends-broken g.S.Serving.kit g.met.S.Serving.laws g.S.Serving.script g.met.S.Scripted.follows) c.play_alone.result c.as_answer.result c.args.line.now c.args.world.now c.play_alone.new.world c.args.lines.now.items c.play_alone.new.lines.items held c.as_answer.ensures c.play_alone.ensures.err

pub returns-in_default-clause-counts : goal.returns-in_default-clause-counts
returns-in_default-clause-counts g c =
    (ends-counts g.S.Serving.kit g.met.S.Serving.laws) c.play_alone.result c.as_answer.result (g.S.Serving.kit.see (g.D.SharedDisk.seen c.args.disk.now) (g.J.SharedDisk.seen c.args.beside.now)) c.as_answer.ensures

pub returns-in_default-clause-wild : goal.returns-in_default-clause-wild
returns-in_default-clause-wild g c =
    (ends-wild g.S.Serving.kit g.met.S.Serving.laws) c.play_alone.result c.as_answer.result c.args.world.now c.play_alone.new.world (g.S.Serving.kit.see (g.D.SharedDisk.seen c.args.disk.now) (g.J.SharedDisk.seen c.args.beside.now)) c.as_answer.ensures c.play_alone.ensures.wild
