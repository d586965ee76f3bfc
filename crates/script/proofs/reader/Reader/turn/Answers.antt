use Rattle.std.proofs.Common.{◌∷◌, arith}
use Rattle.script.proofs.Turns.{turn_none, turn_some, leads_refused, leads_past, leads_on}
use Rattle.script.proofs.reader.Reader.turn.Goals as goal

pub returns-in-Err-clause-err : goal.returns-in-Err-clause-err
returns-in-Err-clause-err g c raws outcome h =
    leads_refused g.K.Keep.Keeps c.args.self.now c.in-Err.answer (c.args.raw.now ∷ raws) outcome (c.in-Err.ensures raws) h

pub returns-in_default-clause-ok : goal.returns-in_default-clause-ok
returns-in_default-clause-ok g c raws outcome h =
    let reader = c.args.self.now in
    leads_past g.K.Keep.Keeps reader c.args.raw.now raws outcome
    (turn_none reader.time reader.number c.args.raw.now c.in-Ok.found c.in_default.is c.in-Ok.ensures raws) h

pub keep-requires : goal.keep-requires
keep-requires g c =
    let few = c.requires.few in
    record { lines = few.lines; keeps = few.keeps; few = omega (arith, few.few, c.requires.number) }

pub returns-clause-ok : goal.returns-clause-ok
returns-clause-ok g c raws outcome h =
    let reader = c.args.self.now in
    leads_on g.K.Keep.Keeps reader c.keep.new.self c.in-Some.later c.in-Some.line c.args.raw.now raws outcome
    (turn_some reader.time reader.number c.args.raw.now c.in-Ok.found c.in-Some.line c.in-Some.later c.in-Some.is c.in-Ok.ensures raws)
    c.in_ok-keep.ensures h
