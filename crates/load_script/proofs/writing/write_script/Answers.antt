use Rattle.std.proofs.Common.{◌++◌}
use Rattle.std.proofs.KnownBytes.{Appends-trans}
use Rattle.io_edge.proofs.Fronts.{front-behind, front-more, writes-behind}
use Rattle.load_script.specs.Texts.{closing_text, opening_text, turns_text}
use Rattle.load_script.proofs.writing.write_script.Goals as goal

pub returns-in-Ok-write_turns-clause-bytes : goal.returns-in-Ok-write_turns-clause-bytes
returns-in-Ok-write_turns-clause-bytes g c =
    let written = g.K.Sink.written in
    let turns = turns_text c.args.seed c.args.count in
    let first = Appends-trans (written c.args.out.now) (written c.write_opening.new.out) (written c.write_turns.new.out) opening_text turns c.in-Ok.ensures.bytes c.in-Ok-write_turns.ensures.bytes in
    writes-behind (written c.args.out.now) (written c.write_turns.new.out) (written c.write_closing.new.out) (opening_text ++ turns) closing_text c.write_closing.result first c.write_closing.ensures.bytes

pub returns-in-Err-write_turns-clause-bytes : goal.returns-in-Err-write_turns-clause-bytes
returns-in-Err-write_turns-clause-bytes g c =
    let written = g.K.Sink.written in
    let turns = turns_text c.args.seed c.args.count in
    front-more (written c.args.out.now) (written c.write_turns.new.out) (opening_text ++ turns) closing_text (front-behind (written c.args.out.now) (written c.write_opening.new.out) (written c.write_turns.new.out) opening_text turns c.in-Ok.ensures.bytes c.in-Err-write_turns.ensures.bytes)
