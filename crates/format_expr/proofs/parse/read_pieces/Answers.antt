use Rattle.std.proofs.Common.{ℕ, ◌<◌, length, sym, arith, length-drop, length-take}
use Rattle.std.proofs.lemmas.Bool.Decides.{nat_tests}
use Rattle.std.proofs.lemmas.List.{take_rest}
use Rattle.format_expr.proofs.ReadingLaws.{read_more, read_all}
use Rattle.format_expr.proofs.parse.read_pieces.Goals as goal

pub loop-rest-preserved : goal.loop-rest-preserved
loop-rest-preserved c =
    let rest = c.loop-rest.rest.now in
    let some : 0 < length c.loop-rest.rest.now = Prim.grind (arith, nat_tests) in
    record {
      read = read_more c.args.text.now c.loop-rest.pieces.items c.push.new.self.items rest _ c.in_ok-piece.piece c.in_ok-piece.length c.loop-rest.invariant.read some (sym c.in_ok-piece.ensures.piece) c.in_ok-push.ensures.items (take_rest rest c.in_ok-piece.length);
      bound = omega (arith, length-take {A = ℕ}, length-drop {A = ℕ}, c.loop-rest.invariant.bound);
    }

pub returns : goal.returns
returns c =
    read_all c.args.text.now c.loop-rest.pieces.items c.loop-rest.rest.now c.loop-rest.invariant.read (Prim.grind (arith, nat_tests))
