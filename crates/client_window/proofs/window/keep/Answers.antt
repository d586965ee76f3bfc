use Rattle.std.proofs.Common.{reverse, length, ap, arith, length-take}
use Rattle.std.proofs.lemmas.List.{length-reverse}
use Rattle.client_window.proofs.window.keep.Goals as goal

pub push_back_reserved-requires : goal.push_back_reserved-requires
push_back_reserved-requires g c =
    let old = c.args.replies.now.items in
    let left = c.let_oldest_go.new.replies.items in
    let fewer = ap length c.let_oldest_go.ensures.items in
    let count = length-reverse left in
    let before = length-reverse old in
    let taken = length-take 31 (reverse old) in
    omega (arith, c.let_oldest_go.ensures.capacity, c.requires.room, c.requires.bound)
