use Rattle.client_window.proofs.Keeping.{window_of-more, HasRepliesBefore-more}
use Rattle.client_window.proofs.Placing.{places-kept, room-kept}
use Rattle.std.proofs.Common.{◌∷◌, take, reverse, length, deque_capacity, ap, ◌∙◌, arith}
use Rattle.client_window.proofs.window.Window.take.Goals as goal

pub keep-requires-clause-room : goal.keep-requires-clause-room
keep-requires-clause-room g c =
    let kept = length c.self.inside.replies.items in
    let room = room-kept kept (deque_capacity c.widen.new.replies) c.widen.ensures.places in
    omega (arith, room, ap length c.widen.ensures.items)

pub invariant_of-self : goal.invariant_of-self
invariant_of-self g c = record {
  replies = HasRepliesBefore-more _ c.args.reply _ _ c.self.invariant.replies (c.keep.ensures.items ∙ ap (λ xs. take 32 (c.args.reply ∷ reverse xs)) c.widen.ensures.items);
  room = places-kept _ _ _ c.keep.new.replies.items _ _ c.keep.ensures.items c.widen.ensures.items c.widen.ensures.places c.keep.ensures.capacity;
}

pub returns : goal.returns
returns g c = λ all is. window_of-more c.args.reply all _ _ _ (c.self.view_is ∙ is) (c.keep.ensures.items ∙ ap (λ xs. take 32 (c.args.reply ∷ reverse xs)) c.widen.ensures.items)
