-- Words of bodies alone: how a queue is kept, its items with their numbers.
use Rattle.std.specs.Prelude.{◌≡◌, ℕ, ◌-◌, if◌then◌else◌, List, map, vec_len}
use Rattle.std.specs.Vec.{vec_capacity}
use Rattle.std.specs.VecDeque.{deque_len, deque_capacity}
use Rattle.sub_queue.specs.declared.queue.SubQueue.TheInside.{Inside}
use Rattle.sub_queue.specs.declared.item.Content.{Content}
use Rattle.sub_queue.specs.declared.item.Item.{Item}
use Rattle.sub_queue.specs.Items.{numbered}
use Rattle.sub_queue.specs.Queue.{Queue, KeptQueue, IsSound, has_room}

abbrev pub contents_of : List Item → List Content
contents_of items = map (λ (item : Item). item.content) items

abbrev pub queue_of : Inside → Queue
queue_of inside = record {
  capacity = inside.capacity;
  first = inside.first;
  held = contents_of inside.items.items;
  lost = inside.lost.items;
}

-- where a place is free, room is for items, and otherwise for the marks of what is lost
abbrev pub spare_of : Queue → ℕ → ℕ → ℕ
spare_of queue for_items for_marks = if has_room queue then for_items else for_marks

abbrev pub kept_inside : Inside → KeptQueue
kept_inside inside = record {
  queue = queue_of inside;
  spare = spare_of (queue_of inside) (deque_capacity inside.items - deque_len inside.items)
      (vec_capacity inside.lost - vec_len inside.lost);
}

-- a queue is sound, and its items have their numbers in order
pub record IsKeptAs (queue : Queue) (items : List Item) : Type 0 where
  pub sound : IsSound queue
  pub numbers : items ≡ numbered queue.first queue.held

abbrev pub IsKept : Inside → Type 0
IsKept inside = IsKeptAs (queue_of inside) inside.items.items
