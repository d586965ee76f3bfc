-- Words of public clauses: the items of a subscription, and the marks of the notifications in them.
use Rattle.std.specs.Prelude.{ℕ, ◌+◌, List, [], ◌∷◌, ◌++◌}
use Rattle.ntf_types.specs.declared.notification.Notification.{Notification}
use Rattle.ntf_types.specs.Kinds.{kind_of}
use Rattle.sub_queue.specs.declared.item.Lost.{Lost}
use Rattle.sub_queue.specs.declared.item.Content.{Content}
use Rattle.sub_queue.specs.declared.item.Content.TheVariants.{Notified, Discarded}
use Rattle.sub_queue.specs.declared.item.Item.{Item}

-- the type and the id of a notification, which stand for it where it is lost
abbrev pub mark_of : Notification → Lost
mark_of notification = record { kind = kind_of notification.body; id = notification.id }

-- the item that holds all that were lost, where there are any
abbrev pub discarded : List Lost → List Content
discarded [] = []
discarded (first ∷ others) = Discarded (first ∷ others) ∷ []

-- contents as items, numbered from this number on
abbrev pub numbered : ℕ → List Content → List Item
numbered number [] = []
numbered number (content ∷ contents) = record { number = number; content = content } ∷ numbered (number + 1) contents

-- the marks of the notifications that an item holds, in order
abbrev pub marks_of : Content → List Lost
marks_of (Notified notification) = mark_of notification ∷ []
marks_of (Discarded lost) = lost

-- the marks of the notifications that items hold, in order
abbrev pub marks_in : List Content → List Lost
marks_in [] = []
marks_in (content ∷ contents) = marks_of content ++ marks_in contents
