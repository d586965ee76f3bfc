-- In which queues there may be no room.
use Rattle.std.proofs.Common.{◌≡◌, ℕ, zero, suc, ◌+◌, ◌<◌, ◌≤◌, ◌⊎◌, inl, inr, List, [], ◌∷◌, ◌++◌, length, drop, get_or, set, refl, ap, sym, subst, ◌∙◌, arith}
use Rattle.std.specs.List.{AllByRecursion}
use Rattle.std.proofs.lemmas.Bool.Decides.{leb_tells}
use Rattle.std.proofs.lemmas.List.{drop_more}
use Rattle.client_set.specs.Members.{Stands}
use Rattle.client_set.proofs.MemberLaws.{Stands-append_left, Stands-append_right}
use Rattle.ntf_service.specs.declared.subscription.Subscription.{Subscription}
use Rattle.ntf_service.specs.Told.{HasRoom, spare_in}
use Rattle.ntf_service.specs.Rooms.{RoomAt, HaveRoomsBut, RoomsStayBut}
use Rattle.ntf_service.proofs.Telling.{rooms-each, each-rooms}

-- where one subscription is written over, the others keep their rooms
pub stay-set : (subs : List Subscription) (place : ℕ) (kept : Subscription) (other : ℕ) → (other ≡ place) ⊎ (RoomAt subs other → RoomAt (set subs place kept) other)
stay-set [] place kept other = inr (λ room. tt)
stay-set (x ∷ subs) zero kept zero = inl refl
stay-set (x ∷ subs) zero kept (suc other) = inr (λ room. room)
stay-set (x ∷ subs) (suc place) kept zero = inr (λ room. room)
stay-set (x ∷ subs) (suc place) kept (suc other) = elim (stay-set subs place kept other) [
  | inl same ↦ inl (ap suc same)
  | inr keeps ↦ inr keeps
]

pub room-set : (subs : List Subscription) (place : ℕ) (kept : Subscription) → HasRoom kept → RoomAt (set subs place kept) place
room-set [] place kept room = tt
room-set (x ∷ subs) zero kept room = room
room-set (x ∷ subs) (suc place) kept room = room-set subs place kept room

-- a place is one of theirs, or nothing stands there
within-or : (subs : List Subscription) (place : ℕ) → (place < length subs) ⊎ RoomAt subs place
within-or [] place = inr tt
within-or (x ∷ subs) zero = inl (omega arith)
within-or (x ∷ subs) (suc place) = elim (within-or subs place) [
  | inl within ↦ inl (omega arith)
  | inr none ↦ inr none
]

pub room-beyond : (subs : List Subscription) (place : ℕ) → length subs ≤ place → RoomAt subs place
room-beyond [] place beyond = tt
room-beyond (x ∷ subs) zero beyond = absurd (omega arith)
room-beyond (x ∷ subs) (suc place) beyond = room-beyond subs place (omega arith)

-- what lacks room stands among all places
pub rooms-all : (subs : List Subscription) (places : List ℕ) → ((place : ℕ) → place < length subs → Stands place places) → HaveRoomsBut places subs
rooms-all subs places all = λ place. elim (within-or subs place) [
  | inl within ↦ inl (all place within)
  | inr none ↦ inr none
]

-- the places below one more
pub stands-next : (places now : List ℕ) (place : ℕ) → now ≡ places ++ place ∷ [] → ((other : ℕ) → other < place → Stands other places) → (other : ℕ) → other < place + 1 → Stands other now
stands-next places now place is all other below =
    subst (Stands other) (sym is) (elim (leb_tells (suc other) place) [
      | inl before ↦ Stands-append_left other places (place ∷ []) (all other before.1)
      | inr behind ↦ let above = behind.1 in Stands-append_right other places (place ∷ []) (inl (omega (arith, above, below)))
    ])

-- a queue that may have lost its room is told
pub rooms-used : (lacking now : List ℕ) (before after : List Subscription) (place : ℕ) → now ≡ lacking ++ place ∷ [] → HaveRoomsBut lacking before → RoomsStayBut place before after → HaveRoomsBut now after
rooms-used lacking now before after place is have stay = λ other.
    subst (λ ps. Stands other ps ⊎ RoomAt after other) (sym is) (elim (have other) [
      | inl stands ↦ inl (Stands-append_left other lacking (place ∷ []) stands)
      | inr room ↦ elim (stay other) [
        | inl same ↦ inl (Stands-append_right other lacking (place ∷ []) (inl same))
        | inr keeps ↦ inr (keeps room)
      ]
    ])

-- room in each queue

each-at : (subs : List Subscription) → AllByRecursion HasRoom subs → (place : ℕ) → RoomAt subs place
each-at [] each place = tt
each-at (kept ∷ subs) each zero = each.0
each-at (kept ∷ subs) each (suc place) = each-at subs each.1 place

at-each : (subs : List Subscription) → ((place : ℕ) → RoomAt subs place) → AllByRecursion HasRoom subs
at-each [] at = tt
at-each (kept ∷ subs) at = (at 0, at-each subs (λ place. at (suc place)))

pub rooms-full : (lacking : List ℕ) (subs : List Subscription) → 1 ≤ spare_in subs → HaveRoomsBut lacking subs
rooms-full lacking subs room = λ place. inr (each-at subs (rooms-each subs room) place)

drop-end : (places : List ℕ) (index : ℕ) → length places ≤ index → drop index places ≡ []
drop-end [] zero end = refl
drop-end [] (suc index) end = refl
drop-end (place ∷ places) zero end = absurd (omega arith)
drop-end (place ∷ places) (suc index) end = drop-end places index (omega arith)

-- once room is made at all places
pub rooms-made : (lacking : List ℕ) (index : ℕ) (subs : List Subscription) → length lacking ≤ index → HaveRoomsBut (drop index lacking) subs → 1 ≤ spare_in subs
rooms-made lacking index subs end have =
    let none = drop-end lacking index end in
    each-rooms subs (at-each subs (λ place. elim (have place) [
      | inl stands ↦ absurd (subst (Stands place) none stands)
      | inr room ↦ room
    ]))

stands-drop : (index : ℕ) (places : List ℕ) (place : ℕ) → Stands place (drop index places) → Stands place places
stands-drop zero places place stands = stands
stands-drop (suc index) [] place stands = stands
stands-drop (suc index) (first ∷ places) place stands = inr (stands-drop index places place stands)

-- fewer places than all
pub rooms-drop : (lacking : List ℕ) (index : ℕ) (subs : List Subscription) → HaveRoomsBut (drop index lacking) subs → HaveRoomsBut lacking subs
rooms-drop lacking index subs have = λ place. elim (have place) [
  | inl stands ↦ inl (stands-drop index lacking place stands)
  | inr room ↦ inr room
]

-- at the next of the places

module _ (lacking : List ℕ) (index place d : ℕ) (inside : index < length lacking) (is : place ≡ get_or lacking index d) (before after : List Subscription) (have : HaveRoomsBut (drop index lacking) before) (stay : RoomsStayBut place before after) where
  left : drop index lacking ≡ place ∷ drop (index + 1) lacking
  left = drop_more lacking index d inside ∙ ap (λ p. p ∷ drop (index + 1) lacking) (sym is)

  pub rooms-tried : HaveRoomsBut (drop index lacking) after
  rooms-tried = λ other. elim (have other) [
    | inl stands ↦ inl stands
    | inr room ↦ elim (stay other) [
      | inl same ↦ inl (subst (Stands other) (sym left) (inl same))
      | inr keeps ↦ inr (keeps room)
    ]
  ]

  pub rooms-more : RoomAt after place → HaveRoomsBut (drop (index + 1) lacking) after
  rooms-more room = λ other. elim (rooms-tried other) [
    | inl stands ↦ elim (subst (Stands other) left stands) [
      | inl same ↦ inr (subst (RoomAt after) (sym same) room)
      | inr there ↦ inl there
    ]
    | inr has ↦ inr has
  ]
