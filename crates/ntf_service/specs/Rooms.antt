-- Words of bodies alone: in which queues there may be no room for a notification more.
use Rattle.std.specs.Prelude.{◌≡◌, ℕ, zero, suc, ⊤, ◌⊎◌, List, [], ◌∷◌}
use Rattle.client_set.specs.Members.{Stands}
use Rattle.ntf_service.specs.declared.subscription.Subscription.{Subscription}
use Rattle.ntf_service.specs.Told.{HasRoom}

-- there is room in the queue of the subscription at a place, if there is one
abbrev pub RoomAt : List Subscription → ℕ → Type 0
RoomAt [] place = ⊤
RoomAt (kept ∷ subs) zero = HasRoom kept
RoomAt (kept ∷ subs) (suc place) = RoomAt subs place

-- there is room in each queue but those at these places, in which there may be none
abbrev pub HaveRoomsBut : List ℕ → List Subscription → Type 0
HaveRoomsBut lacking subs = (place : ℕ) → Stands place lacking ⊎ RoomAt subs place

-- where there was room there still is, but at one place
abbrev pub RoomsStayBut : ℕ → (old new : List Subscription) → Type 0
RoomsStayBut place old new = (other : ℕ) → (other ≡ place) ⊎ (RoomAt old other → RoomAt new other)
