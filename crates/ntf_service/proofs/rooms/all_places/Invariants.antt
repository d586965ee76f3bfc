use Rattle.std.proofs.Common.{◌≡◌, ℕ, ◌<◌}
use Rattle.arrayvec.specs.ArrayVec.{array_vec_len}
use Rattle.client_set.specs.Members.{Stands}
use Rattle.ntf_service.proofs.rooms.all_places.Given as goal

abbrev pub invariant-loop-place : goal.invariant-loop-place
invariant-loop-place l =
    (array_vec_len l.places ≡ l.place) × ((other : ℕ) → other < l.place → Stands other l.places.items)
