-- Servers of which none is owed the value of the service.
use Rattle.std.proofs.Common.{◌≡◌, Bool, false, List, [], ◌∷◌, refl, sym, subst}
use Rattle.std.specs.List.{list_any}
use Rattle.std.proofs.lemmas.Bool.{or_parts}
use Rattle.mirror.specs.declared.state.NodeState.{NodeState as Node}
use Rattle.group_servers.specs.declared.group.Seat.{Seat}
use Rattle.group_servers.specs.Owing.{is_owed, linked_by, tied_by, LinksAll}

pub none-owed : (seats : List Seat) (active : Node) → list_any is_owed seats ≡ false → LinksAll seats seats active active
none-owed [] active none = refl
none-owed (seat ∷ seats) active none =
    let parts = or_parts (is_owed seat) (list_any is_owed seats) none in
    let B : Bool → Type 0 = λ b. (seat ≡ linked_by b active seat) × LinksAll seats seats (tied_by b active) active in
    subst B (sym parts.0) (refl, none-owed seats active parts.1)
