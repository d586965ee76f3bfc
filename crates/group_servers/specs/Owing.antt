-- Words of bodies alone: servers that join, to which the value of the service is owed.
use Rattle.std.specs.Prelude.{◌≡◌, Bool, true, false, List, [], ◌∷◌, ◌++◌}
use Rattle.wire.specs.declared.message.Message.{Message}
use Rattle.mirror.specs.declared.heard.Role.{Role}
use Rattle.mirror.specs.declared.heard.Role.TheVariants.{Joining}
use Rattle.mirror.specs.declared.state.NodeState.{NodeState as Node}
use Rattle.mirror.specs.declared.node.Tie.TheVariants.{Linked}
use Rattle.mirror.specs.Pairing.{snapshots}
use Rattle.group_servers.specs.declared.group.Seat.{Seat}

-- it joins, and nothing is on the way to it
abbrev pub owed_by : Role → List Message → Bool
owed_by Joining [] = true
owed_by _ link = false

abbrev pub is_owed : Seat → Bool
is_owed seat = owed_by seat.node.replica.role seat.link

-- the active server, of which a server joins
abbrev pub tied_by : Bool → Node → Node
tied_by true active = record active { tie = Linked; promised = [] }
tied_by false active = active

abbrev pub linked_by : Bool → Node → Seat → Seat
linked_by true active seat = record seat { link = seat.link ++ snapshots active.replica.service }
linked_by false active seat = seat

-- a server gets what is owed to it
abbrev pub LinksOne : Seat → Seat → Node → Node → Type 0
LinksOne seat new old active = (new ≡ linked_by (is_owed seat) old seat) × (active ≡ tied_by (is_owed seat) old)

-- each of them does
abbrev pub LinksAll : List Seat → List Seat → Node → Node → Type 0
LinksAll [] [] old active = active ≡ old
LinksAll (seat ∷ seats) (new ∷ news) old active =
    (new ≡ linked_by (is_owed seat) old seat) × LinksAll seats news (tied_by (is_owed seat) old) active
LinksAll _ _ old active = ⊥
