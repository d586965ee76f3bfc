-- Words of bodies alone: the lines that tell how a fall ends.
use Rattle.std.specs.Prelude.{◌≡◌, ℕ, ◌+◌, Bool, true, false, if◌then◌else◌, List, [], ◌∷◌, ◌++◌, map, length}
use Rattle.script_lines.specs.declared.line.Server.{Server}
use Rattle.mirror.specs.declared.heard.Role.{Role}
use Rattle.mirror.specs.declared.heard.Role.TheVariants.{Joining}
use Rattle.cluster_events.specs.declared.lines.ServerRole.{ServerRole}
use Rattle.cluster_events.specs.declared.lines.ServerRole.TheVariants as role
use Rattle.event_text.specs.Texts.{server_line}
use Rattle.group_cluster.specs.Falling.{front_of, next_of}
use Rattle.group_servers.specs.declared.group.Seat.{Seat}
use Rattle.group_servers.specs.Tries.{takes}

-- a line for each of these servers
abbrev pub role_lines : ServerRole → List Server → List (List ℕ)
role_lines stands_as servers = map (λ server. server_line server stands_as) servers

abbrev pub is_joining_by : Role → Bool
is_joining_by Joining = true
is_joining_by _ = false

abbrev pub is_joining : Seat → Bool
is_joining seat = is_joining_by seat.node.replica.role

-- the servers that may take over, and those that join
abbrev pub takers : Bool → List Seat → List Server
takers fresh [] = []
takers fresh (seat ∷ seats) = if takes fresh seat then seat.server ∷ takers fresh seats else takers fresh seats

abbrev pub joiners : List Seat → List Server
joiners [] = []
joiners (seat ∷ seats) = if is_joining seat then seat.server ∷ joiners seats else joiners seats

-- the line of one server, where it is told
abbrev pub line_if : Bool → ServerRole → Server → List (List ℕ)
line_if told stands_as server = if told then server_line server stands_as ∷ [] else []

-- all that may be told, in order: the active server is down; each that may take over is down, and is active; each that joins is standby
abbrev pub end_lines : Server → (taking joining : List Server) → List (List ℕ)
end_lines acting taking joining =
    server_line acting role.Down ∷ (role_lines role.Down taking ++ (role_lines role.Active taking ++ role_lines role.Standby joining))

-- so many failed, and the next one took over
abbrev pub over_lines : Server → ℕ → (taking joining : List Server) → List (List ℕ)
over_lines acting failed taking joining =
    server_line acting role.Down
    ∷ (role_lines role.Down (front_of failed taking) ++ server_line (next_of acting failed taking) role.Active ∷ role_lines role.Standby joining)

-- all failed
abbrev pub fallen_lines : Server → (taking : List Server) → List (List ℕ)
fallen_lines acting taking = server_line acting role.Down ∷ role_lines role.Down taking

-- so many lines were taken away from a place on
abbrev pub TakesAway : ℕ → ℕ → List (List ℕ) → List (List ℕ) → Type 0
TakesAway at count old new =
    (front cut back : List (List ℕ)) → old ≡ front ++ (cut ++ back) → length front ≡ at → length cut ≡ count → new ≡ front ++ back

-- those stay that tell how many failed: some did not try
abbrev pub TellsOver : ℕ → ℕ → ℕ → List (List ℕ) → List (List ℕ) → Type 0
TellsOver base count left old new =
    (before : List (List ℕ)) (acting : Server) (failed : ℕ) (taking joining : List Server)
    → length before ≡ base → length taking ≡ count → failed + 1 + left ≡ count → old ≡ before ++ end_lines acting taking joining
    → new ≡ before ++ over_lines acting failed taking joining

abbrev pub TellsFallen : ℕ → ℕ → List (List ℕ) → List (List ℕ) → Type 0
TellsFallen base count old new =
    (before : List (List ℕ)) (acting : Server) (taking joining : List Server)
    → length before ≡ base → length taking ≡ count → old ≡ before ++ end_lines acting taking joining → new ≡ before ++ fallen_lines acting taking
