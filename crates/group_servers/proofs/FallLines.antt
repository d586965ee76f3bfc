-- The lines that tell how a fall ends.
use Rattle.std.proofs.Common.{◌≡◌, ℕ, zero, suc, ◌+◌, ◌-◌, Bool, if◌then◌else◌, List, [], ◌∷◌, ◌++◌, length, take, refl, ap, sym, ◌∙◌, arith, append-nil, append_assoc}
use Rattle.script_lines.specs.declared.line.Server.{Server}
use Rattle.plain_service.specs.Setups.{Setup}
use Rattle.cluster_facts.specs.Types.{Entry}
use Rattle.cluster_facts.specs.History.{Hand}
use Rattle.cluster_events.specs.Lines.{Told, Stood}
use Rattle.cluster_events.specs.declared.lines.ServerRole.{ServerRole}
use Rattle.cluster_events.specs.declared.lines.ServerRole.TheVariants as role
use Rattle.event_text.specs.Texts.{printed, server_line}
use Rattle.group_cluster.specs.Seats as defined
use Rattle.group_cluster.specs.Seats.{Stance, Out, Owed, Linking, Standby}
use Rattle.group_cluster.specs.Falling as falling
use Rattle.group_cluster.specs.Falling.{front_of, next_of, named, all_stood}
use Rattle.group_servers.specs.declared.group.Seat.{Seat}
use Rattle.group_servers.specs.GroupNodes.{node_by, bare}
use Rattle.group_servers.specs.Falls.{all_wayless}
use Rattle.group_servers.specs.Lines.{role_lines, takers, joiners, is_joining, is_joining_by, end_lines, over_lines, fallen_lines, TakesAway, TellsOver, TellsFallen}
use Rattle.group_servers.specs.Tries.{takes}
use Rattle.group_servers.proofs.TriedSteps.{takes-same}

-- Names of the code's servers.

pub takers-named : (setup : Setup) (past : List Entry) (hand : Hand) (fresh : Bool) (owns : List defined.Seat) → takers fresh (bare setup past hand owns) ≡ named (falling.takes fresh) owns
takers-named setup past hand fresh [] = refl
takers-named setup past hand fresh (own ∷ owns) =
    λ i. if takes-same setup past hand fresh own.server own.stance i then own.server ∷ takers-named setup past hand fresh owns i else takers-named setup past hand fresh owns i

joins-one : (setup : Setup) (past : List Entry) (hand : Hand) (stance : Stance) → is_joining_by (node_by setup past hand stance).replica.role ≡ falling.is_joining stance
joins-one setup past hand Out = refl
joins-one setup past hand Owed = refl
joins-one setup past hand (Linking sent) = refl
joins-one setup past hand (Standby on_way mark keeps) = refl

pub joiners-named : (setup : Setup) (past : List Entry) (hand : Hand) (owns : List defined.Seat) → joiners (bare setup past hand owns) ≡ named falling.is_joining owns
joiners-named setup past hand [] = refl
joiners-named setup past hand (own ∷ owns) =
    λ i. if joins-one setup past hand own.stance i then own.server ∷ joiners-named setup past hand owns i else joiners-named setup past hand owns i

-- what is on the way is not read
pub takers-wayless : (fresh : Bool) (seats : List Seat) → takers fresh (all_wayless seats) ≡ takers fresh seats
takers-wayless fresh [] = refl
takers-wayless fresh (seat ∷ seats) = λ i. if takes fresh seat then seat.server ∷ takers-wayless fresh seats i else takers-wayless fresh seats i

pub joiners-wayless : (seats : List Seat) → joiners (all_wayless seats) ≡ joiners seats
joiners-wayless [] = refl
joiners-wayless (seat ∷ seats) = λ i. if is_joining seat then seat.server ∷ joiners-wayless seats i else joiners-wayless seats i

-- What is printed of roles.

printed-stood : (stands_as : ServerRole) (servers : List Server) (told : List Told) → printed (all_stood stands_as servers told) ≡ printed told ++ role_lines stands_as servers
printed-stood stands_as [] told = sym (append-nil (printed told))
printed-stood stands_as (server ∷ servers) told =
    printed-stood stands_as servers (Stood server stands_as ∷ told) ∙ append_assoc (printed told) (server_line server stands_as ∷ []) (role_lines stands_as servers)

-- **one took over**
pub over-printed : (acting now : Server) (count : ℕ) (names joining : List Server) (told : List Told) → now ≡ next_of acting count names → printed (all_stood role.Standby joining (Stood now role.Active ∷ all_stood role.Down (front_of count names) (Stood acting role.Down ∷ told))) ≡ printed told ++ over_lines acting count names joining
over-printed acting now count names joining told is =
    let fallen = all_stood role.Down (front_of count names) (Stood acting role.Down ∷ told) in
    let downs = role_lines role.Down (front_of count names) in
    let active = server_line now role.Active ∷ [] in
    let others = role_lines role.Standby joining in
    let first = server_line acting role.Down ∷ [] in
    printed-stood role.Standby joining (Stood now role.Active ∷ fallen)
    ∙ ap (λ lines. (lines ++ active) ++ others) (printed-stood role.Down (front_of count names) (Stood acting role.Down ∷ told))
    ∙ append_assoc ((printed told ++ first) ++ downs) active others
    ∙ append_assoc (printed told ++ first) downs (active ++ others)
    ∙ append_assoc (printed told) first (downs ++ (active ++ others))
    ∙ ap (λ (server : Server). printed told ++ (server_line acting role.Down ∷ (downs ++ (server_line server role.Active ∷ others)))) is

-- **all failed**
pub fallen-printed : (acting : Server) (names : List Server) (told : List Told) → printed (all_stood role.Down names (Stood acting role.Down ∷ told)) ≡ printed told ++ fallen_lines acting names
fallen-printed acting names told =
    printed-stood role.Down names (Stood acting role.Down ∷ told) ∙ append_assoc (printed told) (server_line acting role.Down ∷ []) (role_lines role.Down names)

-- Which lines stay.

split-names : (failed : ℕ) (left : ℕ) (acting : Server) (names : List Server) → failed + 1 + left ≡ length names → (rest : List Server) × (names ≡ front_of failed names ++ (next_of acting failed names ∷ rest)) × (length rest ≡ left) × (length (front_of failed names) ≡ failed)
split-names zero left acting [] is = absurd (omega arith)
split-names zero left acting (name ∷ names) is = (names, refl, omega arith, refl)
split-names (suc failed) left acting [] is = absurd (omega arith)
split-names (suc failed) left acting (name ∷ names) is =
    let deeper = split-names failed left acting names (omega arith) in
    (deeper.0, ap (λ rest. name ∷ rest) deeper.1, deeper.2, ap suc deeper.3)

lines-of-names : (stands_as : ServerRole) (one other : List Server) → role_lines stands_as (one ++ other) ≡ role_lines stands_as one ++ role_lines stands_as other
lines-of-names stands_as [] other = refl
lines-of-names stands_as (server ∷ one) other = ap (λ rest. server_line server stands_as ∷ rest) (lines-of-names stands_as one other)

pub lines-long : (stands_as : ServerRole) (names : List Server) → length (role_lines stands_as names) ≡ length names
lines-long stands_as [] = refl
lines-long stands_as (name ∷ names) = ap suc (lines-long stands_as names)

pub long-both : {X : Type 0} (one other : List X) → length (one ++ other) ≡ length one + length other
long-both [] other = omega arith
long-both (x ∷ one) other = let deeper = long-both one other in omega arith

-- the lines of all ends, parted where lines go
parted-ends : (acting : Server) (failed : ℕ) (names rest joining : List Server) → names ≡ front_of failed names ++ (next_of acting failed names ∷ rest) → end_lines acting names joining ≡ (server_line acting role.Down ∷ role_lines role.Down (front_of failed names)) ++ ((role_lines role.Down (next_of acting failed names ∷ rest) ++ role_lines role.Active (front_of failed names)) ++ (server_line (next_of acting failed names) role.Active ∷ (role_lines role.Active rest ++ role_lines role.Standby joining)))
parted-ends acting failed names rest joining is =
    let front = front_of failed names in
    let next = next_of acting failed names in
    let downs = role_lines role.Down front in
    let later = role_lines role.Down (next ∷ rest) in
    let gone = role_lines role.Active front in
    let stays = server_line next role.Active ∷ role_lines role.Active rest in
    let others = role_lines role.Standby joining in
    let E : List Server → List Server → List (List ℕ) = λ one other. server_line acting role.Down ∷ (role_lines role.Down one ++ (role_lines role.Active other ++ others)) in
    let L : List (List ℕ) → List (List ℕ) → List (List ℕ) = λ one other. server_line acting role.Down ∷ (one ++ (other ++ others)) in
    (λ i. E (is i) (is i))
    ∙ (λ i. L (lines-of-names role.Down front (next ∷ rest) i) (lines-of-names role.Active front (next ∷ rest) i))
    ∙ ap (λ lines. server_line acting role.Down ∷ lines) (append_assoc downs later ((gone ++ stays) ++ others) ∙ ap (λ lines. downs ++ lines) (ap (λ lines. later ++ lines) (append_assoc gone stays others) ∙ sym (append_assoc later gone (stays ++ others))))

-- Of all lines that were put those stay that tell how the fall ended.

-- **so many lines go, and so many more**
pub over-stays : (base count left : ℕ) (old mid new : List (List ℕ)) → TakesAway (base + (count - left)) count old mid → TakesAway (base + (count - left) + 1) left mid new → TellsOver base count left old new
over-stays base count left old mid new one other before acting failed taking joining long many split is =
    let parts = split-names failed left acting taking (omega arith) in
    let rest = parts.0 in
    let front = front_of failed taking in
    let next = next_of acting failed taking in
    let head = before ++ (server_line acting role.Down ∷ role_lines role.Down front) in
    let cut = role_lines role.Down (next ∷ rest) ++ role_lines role.Active front in
    let tail = server_line next role.Active ∷ (role_lines role.Active rest ++ role_lines role.Standby joining) in
    let where_is : old ≡ head ++ (cut ++ tail) = is ∙ ap (λ lines. before ++ lines) (parted-ends acting failed taking rest joining parts.1) ∙ sym (append_assoc before (server_line acting role.Down ∷ role_lines role.Down front) (cut ++ tail)) in
    let one_long = long-both before (server_line acting role.Down ∷ role_lines role.Down front) in
    let downs_long = lines-long role.Down front in
    let cut_long = long-both (role_lines role.Down (next ∷ rest)) (role_lines role.Active front) in
    let later_long = lines-long role.Down rest in
    let gone_long = lines-long role.Active front in
    let rest_long = parts.2 in
    let front_long = parts.3 in
    let first : mid ≡ head ++ tail = one head cut tail where_is (omega arith) (omega arith) in
    let second_head = head ++ (server_line next role.Active ∷ []) in
    let second_cut = role_lines role.Active rest in
    let second_tail = role_lines role.Standby joining in
    let there : mid ≡ second_head ++ (second_cut ++ second_tail) = first ∙ sym (append_assoc head (server_line next role.Active ∷ []) (second_cut ++ second_tail)) in
    let head_long = long-both head (server_line next role.Active ∷ []) in
    let active_long = lines-long role.Active rest in
    let last : new ≡ second_head ++ second_tail = other second_head second_cut second_tail there (omega arith) (omega arith) in
    last ∙ append_assoc head (server_line next role.Active ∷ []) second_tail ∙ append_assoc before (server_line acting role.Down ∷ role_lines role.Down front) (server_line next role.Active ∷ second_tail)

-- lines from the front on
take-front : (one other : List (List ℕ)) (count : ℕ) → length one ≡ count → take count (one ++ other) ≡ one
take-front [] other zero is = refl
take-front [] other (suc count) is = cc
take-front (line ∷ one) other zero is = cc
take-front (line ∷ one) other (suc count) is = ap (λ rest. line ∷ rest) (take-front one other count (omega arith))

pub fallen-stays : (base count : ℕ) (old new : List (List ℕ)) → new ≡ take (base + 1 + count) old → TellsFallen base count old new
fallen-stays base count old new taken before acting taking joining long many is =
    let front = before ++ fallen_lines acting taking in
    let others = role_lines role.Active taking ++ role_lines role.Standby joining in
    let same : old ≡ front ++ others = is ∙ sym (append_assoc before (fallen_lines acting taking) others) in
    let front_long = long-both before (fallen_lines acting taking) in
    let downs_long = lines-long role.Down taking in
    taken ∙ ap (take (base + 1 + count)) same ∙ take-front front others (base + 1 + count) (omega arith)

-- none of them stays, or the first
pub none-left : (before put after ends : List (List ℕ)) (count : ℕ) → count ≡ length before → put ≡ before ++ ends → after ≡ take count put → after ≡ before
none-left before put after ends count is put_is taken = taken ∙ ap (take count) put_is ∙ take-front before ends count (sym is)

pub one-left : (before put after : List (List ℕ)) (line : List ℕ) (rest : List (List ℕ)) (count : ℕ) → count ≡ length before → put ≡ before ++ line ∷ rest → after ≡ take (count + 1) put → after ≡ before ++ line ∷ []
one-left before put after line rest count is put_is taken =
    let whole = long-both before (line ∷ []) in
    taken ∙ ap (take (count + 1)) (put_is ∙ sym (append_assoc before (line ∷ []) rest)) ∙ take-front (before ++ line ∷ []) rest (count + 1) (omega arith)
