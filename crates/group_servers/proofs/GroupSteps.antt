-- Steps of the servers: what each leaves, tells and comes to.
use Rattle.std.proofs.Common.{◌≡◌, ℕ, zero, suc, ◌≤◌, Bool, true, false, nat_lt, if◌then◌else◌, Option, Some, None, List, [], ◌∷◌, ◌++◌, length, refl, ap, sym, ◌∙◌, subst, arith}
use Rattle.plain_service.specs.Setups.{Setup, IsMoment}
use Rattle.service_laws.specs.PlainOf.{plain_of}
use Rattle.service_laws.proofs.ServiceLaws.{is_plain}
use Rattle.script_lines.specs.declared.line.Server.{Server}
use Rattle.script_lines.specs.declared.line.Line.TheVariants.{Work}
use Rattle.cluster_facts.specs.Types.{Entry, Called, Receipted}
use Rattle.cluster_facts.specs.Messages.{Posting}
use Rattle.cluster_facts.specs.Service.{Plain}
use Rattle.cluster_facts.specs.History.{Hand, Empty, Waiting, Applied, Ready, committed, committed_by}
use Rattle.cluster_facts.specs.Ranges.{AreInRange}
use Rattle.cluster_events.specs.Lines.{Told, Committed, Stood}
use Rattle.cluster_events.specs.declared.lines.ServerRole.{ServerRole}
use Rattle.cluster_events.specs.declared.lines.ServerRole.TheVariants as role
use Rattle.cluster_events.specs.Outcomes.{Outcome}
use Rattle.cluster_events.specs.Servers.{State, or_else, advance, after_step, advances}
use Rattle.cluster_events.specs.Events.{step_or_refuse, work_next}
use Rattle.cluster_events.specs.Settling.{is_loud}
use Rattle.cluster_events.specs.Devices.{Device, EventBy, answered_in, ComesTo}
use Rattle.event_text.specs.Texts.{printed, lines_of}
use Rattle.group_cluster.specs.Answering.{lines_answering}
use Rattle.group_cluster.specs.Seats.{Seat, Peers, is_sent, is_took, any_seat}
use Rattle.group_cluster.specs.Falling.{taken_by, looked_at, commitment, looked, front_of, named, next_of, takes, is_fresh, is_joining, count_fallen, all_stood, taken_over}
use Rattle.group_cluster.specs.Group.{Turn, mirrored, confirmed, first_turn, step_by, mirror_group, ack_group, falls, work_as, work_by, work_done, work_group, group}
use Rattle.group_cluster.proofs.Seating.{AreRoles, silent, stood, IsTurning, mirrored-turns, confirmed-turns}
use Rattle.group_cluster.proofs.Stepping.{Nears, group_at, Leaves, step-leaves, work-steps}
use Rattle.cluster_clients.specs.Taken.{kept_lines}
use Rattle.cluster_clients.proofs.ToldLines.{less-one, not-less}
use Rattle.cluster_rounds.specs.Kits.{device_by}
use Rattle.cluster_rounds.specs.PartlyDone.{SaysUnasked}
use Rattle.cluster_rounds.specs.Rounds.{advances_by}
use Rattle.cluster_rounds.specs.Worlds.{IsGood}
use Rattle.cluster_rounds.proofs.CameSteps.{ends-longer}
use Rattle.cluster_rounds.proofs.HearSteps.{IsQuiet, quiet-answer}
use Rattle.lead_rounds.proofs.GroupSteps.{unasked-borne}
use Rattle.group_servers.specs.GroupKit.{group_kit}

-- What the lines of a step tell: they are all printed, and are loud where the history grew.

pub record IsTold (state : State Peers) (outcome : Outcome (State Peers)) : Type 0 where
  pub lines : kept_lines outcome.told ≡ printed outcome.told
  pub loud : is_loud outcome.told ≡ nat_lt (length (committed state.world.core)) (length (committed outcome.state.world.core))

-- so are those of roles, with the line of an entry that is committed
record TellsBy (told : List Told) (before after : ℕ) : Type 0 where
  lines : kept_lines told ≡ printed told
  loud : is_loud told ≡ nat_lt before after

roles-tell : {roles : List Told} → AreRoles roles → (count : ℕ) → TellsBy (roles ++ []) count count
roles-tell silent count = record { lines = refl; loud = sym (not-less count) }
roles-tell (stood server) count = record { lines = refl; loud = sym (not-less count) }

commit-tells : {roles : List Told} → AreRoles roles → (past : List Entry) (entry : Entry) (count : ℕ) → count ≡ suc (length past) → TellsBy (roles ++ Committed (suc (length past)) entry ∷ []) (length past) count
commit-tells silent past entry count is = record { lines = refl; loud = sym (less-one (length past)) ∙ ap (nat_lt (length past)) (sym is) }
commit-tells (stood server) past entry count is = record { lines = refl; loud = sym (less-one (length past)) ∙ ap (nat_lt (length past)) (sym is) }

taken-count : (past : List Entry) (seats : List Seat) (entry : Entry) → length (committed_by past (taken_by seats entry)) ≡ suc (length past)
taken-count past seats entry =
    elim (any_seat is_took seats) as (λ b. length (committed_by past (if b then Applied entry else Ready entry)) ≡ suc (length past)) [ true ↦ refl | false ↦ refl ]

looked-tells : {roles : List Told} → AreRoles roles → (past : List Entry) (seats : List Seat) (hand : Hand) → TellsBy (roles ++ commitment seats past hand) (length (committed_by past hand)) (length (committed_by past (looked_at seats hand)))
looked-tells roles past seats Empty = roles-tell roles (length past)
looked-tells roles past seats (Ready entry) = roles-tell roles (suc (length past))
looked-tells {roles = told} roles past seats (Applied entry) = subst (λ (count : ℕ). TellsBy (told ++ []) (suc (length past)) count) (sym (taken-count past seats entry)) (roles-tell roles (suc (length past)))
looked-tells {roles = told} roles past seats (Waiting entry) =
    elim (any_seat is_sent seats) as (λ b. TellsBy (told ++ (if b then [] else Committed (suc (length past)) entry ∷ [])) (length past) (length (committed_by past (if b then Waiting entry else taken_by seats entry)))) [
      | true ↦ roles-tell roles (length past)
      | false ↦ commit-tells roles past entry (length (committed_by past (taken_by seats entry))) (taken-count past seats entry)
    ]

pub looked-told : {roles : List Told} → AreRoles roles → (seats : List Seat) (state : State Peers) → IsTold state (looked seats state.world.core.hand roles state)
looked-told roles seats state =
    let tells = looked-tells roles state.world.core.answered seats state.world.core.hand in
    record { lines = tells.lines; loud = tells.loud }

answer-quiet : (plain : Plain) (past : List Entry) (entry : Entry) (net : List Posting) → IsQuiet (lines_answering plain past entry net)
answer-quiet plain past (Called client number time call) net = quiet-answer plain client number (plain.reply past client number time call) net
answer-quiet plain past (Receipted client key through time) net = record { lines = refl; quiet = refl }

-- nothing is committed by a work and by a takeover
not-grown : (state : State Peers) (entry : Entry) → state.world.core.hand ≡ Ready entry → nat_lt (length (committed state.world.core)) (suc (length state.world.core.answered)) ≡ false
not-grown state entry ready =
    let past = state.world.core.answered in
    (λ i. nat_lt (length (committed_by past (ready i))) (suc (length past))) ∙ not-less (suc (length past))

pub done-tells : (plain : Plain) (calls : ℕ) (entry : Entry) (state : State Peers) → state.world.core.hand ≡ Ready entry → IsTold state (work_done plain calls entry state)
done-tells plain calls entry state ready =
    let quiet = answer-quiet plain state.world.core.answered entry state.world.net in
    record { lines = quiet.lines; loud = quiet.quiet ∙ sym (not-grown state entry ready) }

-- lines of roles behind others
record IsQuietAll (told : List Told) : Type 0 where
  lines : kept_lines told ≡ printed told
  quiet : is_loud told ≡ false

stood-quiet : (server : Server) (stands_as : ServerRole) (told : List Told) → IsQuietAll told → IsQuietAll (Stood server stands_as ∷ told)
stood-quiet server stands_as told is = record { lines = ap (λ lines. lines ++ lines_of (Stood server stands_as)) is.lines; quiet = is.quiet }

all-quiet : (stands_as : ServerRole) (servers : List Server) (told : List Told) → IsQuietAll told → IsQuietAll (all_stood stands_as servers told)
all-quiet stands_as [] told is = is
all-quiet stands_as (server ∷ servers) told is = all-quiet stands_as servers (Stood server stands_as ∷ told) (stood-quiet server stands_as told is)

none-quiet : IsQuietAll []
none-quiet = record { lines = refl; quiet = refl }

pub over-tells : (device : Device) (state : State Peers) (entry : Entry) (hand : Hand) → hand ≡ Ready entry → IsTold (group_at state.peers.seats hand state) (taken_over device (group_at state.peers.seats hand state))
over-tells device state entry (Ready other) is =
    let past = state.world.core.answered in
    let seats = state.peers.seats in
    let fresh = any_seat is_fresh seats in
    let count = count_fallen device fresh (other ∷ past) seats in
    let names = named (takes fresh) seats in
    let acting = next_of state.peers.acting count names in
    let down = stood-quiet state.peers.acting role.Down [] none-quiet in
    let fell = all-quiet role.Down (front_of count names) (Stood state.peers.acting role.Down ∷ []) down in
    let lines = all_stood role.Down (front_of count names) (Stood state.peers.acting role.Down ∷ []) in
    let over = stood-quiet acting role.Active lines fell in
    let all = all-quiet role.Standby (named is_joining seats) (Stood acting role.Active ∷ lines) over in
    record { lines = all.lines; loud = all.quiet ∙ sym (not-less (suc (length past))) }
over-tells device state entry Empty is = cc
over-tells device state entry (Waiting other) is = cc
over-tells device state entry (Applied other) is = cc

-- What a step leaves.

module _ (n : ℕ) where
  pub record IsStep (setup : Setup) (state : State Peers) (outcome : Outcome (State Peers)) : Type 0 where
    pub good : IsGood (group_kit n) setup outcome.state
    pub later : answered_in state ≤ answered_in outcome.state
    pub unasked : SaysUnasked (plain_of setup) state.world outcome.state.world outcome.told
    pub told : IsTold state outcome

  module _ (setup : Setup) where
    abbrev Near : State Peers → Outcome (State Peers) → Type 0
    Near state outcome = Nears n (plain_of setup) (SaysUnasked (plain_of setup)) state outcome

    -- what the facts of a step give of the state behind it
    near-step : (state : State Peers) (outcome : Outcome (State Peers)) → IsGood (group_kit n) setup state → Near state outcome → IsTold state outcome → IsStep setup state outcome
    near-step state outcome good near told =
        let goes = near.steps.goes good.steady.sound in
        record {
          good = record {
            begins = good.begins;
            steady = record { sound = goes.0; good = near.steps.good };
            range = subst AreInRange (sym near.steps.done) good.range;
            moment = subst IsMoment (sym near.steps.stays.now) good.moment;
          };
          later = ends-longer outcome.state.world.core.answered state.world.core.answered near.steps.stays.answered;
          unasked = goes.1;
          told = told;
        }

    abbrev LeavesIf : Device → State Peers → Option (Outcome (State Peers)) → Type 0
    LeavesIf device state found = Leaves n (plain_of setup) (is_plain setup) device (SaysUnasked (plain_of setup)) (unasked-borne (plain_of setup)) state found

    abbrev calm : Device
    calm = device_by setup (λ number. 0)

    -- **a message comes to a server, or from it**, by the turn that it is, the servers that it leaves and the lines of their roles
    pub turn-step : (state : State Peers) (turn : Turn) (seats : List Seat) (roles : List Told) → IsGood (group_kit n) setup state → IsTurning state.world.core.hand turn → AreRoles roles → first_turn turn state.peers.seats ≡ Some (seats, roles) → IsStep setup state (looked seats state.world.core.hand roles state)
    turn-step state turn seats roles good turning are is =
        let found : step_by (first_turn turn state.peers.seats) state ≡ Some (looked seats state.world.core.hand roles state) = ap (λ turned. step_by turned state) is in
        let leaves = step-leaves n (plain_of setup) (is_plain setup) calm (SaysUnasked (plain_of setup)) (unasked-borne (plain_of setup)) state turn turning good.steady.good (first_turn turn state.peers.seats) refl in
        let near = subst (LeavesIf calm state) found leaves in
        near-step state (looked seats state.world.core.hand roles state) good near (looked-told are seats state)

    pub mirror-step : (state : State Peers) (seats : List Seat) (roles : List Told) → IsGood (group_kit n) setup state → AreRoles roles → first_turn (mirrored state.world.core.answered) state.peers.seats ≡ Some (seats, roles) → IsStep setup state (looked seats state.world.core.hand roles state)
    mirror-step state seats roles good are is =
        turn-step state (mirrored state.world.core.answered) seats roles good (mirrored-turns state.world.core.answered state.world.core.hand) are is

    pub ack-step : (state : State Peers) (seats : List Seat) (roles : List Told) → IsGood (group_kit n) setup state → AreRoles roles → first_turn confirmed state.peers.seats ≡ Some (seats, roles) → IsStep setup state (looked seats state.world.core.hand roles state)
    ack-step state seats roles good are is = turn-step state confirmed seats roles good (confirmed-turns state.world.core.hand) are is

    -- The work of the entry in hand.

    abbrev pub calls_for : List Entry → Entry → ℕ
    calls_for past entry = (device_by setup (λ number. 0)).calls past entry

    -- whether it takes the active server down, by the works that fail
    abbrev pub falls_by : (ℕ → ℕ) → Entry → State Peers → Bool
    falls_by fails entry state = falls (device_by setup fails) state.world.core.answered entry state.peers

    abbrev pub work_so : (ℕ → ℕ) → Entry → Bool → State Peers → Outcome (State Peers)
    work_so fails entry fell state = work_as (plain_of setup) (device_by setup fails) entry fell state

    work-is : (fails : ℕ → ℕ) (state : State Peers) (entry : Entry) → state.world.core.hand ≡ Ready entry → work_group (plain_of setup) (device_by setup fails) state ≡ Some (work_so fails entry (falls_by fails entry state) state)
    work-is fails state entry ready = ap (λ hand. work_by (plain_of setup) (device_by setup fails) hand state) ready

    work-near : (fails : ℕ → ℕ) (state : State Peers) (entry : Entry) → IsGood (group_kit n) setup state → state.world.core.hand ≡ Ready entry → Near state (work_so fails entry (falls_by fails entry state) state)
    work-near fails state entry good ready =
        let device = device_by setup fails in
        subst (LeavesIf device state) (work-is fails state entry ready) (work-steps n (plain_of setup) (is_plain setup) device (SaysUnasked (plain_of setup)) (unasked-borne (plain_of setup)) state good.steady.good)

    work-told : (fails : ℕ → ℕ) (entry : Entry) (fell : Bool) (state : State Peers) → state.world.core.hand ≡ Ready entry → IsTold state (work_so fails entry fell state)
    work-told fails entry true state ready = over-tells (device_by setup fails) state entry state.world.core.hand ready
    work-told fails entry false state ready = done-tells (plain_of setup) (calls_for state.world.core.answered entry) entry state ready

    -- **it is worked, or takes the active server down**
    pub work-step : (fails : ℕ → ℕ) (state : State Peers) (entry : Entry) (fell : Bool) → IsGood (group_kit n) setup state → state.world.core.hand ≡ Ready entry → falls_by fails entry state ≡ fell → IsStep setup state (work_so fails entry fell state)
    work-step fails state entry fell good ready is =
        let near = subst (λ (b : Bool). Near state (work_so fails entry b state)) is (work-near fails state entry good ready) in
        near-step state (work_so fails entry fell state) good near (work-told fails entry fell state ready)

    -- What these are as one step of a drain.

    one-step : (fails : ℕ → ℕ) (state : State Peers) (outcome : Outcome (State Peers)) → advance (group (plain_of setup) (device_by setup fails)) state ≡ Some outcome → advances_by (group_kit n) 1 setup fails state ≡ outcome
    one-step fails state outcome is =
        let servers = group (plain_of setup) (device_by setup fails) in
        ap (λ next. after_step (advances servers zero) next state) is

    mirror-first : (fails : ℕ → ℕ) (state : State Peers) (outcome : Outcome (State Peers)) → mirror_group state ≡ Some outcome → advances_by (group_kit n) 1 setup fails state ≡ outcome
    mirror-first fails state outcome is =
        one-step fails state outcome (ap (λ found. or_else found (or_else (ack_group state) (work_group (plain_of setup) (device_by setup fails) state))) is)

    ack-next : (fails : ℕ → ℕ) (state : State Peers) (outcome : Outcome (State Peers)) → mirror_group state ≡ None → ack_group state ≡ Some outcome → advances_by (group_kit n) 1 setup fails state ≡ outcome
    ack-next fails state outcome none is =
        one-step fails state outcome (λ i. or_else (none i) (or_else (is i) (work_group (plain_of setup) (device_by setup fails) state)))

    -- a step that leaves as much answered
    step-comes : (event : EventBy Peers) (state : State Peers) (outcome : Outcome (State Peers)) → answered_in state ≤ answered_in outcome.state → ((fails : ℕ → ℕ) → event fails state ≡ outcome) → ComesTo event (λ number. 0) state outcome
    step-comes event state outcome later is = record { later = later; is = λ fails agrees. is fails }

    -- **a message on the way to a server, or back, is a step of a drain**
    pub mirror-comes : (state : State Peers) (outcome : Outcome (State Peers)) → IsStep setup state outcome → mirror_group state ≡ Some outcome → ComesTo (advances_by (group_kit n) 1 setup) (λ number. 0) state outcome
    mirror-comes state outcome step is = step-comes (advances_by (group_kit n) 1 setup) state outcome step.later (λ fails. mirror-first fails state outcome is)

    pub ack-comes : (state : State Peers) (outcome : Outcome (State Peers)) → IsStep setup state outcome → mirror_group state ≡ None → ack_group state ≡ Some outcome → ComesTo (advances_by (group_kit n) 1 setup) (λ number. 0) state outcome
    ack-comes state outcome step none is = step-comes (advances_by (group_kit n) 1 setup) state outcome step.later (λ fails. ack-next fails state outcome none is)

    -- An event that works the entry in hand of a state: a step of a drain, or the line `work`.

    abbrev pub IsWork : EventBy Peers → Entry → State Peers → Type 0
    IsWork event entry state = (fails : ℕ → ℕ) → event fails state ≡ work_so fails entry (falls_by fails entry state) state

    pub drain-works : (state : State Peers) (entry : Entry) → mirror_group state ≡ None → ack_group state ≡ None → state.world.core.hand ≡ Ready entry → IsWork (advances_by (group_kit n) 1 setup) entry state
    drain-works state entry no_mirror no_ack ready fails =
        let outcome = work_so fails entry (falls_by fails entry state) state in
        one-step fails state outcome (λ i. or_else (no_mirror i) (or_else (no_ack i) (work-is fails state entry ready i)))

    pub line-works : (state : State Peers) (entry : Entry) → state.world.core.hand ≡ Ready entry → IsWork (λ fails now. work_next (group (plain_of setup) (device_by setup fails)) now) entry state
    line-works state entry ready fails =
        ap (λ found. step_or_refuse (group (plain_of setup) (device_by setup fails)) Work found state) (work-is fails state entry ready)

    -- one answered entry more
    over-later : (fails : ℕ → ℕ) (entry : Entry) (hand : Hand) (state : State Peers) → hand ≡ Ready entry → length (taken_over (device_by setup fails) (group_at state.peers.seats hand state)).state.world.core.answered ≡ suc (answered_in state)
    over-later fails entry (Ready other) state ready = refl
    over-later fails entry Empty state ready = cc
    over-later fails entry (Waiting other) state ready = cc
    over-later fails entry (Applied other) state ready = cc

    work-later : (fails : ℕ → ℕ) (entry : Entry) (fell : Bool) (state : State Peers) → state.world.core.hand ≡ Ready entry → answered_in (work_so fails entry fell state).state ≡ suc (answered_in state)
    work-later fails entry false state ready = refl
    work-later fails entry true state ready = over-later fails entry state.world.core.hand state ready

    pub same-falls : (one other : ℕ → ℕ) (entry : Entry) (state : State Peers) → one (suc (answered_in state)) ≡ other (suc (answered_in state)) → falls_by one entry state ≡ falls_by other entry state
    same-falls one other entry state same =
        let past = state.world.core.answered in
        λ i. falls (record { calls = (device_by setup one).calls; fails = λ number. same i }) past entry state.peers

    -- who takes over rests on the works of the entry in hand alone
    over-same : (one other : ℕ → ℕ) (entry : Entry) (hand : Hand) (state : State Peers) → hand ≡ Ready entry → one (suc (answered_in state)) ≡ other (suc (answered_in state)) → taken_over (device_by setup one) (group_at state.peers.seats hand state) ≡ taken_over (device_by setup other) (group_at state.peers.seats hand state)
    over-same one other entry (Ready found) state ready same =
        λ i. taken_over (record { calls = (device_by setup one).calls; fails = λ number. same i }) (group_at state.peers.seats (Ready found) state)
    over-same one other entry Empty state ready same = cc
    over-same one other entry (Waiting found) state ready same = cc
    over-same one other entry (Applied found) state ready same = cc

    work-same : (one other : ℕ → ℕ) (entry : Entry) (fell : Bool) (state : State Peers) → state.world.core.hand ≡ Ready entry → one (suc (answered_in state)) ≡ other (suc (answered_in state)) → work_so one entry fell state ≡ work_so other entry fell state
    work-same one other entry true state ready same = over-same one other entry state.world.core.hand state ready same
    work-same one other entry false state ready same = refl

    -- **it comes to what the works that failed make of it**
    pub work-comes : (event : EventBy Peers) (happened : ℕ → ℕ) (state : State Peers) (entry : Entry) (fell : Bool) → IsWork event entry state → state.world.core.hand ≡ Ready entry → falls_by happened entry state ≡ fell → ComesTo event happened state (work_so happened entry fell state)
    work-comes event happened state entry fell works ready is =
        let more = work-later happened entry fell state ready in
        record {
          later = omega arith;
          is = λ fails agrees.
              let own = agrees (suc (answered_in state)) (omega arith) (omega arith) in
              works fails ∙ ap (λ b. work_so fails entry b state) (same-falls fails happened entry state own ∙ is) ∙ work-same fails happened entry fell state ready own;
        }
