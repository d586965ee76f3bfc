-- What a crash of the active server comes to.
use Rattle.std.proofs.Common.{◌≡◌, ℕ, zero, suc, ◌+◌, ◌≤◌, ◌<◌, ◌-◌, ◌⊎◌, inl, inr, Bool, true, false, ◌&&◌, ◌||◌, nat_le, nat_lt, if◌then◌else◌, is_some, Option, Some, None, List, [], ◌∷◌, ◌++◌, length, refl, ap, sym, ◌∙◌, subst, arith, le_refl, append-nil}
use Rattle.std.specs.Prelude.{Result, Ok, Err, OnOk, IfErr}
use Rattle.std.specs.List.{AllByRecursion, list_any}
use Rattle.std.specs.Option.{option_to_list}
use Rattle.std.proofs.lemmas.Bool.{lt-ltb}
use Rattle.std.proofs.lemmas.Bool.Decides.{leb_tells}
use Rattle.disk_model.specs.declared.answers.DiskAnswer.{DiskAnswer}
use Rattle.disk_model.specs.declared.answers.DiskAnswer.TheVariants.{Memory, Failed, Stopped}
use Rattle.disk_model.specs.Seen.{DiskSeen}
use Rattle.script_lines.specs.declared.line.Line.TheVariants as line
use Rattle.script_lines.specs.declared.line.Server.{Server}
use Rattle.plain_service.specs.Setups.{Setup}
use Rattle.plain_service.specs.Legal.{IsHistory}
use Rattle.cluster_facts.specs.Types.{Entry}
use Rattle.cluster_facts.specs.History.{Hand, Empty, Waiting, Applied, Ready, committed_by}
use Rattle.cluster_events.specs.Outcomes.{Outcome}
use Rattle.cluster_events.specs.Servers.{State}
use Rattle.event_text.specs.Texts.{printed}
use Rattle.mirror.specs.declared.state.NodeState.{NodeState as Node}
use Rattle.mirror.specs.Replicas.{down}
use Rattle.mirror.specs.Pairing.{alone}
use Rattle.mirror.proofs.ReplicaLaws.{count-is}
use Rattle.lead_server.specs.Parting.{waiting_in, waiting_lines}
use Rattle.group_cluster.specs.Seats as defined
use Rattle.group_cluster.specs.Seats.{Peers, any_seat, count_seats, same_server, is_standby, is_up}
use Rattle.group_cluster.specs.Falling.{catches, caught, caught_seats, caught_hand, caught_lines, failing, is_fresh, crash, crash_active, crash_by, takes, taken_over}
use Rattle.group_cluster.specs.Ended.{HasCalls, ended}
use Rattle.group_cluster.proofs.Crashing.{caught-standby as stands-caught}
use Rattle.group_cluster.proofs.Seating.{any-none, any-on, same-is}
use Rattle.group_cluster.proofs.Sounding.{caught-accepts}
use Rattle.cluster_clients.specs.Clients.{ShowsAgents}
use Rattle.cluster_clients.specs.Spelled.{AreSpelled}
use Rattle.cluster_clients.proofs.DispatchSteps.{agents-as}
use Rattle.cluster_rounds.specs.declared.cluster.Cluster.{Cluster}
use Rattle.cluster_rounds.specs.Broken.{Broken, LeavesBetween}
use Rattle.cluster_rounds.specs.Kits.{device_by}
use Rattle.cluster_rounds.specs.Worlds.{Shows, IsGood, Happened, TellsFiles, LeavesFiles}
use Rattle.cluster_rounds.proofs.BrokenSteps.{whole-broken}
use Rattle.cluster_rounds.proofs.FilesSteps.{left-between}
use Rattle.cluster_rounds.specs.Seen.{counters_of}
use Rattle.cluster_lines.specs.Own.{DoesOn}
use Rattle.cluster_lines.specs.Playing.{BreaksOff, EndsLine, LineEnded}
use Rattle.lead_rounds.proofs.LeadSteps.{answered-history, accepted-history}
use Rattle.group_servers.specs.declared.group.Seat.{Seat}
use Rattle.group_servers.specs.declared.group.Group.{Group}
use Rattle.group_servers.specs.Caught.{CatchesIf, PutsCaught, taken_if}
use Rattle.group_servers.specs.Deals.{AreSome, Spent, last_calls, total}
use Rattle.group_servers.specs.Falls.{IsFitSeat, TookOver, AllFell, FellPartly, StaysAt, all_wayless}
use Rattle.group_servers.specs.Followed.{row_calls}
use Rattle.group_servers.specs.GroupCounts.{CountsCrash, CrashEnded, Crashed, FaultsLine, LacksCrash, UsesLine, count_up, fell_first, kept_calls}
use Rattle.group_servers.specs.GroupCounts.LacksCrash.{Taking}
use Rattle.group_servers.specs.GroupKit.{group_kit, group_script}
use Rattle.group_servers.specs.GroupLaws.{group_laws}
use Rattle.lead_rounds.specs.Leading.{waits_by}
use Rattle.group_servers.specs.GroupNodes.{active_by, seats_by, bare}
use Rattle.group_servers.specs.GroupUses.{spent-as}
use Rattle.group_servers.specs.Parted.{leads}
use Rattle.group_servers.specs.Prepared.{Prepares, Falls, fell}
use Rattle.group_servers.specs.Seats as code
use Rattle.group_servers.specs.Lines.{takers}
use Rattle.group_servers.specs.Steps.{Crashes, CrashesOn, crashed_by}
use Rattle.group_servers.specs.Tried.{Makes, Row, Tried}
use Rattle.group_servers.specs.Tries.{TriesPartly, Tries}
use Rattle.group_servers.proofs.DealSteps.{before-caused, stops-caused, stops-row, stops-tell, stops_before, stops_with, sum-none, behind-is}
use Rattle.group_servers.proofs.DeliverSteps.{MayCome}
use Rattle.group_servers.proofs.EndSteps.{ended-as}
use Rattle.group_servers.proofs.FallLines.{takers-named, takers-wayless}
use Rattle.group_servers.proofs.FallShows.{TellsCount}
use Rattle.group_servers.proofs.FallSteps.{wayless-bare, caught-bare, fit-seats, few-of, count-some, tried, failed-are, took-own, took-lines, took-unarmed, took-later, took-caused, took-up, took-files, plain-good, stale, fell-fell, fell-lines, fell-last, fell-calls, fell-files, fell-many, fell-up, all-tried, named-long, partly-armed, partly-unarmed, tries-unarmed}
use Rattle.group_servers.proofs.GroupFiles.{rest-goes-on, some-calls-so}
use Rattle.group_servers.proofs.MadeSteps.{tries-still}
use Rattle.group_servers.proofs.MirrorSteps.{may-come}
use Rattle.group_servers.proofs.OverSteps.{over-down, over-state, over-says}
use Rattle.group_servers.proofs.RowSteps.{partly-row, row-long, spent-start}
use Rattle.group_servers.proofs.SeatSteps.{catches-is, fresh-bare}
use Rattle.group_servers.proofs.TriedFiles.{all-follow, all-make, partly-leaves, fall-leaves}
use Rattle.group_servers.proofs.TriedSteps.{tried-so}
use Rattle.group_servers.proofs.UpSteps.{caught-up, standbys-up}
use Rattle.group_servers.proofs.WorkCame.{standby-shown}

pub both-true : (one other : Bool) → (one && other) ≡ true → (one ≡ true) × (other ≡ true)
both-true true true is = (refl, refl)
both-true true false is = cc
both-true false other is = cc

-- The standbys catch up, if one has the entry.

prepared-seats : (setup : Setup) (past : List Entry) (hand : Hand) (owns : List defined.Seat) (catching : Bool) (olds news : List Seat) → catches owns hand ≡ catching → IsHistory setup past → MayCome setup past hand → olds ≡ seats_by setup past hand owns → CatchesIf catching olds news → all_wayless news ≡ bare setup past (caught_hand catching hand) (caught_seats catching owns)
prepared-seats setup past hand owns false olds news is history may are same =
    ap all_wayless (same ∙ are) ∙ wayless-bare setup past hand owns
prepared-seats setup past (Waiting entry) owns true olds news is history may are caught =
    caught-bare setup past entry owns news history may.0 (subst (λ (seats : List Seat). CatchesIf true seats news) are caught)
prepared-seats setup past Empty owns true olds news is history may are caught = cc
prepared-seats setup past (Applied entry) owns true olds news is history may are caught = cc
prepared-seats setup past (Ready entry) owns true olds news is history may are caught = cc

less-than-one : (n : ℕ) → nat_le (suc n) n ≡ false
less-than-one n = elim (leb_tells (suc n) n) [
  | inl below ↦ let is = below.1 in absurd (omega arith)
  | inr above ↦ above.0
]

waiting-one : (setup : Setup) (past : List Entry) (entry : Entry) (owns : List defined.Seat) → waiting_in (active_by setup past (Waiting entry) owns) (length past) ≡ Some (suc (length past), entry)
waiting-one setup past entry owns =
    (λ i. if nat_le (count-is setup (entry ∷ past) i) (length past) then None else Some (count-is setup (entry ∷ past) i, entry))
    ∙ (λ i. if less-than-one (length past) i then None else Some (suc (length past), entry))

-- the line of the entry
prepared-lines : (setup : Setup) (past : List Entry) (hand : Hand) (owns : List defined.Seat) (catching : Bool) (entries : ℕ) (before front : List (List ℕ)) → catches owns hand ≡ catching → entries ≡ length (committed_by past hand) → PutsCaught catching (active_by setup past hand owns) entries before front → front ≡ before ++ printed (caught_lines catching past hand)
prepared-lines setup past hand owns false entries before front is many puts = puts ∙ sym (append-nil before)
prepared-lines setup past (Waiting entry) owns true entries before front is many puts =
    puts ∙ ap (λ w. before ++ waiting_lines w) (ap (waiting_in (active_by setup past (Waiting entry) owns)) many ∙ waiting-one setup past entry owns)
prepared-lines setup past Empty owns true entries before front is many puts = cc
prepared-lines setup past (Applied entry) owns true entries before front is many puts = cc
prepared-lines setup past (Ready entry) owns true entries before front is many puts = cc

-- what is committed then
prepared-entries : (past : List Entry) (hand : Hand) (owns : List defined.Seat) (catching : Bool) (entries : List Entry) → catches owns hand ≡ catching → entries ≡ option_to_list (taken_if catching (waits_by hand)) ++ committed_by past hand → entries ≡ committed_by past (caught_hand catching hand)
prepared-entries past hand owns false entries is are = are
prepared-entries past (Waiting entry) owns true entries is are = are
prepared-entries past Empty owns true entries is are = cc
prepared-entries past (Applied entry) owns true entries is are = cc
prepared-entries past (Ready entry) owns true entries is are = cc

fresh-wayless : (seats : List Seat) → list_any code.is_fresh (all_wayless seats) ≡ list_any code.is_fresh seats
fresh-wayless [] = refl
fresh-wayless (seat ∷ seats) = ap (λ b. code.is_fresh seat || b) (fresh-wayless seats)

caught-standby : (catching : Bool) (owns : List defined.Seat) → any_seat is_standby (caught_seats catching owns) ≡ any_seat is_standby owns
caught-standby true owns = any-on is_standby caught stands-caught owns
caught-standby false owns = refl

has-calls : (setup : Setup) (fails : ℕ → ℕ) (history : List Entry) → 1 ≤ length (row_calls setup false history) → HasCalls (device_by setup fails) history
has-calls setup fails [] some = absurd (omega arith)
has-calls setup fails (entry ∷ past) some = some

-- How many fell, by the row of those that failed as they took over.

before-first : (made : List ℕ) → stops_before (length made) ≡ fell_first made
before-first [] = refl
before-first (one ∷ []) = refl
before-first (one ∷ other ∷ made) = refl

-- the last one of a row is not told by the works that failed
failing-row : (setup : Setup) (history : List Entry) (fails many : ℕ) → 1 ≤ length (row_calls setup false history) → many ≤ suc (fails - 1) → many ≤ suc (failing (device_by setup (λ number. fails)) history)
failing-row setup [] fails many some row = absurd (omega arith)
failing-row setup (entry ∷ past) fails many some row =
    let calls = length (row_calls setup false (entry ∷ past)) in
    subst (λ (b : Bool). many ≤ suc (if b then fails - 1 else 0)) (sym (some-calls-so calls some)) row

-- as many are standby once all have the entry in hand
caught-many : (catching : Bool) (owns : List defined.Seat) → count_seats is_standby (caught_seats catching owns) ≡ count_seats is_standby owns
caught-many true [] = refl
caught-many true (own ∷ owns) = λ i. (if stands-caught own.stance i then 1 else 0) + caught-many true owns i
caught-many false owns = refl

few-up : (made takers standbys beside up : ℕ) → suc made ≤ takers → takers ≤ standbys → standbys ≤ beside → beside ≡ up → suc made ≤ up
few-up made takers standbys beside up first second third is = omega arith

module _ (n : ℕ) where
  -- what the code knows of the state where the active server crashes
  pub record Leads (server : Server) (state : State Peers) : Type 0 where
    pub same : same_server server state.peers.acting ≡ true
    pub standby : any_seat is_standby state.peers.seats ≡ true
    pub is : (fails : ℕ → ℕ) (setup : Setup) → crash (device_by setup fails) server state ≡ taken_over (device_by setup fails) state

  pub leads-shown : (setup : Setup) (state : State Peers) (old : Cluster (Group n)) (server : Server) → IsGood (group_kit n) setup state → Shows (group_kit n) setup state old → leads server old.servers ≡ (same_server server state.peers.acting && any_seat is_standby state.peers.seats)
  leads-shown setup state old server good shows =
      λ i. same_server server (ap (λ (servers : Group n). servers.acting) shows.own i) && standby-shown n setup state old good shows i

  pub leads-in : (setup : Setup) (state : State Peers) (old : Cluster (Group n)) (server : Server) → IsGood (group_kit n) setup state → Shows (group_kit n) setup state old → leads server old.servers ≡ true → Leads server state
  leads-in setup state old server good shows so =
      let both = both-true (same_server server state.peers.acting) (any_seat is_standby state.peers.seats) (sym (leads-shown setup state old server good shows) ∙ so) in
      record {
        same = both.0;
        standby = both.1;
        is = λ fails setup.
            let device = device_by setup fails in
            ap (λ b. crash_by device server b state) both.0 ∙ ap (λ b. crash_active device server b state) both.1;
      }

  module _ (old mid : Cluster (Group n)) (catching fresh : Bool) (base : ℕ) (before lines : List (List ℕ)) (prepared : Prepares catching fresh base old mid before lines) (setup : Setup) (state : State Peers) (good : IsGood (group_kit n) setup state) (shows : Shows (group_kit n) setup state old) where
    abbrev past : List Entry
    past = state.world.core.answered

    abbrev hand : Hand
    hand = state.world.core.hand

    abbrev catching_so : Bool
    catching_so = catches state.peers.seats hand

    abbrev owns : List defined.Seat
    owns = caught_seats catching_so state.peers.seats

    abbrev history : List Entry
    history = committed_by past (caught_hand catching_so hand)

    catching-is : catching ≡ catching_so
    catching-is =
        prepared.catching_is ∙ ap (λ (servers : Group n). code.catches servers.seats) shows.own
        ∙ catches-is setup past hand state.peers.seats good.steady.good.waits good.steady.good.agree

    -- the seats then
    seats-are : all_wayless mid.servers.seats ≡ bare setup past (caught_hand catching_so hand) owns
    seats-are =
        prepared-seats setup past hand state.peers.seats catching_so old.servers.seats mid.servers.seats refl (answered-history (group_kit n) (group_laws n) setup state good) (may-come n setup state good) (ap (λ (servers : Group n). servers.seats) shows.own)
        (subst (λ b. CatchesIf b old.servers.seats mid.servers.seats) catching-is prepared.caught)

    -- they are fit
    pub prepared-fit : AllByRecursion IsFitSeat mid.servers.seats
    prepared-fit =
        fit-seats setup past (caught_hand catching_so hand) owns mid.servers.seats (answered-history (group_kit n) (group_laws n) setup state good) (subst (λ (h : List Entry). IsHistory setup h) (sym (caught-accepts past catching_so hand)) (accepted-history (group_kit n) (group_laws n) setup state good)) seats-are

    fresh-so : any_seat is_fresh owns ≡ fresh
    fresh-so =
        sym (fresh-bare setup past (caught_hand catching_so hand) owns) ∙ ap (list_any code.is_fresh) (sym seats-are)
        ∙ fresh-wayless mid.servers.seats ∙ sym prepared.fresh_is

    acting-is : mid.servers.acting ≡ state.peers.acting
    acting-is = ap (λ (world : Cluster (Group n)). world.servers.acting) prepared.rest ∙ ap (λ (servers : Group n). servers.acting) shows.own

    -- the lines before those of the fall
    front-is : prepared.front ≡ before ++ printed (caught_lines catching_so past hand)
    front-is =
        let P : Node → Type 0 = λ node. PutsCaught catching_so node (length old.history.entries) before prepared.front in
        let puts = subst (λ b. PutsCaught b old.servers.active (length old.history.entries) before prepared.front) catching-is prepared.puts in
        prepared-lines setup past hand state.peers.seats catching_so (length old.history.entries) before prepared.front refl (ap length shows.history) (subst P (ap (λ (servers : Group n). servers.active) shows.own) puts)

    some-standby : any_seat is_standby state.peers.seats ≡ true → 1 ≤ count_seats is_standby owns
    some-standby standby = count-some is_standby owns (caught-standby catching_so state.peers.seats ∙ standby)

    -- more than one where one of them failed before another took over
    two-stand : (count : ℕ) → 1 ≤ count → count < count_seats (takes fresh) owns → nat_lt 1 (count_seats is_standby state.peers.seats) ≡ true
    two-stand count some less =
        let most = few-of fresh owns in
        let same = caught-many catching_so state.peers.seats in
        lt-ltb 1 (count_seats is_standby state.peers.seats) (omega arith)

    -- those that may take over make the calls of the deeds that are kept
    kept-long : (fails : ℕ → ℕ) → length (row_calls setup fresh history) ≡ kept_calls (device_by setup fails) state
    kept-long fails =
        row-long setup fails fresh history ∙ ap (λ (f : Bool). if f then 0 else last_calls (device_by setup fails) history) (sym fresh-so)

    makes-row : AllByRecursion (Makes (row_calls setup fresh history) fresh) (bare setup past (caught_hand catching_so hand) owns)
    makes-row =
        all-make setup past (caught_hand catching_so hand) fresh owns (all-follow past hand state.peers.seats catching_so refl good.steady.good.agree) (λ no. any-none is_fresh owns (fresh-so ∙ no))

    own-row : (fails : ℕ → ℕ) (news : List Seat) (found : Option ℕ) (start left : DiskSeen) → (row : Tried setup past (caught_hand catching_so hand) fresh owns news found start left) → Row (kept_calls (device_by setup fails) state) row.count (is_some found) start left
    own-row fails news found start left row =
        subst (λ (k : ℕ). Row k row.count (is_some found) start left) (kept-long fails) (row.row (row_calls setup fresh history) makes-row)

    module _ (new : Cluster (Group n)) (after : List (List ℕ)) (held left : DiskSeen) (result : Result (Unit {0}) DiskAnswer) (falls : Falls catching fresh result mid new prepared.front after held left) (standby : any_seat is_standby state.peers.seats ≡ true) where
      net-is : new.net ≡ old.net
      net-is = ap (λ (world : Cluster (Group n)). world.net) falls.rest ∙ ap (λ (world : Cluster (Group n)). world.net) prepared.rest

      agents-are : new.agents ≡ old.agents
      agents-are = ap (λ (world : Cluster (Group n)). world.agents) falls.rest ∙ ap (λ (world : Cluster (Group n)). world.agents) prepared.rest

      now-is : new.now ≡ old.now
      now-is = ap (λ (world : Cluster (Group n)). world.now) falls.rest ∙ ap (λ (world : Cluster (Group n)). world.now) prepared.rest

      callbacks-are : new.callbacks ≡ old.callbacks
      callbacks-are = ap (λ (world : Cluster (Group n)). world.callbacks) falls.rest ∙ ap (λ (world : Cluster (Group n)). world.callbacks) prepared.rest

      entries-are : new.history.entries ≡ history
      entries-are =
          let waits = ap (λ (world : Cluster (Group n)). world.servers.active.waits) prepared.rest ∙ ap (λ (servers : Group n). servers.active.waits) shows.own in
          prepared-entries past hand state.peers.seats catching_so new.history.entries refl
          (falls.entries ∙ (λ i. option_to_list (taken_if (catching-is i) (waits i)) ++ (prepared.entries ∙ shows.history) i))

      abbrev over : (ℕ → ℕ) → Outcome (State Peers)
      over fails = taken_over (device_by setup fails) state

      -- **a standby took over**, behind those that failed
      module _ (took : TookOver fresh (fell mid.servers) new.servers prepared.front after held left) where
        abbrev row : Tried setup past (caught_hand catching_so hand) fresh owns took.tried (Some took.place) took.start left
        row = tried n setup state good (fell mid.servers) new.servers fresh prepared.front after held left seats-are fresh-so acting-is refl took

        -- the server that crashed is the first that fell, where one failed
        abbrev fell_so : ℕ → ℕ
        fell_so = λ number. stops_with row.count

        tells : TellsCount n setup state good.steady.good.names good.steady.good.agree took.start left fell_so row.count
        tells number = stops-tell row.count

        later-so : held.faults ≤ left.faults
        later-so = took-later n setup state good (fell mid.servers) new.servers fresh prepared.front after held left seats-are fresh-so acting-is refl took

        -- where none failed the disk had no fault
        no-fault : row.count ≡ 0 → left.faults ≡ held.faults
        no-fault none =
            let failed = failed-are n setup state good (fell mid.servers) new.servers fresh prepared.front after held left seats-are fresh-so acting-is refl took ∙ none in
            let counted = took.counted in
            let same = ap length (takers-wayless fresh mid.servers.seats) in
            tries-still fresh (all_wayless mid.servers.seats) took.tried (Some took.place) took.place took.start left refl took.tries (omega arith) ∙ took.started.faults

        -- so a fault is outlived by more than one standby alone
        outlived : held.faults < left.faults → nat_lt 1 (count_seats is_standby state.peers.seats) ≡ true
        outlived less = by row.count refl
          where
            by : (count : ℕ) → row.count ≡ count → nat_lt 1 (count_seats is_standby state.peers.seats) ≡ true
            by zero none = let same = no-fault none in absurd (omega arith)
            by (suc count) is = two-stand row.count (subst (λ (k : ℕ). 1 ≤ k) (sym is) (omega arith)) row.next.0

        over-happened : Happened (group_kit n) setup (over fell_so) new before after
        over-happened = (
          record {
            own = took-own n setup state good (fell mid.servers) new.servers fresh prepared.front after held left seats-are fresh-so acting-is refl took fell_so tells;
            net = subst (λ m. AreSpelled state.world.net m) (sym net-is) shows.net;
            agents = subst (λ a. ShowsAgents (over fell_so).state.world a) (sym agents-are) (agents-as state.world (over fell_so).state.world old.agents refl refl refl shows.agents);
            history = entries-are;
            now = now-is ∙ shows.now;
            callbacks = callbacks-are ∙ shows.callbacks;
          },
          over-state setup state n good fell_so,
          took-lines n setup state good (fell mid.servers) new.servers fresh prepared.front after held left seats-are fresh-so acting-is refl took fell_so before tells front-is,
        )

        -- and the disk counted the calls of the deeds that they kept
        crashed : Crashed (device_by setup fell_so) state (over fell_so).state (counters_of held) (counters_of left)
        crashed =
            let counted = own-row fell_so took.tried (Some took.place) took.start left row in
            let made = counted.made in
            record {
              row = made;
              downs = subst (λ (k : ℕ). count_up state ≡ suc k + count_up (over fell_so).state) (sym counted.long) (took-up n setup state good (fell mid.servers) new.servers fresh prepared.front after held left seats-are fresh-so acting-is refl took fell_so tells);
              fell = ap stops_with (sym counted.long) ∙ behind-is made;
              some = counted.some;
              spent = spent-start (total made + kept_calls (device_by setup fell_so) state) (length made) 0 held took.start left took.started counted.spent;
            }

        over-unarmed : left.tally.armed ≡ None
        over-unarmed = took-unarmed n setup state good (fell mid.servers) new.servers fresh prepared.front after held left seats-are fresh-so acting-is refl took

        over-files : TellsFiles setup state held.files → LeavesFiles setup (over fell_so).state held.files left.files
        over-files told =
            took-files n setup state good (fell mid.servers) new.servers fresh prepared.front after held left seats-are fresh-so acting-is refl took fell_so held.files standby (rest-goes-on setup state held.files told)

        over-crashes : (server : Server) → (same_server server state.peers.acting && any_seat is_standby state.peers.seats) ≡ true → ((f : ℕ → ℕ) → crash (device_by setup f) server state ≡ over f) → Crashes n server setup state new before after held left
        over-crashes server leads_so is = record {
          fails = fell_so;
          is = subst (λ (o : Outcome (State Peers)). Happened (group_kit n) setup o new before after) (sym (is fell_so)) over-happened;
          count = subst (λ (o : Outcome (State Peers)). left.tally.armed ≡ o.state.peers.armed) (sym (is fell_so)) over-unarmed;
          files = λ told. subst (λ (o : Outcome (State Peers)). LeavesFiles setup o.state held.files left.files) (sym (is fell_so)) (over-files told);
          uses = subst (λ (o : Outcome (State Peers)). UsesLine setup (line.Crash server) fell_so state o held.files (counters_of held) (counters_of left)) (sym (is fell_so)) (record {
            caused = stops-caused row.count held.faults left.faults (took-caused n setup state good (fell mid.servers) new.servers fresh prepared.front after held left seats-are fresh-so acting-is refl took);
            later = later-so;
            felled = λ less. (outlived less, over-down setup state fell_so);
            counts = subst (λ (b : Bool). CountsCrash b (device_by setup fell_so) state (over fell_so).state (counters_of held) (counters_of left)) (sym leads_so) crashed;
          });
        }

      -- **memory was wanting**: what was committed stays so, and some may have failed before
      crash-partly : FellPartly fresh (fell mid.servers) new.servers held left → (Broken (group_kit n)) setup state held left new × LacksCrash setup state new.history.entries new.servers (counters_of held) (counters_of left)
      crash-partly partly = (
        (whole-broken (group_kit n) (group_laws n)) setup state (over (λ number. 0)).state (over (λ number. 0)).told held left new (over-state setup state n good (λ number. 0)).steady.sound (over-says setup state n good (λ number. 0))
            (subst (λ m. AreSpelled state.world.net m) (sym net-is) shows.net)
            (subst (λ a. ShowsAgents (over (λ number. 0)).state.world a) (sym agents-are) (agents-as state.world (over (λ number. 0)).state.world old.agents refl refl refl shows.agents))
            entries-are (now-is ∙ shows.now) (λ is. partly-armed fresh (fell mid.servers) new.servers held left partly) (λ told. files-so told partly.part),
        lacks-so partly.part partly.stays,
      ) where
        T : List Seat → Type 0
        T seats = TriesPartly fresh seats partly.start left

        files-so : TellsFiles setup state held.files → TriesPartly fresh (all_wayless mid.servers.seats) partly.start left ⊎ ((seats : List Seat) × (place : ℕ) × Tries fresh (all_wayless mid.servers.seats) seats (Some place) partly.start left) → LeavesBetween setup history held.files left.files
        files-so told (inl part) = partly-leaves n setup state (plain-good n setup state good) standby held.files held.files (rest-goes-on setup state held.files told) fresh fresh-so partly.start left partly.started.files (subst T seats-are part)
        files-so told (inr made) =
            let O : List Seat → Type 0 = λ seats. Tries fresh seats made.0 (Some made.1) partly.start left in
            let leaves = fall-leaves n setup state (plain-good n setup state good) standby held.files held.files (rest-goes-on setup state held.files told) fresh fresh-so made.0 (Some made.1) partly.start left partly.started.files (subst O seats-are made.2) in
            let behind = over-state setup state n good (λ number. 0) in
            left-between setup (over (λ number. 0)).state held.files left.files behind.begins behind.steady.sound behind.range leaves

        uncounted-so : TriesPartly fresh (all_wayless mid.servers.seats) partly.start left ⊎ ((seats : List Seat) × (place : ℕ) × Tries fresh (all_wayless mid.servers.seats) seats (Some place) partly.start left) → left.tally.armed ≡ None
        uncounted-so (inl part) = partly-unarmed fresh (all_wayless mid.servers.seats) partly.start left partly.started.armed part
        uncounted-so (inr made) = tries-unarmed fresh (all_wayless mid.servers.seats) made.0 (Some made.1) partly.start left partly.started.armed made.2

        -- by how many failed
        lacks-by : (made : List ℕ) (last : ℕ) → AllByRecursion (AreSome (length (row_calls setup fresh history))) made → last ≤ length (row_calls setup fresh history) → suc (length made) ≤ count_seats (takes fresh) owns → Spent (total made + last) (length made) 0 (counters_of held) (counters_of left) → ((new.servers.acting ≡ state.peers.acting) × (new.servers.active ≡ alone down)) ⊎ (last ≡ length (row_calls setup fresh history)) → LacksCrash setup state new.history.entries new.servers (counters_of held) (counters_of left)
        lacks-by made last some most few spent out =
            let kept = kept-long (λ number. 0) in
            Taking made last entries-are (subst (λ (k : ℕ). AllByRecursion (AreSome k) made) kept some) (subst (λ (k : ℕ). last ≤ k) kept most) spent
            (few-up (length made) (count_seats (takes fresh) owns) (count_seats is_standby owns) (count_seats is_up owns) (count_up state) few (few-of fresh owns) (standbys-up owns) (caught-up catching_so state.peers.seats))
            (record { unarmed = partly.unarmed; out = subst (λ (k : ℕ). ((new.servers.acting ≡ state.peers.acting) × (new.servers.active ≡ alone down)) ⊎ (last ≡ k)) kept out }) (uncounted-so partly.part)

        started-spent : (calls fails : ℕ) → Spent calls fails 0 (counters_of partly.start) (counters_of left) → Spent calls fails 0 (counters_of held) (counters_of left)
        started-spent calls fails spent = spent-start calls fails 0 held partly.start left partly.started spent

        taking-long : length (takers fresh (bare setup past (caught_hand catching_so hand) owns)) ≡ count_seats (takes fresh) owns
        taking-long = ap length (takers-named setup past (caught_hand catching_so hand) fresh owns) ∙ named-long (takes fresh) owns

        lacks-so : (part : TriesPartly fresh (all_wayless mid.servers.seats) partly.start left ⊎ ((seats : List Seat) × (place : ℕ) × Tries fresh (all_wayless mid.servers.seats) seats (Some place) partly.start left)) → StaysAt (fell mid.servers) new.servers part → LacksCrash setup state new.history.entries new.servers (counters_of held) (counters_of left)
        lacks-so (inl part) stays =
            let row = partly-row (row_calls setup fresh history) fresh (bare setup past (caught_hand catching_so hand) owns) partly.start left makes-row (subst T seats-are part) in
            lacks-by row.made row.last row.some row.more.1 (subst (λ (k : ℕ). suc (length row.made) ≤ k) taking-long row.few)
            (started-spent (total row.made + row.last) (length row.made) row.spent) (inl (stays.1 ∙ acting-is, stays.0))
        lacks-so (inr made) stays =
            let tried = tried-so setup past (caught_hand catching_so hand) fresh owns (all_wayless mid.servers.seats) made.0 (Some made.1) partly.start left seats-are made.2 in
            let row = tried.row (row_calls setup fresh history) makes-row in
            lacks-by row.made (length (row_calls setup fresh history)) row.some (le_refl (length (row_calls setup fresh history))) (subst (λ (k : ℕ). suc k ≤ count_seats (takes fresh) owns) (sym row.long) tried.next.0)
            (started-spent (total row.made + length (row_calls setup fresh history)) (length row.made) row.spent) (inr refl)

      -- **each of them failed**
      abbrev fell_all : ℕ → ℕ
      fell_all = λ number. stops_before (count_seats is_standby owns)

      crash-ended : AllFell fresh (fell mid.servers) new.servers prepared.front after held left → LineEnded (group_kit n) group_script setup state (line.Crash state.peers.acting) new before after held left
      crash-ended all =
          let some = some-standby standby in
          let last = fell-last n setup state good (fell mid.servers) new.servers fresh prepared.front after held left seats-are fresh-so acting-is refl all some in
          let calls = fell-calls n setup state good (fell mid.servers) new.servers fresh prepared.front after held left seats-are fresh-so acting-is refl all some in
          let none = fresh-so ∙ stale n setup state good (fell mid.servers) new.servers fresh prepared.front after held left seats-are fresh-so acting-is refl all in
          let row = failing-row setup history (stops_before (count_seats is_standby owns)) (count_seats is_standby owns) calls (stops-row (count_seats is_standby owns)) in
          ended-as n setup state old new before after held left good shows
          (λ happened end. EndsLine (group_kit n) group_script (line.Crash state.peers.acting) setup happened state end)
          (λ happened end. FaultsLine setup (line.Crash state.peers.acting) happened state end.state (counters_of held) (counters_of left)) printed fell_all
          (record {
            active = refl;
            standby = standby;
            none = none;
            calls = has-calls setup fell_all history calls;
            row = subst (λ (k : ℕ). k ≤ suc (failing (device_by setup fell_all) history)) (caught-many catching_so state.peers.seats) row;
            is = refl;
          })
          (record {
            between = last.between;
            before_it = last.before_it;
            caused = before-caused (count_seats is_standby owns) held.faults last.between last.first;
            behind_it = last.behind_it;
            rose = last.rose;
            ended = crash-fell all;
          })
          refl
          (fell-fell n setup state good (fell mid.servers) new.servers fresh prepared.front after held left seats-are fresh-so acting-is refl all)
          net-is agents-are entries-are now-is callbacks-are
          (fell-lines n setup state good (fell mid.servers) new.servers fresh prepared.front after held left seats-are fresh-so acting-is refl all before front-is)
          (λ told. fell-files n setup state good (fell mid.servers) new.servers fresh prepared.front after held left seats-are fresh-so acting-is refl all held.files standby (rest-goes-on setup state held.files told))
        where
          crash-fell : AllFell fresh (fell mid.servers) new.servers prepared.front after held left → CrashEnded (device_by setup fell_all) state (ended state).state (counters_of held) (counters_of left)
          crash-fell all =
              let tried = all-tried n setup state good (fell mid.servers) new.servers fresh prepared.front after held left seats-are fresh-so acting-is refl all in
              let count = fell-many n setup state good (fell mid.servers) new.servers fresh prepared.front after held left seats-are fresh-so acting-is refl all in
              let counted = own-row fell_all new.servers.seats None all.start left tried in
              let made = counted.made in
              record {
                row = made;
                downs = subst (λ (k : ℕ). count_up state ≡ k + count_up (ended state).state) (sym counted.long) (fell-up n setup state good (fell mid.servers) new.servers fresh prepared.front after held left seats-are fresh-so acting-is refl all);
                fell = ap stops_before (sym (counted.long ∙ count)) ∙ before-first made;
                some = counted.some;
                spent = spent-as _ _ _ _ _ _ (counters_of held) (counters_of left) (sum-none (total made)) refl refl
                    (spent-start (total made + 0) (length made) 0 held all.start left all.started counted.spent);
              }

  -- **by how the takeover came out**
  module _ (server : Server) (old mid new : Cluster (Group n)) (catching fresh : Bool) (base : ℕ) (before lines after : List (List ℕ)) (held left : DiskSeen) (so : leads server old.servers ≡ true) (prepared : Prepares catching fresh base old mid before lines) where
    pub crash-does : (result : Result (Unit {0}) DiskAnswer) → Falls catching fresh result mid new prepared.front after held left → OnOk result (CrashesOn n server old new before after held left)
    crash-does (Err answer) falls = tt
    crash-does (Ok done) falls = λ setup state good shows armed.
        let found = leads-in setup state old server good shows so in
        let leads_so = sym (leads-shown setup state old server good shows) ∙ so in
        over-crashes old mid catching fresh base before lines prepared setup state good shows new after held left (Ok done) falls found.standby falls.ends server leads_so (λ f. found.is f setup)

    pub crash-off : (result : Result (Unit {0}) DiskAnswer) → Falls catching fresh result mid new prepared.front after held left → IfErr result (λ answer. BreaksOff (group_kit n) group_script answer (line.Crash server) old new before after held left)
    crash-off (Ok done) falls = tt
    crash-off (Err Memory) falls = λ setup state good shows armed.
        let found = leads-in setup state old server good shows so in
        crash-partly old mid catching fresh base before lines prepared setup state good shows new after held left (Err Memory) falls found.standby falls.ends
    crash-off (Err Failed) falls = λ setup state good shows armed.
        let found = leads-in setup state old server good shows so in
        let C : Server → Type 0 = λ s. LineEnded (group_kit n) group_script setup state (line.Crash s) new before after held left in
        subst C (sym (same-is server state.peers.acting found.same)) (crash-ended old mid catching fresh base before lines prepared setup state good shows new after held left (Err Failed) falls found.standby falls.ends)
    crash-off (Err Stopped) falls = elim falls.ends [ ]

  -- a crash that leaves the disk alone
  pub calm-crashes : (server : Server) (old new : Cluster (Group n)) (before after : List (List ℕ)) (held left : DiskSeen) → DoesOn (group_kit n) group_script (line.Crash server) (crashed_by n server) old new before after held left → CrashesOn n server old new before after held left
  calm-crashes server old new before after held left does setup state good shows armed =
      let done = does setup state good shows armed in
      record { fails = λ number. 0; is = done.0; count = done.1; files = done.2; uses = done.3 }
