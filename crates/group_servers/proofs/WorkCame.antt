-- What a work comes to in which the deeds break off, over each state that the cluster stood for.
use Rattle.std.proofs.Common.{◌≡◌, ℕ, suc, ◌+◌, ◌≤◌, Bool, true, false, if◌then◌else◌, Option, Some, None, List, [], ◌∷◌, ◌++◌, refl, ap, sym, ◌∙◌, subst, arith, le_refl}
use Rattle.std.specs.Prelude.{IsSome, is_some, Result, Ok, Err, OnOk, IfErr}
use Rattle.std.specs.List.{AllByRecursion, list_any}
use Rattle.ais_values.specs.Causes.{Rose}
use Rattle.disk_model.specs.Counts as counts
use Rattle.disk_model.specs.declared.answers.DiskAnswer.{DiskAnswer}
use Rattle.disk_model.specs.declared.answers.DiskAnswer.TheVariants.{Memory, Failed, Stopped}
use Rattle.disk_model.specs.DeviceCalls.{DeviceCall, BreaksOff, LeftOn}
use Rattle.disk_model.specs.Seen.{DiskSeen}
use Rattle.disk_model.specs.declared.tally.Tally.{Tally}
use Rattle.stream_layout.specs.Deeds.{calls_of_all}
use Rattle.script_lines.specs.declared.line.Server.{Server}
use Rattle.plain_service.specs.Setups.{Setup}
use Rattle.plain_service.specs.Storing.{deeds_of}
use Rattle.cluster_facts.specs.Types.{Entry}
use Rattle.cluster_facts.specs.History.{Hand, Empty, Waiting, Applied, Ready}
use Rattle.cluster_events.specs.Lines.{Stood}
use Rattle.cluster_events.specs.Servers.{State}
use Rattle.cluster_events.specs.declared.lines.ServerRole.TheVariants as role
use Rattle.event_text.specs.Texts.{printed, server_line}
use Rattle.mirror.specs.Working.{deeds_in}
use Rattle.group_cluster.specs.Seats as defined
use Rattle.group_cluster.specs.Seats.{Stance, Out, Owed, Linking, Standby, Peers, Agree, IsArmed, any_seat, count_seats, on_seats, is_standby}
use Rattle.group_cluster.specs.Falling.{named, all_stood}
use Rattle.group_cluster.specs.Ended.{ended, left_out}
use Rattle.group_cluster.proofs.Seating.{AllSeats, any-none}
use Rattle.group_cluster.proofs.Stepping.{group_at}
use Rattle.cluster_rounds.specs.declared.cluster.Cluster.{Cluster}
use Rattle.cluster_rounds.specs.Broken.{Broken}
use Rattle.cluster_rounds.specs.Came.{Came, Comes, ComesOff, Ended}
use Rattle.cluster_rounds.specs.Kits.{device_by}
use Rattle.cluster_rounds.specs.Worlds.{Shows, IsGood, HasState, any_state}
use Rattle.cluster_rounds.proofs.BrokenSteps.{broken-between}
use Rattle.cluster_rounds.specs.Seen.{counters_of}
use Rattle.lead_rounds.proofs.LeadSteps.{answered-history, accepted-history}
use Rattle.group_servers.specs.declared.group.Group.{Group}
use Rattle.group_servers.specs.Falls.{IsFitSeat, TookOver, AllFell, FellPartly, TakesOver, all_wayless}
use Rattle.group_servers.specs.GroupCounts.{LacksGroup, count_up}
use Rattle.group_servers.specs.GroupKit.{group_kit}
use Rattle.group_servers.specs.GroupLaws.{group_laws}
use Rattle.group_servers.specs.GroupNodes.{bare, bare_by, seat_by, seats_by}
use Rattle.group_servers.specs.GroupUses.{dealt-none}
use Rattle.group_servers.specs.Prepared.{fell, with_servers}
use Rattle.group_servers.specs.Seats as code
use Rattle.group_servers.specs.Steps.{grew, worked_by, EndsWork}
use Rattle.group_servers.proofs.DealSteps.{Broke, alone-ending}
use Rattle.group_servers.proofs.EndSteps.{ended-by, work-ends}
use Rattle.group_servers.proofs.FallSteps.{wayless-bare, fit-seats, partly-armed}
use Rattle.group_servers.proofs.GroupFiles.{some-of, broke-within, stop-standby}
use Rattle.group_servers.proofs.GroupSteps.{calls_for}
use Rattle.group_servers.proofs.RowSteps.{failed-spent, some-made}
use Rattle.group_servers.proofs.SeatSteps.{at, standby-is}
use Rattle.group_servers.proofs.WorkFalls.{work-over, work-partly, work-ended}
use Rattle.group_servers.proofs.UpSteps.{end-deal, ended-up}
use Rattle.group_servers.proofs.WorkSteps.{ready-for, owed-calls, lacks}

-- An active server without a standby that goes down.

alone-one : (setup : Setup) (past : List Entry) (entry : Entry) (server : Server) (stance : Stance) → Agree (Ready entry) stance → is_standby stance ≡ false → seat_by setup past (Ready entry) (at server stance) ≡ bare_by setup (entry ∷ past) Empty (at server (left_out stance))
alone-one setup past entry server Out agree none = refl
alone-one setup past entry server Owed agree none = refl
alone-one setup past entry server (Linking true) agree none = elim agree [ ]
alone-one setup past entry server (Linking false) agree none = elim agree [ ]
alone-one setup past entry server (Standby on_way mark keeps) agree none = cc

alone-bare : (setup : Setup) (past : List Entry) (entry : Entry) (owns : List defined.Seat) → AllSeats (Agree (Ready entry)) owns → AllSeats (λ stance. is_standby stance ≡ false) owns → seats_by setup past (Ready entry) owns ≡ bare setup (entry ∷ past) Empty (on_seats left_out owns)
alone-bare setup past entry [] agree none = refl
alone-bare setup past entry (own ∷ owns) agree none =
    λ i. alone-one setup past entry own.server own.stance agree.0 none.0 i ∷ alone-bare setup past entry owns agree.1 none.1 i

named-none : (test : Stance → Bool) (owns : List defined.Seat) → AllSeats (λ stance. test stance ≡ false) owns → named test owns ≡ []
named-none test [] none = refl
named-none test (own ∷ owns) none =
    ap (λ b. if b then own.server ∷ named test owns else named test owns) none.0 ∙ named-none test owns none.1

count-none : (test : Stance → Bool) (owns : List defined.Seat) → AllSeats (λ stance. test stance ≡ false) owns → count_seats test owns ≡ 0
count-none test [] none = refl
count-none test (own ∷ owns) none = λ i. (if none.0 i then 1 else 0) + count-none test owns none.1 i

unarmed-alone : (armed : Option ℕ) (owns : List defined.Seat) → IsArmed armed owns → any_seat is_standby owns ≡ false → armed ≡ None
unarmed-alone None owns is none = refl
unarmed-alone (Some left) owns is none = let yes = is.1 in cc

module _ (n : ℕ) where
  -- the device calls of what is in hand, and how they broke off
  abbrev pub owed_in : Cluster (Group n) → List DeviceCall
  owed_in old = calls_of_all (deeds_in old.servers.active.replica.owed)

  abbrev pub BrokeIn : Cluster (Group n) → DiskSeen → DiskSeen → Type 0
  BrokeIn old held mid = Broke held.tally.armed (owed_in old) held mid

  -- a standby is there
  abbrev pub HasNext : Cluster (Group n) → DiskSeen → Type 0
  HasNext old held =
      (setup : Setup) (state : State Peers) → IsGood (group_kit n) setup state → Shows (group_kit n) setup state old → held.tally.armed ≡ state.peers.armed
      → any_seat is_standby state.peers.seats ≡ true

  pub stop-next : (old : Cluster (Group n)) (held : DiskSeen) (count : ℕ) → counts.reaches (suc count) held.tally.armed ≡ true → HasNext old held
  stop-next old held count reached setup state good shows armed =
      stop-standby state.peers.seats state.peers.armed count good.steady.good.armed (subst (λ (a : Option ℕ). counts.reaches (suc count) a ≡ true) armed reached)

  pub standby-shown : (setup : Setup) (state : State Peers) (old : Cluster (Group n)) → IsGood (group_kit n) setup state → Shows (group_kit n) setup state old → list_any code.stands_by old.servers.seats ≡ any_seat is_standby state.peers.seats
  standby-shown setup state old good shows =
      let core = state.world.core in
      ap (λ (servers : Group n). list_any code.stands_by servers.seats) shows.own ∙ standby-is setup core.answered core.hand state.peers.seats good.steady.good.agree

  pub some-next : (old : Cluster (Group n)) (held : DiskSeen) → list_any code.stands_by old.servers.seats ≡ true → HasNext old held
  some-next old held some setup state good shows armed = sym (standby-shown setup state old good shows) ∙ some

  -- the services of all are fit
  pub seats-fit : (old : Cluster (Group n)) → HasState (group_kit n) old → AllByRecursion IsFitSeat old.servers.seats
  seats-fit old has =
      let core = has.state.world.core in
      let owns = has.state.peers.seats in
      fit-seats has.setup core.answered core.hand owns old.servers.seats (answered-history (group_kit n) (group_laws n) has.setup has.state has.good) (accepted-history (group_kit n) (group_laws n) has.setup has.state has.good)
      (ap (λ (servers : Group n). all_wayless servers.seats) has.shows.own ∙ wayless-bare has.setup core.answered core.hand owns)

  -- Standbys tried to take over.

  over-by : (setup : Setup) (state : State Peers) (hand : Hand) (entry : Entry) (old : Cluster (Group n)) (new : Group n) (fresh : Bool) (before after : List (List ℕ)) (held mid left : DiskSeen) → hand ≡ Ready entry → IsGood (group_kit n) setup (group_at state.peers.seats hand state) → Shows (group_kit n) setup (group_at state.peers.seats hand state) old → held.tally.armed ≡ state.peers.armed → fresh ≡ list_any code.is_fresh old.servers.seats → any_seat is_standby state.peers.seats ≡ true → BrokeIn old held mid → TookOver fresh (fell old.servers) new before after mid left → Came (group_kit n) setup (group_at state.peers.seats hand state) (worked_by n setup) (with_servers old new) before after (grew old (with_servers old new)) held left
  over-by setup state (Ready other) entry old new fresh before after held mid left is good shows count fresh_so standby broke took =
      let calls = owed-calls n setup (group_at state.peers.seats (Ready other) state) other old shows refl in
      work-over n setup state other old new fresh before after held mid left good shows count fresh_so standby (subst (λ c. Broke held.tally.armed c held mid) calls broke) took
  over-by setup state Empty entry old new fresh before after held mid left is good shows count fresh_so standby broke took = cc
  over-by setup state (Waiting other) entry old new fresh before after held mid left is good shows count fresh_so standby broke took = cc
  over-by setup state (Applied other) entry old new fresh before after held mid left is good shows count fresh_so standby broke took = cc

  ended-so : (setup : Setup) (state : State Peers) (hand : Hand) (entry : Entry) (old : Cluster (Group n)) (new : Group n) (fresh : Bool) (before after : List (List ℕ)) (held mid left : DiskSeen) → hand ≡ Ready entry → IsGood (group_kit n) setup (group_at state.peers.seats hand state) → Shows (group_kit n) setup (group_at state.peers.seats hand state) old → held.tally.armed ≡ state.peers.armed → fresh ≡ list_any code.is_fresh old.servers.seats → any_seat is_standby state.peers.seats ≡ true → BrokeIn old held mid → AllFell fresh (fell old.servers) new before after mid left → Ended (group_kit n) setup (group_at state.peers.seats hand state) (EndsWork n Failed setup) (with_servers old new) before after held left
  ended-so setup state (Ready other) entry old new fresh before after held mid left is good shows count fresh_so standby broke all =
      let calls = owed-calls n setup (group_at state.peers.seats (Ready other) state) other old shows refl in
      work-ended n setup state other old new fresh before after held mid left good shows count fresh_so standby (subst (λ c. Broke held.tally.armed c held mid) calls broke) all
  ended-so setup state Empty entry old new fresh before after held mid left is good shows count fresh_so standby broke all = cc
  ended-so setup state (Waiting other) entry old new fresh before after held mid left is good shows count fresh_so standby broke all = cc
  ended-so setup state (Applied other) entry old new fresh before after held mid left is good shows count fresh_so standby broke all = cc

  -- memory was wanting
  abbrev LacksOff : Setup → State Peers → Cluster (Group n) → Cluster (Group n) → List (List ℕ) → List (List ℕ) → DiskSeen → DiskSeen → Type 0
  LacksOff setup state old new before after held left =
      (Broken (group_kit n)) setup state held left new × LacksGroup setup state new.history.entries new.servers (counters_of held) (counters_of left)

  partly-by : (setup : Setup) (state : State Peers) (hand : Hand) (entry : Entry) (old : Cluster (Group n)) (new : Group n) (fresh : Bool) (before after : List (List ℕ)) (held mid left : DiskSeen) → hand ≡ Ready entry → IsGood (group_kit n) setup (group_at state.peers.seats hand state) → Shows (group_kit n) setup (group_at state.peers.seats hand state) old → held.tally.armed ≡ state.peers.armed → fresh ≡ list_any code.is_fresh old.servers.seats → any_seat is_standby state.peers.seats ≡ true → BrokeIn old held mid → FellPartly fresh (fell old.servers) new mid left → LacksOff setup (group_at state.peers.seats hand state) old (with_servers old new) before after held left
  partly-by setup state (Ready other) entry old new fresh before after held mid left is good shows count fresh_so standby broke part =
      let now = group_at state.peers.seats (Ready other) state in
      let calls = owed-calls n setup now other old shows refl in
      let made = work-partly n setup state other old new fresh before after held mid left good shows count fresh_so standby (subst (λ c. Broke held.tally.armed c held mid) calls broke) part in
      (lacks n setup now held left old (with_servers old new) good shows refl refl refl refl (λ is. partly-armed fresh (fell old.servers) new mid left part) made.0, made.1)
  partly-by setup state Empty entry old new fresh before after held mid left is good shows count fresh_so standby broke part = cc
  partly-by setup state (Waiting other) entry old new fresh before after held mid left is good shows count fresh_so standby broke part = cc
  partly-by setup state (Applied other) entry old new fresh before after held mid left is good shows count fresh_so standby broke part = cc

  -- **by how a takeover came out**
  pub falls-over : (old : Cluster (Group n)) (new : Group n) (fresh : Bool) (before after : List (List ℕ)) (held mid left : DiskSeen) → IsSome old.servers.active.replica.owed → old.servers.active.waits ≡ None → fresh ≡ list_any code.is_fresh old.servers.seats → HasNext old held → BrokeIn old held mid → (result : Result (Unit {0}) DiskAnswer) → TakesOver fresh result (fell old.servers) new before after mid left → OnOk result (Comes (group_kit n) any_state (worked_by n) old (with_servers old new) before after (grew old (with_servers old new)) held left)
  falls-over old new fresh before after held mid left some none fresh_so next broke (Err answer) takes = tt
  falls-over old new fresh before after held mid left some none fresh_so next broke (Ok done) takes = λ setup state good shows count so.
      let found = ready-for n setup state old shows some none in
      over-by setup state state.world.core.hand found.entry old new fresh before after held mid left found.ready good shows count fresh_so (next setup state good shows count) broke takes

  pub falls-off : (old : Cluster (Group n)) (new : Group n) (fresh : Bool) (before after : List (List ℕ)) (held mid left : DiskSeen) → IsSome old.servers.active.replica.owed → old.servers.active.waits ≡ None → fresh ≡ list_any code.is_fresh old.servers.seats → HasNext old held → BrokeIn old held mid → (result : Result (Unit {0}) DiskAnswer) → TakesOver fresh result (fell old.servers) new before after mid left → IfErr result (λ answer. ComesOff (group_kit n) any_state (EndsWork n) answer old (with_servers old new) before after held left)
  falls-off old new fresh before after held mid left some none fresh_so next broke (Ok done) takes = tt
  falls-off old new fresh before after held mid left some none fresh_so next broke (Err Memory) takes = λ setup state good shows count so.
      let found = ready-for n setup state old shows some none in
      partly-by setup state state.world.core.hand found.entry old new fresh before after held mid left found.ready good shows count fresh_so (next setup state good shows count) broke takes
  falls-off old new fresh before after held mid left some none fresh_so next broke (Err Failed) takes = λ setup state good shows count so.
      let found = ready-for n setup state old shows some none in
      ended-so setup state state.world.core.hand found.entry old new fresh before after held mid left found.ready good shows count fresh_so (next setup state good shows count) broke takes
  falls-off old new fresh before after held mid left some none fresh_so next broke (Err Stopped) takes = elim takes [ ]

  -- There is no standby.

  alone-by : (setup : Setup) (state : State Peers) (hand : Hand) (entry : Entry) (old : Cluster (Group n)) (before after : List (List ℕ)) (count : ℕ) (held left : DiskSeen) → hand ≡ Ready entry → IsGood (group_kit n) setup (group_at state.peers.seats hand state) → Shows (group_kit n) setup (group_at state.peers.seats hand state) old → held.tally.armed ≡ state.peers.armed → any_seat is_standby state.peers.seats ≡ false → left.tally ≡ counts.passed (suc count) held.tally → left.stops ≡ held.stops → BreaksOff (LeftOn Failed) (owed_in old) count held.files left.files → held.faults ≤ left.faults → Rose held.faults left.faults → after ≡ before ++ server_line old.servers.acting role.Down ∷ [] → Ended (group_kit n) setup (group_at state.peers.seats hand state) (EndsWork n Failed setup) (with_servers old (fell old.servers)) before after held left
  unfolding alone-ending
  alone-by setup state (Ready other) entry old before after count held left is good shows armed alone tally stops broke later rose told =
      let now = group_at state.peers.seats (Ready other) state in
      let past = state.world.core.answered in
      let owns = state.peers.seats in
      let new = with_servers old (fell old.servers) in
      let whole = subst (λ c. BreaksOff (LeftOn Failed) c count held.files left.files) (owed-calls n setup now other old shows refl) broke in
      let some : 1 ≤ calls_for n setup past other = some-of count (calls_for n setup past other) (broke-within (LeftOn Failed) (calls_of_all (deeds_of setup past other)) count held.files left.files whole) in
      let none = any-none is_standby owns alone in
      let unarmed = unarmed-alone state.peers.armed owns good.steady.good.armed alone in
      let happened : ℕ → ℕ = λ number. 0 in
      let row : count_seats is_standby owns ≤ 1 = let no = count-none is_standby owns none in omega arith in
      let acting : old.servers.acting ≡ state.peers.acting = ap (λ (servers : Group n). servers.acting) shows.own in
      ended-by n setup now old new before after held left good shows (EndsWork n Failed setup) happened
      (work-ends n setup now old new before after held left good shows (EndsWork n Failed setup) other (λ fails end ends. ends) refl happened some (λ standby. let not = alone in cc) row)
      (record {
        between = held.faults;
        before_it = le_refl held.faults;
        caused = λ never number. refl;
        behind_it = later;
        rose = rose;
        ended = record {
          past = past;
          worked = counters_of held;
          dealt = dealt-none (device_by setup happened) past (counters_of held);
          ending = alone-ending setup past other count held left
              (some-made (LeftOn Failed) (calls_of_all (deeds_of setup past other)) count held.files left.files whole)
              (failed-spent (suc count) held left tally later rose stops)
              (subst (counts.IsShort (suc count)) (sym (armed ∙ unarmed)) (λ some. refl), ap (λ (t : Tally). t.armed) tally ∙ ap (counts.lowered (suc count)) (armed ∙ unarmed));
          downs = end-deal (count_up now) (count_seats is_standby owns) 0 (count_up (ended now).state) (ended-up now) (sym (count-none is_standby owns none));
        };
      })
      (record {
        active = refl;
        seats = ap (λ (servers : Group n). servers.seats) shows.own ∙ alone-bare setup past other owns good.steady.good.agree none;
        acting = acting;
        armed = ap (λ (servers : Group n). servers.armed) shows.own ∙ ap is_some unarmed;
        count = ap (λ (t : Tally). t.armed) tally ∙ ap (counts.lowered (suc count)) (armed ∙ unarmed);
      })
      refl refl shows.history refl refl
      (told ∙ ap (λ (server : Server). before ++ server_line server role.Down ∷ []) acting ∙ ap (λ (names : List Server). before ++ printed (all_stood role.Down names (Stood state.peers.acting role.Down ∷ []))) (sym (named-none is_standby owns none)))
      (λ tells. (broken-between (group_kit n) (group_laws n)) setup now other Failed count held.files left.files whole tells)
  alone-by setup state Empty entry old before after count held left is good shows armed alone tally stops broke later rose told = cc
  alone-by setup state (Waiting other) entry old before after count held left is good shows armed alone tally stops broke later rose told = cc
  alone-by setup state (Applied other) entry old before after count held left is good shows armed alone tally stops broke later rose told = cc

  -- **its deeds fail, and nobody is left**
  pub failed-alone : (old : Cluster (Group n)) (before after : List (List ℕ)) (count : ℕ) (held left : DiskSeen) → IsSome old.servers.active.replica.owed → old.servers.active.waits ≡ None → list_any code.stands_by old.servers.seats ≡ false → left.tally ≡ counts.passed (suc count) held.tally → left.stops ≡ held.stops → BreaksOff (LeftOn Failed) (owed_in old) count held.files left.files → held.faults ≤ left.faults → Rose held.faults left.faults → after ≡ before ++ server_line old.servers.acting role.Down ∷ [] → ComesOff (group_kit n) any_state (EndsWork n) Failed old (with_servers old (fell old.servers)) before after held left
  failed-alone old before after count held left some none alone tally stops broke later rose told setup state good shows armed so =
      let found = ready-for n setup state old shows some none in
      alone-by setup state state.world.core.hand found.entry old before after count held left found.ready good shows armed (sym (standby-shown setup state old good shows) ∙ alone) tally stops broke later rose told
