-- What a work comes to that takes the active server down.
use Rattle.std.proofs.Common.{◌≡◌, ℕ, suc, ◌+◌, ◌-◌, ◌≤◌, ◌⊎◌, inl, inr, Bool, true, false, ◌||◌, is_some, Option, Some, None, List, [], ◌∷◌, length, refl, ap, sym, ◌∙◌, subst, arith, le_refl, le_trans, append-nil}
use Rattle.std.specs.List.{AllByRecursion, list_any}
use Rattle.ais_values.specs.Causes.{Rose}
use Rattle.disk_model.specs.Counts as counts
use Rattle.disk_model.specs.declared.answers.DiskAnswer.TheVariants.{Failed, Stopped}
use Rattle.disk_model.specs.DeviceCalls.{LeftOn}
use Rattle.disk_model.specs.Seen.{DiskSeen}
use Rattle.stream_layout.specs.Deeds.{calls_of_all}
use Rattle.plain_service.specs.Setups.{Setup}
use Rattle.plain_service.specs.Storing.{deeds_of}
use Rattle.cluster_facts.specs.Types.{Entry}
use Rattle.cluster_facts.specs.History.{Ready, committed}
use Rattle.cluster_events.specs.Servers.{State}
use Rattle.cluster_events.specs.Devices.{IsCaused}
use Rattle.group_cluster.specs.Seats as defined
use Rattle.group_cluster.specs.Seats.{Clear, Sent, Took, Stance, Out, Owed, Linking, Standby, Peers, Agree, any_seat, count_seats, is_standby}
use Rattle.group_cluster.specs.Falling.{is_fresh, takes, taken_over}
use Rattle.group_cluster.specs.Ended.{ended}
use Rattle.group_cluster.proofs.Seating.{AllSeats, any-none}
use Rattle.group_cluster.proofs.Stepping.{group_at}
use Rattle.cluster_clients.proofs.DispatchSteps.{agents-as}
use Rattle.mirror.specs.Replicas.{down}
use Rattle.mirror.specs.Pairing.{alone}
use Rattle.cluster_rounds.specs.declared.cluster.Cluster.{Cluster}
use Rattle.cluster_rounds.specs.Broken.{LeavesBetween}
use Rattle.cluster_rounds.specs.Came.{Came, Ended}
use Rattle.cluster_rounds.specs.Kits.{device_by}
use Rattle.cluster_rounds.specs.Worlds.{Shows, IsGood, TellsFiles}
use Rattle.cluster_rounds.proofs.FilesSteps.{left-between}
use Rattle.cluster_rounds.specs.Seen.{counters_of}
use Rattle.group_servers.specs.declared.group.Seat.{Seat}
use Rattle.group_servers.specs.declared.group.Group.{Group}
use Rattle.group_servers.specs.Falls.{TookOver, AllFell, FellPartly, StaysAt, all_wayless}
use Rattle.group_servers.specs.Followed.{GoesOnFrom, row_calls}
use Rattle.group_servers.specs.Deals.{ArmedIn, downs_by}
use Rattle.group_servers.specs.GroupCounts.{HasFallen, LacksGroup, count_up}
use Rattle.group_servers.specs.GroupKit.{group_kit}
use Rattle.group_servers.specs.GroupNodes.{bare}
use Rattle.group_servers.specs.GroupUses.{dealt-none}
use Rattle.group_servers.specs.Lines.{takers}
use Rattle.group_servers.specs.Prepared.{fell, with_servers}
use Rattle.group_servers.specs.Seats as code
use Rattle.group_servers.specs.Steps.{grew, worked_by, EndsWork}
use Rattle.group_servers.specs.Tried.{Makes, Row, Tried}
use Rattle.group_servers.specs.Tries.{Tries, TriesPartly}
use Rattle.group_servers.proofs.DealSteps.{Broke, FellSome, before-caused, downs-are, ends_with, fails-row, fell-dealt, fell-ending, fell-lacked, fells, stops-caused, stops-row, stops-tell, went_by}
use Rattle.group_servers.proofs.DealSteps.Broke.{stopped, failed}
use Rattle.group_servers.proofs.EndSteps.{ended-by, work-ends}
use Rattle.group_servers.proofs.FallLines.{takers-named}
use Rattle.group_servers.proofs.FallShows.{TellsCount}
use Rattle.group_servers.proofs.FallSteps.{wayless-bare, few-of, named-long, tried, took-own, took-up, took-lines, took-unarmed, took-later, took-caused, took-files, plain-good, fell-fell, fell-lines, fell-last, fell-files, count-some, all-tried, partly-unarmed, tries-unarmed}
use Rattle.group_servers.proofs.GroupFiles.{some-of, broke-within, work-breaks, stop-falls, stops-at, fault-falls}
use Rattle.group_servers.proofs.GroupSteps.{calls_for, falls_by, line-works, work-step, work-comes}
use Rattle.group_servers.proofs.OverSteps.{over-down, over-state}
use Rattle.group_servers.proofs.RowSteps.{PartlyRow, partly-row, some-all}
use Rattle.group_servers.proofs.SeatSteps.{fresh-is}
use Rattle.group_servers.proofs.UpSteps.{end-deal, ended-up, lost-few, over-deal, standbys-up, taken-few}
use Rattle.group_servers.proofs.TriedFiles.{all-follow, all-make, partly-leaves, fall-leaves}
use Rattle.group_servers.proofs.TriedSteps.{tried-so}
use Rattle.group_servers.proofs.WorkSteps.{step-came}

some-fallen : (downs count : ℕ) → downs ≡ suc count → downs + 0 ≡ 0 → ⊥
some-fallen downs count some none = omega arith

-- Standbys beside an entry that is ready keep its deeds.
none-fresh : (entry : Entry) (owns : List defined.Seat) → AllSeats (Agree (Ready entry)) owns → any_seat is_fresh owns ≡ false
none-fresh entry [] agree = refl
none-fresh entry (own ∷ owns) agree = λ i. keeps own.stance agree.0 i || none-fresh entry owns agree.1 i
  where
    keeps : (stance : Stance) → Agree (Ready entry) stance → is_fresh stance ≡ false
    keeps Out agree = refl
    keeps Owed agree = refl
    keeps (Linking sent) agree = refl
    keeps (Standby on_way Clear true) agree = refl
    keeps (Standby on_way Clear false) agree = elim agree [ ]
    keeps (Standby on_way Sent kept) agree = elim agree [ ]
    keeps (Standby on_way Took kept) agree = elim agree [ ]

module _ (n : ℕ) where
  module _ (setup : Setup) (state : State Peers) (entry : Entry) (old : Cluster (Group n)) (new : Group n) (fresh : Bool) (before after : List (List ℕ)) (held mid left : DiskSeen) (good : IsGood (group_kit n) setup (group_at state.peers.seats (Ready entry) state)) (shows : Shows (group_kit n) setup (group_at state.peers.seats (Ready entry) state) old) (count_is : held.tally.armed ≡ state.peers.armed) (fresh_so : fresh ≡ list_any code.is_fresh old.servers.seats) (standby : any_seat is_standby state.peers.seats ≡ true) (broke : Broke held.tally.armed (calls_of_all (deeds_of setup state.world.core.answered entry)) held mid) where
    abbrev now : State Peers
    now = group_at state.peers.seats (Ready entry) state

    abbrev past : List Entry
    past = state.world.core.answered

    seats-are : all_wayless old.servers.seats ≡ bare setup past (Ready entry) state.peers.seats
    seats-are = ap (λ (servers : Group n). all_wayless servers.seats) shows.own ∙ wayless-bare setup past (Ready entry) state.peers.seats

    fresh-so : any_seat is_fresh state.peers.seats ≡ fresh
    fresh-so =
        sym (fresh-is setup past (Ready entry) state.peers.seats good.steady.good.agree)
        ∙ sym (ap (λ (servers : Group n). list_any code.is_fresh servers.seats) shows.own) ∙ sym fresh_so

    acting-is : old.servers.acting ≡ state.peers.acting
    acting-is = ap (λ (servers : Group n). servers.acting) shows.own

    goes-on : TellsFiles setup now held.files → GoesOnFrom setup now held.files mid.files
    goes-on tells = by broke
      where
        by : Broke held.tally.armed (calls_of_all (deeds_of setup past entry)) held mid → GoesOnFrom setup now held.files mid.files
        by (stopped count off reached stands tally stops) = work-breaks n setup now entry Stopped count held.files mid.files refl off tells
        by (failed count off later rose tally stops) = work-breaks n setup now entry Failed count held.files mid.files refl off tells

    some-calls : 1 ≤ calls_for n setup past entry
    some-calls = by broke
      where
        by : Broke held.tally.armed (calls_of_all (deeds_of setup past entry)) held mid → 1 ≤ calls_for n setup past entry
        by (stopped count off reached stands tally stops) = some-of count (calls_for n setup past entry) (broke-within (LeftOn Stopped) (calls_of_all (deeds_of setup past entry)) count held.files mid.files off)
        by (failed count off later rose tally stops) = some-of count (calls_for n setup past entry) (broke-within (LeftOn Failed) (calls_of_all (deeds_of setup past entry)) count held.files mid.files off)

    -- those that may take over make the calls of the entry's deeds
    never-fresh : fresh ≡ false
    never-fresh = sym fresh-so ∙ none-fresh entry state.peers.seats good.steady.good.agree

    makes-row : AllByRecursion (Makes (row_calls setup fresh (entry ∷ past)) fresh) (bare setup past (Ready entry) state.peers.seats)
    makes-row =
        let agree = good.steady.good.agree in
        all-make setup past (Ready entry) fresh state.peers.seats (all-follow past (Ready entry) state.peers.seats false refl agree) (λ no. any-none is_fresh state.peers.seats (fresh-so ∙ no))

    own-row : (new : List Seat) (found : Option ℕ) (start end : DiskSeen) → (tried : Tried setup past (Ready entry) fresh state.peers.seats new found start end) → Row (calls_for n setup past entry) tried.count (is_some found) start end
    own-row new found start end tried =
        let R : Bool → Type 0 = λ f. Row (length (row_calls setup f (entry ∷ past))) tried.count (is_some found) start end in
        subst R never-fresh (tried.row (row_calls setup fresh (entry ∷ past)) makes-row)

    later-so : held.faults ≤ mid.faults
    later-so = by broke
      where
        by : Broke held.tally.armed (calls_of_all (deeds_of setup past entry)) held mid → held.faults ≤ mid.faults
        by (stopped count off reached stands tally stops) = subst (λ (m : ℕ). held.faults ≤ m) (sym stands) (le_refl held.faults)
        by (failed count off later rose tally stops) = later

    fells-tell : (count : ℕ) → (fells broke count ≡ suc count) ⊎ ((count ≡ 0) × (fells broke count ≡ 0))
    fells-tell count = by broke
      where
        by : (b : Broke held.tally.armed (calls_of_all (deeds_of setup past entry)) held mid) → (fells b count ≡ suc count) ⊎ ((count ≡ 0) × (fells b count ≡ 0))
        by (stopped at off reached stands tally stops) = stops-tell count
        by (failed at off later rose tally stops) = inl refl

    -- the active server falls then, whatever number tells it
    falls-so : (fails : ℕ) → FellSome broke fails → falls_by n setup (λ number. fails) entry now ≡ true
    falls-so fails some = by broke some
      where
        by : (b : Broke held.tally.armed (calls_of_all (deeds_of setup past entry)) held mid) → FellSome b fails → falls_by n setup (λ number. fails) entry now ≡ true
        by (stopped count off reached stands tally stops) fell =
            stop-falls state.peers.seats state.peers.armed count (calls_for n setup past entry) fails good.steady.good.armed (subst (λ (armed : Option ℕ). counts.reaches (suc count) armed ≡ true) count_is reached.1) (broke-within (LeftOn Stopped) (calls_of_all (deeds_of setup past entry)) count held.files mid.files off)
        by (failed count off later rose tally stops) fell =
            fault-falls state.peers.seats state.peers.armed count (calls_for n setup past entry) fails (broke-within (LeftOn Failed) (calls_of_all (deeds_of setup past entry)) count held.files mid.files off) standby fell

    -- the armed count told how the work went, and none is left
    armed-in : left.tally.armed ≡ None → ArmedIn (calls_for n setup past entry) (went_by broke) held.tally.armed left.tally.armed
    armed-in none = by broke
      where
        by : (b : Broke held.tally.armed (calls_of_all (deeds_of setup past entry)) held mid) → ArmedIn (calls_for n setup past entry) (went_by b) held.tally.armed left.tally.armed
        by (stopped count off reached stands tally stops) = (
          count_is ∙ stops-at state.peers.seats state.peers.armed count good.steady.good.armed (subst (counts.IsShort count) count_is reached.0) (subst (λ (armed : Option ℕ). counts.reaches (suc count) armed ≡ true) count_is reached.1),
          none,
        )
        by (failed count off later rose tally stops) = (tally.0, none)

    -- **a standby took over**
    pub work-over : TookOver fresh (fell old.servers) new before after mid left → Came (group_kit n) setup now (worked_by n setup) (with_servers old new) before after (grew old (with_servers old new)) held left
    unfolding fell-dealt
    work-over took =
        let row = tried n setup now good (fell old.servers) new fresh before after mid left seats-are fresh-so acting-is refl took in
        let counted = own-row took.tried (Some took.place) took.start left row in
        let unarmed = took-unarmed n setup now good (fell old.servers) new fresh before after mid left seats-are fresh-so acting-is refl took in
        let fails = fells broke row.count in
        let happened : ℕ → ℕ = λ number. fails in
        let tells : TellsCount n setup now good.steady.good.names good.steady.good.agree took.start left happened row.count = λ number. fells-tell row.count in
        let fell_so = falls-so fails (some-fell row.count broke) in
        let outcome = taken_over (device_by setup happened) now in
        let later = took-later n setup now good (fell old.servers) new fresh before after mid left seats-are fresh-so acting-is refl took in
        step-came n setup now outcome (worked_by n setup) happened old (with_servers old new) before after held left shows (work-step n setup happened now entry true good refl fell_so) (work-comes n setup (worked_by n setup) happened now entry true (line-works n setup now entry refl) refl fell_so)
        (caused-so row.count (took-caused n setup now good (fell old.servers) new fresh before after mid left seats-are fresh-so acting-is refl took) later)
        (le_trans later-so later) (λ more. over-down setup now happened)
        (record {
          dealt = fell-dealt setup past entry held.tally.armed held mid took.start left broke took.started row.count counted (armed-in unarmed);
          downs =
              over-deal (count_up now) (downs_by (went_by broke) counted.made) row.count (count_up outcome.state)
              (took-up n setup now good (fell old.servers) new fresh before after mid left seats-are fresh-so acting-is refl took happened tells)
              (downs-are broke counted.made ∙ ap suc counted.long);
          stays = λ none. absurd (some-fallen (downs_by (went_by broke) counted.made) row.count (downs-are broke counted.made ∙ ap suc counted.long) none);
        })
        (record {
          own = took-own n setup now good (fell old.servers) new fresh before after mid left seats-are fresh-so acting-is refl took happened tells;
          net = shows.net;
          agents = agents-as now.world outcome.state.world old.agents refl refl refl shows.agents;
          history = shows.history;
          now = shows.now;
          callbacks = shows.callbacks;
        })
        (took-lines n setup now good (fell old.servers) new fresh before after mid left seats-are fresh-so acting-is refl took happened before tells (sym (append-nil before)))
        unarmed
        (λ told. took-files n setup now good (fell old.servers) new fresh before after mid left seats-are fresh-so acting-is refl took happened held.files standby (goes-on told))
      where
        some-fell : (count : ℕ) (b : Broke held.tally.armed (calls_of_all (deeds_of setup past entry)) held mid) → FellSome b (fells b count)
        some-fell count (stopped at off reached stands tally stops) = tt
        some-fell count (failed at off later rose tally stops) = omega arith

        caused-so : (count : ℕ) → (1 ≤ count → Rose mid.faults left.faults) → mid.faults ≤ left.faults → IsCaused held.faults left.faults (λ number. fells broke count)
        caused-so count rose later = by broke
          where
            by : (b : Broke held.tally.armed (calls_of_all (deeds_of setup past entry)) held mid) → IsCaused held.faults left.faults (λ number. fells b count)
            by (stopped at off reached stands tally stops) = stops-caused count held.faults left.faults (λ some. subst (λ (m : ℕ). Rose m left.faults) stands (rose some))
            by (failed at off before_it first tally stops) = λ never number. absurd (never (le_trans first later))

    -- **memory was wanting, as one took over or behind it**
    pub work-partly : FellPartly fresh (fell old.servers) new mid left → (TellsFiles setup now held.files → LeavesBetween setup (committed now.world.core) held.files left.files) × LacksGroup setup now old.history.entries new (counters_of held) (counters_of left)
    unfolding fell-lacked
    work-partly partly = (
      λ told. files-so told partly.part,
      record {
        happened = λ number. fells broke (length row.made);
        past = past;
        worked = counters_of held;
        dealt = dealt-none (device_by setup (λ number. fells broke (length row.made))) past (counters_of held);
        lacked = fell-lacked setup past entry held.tally.armed held mid partly.start left broke partly.started old.history.entries (λ made calls. HasFallen now.peers.acting new made calls) (count_seats (takes fresh) state.peers.seats) row shows.history (record { unarmed = partly.unarmed; out = (row-by partly.part).1 partly.stays }) (armed-in (uncounted-so partly.part));
        downs =
            lost-few (downs_by (went_by broke) row.made) (length row.made) (count_seats (takes fresh) state.peers.seats) (count_seats is_standby state.peers.seats) (count_up now)
            (downs-are broke row.made) row.few (few-of fresh state.peers.seats) (standbys-up state.peers.seats);
      },
    ) where
      T : List Seat → Type 0
      T seats = TriesPartly fresh seats partly.start left

      files-so : TellsFiles setup now held.files → TriesPartly fresh (all_wayless old.servers.seats) partly.start left ⊎ ((seats : List Seat) × (place : ℕ) × Tries fresh (all_wayless old.servers.seats) seats (Some place) partly.start left) → LeavesBetween setup (entry ∷ past) held.files left.files
      files-so told (inl part) = partly-leaves n setup now (plain-good n setup now good) standby held.files mid.files (goes-on told) fresh fresh-so partly.start left partly.started.files (subst T seats-are part)
      files-so told (inr over) =
          let O : List Seat → Type 0 = λ seats. Tries fresh seats over.0 (Some over.1) partly.start left in
          let made = fall-leaves n setup now (plain-good n setup now good) standby held.files mid.files (goes-on told) fresh fresh-so over.0 (Some over.1) partly.start left partly.started.files (subst O seats-are over.2) in
          let behind = over-state setup now n good (λ number. 0) in
          left-between setup (taken_over (device_by setup (λ number. 0)) now).state held.files left.files behind.begins behind.steady.sound behind.range made

      -- how many made which calls: the one that took over made all
      row-by : (part : TriesPartly fresh (all_wayless old.servers.seats) partly.start left ⊎ ((seats : List Seat) × (place : ℕ) × Tries fresh (all_wayless old.servers.seats) seats (Some place) partly.start left)) → (row : PartlyRow (calls_for n setup past entry) (count_seats (takes fresh) state.peers.seats) partly.start left) × (StaysAt (fell old.servers) new part → ((new.acting ≡ now.peers.acting) × (new.active ≡ alone down)) ⊎ (row.last ≡ calls_for n setup past entry))
      row-by (inl part) =
          let own = bare setup past (Ready entry) state.peers.seats in
          let R : Bool → ℕ → Type 0 = λ f most. PartlyRow (length (row_calls setup f (entry ∷ past))) most partly.start left in
          let many : length (takers fresh own) ≡ count_seats (takes fresh) state.peers.seats = ap length (takers-named setup past (Ready entry) fresh state.peers.seats) ∙ named-long (takes fresh) state.peers.seats in
          (subst (R false) many (subst (λ f. R f (length (takers fresh own))) never-fresh (partly-row (row_calls setup fresh (entry ∷ past)) fresh (bare setup past (Ready entry) state.peers.seats) partly.start left makes-row (subst T seats-are part))), λ stays. inl (stays.1 ∙ acting-is, stays.0))
      row-by (inr over) =
          let made = tried-so setup past (Ready entry) fresh state.peers.seats (all_wayless old.servers.seats) over.0 (Some over.1) partly.start left seats-are over.2 in
          let all = own-row over.0 (Some over.1) partly.start left made in
          (record { made = all.made; few = taken-few (length all.made) made.count (count_seats (takes fresh) state.peers.seats) all.long made.next.0; some = all.some; last = calls_for n setup past entry; more = some-all (calls_for n setup past entry) some-calls; spent = all.spent }, λ stays. inr refl)

      row : PartlyRow (calls_for n setup past entry) (count_seats (takes fresh) state.peers.seats) partly.start left
      row = (row-by partly.part).0

      uncounted-so : TriesPartly fresh (all_wayless old.servers.seats) partly.start left ⊎ ((seats : List Seat) × (place : ℕ) × Tries fresh (all_wayless old.servers.seats) seats (Some place) partly.start left) → left.tally.armed ≡ None
      uncounted-so (inl part) = partly-unarmed fresh (all_wayless old.servers.seats) partly.start left partly.started.armed part
      uncounted-so (inr over) = tries-unarmed fresh (all_wayless old.servers.seats) over.0 (Some over.1) partly.start left partly.started.armed over.2

    -- **all failed**
    pub work-ended : AllFell fresh (fell old.servers) new before after mid left → Ended (group_kit n) setup now (EndsWork n Failed setup) (with_servers old new) before after held left
    unfolding fell-ending
    work-ended all =
        let many = count_seats is_standby state.peers.seats in
        let some : 1 ≤ many = count-some is_standby state.peers.seats standby in
        let last = fell-last n setup now good (fell old.servers) new fresh before after mid left seats-are fresh-so acting-is refl all some in
        let fails = ends_with broke many in
        let happened : ℕ → ℕ = λ number. fails in
        ended-by n setup now old (with_servers old new) before after held left good shows (EndsWork n Failed setup) happened
        (work-ends n setup now old (with_servers old new) before after held left good shows (EndsWork n Failed setup) entry (λ works end ends. ends) refl happened some-calls (λ it. falls-so fails (some-ends many some broke)) (row-so many some broke))
        (record {
          between = last.between;
          before_it = le_trans later-so last.before_it;
          caused = caused-by many last.between last.first last.before_it;
          behind_it = last.behind_it;
          rose = last.rose;
          ended = record {
            past = past;
            worked = counters_of held;
            dealt = dealt-none (device_by setup happened) past (counters_of held);
            ending = fell-ending setup past entry held.tally.armed held mid all.start left broke all.started many (row-many all)
                (armed-in (fell-fell n setup now good (fell old.servers) new fresh before after mid left seats-are fresh-so acting-is refl all).count);
            downs = end-deal (count_up now) many (length (row-many all).made) (count_up (ended now).state) (ended-up now) (row-many all).long;
          };
        })
        (fell-fell n setup now good (fell old.servers) new fresh before after mid left seats-are fresh-so acting-is refl all) refl refl shows.history refl refl
        (fell-lines n setup now good (fell old.servers) new fresh before after mid left seats-are fresh-so acting-is refl all before (sym (append-nil before)))
        (λ told. fell-files n setup now good (fell old.servers) new fresh before after mid left seats-are fresh-so acting-is refl all held.files standby (goes-on told))
      where
        row-many : (all : AllFell fresh (fell old.servers) new before after mid left) → Row (calls_for n setup past entry) (count_seats is_standby state.peers.seats) false all.start left
        row-many all =
            let tried = all-tried n setup now good (fell old.servers) new fresh before after mid left seats-are fresh-so acting-is refl all in
            let count = tried.next ∙ ap (λ f. count_seats (takes f) state.peers.seats) never-fresh in
            subst (λ (k : ℕ). Row (calls_for n setup past entry) k false all.start left) count (own-row new.seats None all.start left tried)

        some-ends : (count : ℕ) → 1 ≤ count → (b : Broke held.tally.armed (calls_of_all (deeds_of setup past entry)) held mid) → FellSome b (ends_with b count)
        some-ends count some (stopped at off reached stands tally stops) = tt
        some-ends count some (failed at off later rose tally stops) = some

        row-so : (count : ℕ) → 1 ≤ count → (b : Broke held.tally.armed (calls_of_all (deeds_of setup past entry)) held mid) → count ≤ suc (ends_with b count - 1)
        row-so count some (stopped at off reached stands tally stops) = stops-row count
        row-so count some (failed at off later rose tally stops) = fails-row count some

        caused-by : (count between : ℕ) → (2 ≤ count → Rose mid.faults between) → mid.faults ≤ between → IsCaused held.faults between (λ number. ends_with broke count)
        caused-by count between first before_it = by broke
          where
            by : (b : Broke held.tally.armed (calls_of_all (deeds_of setup past entry)) held mid) → IsCaused held.faults between (λ number. ends_with b count)
            by (stopped at off reached stands tally stops) = before-caused count held.faults between (λ more. subst (λ (m : ℕ). Rose m between) stands (first more))
            by (failed at off later rose tally stops) = λ never number. absurd (never (le_trans rose before_it))
