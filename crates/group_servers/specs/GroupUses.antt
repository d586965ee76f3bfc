-- What the disk of servers counted in events in a row.
use Rattle.std.specs.Prelude.{◌≡◌, ℕ, zero, suc, ◌+◌, ◌<◌, ◌≤◌, Bool, true, false, ◌||◌, if◌then◌else◌, Option, List, [], ◌∷◌, ◌++◌, length}
use Rattle.std.proofs.Common.{inl, inr, refl, ap, sym, ◌∙◌, subst, arith, le_refl, le_trans}
use Rattle.std.proofs.lemmas.Bool.{or_left, or_right}
use Rattle.std.specs.List.{AllByRecursion, list_any}
use Rattle.std.proofs.Math.Nat.{eq-or-lt_of_le}
use Rattle.std.proofs.lemmas.List.Folds.{list_any-append}
use Rattle.ais_values.specs.Causes.{Rose, one_more}
use Rattle.disk_model.specs.Counts.{Counters, many_more}
use Rattle.plain_service.specs.Setups.{Setup}
use Rattle.script_lines.specs.declared.line.Server.{Server}
use Rattle.cluster_facts.specs.Lists.{EndsIn, without}
use Rattle.cluster_facts.specs.Types.{Entry}
use Rattle.cluster_events.specs.Lines.{Told, Ignored, is_ignored}
use Rattle.cluster_events.specs.Servers.{State}
use Rattle.cluster_events.specs.Devices.{AgreesIn, Device, spliced}
use Rattle.cluster_events.proofs.Devices.{agrees-first, agrees-second, caused-both}
use Rattle.group_cluster.specs.Seats.{Peers, Seat, Stance, count_seats, is_up, on_seats}
use Rattle.cluster_rounds.specs.Kits.{device_by}
use Rattle.group_servers.specs.declared.group.Group.{Group}
use Rattle.group_servers.specs.Deals.{AreDeals, ArmedAlong, Deal, Dealt, Falling, IsWay, LackedAt, Quiet, RoseTimes, Spent}
use Rattle.group_servers.specs.Deals.{calls_in, downs_at, downs_in, faults_by, faults_in, of_all, stops_in}
use Rattle.group_servers.specs.Deals.AreDeals.{none, more}
use Rattle.group_servers.specs.GroupCounts.{EndedIn, FaultsGroup, HasFallen, HasFallenBehind, LacksBy, LacksCrash, LacksGroup, TellsDown, UsesGroup, WorkedAll}
use Rattle.group_servers.specs.GroupCounts.{count_up, is_down}
use Rattle.group_servers.specs.GroupCounts.LacksCrash.{Unasked, Taking}

-- Counts that rose.

plus-zero : (n : ℕ) → n ≡ n + 0
plus-zero n = omega arith

plus-suc : (a b : ℕ) → suc (a + b) ≡ a + suc b
plus-suc a b = omega arith

pub more-more : (one two count : ℕ) → many_more two (many_more one count) ≡ many_more (one + two) count
more-more one zero count = ap (λ n. many_more n count) (plus-zero one)
more-more one (suc two) count = ap one_more (more-more one two count) ∙ ap (λ n. many_more n count) (plus-suc one two)

times-both : (one two before between now : ℕ) → RoseTimes one before between → RoseTimes two between now → RoseTimes (one + two) before now
times-both one zero before between now first second =
    subst (λ n. RoseTimes n before now) (plus-zero one) (subst (λ n. RoseTimes one before n) (sym second) first)
times-both one (suc two) before between now first second =
    let rest : RoseTimes (suc (one + two)) before now = (second.0, times-both one two before between second.0 first second.1, second.2, second.3) in
    subst (λ n. RoseTimes n before now) (plus-suc one two) rest

times-later : (times before now : ℕ) → RoseTimes times before now → before ≤ now
times-later zero before now is = subst (λ n. before ≤ n) (sym is) (le_refl before)
times-later (suc times) before now rose = le_trans (times-later times before rose.0 rose.1) rose.3

-- a count that rose in one call
pub rose-once : (before now : ℕ) → before ≤ now → Rose before now → RoseTimes 1 before now
rose-once before now later rose = (before, refl, rose, later)

-- What was spent.

pub spent-none : (seen : Counters) → Spent 0 0 0 seen seen
spent-none seen = record { changing = refl; reading = refl; faults = refl; stops = refl }

pub spent-both : (a b f g s t : ℕ) (before between after : Counters) → Spent a f s before between → Spent b g t between after
    → Spent (a + b) (f + g) (s + t) before after
spent-both a b f g s t before between after first second = record {
  changing = second.changing ∙ ap (many_more b) first.changing ∙ more-more a b before.tally.changing;
  reading = second.reading ∙ first.reading;
  faults = times-both f g before.faults between.faults after.faults first.faults second.faults;
  stops = times-both s t before.stops between.stops after.stops first.stops second.stops;
}

pub spent-as : (a b f g s t : ℕ) (before after : Counters) → a ≡ b → f ≡ g → s ≡ t → Spent a f s before after → Spent b g t before after
spent-as a b f g s t before after calls fails halts spent = record {
  changing = spent.changing ∙ ap (λ n. many_more n before.tally.changing) calls;
  reading = spent.reading;
  faults = subst (λ n. RoseTimes n before.faults after.faults) fails spent.faults;
  stops = subst (λ n. RoseTimes n before.stops after.stops) halts spent.stops;
}

-- Servers that are turned into others, each of which is up where it was, are as many.
pub up-on : (change : Stance → Stance) → ((stance : Stance) → is_up (change stance) ≡ is_up stance) → (seats : List Seat)
    → count_seats is_up (on_seats change seats) ≡ count_seats is_up seats
up-on change same [] = refl
up-on change same (seat ∷ seats) = λ i. (if same seat.stance i then 1 else 0) + up-on change same seats i

-- Deals.

sum-append : (count : Deal → ℕ) (one two : List Deal) → of_all count one + of_all count two ≡ of_all count (two ++ one)
sum-append count one [] = omega arith
sum-append count one (deal ∷ two) = let rest = sum-append count one two in omega arith

deals-both : (old middle new : List Entry) (one two : List Deal) → AreDeals old middle one → AreDeals middle new two → AreDeals old new (two ++ one)
deals-both old middle new one [] first none = first
deals-both old middle new one (deal ∷ two) first (more {now = now} entry went row second) =
    more entry went row (deals-both old middle now one two first second)

-- the histories behind which they are
deals-grow : {old new : List Entry} {deals : List Deal} → AreDeals old new deals → length old ≤ length new
deals-grow none = le_refl _
deals-grow (more entry went row are) = let rest = deals-grow are in omega arith

-- by another device that fails alike in these works
ways-agree : (setup : Setup) (one other : ℕ → ℕ) {old new : List Entry} {deals : List Deal} → AreDeals old new deals
    → AgreesIn (length old) (length new) one other → AllByRecursion (IsWay (device_by setup one)) deals
    → AllByRecursion (IsWay (device_by setup other)) deals
ways-agree setup one other none agrees ways = tt
ways-agree setup one other (more {now = now} entry went row are) agrees ways =
    let grown = deals-grow are in (
      record { fell = agrees (suc (length now)) (omega arith) (omega arith) ∙ ways.0.fell; went = ways.0.went },
      ways-agree setup one other are (λ number above within. agrees number above (omega arith)) ways.1,
    )

all-both : (P : Deal → Type 0) (one two : List Deal) → AllByRecursion P one → AllByRecursion P two → AllByRecursion P (two ++ one)
all-both P one [] first second = first
all-both P one (deal ∷ two) first second = (second.0, all-both P one two first second.1)

abbrev pub dealt-none : (device : Device) (past : List Entry) (seen : Counters) → Dealt device past past seen seen
dealt-none device past seen = record { deals = []; are = none; ways = tt; spent = spent-none seen; armed = refl }

-- of the same history, though it is said otherwise
pub dealt-same : (device : Device) (past new : List Entry) (seen : Counters) → new ≡ past → Dealt device past new seen seen
dealt-same device past new seen same = record {
  deals = [];
  are = subst (λ (history : List Entry). AreDeals past history []) (sym same) none;
  ways = tt;
  spent = spent-none seen;
  armed = refl;
}

-- as many servers are up
up-same : (old new : ℕ) → new ≡ old → old ≡ 0 + new
up-same old new same = omega arith

pub worked-same : (device : Device) (old new : State Peers) (seen : Counters) → new.world.core.answered ≡ old.world.core.answered
    → count_up new ≡ count_up old → new.peers.acting ≡ old.peers.acting → WorkedAll device old new seen seen
unfolding dealt-same
worked-same device old new seen same up leads = record {
  dealt = dealt-same device old.world.core.answered new.world.core.answered seen same;
  downs = up-same (count_up old) (count_up new) up;
  stays = λ nobody. leads;
}

-- the armed count along works in a row
armed-both : (calls : List Entry → Entry → ℕ) (one two : List Deal) (before between after : Option ℕ) → ArmedAlong calls one before between
    → ArmedAlong calls two between after → ArmedAlong calls (two ++ one) before after
armed-both calls one [] before between after first second =
    subst (λ (armed : Option ℕ). ArmedAlong calls one before armed) (sym second) first
armed-both calls one (deal ∷ two) before between after first second =
    (second.0, armed-both calls one two before between second.0 first second.1, second.2)

-- so many went down, and then so many more
downs-both : (one two : List Deal) (first middle last : ℕ) → first ≡ of_all downs_in one + middle → middle ≡ of_all downs_in two + last
    → first ≡ of_all downs_in (two ++ one) + last
downs-both one two first middle last before after = let all = sum-append downs_in one two in omega arith

-- none in both is none in each
none-both : (one two : List Deal) → of_all downs_in (two ++ one) ≡ 0 → (of_all downs_in one ≡ 0) × (of_all downs_in two ≡ 0)
none-both one two nobody = let all = sum-append downs_in one two in (omega arith, omega arith)

downs-less : (one two : List Deal) (first middle last : ℕ) → first ≡ of_all downs_in one + middle → of_all downs_in two + last ≤ middle
    → of_all downs_in (two ++ one) + last ≤ first
downs-less one two first middle last before after = let all = sum-append downs_in one two in omega arith

module _ (setup : Setup) (one two : ℕ → ℕ) (first middle : State Peers) (held between : Counters)
    (before : WorkedAll (device_by setup one) first middle held between) where
  abbrev past : List Entry
  past = first.world.core.answered

  abbrev behind_it : List Entry
  behind_it = middle.world.core.answered

  abbrev both : ℕ → ℕ
  both = spliced (length behind_it) one two

  dealt-both : (new : List Entry) (left : Counters) → Dealt (device_by setup two) behind_it new between left
      → Dealt (device_by setup both) past new held left
  dealt-both new left after =
      let device = device_by setup both in
      let ones = before.dealt.deals in
      let twos = after.deals in
      let less = deals-grow before.dealt.are in
      let grown = deals-grow after.are in
      record {
        deals = twos ++ ones;
        are = deals-both past behind_it new ones twos before.dealt.are after.are;
        ways =
            let agrees = agrees-first (length past) (length behind_it) (length new) one two both grown (λ number above within. refl) in
            let second = agrees-second (length past) (length behind_it) (length new) one two both less (λ number above within. refl) in
            all-both (IsWay device) ones twos (ways-agree setup one both before.dealt.are agrees before.dealt.ways)
            (ways-agree setup two both after.are second after.ways);
        spent =
            let calls = calls_in device in
            let all = spent-both (of_all calls ones) (of_all calls twos) (of_all faults_in ones) (of_all faults_in twos) (of_all stops_in ones)
            (of_all stops_in twos) held between left before.dealt.spent after.spent
            in
            spent-as _ _ _ _ _ _ held left (sum-append calls ones twos) (sum-append faults_in ones twos) (sum-append stops_in ones twos) all;
        armed = armed-both device.calls ones twos held.tally.armed between.tally.armed left.tally.armed before.dealt.armed after.armed;
      }

  worked-both : (new : State Peers) (left : Counters) → WorkedAll (device_by setup two) middle new between left
      → WorkedAll (device_by setup both) first new held left
  unfolding dealt-both
  worked-both new left after = record {
    dealt = dealt-both new.world.core.answered left after.dealt;
    downs = downs-both before.dealt.deals after.dealt.deals (count_up first) (count_up middle) (count_up new) before.downs after.downs;
    stays = λ nobody.
        let each = none-both before.dealt.deals after.dealt.deals nobody in
        after.stays each.1 ∙ before.stays each.0;
  }

  -- the work behind a longer history is that of the second event
  behind-is : (last : List Entry) → length behind_it ≤ length last → both (suc (length last)) ≡ two (suc (length last))
  behind-is last grown =
      agrees-second (length behind_it) (length behind_it) (suc (length last)) one two both (le_refl (length behind_it))
      (λ number above within. refl) (suc (length last)) (omega arith) (le_refl (suc (length last)))

  ended-both : (now : State Peers) (left : Counters) → EndedIn (device_by setup two) middle now between left
      → EndedIn (device_by setup both) first now held left
  unfolding dealt-both
  ended-both now left after =
      let ending = after.ending in
      record {
        past = after.past;
        worked = after.worked;
        dealt = dealt-both after.past after.worked after.dealt;
        ending = record {
          entry = ending.entry;
          last = ending.last;
          went = ending.went;
          row = ending.row;
          fell = behind-is after.past (deals-grow after.dealt.are) ∙ ending.fell;
          way = ending.way;
          fallen = ending.fallen;
          spent = ending.spent;
          armed = ending.armed;
        };
        downs =
            downs-both before.dealt.deals after.dealt.deals (count_up first) (count_up middle) (length ending.row + count_up now)
            before.downs after.downs;
      }

  lacked-both : (entries last : List Entry) (Left : (made calls : ℕ) → Type 0) (worked left : Counters) → length behind_it ≤ length last
      → LackedAt (device_by setup two) entries last Left worked left → LackedAt (device_by setup both) entries last Left worked left
  lacked-both entries last Left worked left grown (Quiet ends calls made faults stops) = Quiet ends calls made faults stops
  lacked-both entries last Left worked left grown (Falling entry went row made is fallen fell way some spent out counted) =
      Falling entry went row made is fallen (behind-is last grown ∙ fell) way some spent out counted

  lacked-downs : (entries last : List Entry) (Left : (made calls : ℕ) → Type 0) (worked left : Counters) (grown : length behind_it ≤ length last)
      → (lacked : LackedAt (device_by setup two) entries last Left worked left)
      → downs_at (lacked-both entries last Left worked left grown lacked) ≡ downs_at lacked
  unfolding lacked-both
  lacked-downs entries last Left worked left grown (Quiet ends calls made faults stops) = refl
  lacked-downs entries last Left worked left grown (Falling entry went row made is fallen fell way some spent out counted) = refl

-- Lines that tell of a server that is down. Where the count of faults stood nothing is asked.

pub down-none : (count : ℕ) (told : List Told) → TellsDown count count told
down-none count told less = absurd (omega arith)

pub down-both : (held told left : ℕ) (first second : List Told) → told ≤ left → TellsDown held told first → TellsDown told left second
    → TellsDown held left (second ++ first)
down-both held told left first second late one two less =
    elim (eq-or-lt_of_le late) [
      | inl same ↦
          list_any-append is_down second first
          ∙ or_right (list_any is_down second) (list_any is_down first) (one (subst (λ (n : ℕ). held < n) (sym same) less))
      | inr above ↦
          list_any-append is_down second first ∙ or_left (list_any is_down second) (list_any is_down first) (two above)
    ]

-- such a line is none on a message without effect
pub down-kept : (told : List Told) → list_any is_down (without is_ignored told) ≡ list_any is_down told
down-kept [] = refl
down-kept (Ignored place why ∷ told) = down-kept told
down-kept (line ∷ told) = ap (λ b. is_down line || b) (down-kept told)

-- What the disk counted.

pub stood-later : (one two : Counters) → two.faults ≡ one.faults → one.faults ≤ two.faults
stood-later one two same = subst (λ (n : ℕ). one.faults ≤ n) (sym same) (le_refl one.faults)

pub uses-none : (setup : Setup) (old new : State Peers) (told : List Told) (seen : Counters)
    → new.world.core.answered ≡ old.world.core.answered → count_up new ≡ count_up old → new.peers.acting ≡ old.peers.acting
    → UsesGroup setup (λ number. 0) old new told seen seen
uses-none setup old new told seen same up leads = record {
  caused = λ never number. refl;
  later = le_refl seen.faults;
  felled = down-none seen.faults told;
  worked = worked-same (device_by setup (λ number. 0)) old new seen same up leads;
}

pub uses-both : (setup : Setup) (one two : ℕ → ℕ) (old middle new : State Peers) (first second : List Told) (held between left : Counters)
    → UsesGroup setup one old middle first held between → UsesGroup setup two middle new second between left
    → UsesGroup setup (spliced (length middle.world.core.answered) one two) old new (second ++ first) held left
uses-both setup one two old middle new first second held between left before after = record {
  caused =
      caused-both held.faults between.faults left.faults (length middle.world.core.answered) one two before.later after.later
      before.caused after.caused;
  later = le_trans before.later after.later;
  felled = down-both held.faults between.faults left.faults first second after.later before.felled after.felled;
  worked = worked-both setup one two old middle held between before.worked new left after.worked;
}

pub uses-printed : (setup : Setup) (happened : ℕ → ℕ) (old new : State Peers) (told : List Told) (held left : Counters)
    → UsesGroup setup happened old new told held left → UsesGroup setup happened old new (without is_ignored told) held left
uses-printed setup happened old new told held left uses = record {
  caused = uses.caused;
  later = uses.later;
  felled = λ less. down-kept told ∙ uses.felled less;
  worked = uses.worked;
}

pub faults-behind : (setup : Setup) (one two : ℕ → ℕ) (old middle now : State Peers) (first : List Told) (held between left : Counters)
    → UsesGroup setup one old middle first held between → FaultsGroup setup two middle now between left
    → FaultsGroup setup (spliced (length middle.world.core.answered) one two) old now held left
faults-behind setup one two old middle now first held between left before after = record {
  between = after.between;
  before_it = le_trans before.later after.before_it;
  caused =
      caused-both held.faults between.faults after.between (length middle.world.core.answered) one two before.later after.before_it
      before.caused after.caused;
  behind_it = after.behind_it;
  rose = after.rose;
  ended = ended-both setup one two old middle held between before.worked now left after.ended;
}

-- Want of memory.

none-down : (n : ℕ) → 0 + 0 ≤ n
none-down n = omega arith

-- no call failed, and the disk did not stop
pub lacks-quiet : {n : ℕ} (setup : Setup) (state : State Peers) (entries : List Entry) (servers : Group n) (calls : ℕ) (held left : Counters)
    → EndsIn entries state.world.core.answered → left.tally.changing ≡ many_more calls held.tally.changing → left.faults ≡ held.faults
    → left.stops ≡ held.stops → LacksGroup setup state entries servers held left
lacks-quiet setup state entries servers calls held left ends made faults stops = record {
  happened = λ number. 0;
  past = state.world.core.answered;
  worked = held;
  dealt = dealt-none (device_by setup (λ number. 0)) state.world.core.answered held;
  lacked = Quiet ends calls made faults stops;
  downs = none-down (count_up state);
}

-- What it left of the servers is told of others that are told alike.

lacked-as : (device : Device) (entries last : List Entry) (Left New : (made calls : ℕ) → Type 0) (before after : Counters)
    → ((made calls : ℕ) → Left made calls → New made calls) → LackedAt device entries last Left before after
    → LackedAt device entries last New before after
lacked-as device entries last Left New before after to (Quiet ends calls made faults stops) = Quiet ends calls made faults stops
lacked-as device entries last Left New before after to (Falling entry went row made is fallen fell way some spent out counted) =
    Falling entry went row made is fallen fell way some spent (to made (device.calls last entry) out) counted

as-downs : (device : Device) (entries last : List Entry) (Left New : (made calls : ℕ) → Type 0) (before after : Counters)
    (to : (made calls : ℕ) → Left made calls → New made calls) (lacked : LackedAt device entries last Left before after)
    → downs_at (lacked-as device entries last Left New before after to lacked) ≡ downs_at lacked
unfolding lacked-as
as-downs device entries last Left New before after to (Quiet ends calls made faults stops) = refl
as-downs device entries last Left New before after to (Falling entry went row made is fallen fell way some spent out counted) = refl

-- the one that was active before an event, by those that fell in it first
fallen-first : {n : ℕ} (all one two : ℕ) (old middle : Server) (servers : Group n) → one + two ≡ all → (one ≡ 0 → middle ≡ old) → (made calls : ℕ)
    → HasFallenBehind two middle servers made calls → HasFallenBehind all old servers made calls
fallen-first zero one two old middle servers sum stays made calls out =
    let nobody : two ≡ 0 = omega arith in
    let first : HasFallen middle servers made calls = subst (λ (fell : ℕ). HasFallenBehind fell middle servers made calls) nobody out in
    subst (λ (server : Server). HasFallen server servers made calls) (stays (omega arith)) first
fallen-first (suc all) one zero old middle servers sum stays made calls out = out.unarmed
fallen-first (suc all) one (suc two) old middle servers sum stays made calls out = out

pub lacks-behind : {n : ℕ} (setup : Setup) (happened : ℕ → ℕ) (old middle : State Peers) (first : List Told) (entries : List Entry) (servers : Group n)
    (held between left : Counters) → UsesGroup setup happened old middle first held between → LacksGroup setup middle entries servers between left
    → LacksGroup setup old entries servers held left
unfolding dealt-both
lacks-behind setup happened old middle first entries servers held between left before after =
    let worked = before.worked in
    let grown = deals-grow after.dealt.are in
    let ones = worked.dealt.deals in
    let twos = after.dealt.deals in
    let device = device_by setup after.happened in
    let bound : ℕ → Type 0 = λ n. of_all downs_in (twos ++ ones) + n ≤ count_up old in
    let Left : (made calls : ℕ) → Type 0 = λ made calls. HasFallenBehind (of_all downs_in twos) middle.peers.acting servers made calls in
    let New : (made calls : ℕ) → Type 0 = λ made calls. HasFallenBehind (of_all downs_in (twos ++ ones)) old.peers.acting servers made calls in
    let to : (made calls : ℕ) → Left made calls → New made calls = λ made calls out.
    fallen-first (of_all downs_in (twos ++ ones)) (of_all downs_in ones) (of_all downs_in twos) old.peers.acting middle.peers.acting servers
    (sum-append downs_in ones twos) worked.stays made calls out
    in
    let lacked = lacked-as device entries after.past Left New after.worked left to after.lacked in
    record {
      happened = spliced (length middle.world.core.answered) happened after.happened;
      past = after.past;
      worked = after.worked;
      dealt = dealt-both setup happened after.happened old middle held between worked after.past after.worked after.dealt;
      lacked = lacked-both setup happened after.happened old middle held between worked entries after.past New after.worked left grown lacked;
      downs =
          subst bound
          (sym
          (lacked-downs setup happened after.happened old middle held between worked entries after.past New after.worked left grown lacked
          ∙ as-downs device entries after.past Left New after.worked left to after.lacked))
          (downs-less worked.dealt.deals after.dealt.deals (count_up old) (count_up middle) (downs_at after.lacked) worked.downs after.downs);
    }

dealt-later : (device : Device) (old new : List Entry) (held left : Counters) → Dealt device old new held left → held.faults ≤ left.faults
dealt-later device old new held left dealt = times-later (of_all faults_in dealt.deals) held.faults left.faults dealt.spent.faults

lacked-later : (device : Device) (entries last : List Entry) (Left : (made calls : ℕ) → Type 0) (held left : Counters)
    → LackedAt device entries last Left held left → held.faults ≤ left.faults
lacked-later device entries last Left held left (Quiet ends calls made faults stops) = stood-later held left faults
lacked-later device entries last Left held left (Falling entry went row made is fallen fell way some spent out counted) =
    times-later (faults_by went + length row) held.faults left.faults spent.faults

pub lacks-later : {n : ℕ} (setup : Setup) (state : State Peers) (entries : List Entry) (servers : Group n) (held left : Counters)
    → LacksGroup setup state entries servers held left → held.faults ≤ left.faults
lacks-later setup state entries servers held left lacks =
    le_trans (dealt-later (device_by setup lacks.happened) state.world.core.answered lacks.past held lacks.worked lacks.dealt)
    (lacked-later (device_by setup lacks.happened) entries lacks.past
    (λ made calls. HasFallenBehind (of_all downs_in lacks.dealt.deals) state.peers.acting servers made calls) lacks.worked left lacks.lacked)

-- nothing was asked of the disk
pub lacks-none : {n : ℕ} (crash : Bool) (setup : Setup) (state : State Peers) (entries : List Entry) (servers : Group n) (seen : Counters)
    → EndsIn entries state.world.core.answered → LacksBy crash setup state entries servers seen seen
lacks-none true setup state entries servers seen ends = Unasked ends (spent-none seen) refl
lacks-none false setup state entries servers seen ends = lacks-quiet setup state entries servers 0 seen seen ends refl refl refl

pub crash-later : {n : ℕ} (setup : Setup) (state : State Peers) (entries : List Entry) (servers : Group n) (held left : Counters)
    → LacksCrash setup state entries servers held left → held.faults ≤ left.faults
crash-later setup state entries servers held left (Unasked ends spent armed) = stood-later held left spent.faults
crash-later setup state entries servers held left (Taking row made last some most spent few out uncounted) =
    times-later (length row) held.faults left.faults spent.faults

-- Servers of which the same is told: whether one is armed, and of this one, where it leads, that it does and how it is.
pub record AreToldAlike {n : ℕ} (acting : Server) (one two : Group n) : Type 0 where
  pub armed : two.armed ≡ one.armed
  pub leads : one.acting ≡ acting → (two.acting ≡ acting) × (two.active ≡ one.active)

fallen-alike : {n : ℕ} (acting : Server) (one two : Group n) → AreToldAlike acting one two → (made calls : ℕ) → HasFallen acting one made calls
    → HasFallen acting two made calls
fallen-alike acting one two alike made calls fallen = record {
  unarmed = alike.armed ∙ fallen.unarmed;
  out =
      elim fallen.out [
        | inl is ↦ inl ((alike.leads is.0).0, (alike.leads is.0).1 ∙ is.1)
        | inr all ↦ inr all
      ];
}

behind-alike : {n : ℕ} (fell : ℕ) (acting : Server) (one two : Group n) → AreToldAlike acting one two → (made calls : ℕ)
    → HasFallenBehind fell acting one made calls → HasFallenBehind fell acting two made calls
behind-alike zero acting one two alike made calls fallen = fallen-alike acting one two alike made calls fallen
behind-alike (suc fell) acting one two alike made calls fallen = alike.armed ∙ fallen

crash-alike : {n : ℕ} (setup : Setup) (state : State Peers) (entries : List Entry) (one two : Group n) (held left : Counters)
    → AreToldAlike state.peers.acting one two → LacksCrash setup state entries one held left → LacksCrash setup state entries two held left
crash-alike setup state entries one two held left alike (Unasked ends spent armed) = Unasked ends spent armed
crash-alike setup state entries one two held left alike (Taking row made last some most spent few out uncounted) =
    Taking row made last some most spent few (fallen-alike state.peers.acting one two alike _ _ out) uncounted

pub lacks-alike : {n : ℕ} (crash : Bool) (setup : Setup) (state : State Peers) (entries : List Entry) (one two : Group n) (held left : Counters)
    → AreToldAlike state.peers.acting one two → LacksBy crash setup state entries one held left → LacksBy crash setup state entries two held left
lacks-alike true setup state entries one two held left alike lacks = crash-alike setup state entries one two held left alike lacks
lacks-alike false setup state entries one two held left alike lacks =
    let fell = of_all downs_in lacks.dealt.deals in
    let device = device_by setup lacks.happened in
    let acting = state.peers.acting in
    let Left : (made calls : ℕ) → Type 0 = λ made calls. HasFallenBehind fell acting one made calls in
    let New : (made calls : ℕ) → Type 0 = λ made calls. HasFallenBehind fell acting two made calls in
    let to : (made calls : ℕ) → Left made calls → New made calls = λ made calls out. behind-alike fell acting one two alike made calls out in
    record {
      happened = lacks.happened;
      past = lacks.past;
      worked = lacks.worked;
      dealt = lacks.dealt;
      lacked = lacked-as device entries lacks.past Left New lacks.worked left to lacks.lacked;
      downs =
          subst (λ (last : ℕ). fell + last ≤ count_up state)
          (sym (as-downs device entries lacks.past Left New lacks.worked left to lacks.lacked)) lacks.downs;
    }
