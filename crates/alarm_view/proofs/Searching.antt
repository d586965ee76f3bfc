-- Searches of the places in their order find the nearest alarm.
use Rattle.std.proofs.Common.{◌≡◌, ℕ, ℤ, pos, zero, suc, ◌+◌, ◌<◌, ◌≤◌, nat_lt, Bool, true, false, inl, inr, List, [], ◌∷◌, length, get_or, ap, sym, subst, ◌∙◌, arith}
use Rattle.std.specs.Prelude.{Option, Some, None}
use Rattle.std.specs.List.Sorted.{IsNonDecreasingBy, IsPartitionPoint}
use Rattle.std.proofs.lemmas.Bool.Decides.{leb_tells, nat_tests}
use Rattle.std.proofs.lemmas.List.{get_or_default}
use Rattle.ntf_types.specs.declared.notification.Notification.{Notification}
use Rattle.ntf_filters.specs.declared.filter.FilterSet.{FilterSet}
use Rattle.ntf_filters.specs.Matching.{matches}
use Rattle.ntf_filters.specs.Meaning.{IsMatch}
use Rattle.ntf_filters.proofs.Meaning.{matches-decides}
use Rattle.client_set.specs.Members.{Stands}
use Rattle.alarm_view.specs.declared.alarm.KeptAlarm.{KeptAlarm}
use Rattle.alarm_view.specs.declared.mode.Direction.{Direction}
use Rattle.alarm_view.specs.declared.mode.Direction.TheVariants.{Older, Younger}
use Rattle.alarm_view.specs.declared.place.Place.{Place}
use Rattle.alarm_view.specs.Order.{Point, point_of, is_older}
use Rattle.alarm_view.specs.declared.mode.SearchMode.{SearchMode}
use Rattle.alarm_view.specs.declared.mode.SearchMode.TheVariants.{NotificationId}
use Rattle.alarm_view.specs.declared.cursor.Cursor.{Cursor}
use Rattle.alarm_view.specs.Alarms.{notifications, RiseFrom, AreInOrder}
use Rattle.alarm_view.specs.Modes.{way_of}
use Rattle.alarm_view.specs.Nearest.{IsNearest, IsNone, CanStart, CanFollow}
use Rattle.alarm_view.specs.Search.{has_mode, is_beyond}
use Rattle.alarm_view.specs.Inside.{place_of, places_of, point_in, place_first, IsIndexed, IsPlacedAt, IsRangeOf, IsAskedWithin, IsAskedOf, StandsAsked, IsFound, IsFoundWithin, StartsAt, GoesOnAt, IsOfId, LacksId}
use Rattle.alarm_view.proofs.Listing.{Stands-get_or, place-of, rising-at, Stands-map, Stands-mapped}
use Rattle.alarm_view.proofs.OrderLaws.{comes_before-self, comes_before-one_way}
use Rattle.alarm_view.proofs.NearestLaws.{same_id-same}
use Rattle.alarm_view.proofs.AskedLaws.{has_mode-decides, is_beyond-decides}

-- ids rise with the records

id-at-from : (number id : ℕ) (alarms : List KeptAlarm) (j : ℕ) (d : KeptAlarm) → RiseFrom number id alarms → j < length alarms → id ≤ (get_or alarms j d).notification.id
id-at-from number id [] j d rising within = absurd (omega arith)
id-at-from number id (a ∷ alarms) zero d rising within = rising.1
id-at-from number id (a ∷ alarms) (suc j) d rising within =
    let above = id-at-from (a.number + 1) (a.notification.id + 1) alarms j d rising.3 (omega arith) in
    omega (arith, above, rising.1)

ids-rise : (number id : ℕ) (alarms : List KeptAlarm) (i j : ℕ) (d : KeptAlarm) → RiseFrom number id alarms → i < j → j < length alarms → (get_or alarms i d).notification.id < (get_or alarms j d).notification.id
ids-rise number id [] i j d rising below within = absurd (omega arith)
ids-rise number id (a ∷ alarms) i zero d rising below within = absurd (omega arith)
ids-rise number id (a ∷ alarms) zero (suc j) d rising below within =
    let above = id-at-from (a.number + 1) (a.notification.id + 1) alarms j d rising.3 (omega arith) in omega (arith, above)
ids-rise number id (a ∷ alarms) (suc i) (suc j) d rising below within =
    ids-rise (a.number + 1) (a.notification.id + 1) alarms i j d rising.3 (omega arith) (omega arith)

pub ids-non_decreasing : (alarms : List KeptAlarm) → AreInOrder alarms → IsNonDecreasingBy (λ (alarm : KeptAlarm). alarm.notification.id) alarms
ids-non_decreasing alarms rising i j d below within = elim (leb_tells (suc i) j) [
  | inl less ↦ let rise = ids-rise 0 0 alarms i j d rising less.1 within in omega (arith, rise)
  | inr over ↦ let P : ℕ → Type 0 = λ k. (get_or alarms k d).notification.id ≤ (get_or alarms j d).notification.id in let same : j ≡ i = let most = over.1 in omega arith in subst P same (omega arith)
]

module _ (id : ℕ) (alarms : List KeptAlarm) (rising : AreInOrder alarms) (place : ℕ) (point : IsPartitionPoint (λ (x : KeptAlarm). nat_lt x.notification.id id ≡ true) (λ (x : KeptAlarm). nat_lt x.notification.id id ≡ false) alarms place) where
  -- the alarm of the id stands at the place to which the ids below it reach
  at-place : (alarm : KeptAlarm) → Stands alarm alarms → alarm.notification.id ≡ id → (k : ℕ) × (k < length alarms) × (place ≤ k) × ((d : KeptAlarm) → get_or alarms k d ≡ alarm)
  at-place alarm stands same =
      let at = place-of alarm alarms stands in
      let found = at.2 alarm in
      elim (leb_tells place at.0) [
        | inl from ↦ (at.0, at.1, from.1, at.2)
        | inr below ↦
            let low = point.0 at.0 alarm (omega arith) below.1 in
            let own : nat_lt alarm.notification.id id ≡ true = ap (λ (x : KeptAlarm). nat_lt x.notification.id id) (sym found) ∙ low in
            absurd (grind (arith, nat_tests))
      ]

  pub lacks-behind : length alarms ≤ place → LacksId id alarms
  lacks-behind all alarm stands same = let at = at-place alarm stands same in let inside = at.1 in let from = at.2 in absurd (omega arith)

  pub lacks-other : (d : KeptAlarm) → place < length alarms → ((get_or alarms place d).notification.id ≡ id → ⊥) → LacksId id alarms
  lacks-other d within other alarm stands same =
      let at = at-place alarm stands same in
      let found = at.3 d in
      let high = point.1 place d (omega arith) within in
      elim (leb_tells (suc place) at.0) [
        | inl later ↦
            let rise = ids-rise 0 0 alarms place at.0 d rising later.1 at.1 in
            let own : (get_or alarms at.0 d).notification.id ≡ id = ap (λ (x : KeptAlarm). x.notification.id) found ∙ same in
            absurd (grind (arith, nat_tests))
        | inr most ↦
            let over = most.1 in
            let from = at.2 in
            let here : at.0 ≡ place = omega arith in
            absurd (other (ap (λ k. (get_or alarms k d).notification.id) (sym here) ∙ ap (λ (x : KeptAlarm). x.notification.id) found ∙ same))
      ]

-- kept alarms of one id are one, and so have the place that the id has
module _ (alarms : List KeptAlarm) (rising : AreInOrder alarms) where
  pub one_of_id : (one other : Notification) → Stands one (notifications alarms) → Stands other (notifications alarms) → one.id ≡ other.id → one ≡ other
  one_of_id = same_id-same 0 0 alarms rising

  -- a place that stands is that of an alarm
  pub alarm-placed : (place : Place) → Stands place (places_of alarms) → (kept : KeptAlarm) × Stands kept alarms × (point_of kept.notification ≡ point_in place) × (kept.notification.id ≡ place.id)
  alarm-placed place stands =
      let at = Stands-mapped place_of place alarms stands in
      (at.0, at.1, ap point_in (sym at.2), ap (λ (p : Place). p.id) (sym at.2))

  pub Stands-notification : (kept : KeptAlarm) → Stands kept alarms → Stands kept.notification (notifications alarms)
  Stands-notification kept stands = Stands-map (λ (alarm : KeptAlarm). alarm.notification) kept alarms stands

  module _ (place : Place) (stands : Stands place (places_of alarms)) (filters : FilterSet) where
    -- there is an alarm of the place's id
    pub not-lacking : LacksId place.id alarms → ⊥
    not-lacking lacks = let at = alarm-placed place stands in lacks at.0 at.1 at.3

    module _ (kept : KeptAlarm) (is : IsOfId place.id alarms kept) where
      pub own-point : point_of kept.notification ≡ point_in place
      own-point =
          let at = alarm-placed place stands in
          let same = one_of_id kept.notification at.0.notification (Stands-notification kept is.stands) (Stands-notification at.0 at.1) (is.same ∙ sym at.3) in
          ap point_of same ∙ at.2

      -- the alarm of the place matches
      pub asked-here : matches filters kept.notification ≡ true → StandsAsked (notifications alarms) (point_in place) filters kept.notification
      asked-here passes = record {
        stands = Stands-notification kept is.stands;
        asked = record { placed = own-point; matches = (matches-decides filters kept.notification).0 passes };
      }

      -- it does not
      pub none-asked : matches filters kept.notification ≡ false → IsNone (IsAskedOf (point_in place) filters) (notifications alarms)
      none-asked fails other there asked =
          let ids : other.id ≡ kept.notification.id = ap (λ (p : Point). p.id) (asked.placed ∙ sym own-point) in
          let same = one_of_id other kept.notification there (Stands-notification kept is.stands) ids in
          let passes = (matches-decides filters other).1 asked.matches in
          absurd (cc (passes, same, fails))

module _ (alarms : List KeptAlarm) (order : List Place) (indexed : IsIndexed alarms order) (low high : ℕ) (filters : FilterSet) where
  -- what stands in the order at a place stands among the alarms' places
  pub stands-at : (k : ℕ) (d : Place) → k < length order → Stands (get_or order k d) (places_of alarms)
  stands-at k d within = (indexed.listed (get_or order k d)).0 (Stands-get_or order k d within)

  -- the alarms of places that were looked at are not asked for

  -- fewer places
  pub none-narrow : (more : ℕ) → high ≤ more → IsNone (IsAskedWithin order low more filters) (notifications alarms) → IsNone (IsAskedWithin order low high filters) (notifications alarms)
  none-narrow more fewer none alarm stands asked = none alarm stands (record {
    place = asked.place;
    from = asked.from;
    below = let below = asked.below in omega arith;
    placed = asked.placed;
    matches = asked.matches;
  })

  -- one place more was looked at, upwards
  pub none-above : high < length order → (d : Place) → IsNone (IsAskedWithin order low high filters) (notifications alarms) → IsNone (IsAskedOf (point_in (get_or order high d)) filters) (notifications alarms) → (next : ℕ) → next ≡ suc high → IsNone (IsAskedWithin order low next filters) (notifications alarms)
  none-above within d so_far here next more alarm stands asked = elim (leb_tells (suc asked.place) high) [
    | inl before ↦ so_far alarm stands (record { place = asked.place; from = asked.from; below = before.1; placed = asked.placed; matches = asked.matches })
    | inr most ↦
        let over = most.1 in
        let below = asked.below in
        let at : asked.place ≡ high = omega arith in
        let P : ℕ → Type 0 = λ k. IsPlacedAt order k alarm in
        let placed : IsPlacedAt order high alarm = subst P at asked.placed in
        here alarm stands (record { placed = sym (placed d); matches = asked.matches })
  ]

  -- one place more was looked at, downwards
  pub none-below : (d : Place) (next : ℕ) → suc next ≡ low → IsNone (IsAskedWithin order low high filters) (notifications alarms) → IsNone (IsAskedOf (point_in (get_or order next d)) filters) (notifications alarms) → IsNone (IsAskedWithin order next high filters) (notifications alarms)
  none-below d next more so_far here alarm stands asked = elim (leb_tells low asked.place) [
    | inl behind ↦ so_far alarm stands (record { place = asked.place; from = behind.1; below = asked.below; placed = asked.placed; matches = asked.matches })
    | inr least ↦
        let under = least.1 in
        let from = asked.from in
        let at : asked.place ≡ next = omega arith in
        let P : ℕ → Type 0 = λ k. IsPlacedAt order k alarm in
        let placed : IsPlacedAt order next alarm = subst P at asked.placed in
        here alarm stands (record { placed = sym (placed d); matches = asked.matches })
  ]

module _ (alarms : List KeptAlarm) (order : List Place) (indexed : IsIndexed alarms order) (low high : ℕ) (within : high ≤ length order) (filters : FilterSet) (k : ℕ) (d : Place) (from : low ≤ k) (below : k < high) (alarm : Notification) (found : StandsAsked (notifications alarms) (point_in (get_or order k d)) filters alarm) where
  -- the alarm's place, whatever stands for what is not there
  placed-there : IsPlacedAt order k alarm
  placed-there other = ap point_in (get_or_default order k other d (omega arith)) ∙ sym found.asked.placed

  asked-there : IsAskedWithin order low high filters alarm
  asked-there = record { place = k; from = from; below = below; placed = placed-there; matches = found.asked.matches }

  earlier : (i j : ℕ) → i < j → j < length order → (one other : Notification) → IsPlacedAt order i one → IsPlacedAt order j other → is_older (point_of one) (point_of other) ≡ true
  earlier i j less inside one other first second =
      ap (λ (p : Point). is_older p (point_of other)) (sym (first d)) ∙ ap (λ (p : Point). is_older (point_in (get_or order i d)) p) (sym (second d)) ∙ rising-at place_first order i j d indexed.rising less inside

  alike : (other : Notification) (j : ℕ) → j ≡ k → IsPlacedAt order j other → point_of other ≡ point_of alarm
  alike other j same placed = sym (placed d) ∙ ap (λ i. point_in (get_or order i d)) same ∙ placed-there d

  -- nothing older is asked for: it is the first on the way to younger ones
  pub oldest-found : IsNone (IsAskedWithin order low k filters) (notifications alarms) → IsNearest Younger (IsAskedWithin order low high filters) (notifications alarms) alarm
  oldest-found none = record {
    stands = found.stands;
    asked = asked-there;
    nearest = λ other stands asked. elim (leb_tells (suc asked.place) k) [
      | inl before ↦ absurd (none other stands (record { place = asked.place; from = asked.from; below = before.1; placed = asked.placed; matches = asked.matches }))
      | inr not_before ↦ elim (leb_tells (suc k) asked.place) [
        | inl behind ↦ comes_before-one_way Younger (point_of alarm) (point_of other) (earlier k asked.place behind.1 (let under = asked.below in omega arith) alarm other placed-there asked.placed)
        | inr not_behind ↦ ap (λ (p : Point). is_older p (point_of alarm)) (alike other asked.place (let one = not_before.1 in let two = not_behind.1 in omega arith) asked.placed) ∙ comes_before-self Younger (point_of alarm)
      ]
    ];
  }

  -- nothing younger is asked for: it is the first on the way to older ones
  pub youngest-found : IsNone (IsAskedWithin order (suc k) high filters) (notifications alarms) → IsNearest Older (IsAskedWithin order low high filters) (notifications alarms) alarm
  youngest-found none = record {
    stands = found.stands;
    asked = asked-there;
    nearest = λ other stands asked. elim (leb_tells (suc k) asked.place) [
      | inl behind ↦ absurd (none other stands (record { place = asked.place; from = behind.1; below = asked.below; placed = asked.placed; matches = asked.matches }))
      | inr not_behind ↦ elim (leb_tells (suc asked.place) k) [
        | inl before ↦ comes_before-one_way Older (point_of alarm) (point_of other) (earlier asked.place k before.1 (omega arith) other alarm asked.placed placed-there)
        | inr not_before ↦ ap (λ (p : Point). is_older (point_of alarm) p) (alike other asked.place (let one = not_before.1 in let two = not_behind.1 in omega arith) asked.placed) ∙ comes_before-self Older (point_of alarm)
      ]
    ];
  }

-- an alarm that stands has its place in the order
pub placed-in : (alarms : List KeptAlarm) (order : List Place) → IsIndexed alarms order → (alarm : Notification) → Stands alarm (notifications alarms) → (k : ℕ) × (k < length order) × IsPlacedAt order k alarm
placed-in alarms order indexed alarm stands =
    let kept = Stands-mapped (λ (a : KeptAlarm). a.notification) alarm alarms stands in
    let at = place-of (place_of kept.0) order ((indexed.listed (place_of kept.0)).1 (Stands-map place_of kept.0 alarms kept.1)) in
    (at.0, at.1, λ d. ap point_in (at.2 d) ∙ ap point_of (sym kept.2))

-- what is found in the range of a test is found among all that pass the test
module _ (alarms : List KeptAlarm) (order : List Place) (indexed : IsIndexed alarms order) (way : Direction) (test : Notification → Bool) (low high : ℕ) (range : IsRangeOf test order low high) (filters : FilterSet) (Q : Notification → Type 0) (asks : (alarm : Notification) → test alarm ≡ true → IsMatch filters alarm → Q alarm) (passes : (alarm : Notification) → Q alarm → test alarm ≡ true) (matching : (alarm : Notification) → Q alarm → IsMatch filters alarm) where
  within-range : (alarm : Notification) → Stands alarm (notifications alarms) → Q alarm → IsAskedWithin order low high filters alarm
  within-range alarm stands asked =
      let at = placed-in alarms order indexed alarm stands in
      let inside = at.1 in
      let pass = passes alarm asked in
      elim (leb_tells low at.0) [
        | inl from ↦ elim (leb_tells (suc at.0) high) [
          | inl below ↦ record { place = at.0; from = from.1; below = below.1; placed = at.2; matches = matching alarm asked }
          | inr over ↦ absurd (cc (pass, range.behind alarm at.0 (let most = over.1 in omega arith) inside at.2))
        ]
        | inr under ↦ absurd (cc (pass, range.before alarm at.0 under.1 inside at.2))
      ]

  asked-of : (alarm : Notification) → IsAskedWithin order low high filters alarm → Q alarm
  asked-of alarm is = asks alarm (range.passes alarm is.place is.from is.below is.placed) is.matches

  pub found-in-range : (found : Option Notification) → IsFoundWithin way (notifications alarms) order low high filters found → IsFound way Q (notifications alarms) found
  found-in-range None none = λ alarm stands asked. none alarm stands (within-range alarm stands asked)
  found-in-range (Some alarm) is = record {
    stands = is.stands;
    asked = asked-of alarm is.asked;
    nearest = λ other stands asked. is.nearest other stands (within-range other stands asked);
  }

-- the starting alarm of a mode by time, and the alarm that is read next

module _ (filters : FilterSet) (alarms : List KeptAlarm) (order : List Place) (indexed : IsIndexed alarms order) (low high : ℕ) (found : Option Notification) where
  pub start-found : (mode : SearchMode) (value : ℤ) → IsRangeOf (has_mode mode value) order low high → (way : Direction) → way ≡ way_of mode → IsFoundWithin way (notifications alarms) order low high filters found → StartsAt mode value filters (notifications alarms) found
  start-found mode value range way is within =
      let P : Direction → Type 0 = λ w. IsFoundWithin w (notifications alarms) order low high filters found in
      found-in-range alarms order indexed (way_of mode) (has_mode mode value) low high range filters (CanStart mode value filters) (λ alarm passes match. record {
        asked = (has_mode-decides mode value alarm).0 passes;
        matches = match;
      }) (λ alarm can. (has_mode-decides mode value alarm).1 can.asked) (λ alarm can. can.matches) found (subst P is within)

  pub next-found : (cursor : Cursor) (way : Direction) → IsRangeOf (is_beyond way cursor) order low high → IsFoundWithin way (notifications alarms) order low high filters found → GoesOnAt cursor way filters (notifications alarms) found
  next-found cursor way range within =
      found-in-range alarms order indexed way (is_beyond way cursor) low high range filters (CanFollow way cursor filters) (λ alarm passes match. record {
        beyond = (is_beyond-decides way cursor alarm).0 passes;
        matches = match;
      }) (λ alarm can. (is_beyond-decides way cursor alarm).1 can.beyond) (λ alarm can. can.matches) found within

-- the starting alarm by its id
module _ (value : ℤ) (filters : FilterSet) (alarms : List KeptAlarm) (id : ℕ) (is_id : pos id ≡ value) where
  asked-id : (alarm : Notification) → CanStart NotificationId value filters alarm → alarm.id ≡ id
  asked-id alarm can = let asked = can.asked in cc (asked, is_id)

  pub lacks-start : LacksId id alarms → IsNone (CanStart NotificationId value filters) (notifications alarms)
  lacks-start lacks alarm stands can =
      let kept = Stands-mapped (λ (a : KeptAlarm). a.notification) alarm alarms stands in
      lacks kept.0 kept.1 (ap (λ (v : Notification). v.id) (sym kept.2) ∙ asked-id alarm can)

  module _ (rising : AreInOrder alarms) (kept : KeptAlarm) (is : IsOfId id alarms kept) where
    only-one : (alarm : Notification) → Stands alarm (notifications alarms) → CanStart NotificationId value filters alarm → alarm ≡ kept.notification
    only-one alarm stands can =
        one_of_id alarms rising alarm kept.notification stands (Stands-notification alarms rising kept is.stands) (asked-id alarm can ∙ sym is.same)

    pub is-start : matches filters kept.notification ≡ true → IsNearest Younger (CanStart NotificationId value filters) (notifications alarms) kept.notification
    is-start passes = record {
      stands = Stands-notification alarms rising kept is.stands;
      asked = record {
        asked = ap (λ n. pos n) is.same ∙ is_id;
        matches = (matches-decides filters kept.notification).0 passes;
      };
      nearest = λ other stands can. ap (λ (v : Notification). is_older (point_of v) (point_of kept.notification)) (only-one other stands can) ∙ comes_before-self Younger (point_of kept.notification);
    }

    pub no-start : matches filters kept.notification ≡ false → IsNone (CanStart NotificationId value filters) (notifications alarms)
    no-start fails other stands can =
        let same = only-one other stands can in
        let passes = (matches-decides filters other).1 can.matches in
        absurd (cc (passes, same, fails))
