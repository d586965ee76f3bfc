-- The plans of a state's calls, by what they do to its parts.
use Rattle.std.proofs.Common.{◌≡◌, ◌≢◌, ◌≤◌, ℕ, Bool, true, false, List, [], refl, ap, sym, subst, ◌∙◌}
use Rattle.std.specs.Prelude.{Option, Some, None, ℤ, pos, ◌≤ℤ◌, unsigned_abs}
use Rattle.std.specs.List.{list_any}
use Rattle.ais_values.specs.declared.status.Status.{Status}
use Rattle.ais_values.specs.declared.status.Status.TheVariants as status
use Rattle.stream_config.specs.declared.attrs.StreamName.{StreamName}
use Rattle.stream_config.specs.declared.attrs.StreamAttrs.{StreamAttrs}
use Rattle.stream_config.specs.declared.mark.Mark.{Mark}
use Rattle.stream_config.specs.declared.event.StreamEvent.{StreamEvent}
use Rattle.record_print.specs.declared.record.LogRecord.{LogRecord}
use Rattle.log_history.specs.Changes.{LogChange, Opened, Stored, Filtered, Closed, Ended}
use Rattle.log_history.specs.Table.{OpenStream, LogTable, is_named, with_mark, with_stored, without_opener, has_nobody, closed_streams, left_streams}
use Rattle.log_history.specs.KeptAnswers.{open_status, making_in}
use Rattle.log_service.specs.Moments.{IsMoment, second_of}
use Rattle.log_service.specs.State.{Made, Came, AreFew, table_with}
use Rattle.log_service.specs.Opening.{opening_in}
use Rattle.log_service.specs.Changing.{AreEndsIn}
use Rattle.log_service.specs.Planning.{marked_plan, planned, CanCommit, HasRoom, IsRoomFor, Plans, streams_after}
use Rattle.log_service.specs.PlanningParts.{IsOfStreams, PlansOpening, PlansMarking, PlansStoring}
use Rattle.log_service.specs.declared.plan.Doing.{Doing}
use Rattle.log_service.specs.declared.plan.Doing.TheVariants.{Stay, Begin, Join, Make, Store, Set, Leave, End}
use Rattle.log_service.specs.declared.plan.LogPlan.{LogPlan}
use Rattle.log_service.proofs.KeptLemmas.{AreFew-changed, AreFew-mapped, AreFew-filtered, busy-kept, busy-changed, ended-from}
use Rattle.log_service.proofs.WriteLemmas.{made-stored, stored-from}
use Rattle.log_service.proofs.OpenLemmas.{makes-new, made-opened, kept-open}
use Rattle.log_service.proofs.StreamPlans.{accepted_plan}

-- where there is room for one stream more, there is room for what any plan makes
pub room-for : (plan : LogPlan) (spare : ℕ) → 1 ≤ spare → HasRoom plan spare
room-for plan spare one = by plan.doing where
  by : (doing : Doing) → IsRoomFor doing spare
  by Stay = tt
  by (Begin users) = tt
  by (Join place openers) = tt
  by (Make stream) = one
  by (Store place taken opened files) = tt
  by (Set place mark) = tt
  by (Leave name client) = tt
  by (End client) = tt

-- a state's parts
module _ (last : ℤ) (users : List ℕ) (streams : List OpenStream) (kept : LogTable) (view : table_with (unsigned_abs last) users streams ≡ kept) (few : AreFew streams) (busy : list_any has_nobody streams ≡ false) where
  abbrev parts : LogTable
  parts = table_with (unsigned_abs last) users streams

  -- an ok call, by what it makes of the parts
  accepted-as : (expected : Status) (filtered : Bool) (mark : Option Mark) (change : LogChange) (plan : LogPlan) → status.Ok ≡ expected → plan.step.status ≡ status.Ok → plan.step.filtered ≡ filtered → plan.step.mark ≡ mark → Came filtered change parts (planned plan parts) plan.step.events → CanCommit parts plan → Plans kept expected filtered mark change plan
  accepted-as expected filtered mark change plan same ok filtered_is mark_is made can =
      subst (λ (k : LogTable). Plans k expected filtered mark change plan) view
      (subst (λ (s : Status). Plans parts s filtered mark change plan) same (record {
        answer = ok;
        told = record { ok = λ _. (filtered_is, mark_is); refused = λ wrong. absurd (wrong ok) };
        ok = λ _. made;
        refused = λ wrong. absurd (wrong ok);
        can = can;
      }))

  -- a call that is refused
  pub refused-as : (expected : Status) (filtered : Bool) (mark : Option Mark) (change : LogChange) (result : Status) (plan : LogPlan) → result ≡ expected → result ≢ status.Ok → pos 0 ≤ℤ last → plan ≡ record { step = record { status = result; filtered = false; mark = None; events = [] }; last = last; doing = Stay } → Plans kept expected filtered mark change plan
  refused-as expected filtered mark change result plan same wrong from is =
      subst (λ (k : LogTable). Plans k expected filtered mark change plan) view
      (subst (λ (p : LogPlan). Plans parts expected filtered mark change p) (sym is)
      (subst (λ (s : Status). Plans parts s filtered mark change (record { step = record { status = result; filtered = false; mark = None; events = [] }; last = last; doing = Stay })) same (record {
        answer = refl;
        told = record { ok = λ ok. absurd (wrong ok); refused = λ _. (refl, refl) };
        ok = λ ok. absurd (wrong ok);
        refused = λ _. record { now = refl; done = refl };
        can = record { from = from; can = tt; few = few; busy = busy };
      })))

  -- a write that is filtered
  pub filtered-as : (expected : Status) (mark : Mark) (change : LogChange) (plan : LogPlan) → status.Ok ≡ expected → pos 0 ≤ℤ last → plan ≡ record { step = record { status = status.Ok; filtered = true; mark = Some mark; events = [] }; last = last; doing = Stay } → Plans kept expected true (Some mark) change plan
  filtered-as expected mark change plan same from is =
      let left : LogPlan = record { step = record { status = status.Ok; filtered = true; mark = Some mark; events = [] }; last = last; doing = Stay } in
      subst (λ (p : LogPlan). Plans kept expected true (Some mark) change p) (sym is)
      (accepted-as expected true (Some mark) change left same refl refl refl (record { now = refl; done = refl })
      (record { from = from; can = tt; few = few; busy = busy }))

  -- a plan of an ok call that tells a mark
  pub marked-as : (expected : Status) (mark : Mark) (change : LogChange) (plan marked : LogPlan) → plan.step.status ≡ status.Ok → Plans kept expected false None change plan → marked ≡ marked_plan mark plan → Plans kept expected false (Some mark) change marked
  marked-as expected mark change plan marked ok plans is =
      subst (λ (p : LogPlan). Plans kept expected false (Some mark) change p) (sym is) (record {
        answer = plans.answer;
        told = record { ok = λ _. ((plans.told.ok ok).0, refl); refused = λ wrong. absurd (wrong ok) };
        ok = plans.ok;
        refused = plans.refused;
        can = record { from = plans.can.from; can = plans.can.can; few = plans.can.few; busy = plans.can.busy };
      })

  pub ended-as : (now : ℤ) (expected : Status) (client : ℕ) (stamped : ℤ) (events : List StreamEvent) (plan : LogPlan) → status.Ok ≡ expected → AreEndsIn last now (left_streams client streams) (stamped, events) → plan ≡ accepted_plan events stamped (End client) → Plans kept expected false None (Ended client (second_of now)) plan
  ended-as now expected client stamped events plan same ends is =
      let left = left_streams client streams in
      subst (λ (p : LogPlan). Plans kept expected false None (Ended client (second_of now)) p) (sym is)
      (accepted-as expected false None (Ended client (second_of now)) (accepted_plan events stamped (End client)) same refl refl refl
      (record {
        now = ap (λ (z : ℤ). planned (accepted_plan events z (End client)) parts) ends.stamp;
        done = ends.events;
      })
      (record {
        from = ended-from last now left (stamped, events) ends;
        can = tt;
        few = AreFew-filtered _ left (AreFew-mapped (without_opener client) (λ _. refl) streams few);
        busy = busy-kept left;
      }))

  pub closed-as : (now : ℤ) (expected : Status) (client : ℕ) (name copy : StreamName) (stamped : ℤ) (events : List StreamEvent) (plan : LogPlan) → status.Ok ≡ expected → AreEndsIn last now (closed_streams client name streams) (stamped, events) → copy ≡ name → plan ≡ accepted_plan events stamped (Leave copy client) → Plans kept expected false None (Closed client name (second_of now)) plan
  closed-as now expected client name copy stamped events plan same ends copied is =
      let left = closed_streams client name streams in
      subst (λ (p : LogPlan). Plans kept expected false None (Closed client name (second_of now)) p)
      (sym (is ∙ ap (λ (n : StreamName). accepted_plan events stamped (Leave n client)) copied))
      (accepted-as expected false None (Closed client name (second_of now)) (accepted_plan events stamped (Leave name client)) same refl refl refl
      (record {
        now = ap (λ (z : ℤ). planned (accepted_plan events z (Leave name client)) parts) ends.stamp;
        done = ends.events;
      })
      (record {
        from = ended-from last now left (stamped, events) ends;
        can = tt;
        few = AreFew-filtered _ left (AreFew-changed (without_opener client) (λ _. refl) (is_named name) streams few);
        busy = busy-kept left;
      }))

  -- what a plan of streams alone makes of the parts
  with-users : (change : LogChange) (plan : LogPlan) → IsOfStreams streams plan → Made change parts (table_with (unsigned_abs plan.last) users (streams_after plan.doing streams)) plan.step.events → Made change parts (planned plan parts) plan.step.events
  with-users change plan sound made =
      subst (λ (these : List ℕ). Made change parts (table_with (unsigned_abs plan.last) these (streams_after plan.doing streams)) plan.step.events) (sym (sound.users users)) made

  pub opened-as : (now : ℤ) (client number : ℕ) (name : StreamName) (create : Option StreamAttrs) (plan : LogPlan) → IsMoment last now → status.Ok ≡ open_status kept client name create → PlansOpening last now client number name (making_in streams name create) streams plan → Plans kept (open_status kept client name create) false None (opening_in kept.streams client name create now number) plan
  opened-as now client number name create plan moment same plans =
      let making = making_in streams name create in
      let new = streams_after plan.doing streams in
      let told = plan.step.events in
      let answered : open_status parts client name create ≡ status.Ok = ap (λ (k : LogTable). open_status k client name create) view ∙ sym same in
      let stays = kept-open last now client number name making streams new (plan.last, told) moment few busy (λ attrs is. makes-new parts client name create attrs answered is) plans.opens in
      let change = ap (λ (k : LogTable). opening_in k.streams client name create now number) view in
      subst (λ (c : LogChange). Plans kept (open_status kept client name create) false None c plan) change
      (accepted-as (open_status kept client name create) false None (Opened client name making (second_of now) number) plan same plans.sound.ok plans.sound.passed plans.sound.unmarked
      (with-users (Opened client name making (second_of now) number) plan plans.sound
      (made-opened last now client number name making streams new users parts (plan.last, told) plan.last told refl plans.opens refl refl))
      (record { from = stays.from; can = plans.sound.can; few = stays.few; busy = stays.busy }))

  pub set-as : (expected : Status) (client : ℕ) (name : StreamName) (mask number : ℕ) (plan : LogPlan) → pos 0 ≤ℤ last → status.Ok ≡ expected → PlansMarking last name (record { since = number; mask = mask }) streams plan → Plans kept expected false None (Filtered client name mask number) plan
  set-as expected client name mask number plan from same plans =
      let new = streams_after plan.doing streams in
      let mark : Mark = record { since = number; mask = mask } in
      accepted-as expected false None (Filtered client name mask number) plan same plans.sound.ok plans.sound.passed plans.sound.unmarked
      (with-users (Filtered client name mask number) plan plans.sound
      (record {
        now = ap (λ (z : ℤ). table_with (unsigned_abs z) users new) plans.stamp ∙ ap (table_with (unsigned_abs last) users) plans.now;
        done = plans.events;
      }))
      (record {
        from = subst (λ (z : ℤ). pos 0 ≤ℤ z) (sym plans.stamp) from;
        can = plans.sound.can;
        few = subst (λ (these : List OpenStream). AreFew these) (sym plans.now) (AreFew-changed (with_mark mark) (λ _. refl) (is_named name) streams few);
        busy = ap (list_any has_nobody) plans.now ∙ busy-changed (with_mark mark) (λ _ stays. stays) (is_named name) streams busy;
      })

  pub stored-as : (now : ℤ) (expected : Status) (name : StreamName) (rec : LogRecord) (plan : LogPlan) → status.Ok ≡ expected → PlansStoring last now name rec streams plan → Plans kept expected false None (Stored name rec (second_of now)) plan
  stored-as now expected name rec plan same plans =
      let new = streams_after plan.doing streams in
      let events = plan.step.events in
      accepted-as expected false None (Stored name rec (second_of now)) plan same plans.sound.ok plans.sound.passed plans.sound.unmarked
      (with-users (Stored name rec (second_of now)) plan plans.sound
      (made-stored last now name rec streams new users parts (plan.last, events) plan.last events refl plans.stores refl refl))
      (record {
        from = stored-from last now name rec streams new (plan.last, events) plans.stores;
        can = plans.sound.can;
        few = subst (λ (these : List OpenStream). AreFew these) (sym plans.stores.streams) (AreFew-changed (with_stored (unsigned_abs last) (second_of now) rec) (λ _. refl) (is_named name) streams few);
        busy = ap (list_any has_nobody) plans.stores.streams ∙ busy-changed (with_stored (unsigned_abs last) (second_of now) rec) (λ _ stays. stays) (is_named name) streams busy;
      })
