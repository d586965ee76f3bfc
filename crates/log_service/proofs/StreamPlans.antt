-- What the plans of calls do to the living streams.
use Rattle.std.proofs.Common.{◌≡◌, ◌≤◌, ◌<◌, ℕ, ◌+◌, false, List, [], ◌∷◌, length, nat_lt, get_or, set, refl, ap, sym, subst, ◌∙◌, arith}
use Rattle.std.specs.Prelude.{Option, None, ℤ, pos, ◌≤ℤ◌, unsigned_abs}
use Rattle.std.specs.Option.{option_map_or}
use Rattle.ais_values.specs.declared.status.Status.TheVariants as status
use Rattle.client_set.specs.Edits.{change_at}
use Rattle.client_set.specs.Rising.{put}
use Rattle.client_set.proofs.ChangedPlace.{set-change_at}
use Rattle.stream_config.specs.declared.attrs.StreamName.{StreamName}
use Rattle.stream_config.specs.declared.mark.Mark.{Mark}
use Rattle.stream_config.specs.declared.state.LogFile.{LogFile}
use Rattle.stream_config.specs.declared.event.StreamEvent.{StreamEvent}
use Rattle.stream_config.specs.Events.{state_after}
use Rattle.record_print.specs.declared.record.LogRecord.{LogRecord}
use Rattle.log_history.specs.Firsts.{change_first}
use Rattle.log_history.specs.Table.{OpenStream, is_named, last_after_due, storing, with_stored, with_opener, with_mark}
use Rattle.log_service.specs.Moments.{second_of}
use Rattle.log_service.specs.Changing.{IsFiling}
use Rattle.log_service.specs.Planning.{with_files, with_openers, files_after, filed_in}
use Rattle.log_service.specs.PlanningParts.{PlansJoining, PlansMarking, PlansStoring}
use Rattle.log_service.specs.declared.files.Filed.{Filed}
use Rattle.log_service.specs.declared.plan.Doing.{Doing}
use Rattle.log_service.specs.declared.plan.Doing.TheVariants.{Stay, Join, Store, Set}
use Rattle.log_service.specs.declared.plan.LogPlan.{LogPlan}
use Rattle.log_service.proofs.PlaceLemmas.{IsFirst, IsNowhere, changed-at, found-at, read-same}
use Rattle.ais_values.proofs.Basics.{pos-unsigned_abs}

-- the plan of a call that is ok
abbrev pub accepted_plan : List StreamEvent → (last : ℤ) → Doing → LogPlan
accepted_plan events last doing = record { step = record { status = status.Ok; filtered = false; mark = None; events = events }; last = last; doing = doing }

abbrev last_of : (last second : ℕ) → LogRecord → Option OpenStream → ℕ
last_of last second rec found = option_map_or (λ (stream : OpenStream). last_after_due last second rec stream.state) found last

abbrev events_of : (last second : ℕ) → LogRecord → Option OpenStream → List StreamEvent
events_of last second rec found =
    option_map_or (λ (stream : OpenStream). storing last second rec stream.state ∷ []) found []

-- where there is no such stream, nothing changes
pub stores-nowhere : (last now : ℤ) (name : StreamName) (rec : LogRecord) (streams : List OpenStream) (events : List StreamEvent) (plan : LogPlan) → pos 0 ≤ℤ last → events ≡ [] → IsNowhere (is_named name) streams → plan ≡ accepted_plan events last Stay → PlansStoring last now name rec streams plan
stores-nowhere last now name rec streams events plan from events_are nowhere is =
    subst (PlansStoring last now name rec streams) (sym is) (record {
      sound = record { ok = refl; passed = refl; unmarked = refl; users = λ users. refl; can = tt };
      stores = record {
        stamp = sym (pos-unsigned_abs last from) ∙ ap (λ found. pos (last_of (unsigned_abs last) (second_of now) rec found)) (sym nowhere.none);
        events = events_are ∙ ap (events_of (unsigned_abs last) (second_of now) rec) (sym nowhere.none);
        streams = sym (nowhere.unchanged (with_stored (unsigned_abs last) (second_of now) rec));
      };
      room = λ spare. tt;
    })

-- where there is one, it is stored there
pub stores-at : (last now : ℤ) (name : StreamName) (rec : LogRecord) (streams : List OpenStream) (place : ℕ) (read : OpenStream) (taken : ℕ) (stamp : ℤ) (opened : ℕ) (filed : Filed) (event : StreamEvent) (events : List StreamEvent) (plan : LogPlan) → IsFirst (is_named name) streams place → read ≡ get_or streams place read → taken ≡ read.state.taken + 1 → opened ≤ taken + 1 → IsFiling last now rec read.state stamp opened (files_after filed read.state.files) → event ≡ storing (unsigned_abs last) (second_of now) rec read.state → events ≡ event ∷ [] → plan ≡ accepted_plan events stamp (Store place taken opened filed) → PlansStoring last now name rec streams plan
stores-at last now name rec streams place read taken stamp opened filed event events plan first is taken_is few filing event_is events_are plan_is =
    let found = found-at (is_named name) streams place read first is in
    let after = state_after (storing (unsigned_abs last) (second_of now) rec read.state) in
    let new : filed_in taken opened filed read ≡ with_stored (unsigned_abs last) (second_of now) rec read =
    ap (λ n. filed_in n opened filed read) taken_is ∙ ap (λ o. filed_in (read.state.taken + 1) o filed read) filing.opened_is
    ∙ ap (λ (these : List LogFile). with_files (read.state.taken + 1) after.opened these read) filing.files_are in
    subst (PlansStoring last now name rec streams) (sym plan_is) (record {
      sound = record { ok = refl; passed = refl; unmarked = refl; users = λ users. refl; can = (first.within, few) };
      stores = record {
        stamp = filing.stamp_is ∙ ap (λ one. pos (last_of (unsigned_abs last) (second_of now) rec one)) (sym found);
        events = events_are ∙ ap (λ one. one ∷ []) event_is ∙ ap (events_of (unsigned_abs last) (second_of now) rec) (sym found);
        streams = sym (set-change_at (filed_in taken opened filed) streams place read is first.within)
            ∙ changed-at (is_named name) streams place read (filed_in taken opened filed read) (with_stored (unsigned_abs last) (second_of now) rec) first is new;
      };
      room = λ spare. tt;
    })

pub joins-nowhere : (last : ℤ) (client : ℕ) (name : StreamName) (streams : List OpenStream) (events : List StreamEvent) (plan : LogPlan) → events ≡ [] → IsNowhere (is_named name) streams → plan ≡ accepted_plan events last Stay → PlansJoining last client name streams plan
joins-nowhere last client name streams events plan events_are nowhere is =
    subst (PlansJoining last client name streams) (sym is) (record {
      sound = record { ok = refl; passed = refl; unmarked = refl; users = λ users. refl; can = tt };
      stamp = refl;
      events = events_are;
      now = sym (nowhere.unchanged (with_opener client));
    })

pub joins-at : (last : ℤ) (client : ℕ) (name : StreamName) (streams : List OpenStream) (place : ℕ) (read : OpenStream) (openers : List ℕ) (events : List StreamEvent) (plan : LogPlan) → IsFirst (is_named name) streams place → read ≡ get_or streams place read → openers ≡ put nat_lt client read.openers → events ≡ [] → plan ≡ accepted_plan events last (Join place openers) → PlansJoining last client name streams plan
joins-at last client name streams place read openers events plan first is openers_are events_are plan_is =
    subst (PlansJoining last client name streams) (sym plan_is) (record {
      sound = record { ok = refl; passed = refl; unmarked = refl; users = λ users. refl; can = first.within };
      stamp = refl;
      events = events_are;
      now = sym (set-change_at (with_openers openers) streams place read is first.within)
          ∙ changed-at (is_named name) streams place read (with_openers openers read) (with_opener client) first is (ap (λ these. with_openers these read) openers_are);
    })

pub marks-nowhere : (last : ℤ) (name : StreamName) (mark : Mark) (streams : List OpenStream) (events : List StreamEvent) (plan : LogPlan) → events ≡ [] → IsNowhere (is_named name) streams → plan ≡ accepted_plan events last Stay → PlansMarking last name mark streams plan
marks-nowhere last name mark streams events plan events_are nowhere is =
    subst (PlansMarking last name mark streams) (sym is) (record {
      sound = record { ok = refl; passed = refl; unmarked = refl; users = λ users. refl; can = tt };
      stamp = refl;
      events = events_are;
      now = sym (nowhere.unchanged (with_mark mark));
      room = λ spare. tt;
    })

pub marks-at : (last : ℤ) (name : StreamName) (mark : Mark) (streams : List OpenStream) (place : ℕ) (events : List StreamEvent) (plan : LogPlan) → IsFirst (is_named name) streams place → events ≡ [] → plan ≡ accepted_plan events last (Set place mark) → PlansMarking last name mark streams plan
marks-at last name mark streams place events plan first events_are is =
    subst (PlansMarking last name mark streams) (sym is) (record {
      sound = record { ok = refl; passed = refl; unmarked = refl; users = λ users. refl; can = first.within };
      stamp = refl;
      events = events_are;
      now = at streams first.within (λ d. first.changed (with_mark mark) d);
      room = λ spare. tt;
    }) where
      at : (these : List OpenStream) → place < length these → ((d : OpenStream) → change_first (is_named name) (with_mark mark) these ≡ set these place (with_mark mark (get_or these place d))) → change_at (with_mark mark) these place ≡ change_first (is_named name) (with_mark mark) these
      at [] within changed = absurd (omega (arith, within))
      at (stream ∷ others) within changed =
          let read = get_or (stream ∷ others) place stream in
          sym (set-change_at (with_mark mark) (stream ∷ others) place read (read-same (stream ∷ others) place stream within) within)
          ∙ sym (changed stream)
