-- What an ok open tells, and what it makes of the state.
use Rattle.std.proofs.Common.{◌≡◌, ℕ, nat_le, Bool, true, false, not, ◌&&◌, List, [], ◌∷◌, w64, refl, ap, sym, ◌∙◌, subst, arith}
use Rattle.std.specs.Prelude.{Option, Some, None, is_some, option_map, ℤ, pos, ◌≤ℤ◌, unsigned_abs}
use Rattle.std.specs.Option.{option_map_or, ForSome}
use Rattle.std.specs.List.{list_any}
use Rattle.std.proofs.lemmas.Bool.{and_right}
use mir.Val.{SFits}
use Rattle.client_set.specs.Members.{has}
use Rattle.ais_values.specs.declared.status.Status.TheVariants as status
use Rattle.stream_config.specs.Attributes.{kind_of, PassesAttrs}
use Rattle.stream_config.specs.AttributeTests.{passes_attrs}
use Rattle.stream_config.specs.Stamps.{stamp_after}
use Rattle.stream_config.specs.declared.attrs.StreamAttrs.{StreamAttrs}
use Rattle.stream_config.specs.declared.attrs.StreamName.{StreamName}
use Rattle.stream_config.specs.declared.event.StreamEvent.{StreamEvent}
use Rattle.stream_config.proofs.AttributeLaws.{decides_attrs}
use Rattle.log_history.specs.Names.{is_application}
use Rattle.log_history.specs.Answers.{answer, open_rows}
use Rattle.log_history.specs.Changes.{Opened}
use Rattle.log_history.specs.Firsts.{change_first}
use Rattle.log_history.specs.Table.{OpenStream, LogTable, is_named, with_opener, has_nobody, opened_stream}
use Rattle.log_history.specs.KeptAnswers.{kept_stream, has_place, is_crowd, open_status, making_in}
use Rattle.log_service.specs.Moments.{IsTimeOfCall, IsMoment, second_of}
use Rattle.log_service.specs.State.{Made, AreFew, table_with}
use Rattle.log_service.specs.Changing.{OpensIn}
use Rattle.log_service.proofs.EndLemmas.{pos-from, abs-bound, second-bound, stamp-bound}
use Rattle.log_service.proofs.KeptLemmas.{AreFew-changed, AreFew-pushed, busy-changed, busy-pushed, count-applications, moment-fits}
use Rattle.log_history.proofs.FitTableLaws.{some-put}

-- an ok open that makes a stream: it is an application's, its attributes pass, and fewer than 64 live
pub record MakesNew (streams : List OpenStream) (name : StreamName) (attrs : StreamAttrs) : Type 0 where
  pub application : is_application name ≡ true
  pub passes : PassesAttrs (kind_of name) attrs
  pub room : is_crowd streams ≡ false

new-rows : (using application passes taken crowded : Bool) → answer ((not using, status.BadHandle) ∷ (not application, status.InvalidParam) ∷ (not passes, status.InvalidParam) ∷ (false, status.Ok) ∷ (false, status.Exist) ∷ (taken, status.Exist) ∷ (crowded, status.NoResources) ∷ []) ≡ status.Ok → (application ≡ true) × (passes ≡ true) × (crowded ≡ false)
new-rows false application passes taken crowded ok = cc
new-rows true false passes taken crowded ok = cc
new-rows true true false taken crowded ok = cc
new-rows true true true true crowded ok = cc
new-rows true true true false true ok = cc
new-rows true true true false false ok = (refl, refl, refl)

pub makes-new : (kept : LogTable) (client : ℕ) (name : StreamName) (create : Option StreamAttrs) (attrs : StreamAttrs) → open_status kept client name create ≡ status.Ok → making_in kept.streams name create ≡ Some attrs → MakesNew kept.streams name attrs
makes-new kept client name create attrs ok makes = by_case (kept_stream kept.streams name) refl makes where
  by_case : (found : Option OpenStream) → kept_stream kept.streams name ≡ found → option_map_or (λ (_ : OpenStream). None) found create ≡ Some attrs → MakesNew kept.streams name attrs
  by_case (Some stream) is some = cc
  by_case None is some =
      let answered : answer (open_rows (has client kept.users) None (has_place kept.streams attrs) (is_crowd kept.streams) name (Some attrs)) ≡ status.Ok =
      ap (λ (living : Option OpenStream). answer (open_rows (has client kept.users) (option_map (λ (stream : OpenStream). stream.state.attrs) living) (has_place kept.streams attrs) (is_crowd kept.streams) name (Some attrs))) (sym is)
      ∙ ap (open_status kept client name) (sym some) ∙ ok in
      let told = new-rows (has client kept.users) (is_application name) (passes_attrs (kind_of name) attrs) (has_place kept.streams attrs) (is_crowd kept.streams) answered in
      record { application = told.0; passes = (decides_attrs (kind_of name) attrs).0 told.1; room = told.2 }

-- the attributes with which an ok open makes a stream pass
pub making-passes : (kept : LogTable) (client : ℕ) (name : StreamName) (create : Option StreamAttrs) → open_status kept client name create ≡ status.Ok → ForSome (making_in kept.streams name create) (PassesAttrs (kind_of name))
making-passes kept client name create ok attrs is = (makes-new kept client name create attrs ok is).passes

-- an open of a stream that lives makes none
pub making-none : (streams : List OpenStream) (name : StreamName) (create : Option StreamAttrs) → is_some (kept_stream streams name) ≡ true → making_in streams name create ≡ None
making-none streams name create lives = by_case (kept_stream streams name) lives where
  by_case : (found : Option OpenStream) → is_some found ≡ true → option_map_or (λ (_ : OpenStream). None) found create ≡ None
  by_case (Some stream) lives = refl
  by_case None lives = cc

-- an opened stream is the change that was made
pub made-opened : (last now : ℤ) (client number : ℕ) (name : StreamName) (making : Option StreamAttrs) (old new : List OpenStream) (users : List ℕ) (kept : LogTable) (opened : ℤ × List StreamEvent) (stamp : ℤ) (events : List StreamEvent) → table_with (unsigned_abs last) users old ≡ kept → OpensIn last now client number name making old new opened → stamp ≡ opened.0 → events ≡ opened.1 → Made (Opened client name making (second_of now) number) kept (table_with (unsigned_abs stamp) users new) events
made-opened last now client number name None old new users kept opened stamp events kept_is opens stamp_is events_are =
    let after = table_with (unsigned_abs stamp) users new in
    subst (λ (k : LogTable). Made (Opened client name None (second_of now) number) k after events) kept_is (record {
      now = ap (λ (n : ℕ). table_with n users new) (ap unsigned_abs (stamp_is ∙ opens.stamp)) ∙ ap (table_with (unsigned_abs last) users) opens.streams;
      done = events_are ∙ opens.events;
    })
made-opened last now client number name (Some attrs) old new users kept opened stamp events kept_is opens stamp_is events_are =
    let after = table_with (unsigned_abs stamp) users new in
    subst (λ (k : LogTable). Made (Opened client name (Some attrs) (second_of now) number) k after events) kept_is (record {
      now = ap (λ (n : ℕ). table_with n users new) (ap unsigned_abs (stamp_is ∙ opens.stamp)) ∙ ap (table_with (stamp_after (unsigned_abs last) (second_of now)) users) opens.streams;
      done = events_are ∙ opens.events;
    })

joined-busy : (client : ℕ) (stream : OpenStream) → has_nobody (with_opener client stream) ≡ false
joined-busy client stream =
    ap (λ b. is_application stream.state.name && b) (some-put client stream.openers) ∙ and_right (is_application stream.state.name) false refl

-- streams of which one was joined by a client
pub few-joined : (client : ℕ) (name : StreamName) (old new : List OpenStream) → new ≡ change_first (is_named name) (with_opener client) old → AreFew old → AreFew new
few-joined client name old new is few =
    subst (λ (streams : List OpenStream). AreFew streams) (sym is) (AreFew-changed (with_opener client) (λ _. refl) (is_named name) old few)

pub busy-joined : (client : ℕ) (name : StreamName) (old new : List OpenStream) → new ≡ change_first (is_named name) (with_opener client) old → list_any has_nobody old ≡ false → list_any has_nobody new ≡ false
busy-joined client name old new is busy =
    ap (list_any has_nobody) is ∙ busy-changed (with_opener client) (λ stream _. joined-busy client stream) (is_named name) old busy

-- the state stays as it is kept
pub record IsKeptOpen (stamp : ℤ) (new : List OpenStream) : Type 0 where
  pub fits : SFits w64 stamp
  pub from : pos 0 ≤ℤ stamp
  pub few : AreFew new
  pub busy : list_any has_nobody new ≡ false

made-fits : (last now : ℤ) (stamp : ℤ) → IsMoment last now → stamp ≡ pos (stamp_after (unsigned_abs last) (second_of now)) → SFits w64 stamp
made-fits last now stamp moment is =
    let time : IsTimeOfCall now = record { from = moment.from; to = moment.to } in
    let bound = stamp-bound (unsigned_abs last) (second_of now) 19999999000 true (abs-bound last 19999999000 moment.last_from moment.last_to) (second-bound now time) (omega arith) in
    subst (λ (z : ℤ). SFits w64 z) (sym is) (record { sfits = omega arith })

pub kept-open : (last now : ℤ) (client number : ℕ) (name : StreamName) (making : Option StreamAttrs) (old new : List OpenStream) (opened : ℤ × List StreamEvent) → IsMoment last now → AreFew old → list_any has_nobody old ≡ false → ((attrs : StreamAttrs) → making ≡ Some attrs → MakesNew old name attrs) → OpensIn last now client number name making old new opened → IsKeptOpen opened.0 new
kept-open last now client number name None old new opened moment few busy makes opens =
    let stamp_is = opens.stamp in
    record {
      fits = subst (λ (z : ℤ). SFits w64 z) (sym stamp_is) (moment-fits last now moment);
      from = subst (λ (z : ℤ). pos 0 ≤ℤ z) (sym stamp_is) moment.last_from;
      few = few-joined client name old new opens.streams few;
      busy = busy-joined client name old new opens.streams busy;
    }
kept-open last now client number name (Some attrs) old new opened moment few busy makes opens =
    let stamp_is = opens.stamp in
    let told = makes attrs refl in
    let stream = opened_stream client name attrs (stamp_after (unsigned_abs last) (second_of now)) number in
    record {
      fits = made-fits last now opened.0 moment stamp_is;
      from = subst (λ (z : ℤ). pos 0 ≤ℤ z) (sym stamp_is) (pos-from _);
      few = subst (λ (streams : List OpenStream). AreFew streams) (sym opens.streams) (AreFew-pushed old stream told.application (sym (ap (nat_le 64) (count-applications old)) ∙ told.room) few);
      busy = ap (list_any has_nobody) opens.streams ∙ busy-pushed old stream busy (and_right (is_application name) false refl);
    }
