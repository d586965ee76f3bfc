-- What searches among stored alarms answer, in words that compute; and windows as they are kept.
use Rattle.std.proofs.Common.{◌≡◌, ℕ, ◌+◌, Bool, true, false, not, List, [], ◌∷◌, length, take, reverse, get_or, set, nat_le, ◌<◌, refl, ap, sym, ◌∙◌, arith}
use Rattle.std.specs.Prelude.{ℤ, Option, Some, None, IfSome, IfNone, option_map, is_some, is_none, find, insert}
use Rattle.std.specs.Option.{option_map_or}
use Rattle.ntf_types.specs.declared.notification.Notification.{Notification}
use Rattle.ntf_filters.specs.declared.filter.FilterSet.{FilterSet}
use Rattle.alarm_view.specs.declared.alarm.KeptAlarm.{KeptAlarm}
use Rattle.alarm_view.specs.declared.cursor.Cursor.{Cursor}
use Rattle.alarm_view.specs.declared.mode.SearchMode.{SearchMode}
use Rattle.alarm_view.specs.declared.mode.Direction.{Direction}
use Rattle.alarm_view.specs.Alarms.{notifications, AreInOrder}
use Rattle.alarm_view.specs.Nearest.{IsNone, CanStart, CanFollow, IsStartAt, IsNext, cursor_before}
use Rattle.alarm_view.specs.Search.{starting, next_alarm}
use Rattle.alarm_view.proofs.AskedLaws.{starting-is, starting-none, next_alarm-is, next_alarm-none}
use Rattle.client_window.specs.Windows.{Kept, window_of}
use Rattle.client_window.proofs.Keeping.{window_of-more}
use Rattle.calls.specs.declared.reply.Reply.{Reply}
use Rattle.service_table.specs.declared.caller.ClientWindow.{ClientWindow}
use Rattle.std.proofs.lemmas.Bool.{eqb-true}
use Rattle.std.proofs.lemmas.List.{get_or_default}
use Rattle.ais_values.specs.declared.status.Status.{Status}
use Rattle.alarm_view.specs.Modes.{mode_of}
use Rattle.client_set.specs.Rising.{IsRising, put}
use Rattle.calls.specs.declared.saved.SavedReader.{SavedReader}
use Rattle.ntf_history.specs.Rows.{answer, start_rows_by, start_by}
use Rattle.service_table.specs.Tables.{client_window, is_window_for, window_before, reader_for, reader_before}
use Rattle.service_table.specs.Answering.{start_answer}
use Rattle.service_table.specs.Steps.{window_for, with_reply, answered, started_at}
use Rattle.service_parts.specs.Telling.{reader_at}
use Rattle.service_parts.proofs.ClientPlaces.{place_in, find-here, find-none, known-place, set-put, insert-put}

pub start-value : (mode : SearchMode) (value : ℤ) (filters : FilterSet) (alarms : List KeptAlarm) (result : Option Cursor) → AreInOrder alarms → IfSome result (λ cursor. IsStartAt mode value filters (notifications alarms) cursor) → IfNone result (IsNone (CanStart mode value filters) (notifications alarms)) → result ≡ option_map cursor_before (starting mode value filters (reverse (notifications alarms)))
start-value mode value filters alarms None order found none =
    ap (option_map cursor_before) (sym (starting-none mode value filters alarms order none))
start-value mode value filters alarms (Some cursor) order found none =
    ap (λ (c : Cursor). Some c) found.at ∙ ap (option_map cursor_before) (sym (starting-is mode value filters alarms order found.alarm found.is))

pub next-value : (cursor : Cursor) (way : Direction) (filters : FilterSet) (alarms : List KeptAlarm) (alarm : Notification) → AreInOrder alarms → IsNext cursor way filters (notifications alarms) alarm → Some alarm ≡ next_alarm cursor way filters (reverse (notifications alarms))
next-value cursor way filters alarms alarm order next = sym (next_alarm-is cursor way filters alarms order alarm next)

pub next-none : (cursor : Cursor) (way : Direction) (filters : FilterSet) (alarms : List KeptAlarm) → AreInOrder alarms → IsNone (CanFollow way cursor filters) (notifications alarms) → None ≡ next_alarm cursor way filters (reverse (notifications alarms))
next-none cursor way filters alarms order none = sym (next_alarm-none cursor way filters alarms order none)

-- a window with one reply more
pub taken-reply : (reply : Reply) (old new : Kept Reply) → (all : List Reply) × (old ≡ window_of all) → ((all : List Reply) → old ≡ window_of all → new ≡ window_of (reply ∷ all)) → new ≡ with_reply reply old
taken-reply reply old new stands taken =
    let all = stands.0 in
    let more : with_reply reply (window_of all) ≡ window_of (reply ∷ all) =
    window_of-more reply all (length all + 1) (take 32 all) (take 32 (reply ∷ take 32 all)) refl refl in
    taken all stands.1 ∙ sym more ∙ ap (with_reply reply) (sym stands.1)

-- the window of a client that has one, and of one that has none
pub window-some : (client : ℕ) (callers : List ClientWindow) (caller : ClientWindow) → find (is_window_for client) callers ≡ Some caller → window_for client callers ≡ caller.window
window-some client callers caller found = ap (λ o. option_map_or (λ (c : ClientWindow). c.window) o (window_of [])) found

pub window-none : (client : ℕ) (callers : List ClientWindow) → find (is_window_for client) callers ≡ None → window_for client callers ≡ window_of []
window-none client callers none = ap (λ o. option_map_or (λ (c : ClientWindow). c.window) o (window_of [])) none

-- what decides a start, by what was found

missing-is : (found : Option Cursor) (missing : Bool) → is_some found ≡ not missing → missing ≡ is_none found
missing-is None true is = refl
missing-is None false is = cc
missing-is (Some cursor) true is = cc
missing-is (Some cursor) false is = refl

pub start-answered : (is_user : Bool) (client code : ℕ) (value seen : ℤ) (filters : FilterSet) (alarms : List KeptAlarm) (readers slice : List SavedReader) (missing : Bool) (found : Option Cursor) (result : Status) → seen ≡ value → slice ≡ readers → found ≡ option_map cursor_before (start_by (mode_of code) seen filters alarms) → is_some found ≡ not missing → result ≡ answer (start_rows_by is_user (is_some (reader_for client slice)) (nat_le 16 (length slice)) missing code seen filters) → result ≡ start_answer is_user client readers alarms code value filters
start-answered is_user client code value seen filters alarms readers slice missing found result same these at is answered =
    let first = start_by (mode_of code) seen filters alarms in
    answered
    ∙ ap (λ rs. answer (start_rows_by is_user (is_some (reader_for client rs)) (nat_le 16 (length rs)) missing code seen filters)) these
    ∙ ap (λ b. answer (start_rows_by is_user (is_some (reader_for client readers)) (nat_le 16 (length readers)) b code seen filters)) (missing-is found missing is ∙ ap is_none at ∙ mapped first)
    ∙ ap (λ v. start_answer is_user client readers alarms code v filters) same where
      mapped : (o : Option Notification) → is_none (option_map cursor_before o) ≡ is_none o
      mapped None = refl
      mapped (Some alarm) = refl

-- the reader that starts at the alarm that was found
pub starts-found : (client : ℕ) (filters : FilterSet) (readers : List SavedReader) (first : Option Notification) (cursor : Cursor) → option_map cursor_before first ≡ Some cursor → put reader_before (reader_at client filters cursor) readers ≡ option_map_or (λ alarm. put reader_before (started_at client filters alarm) readers) first readers
starts-found client filters readers None cursor is = absurd cc
starts-found client filters readers (Some alarm) cursor is = cc

-- the window of a client that is answered

module _ (client : ℕ) (reply : Reply) (xs : List ClientWindow) (place : ℕ) (element : ClientWindow) (at : place ≡ place_in (λ (c : ClientWindow). c.client) client xs) (rising : IsRising window_before xs) (known : is_some (find (is_window_for client) xs) ≡ true) where
  known-at : (place_in (λ (c : ClientWindow). c.client) client xs < length xs) × (is_window_for client (get_or xs (place_in (λ (c : ClientWindow). c.client) client xs) element) ≡ true)
  known-at = known-place (λ (c : ClientWindow). c.client) client xs element rising known

  pub known-within : place < length xs
  known-within = omega (arith, at, known-at.0)

  module _ (there : element ≡ get_or xs place element) where
    stands : element ≡ get_or xs (place_in (λ (c : ClientWindow). c.client) client xs) element
    stands = there ∙ ap (λ n. get_or xs n element) at

    own : is_window_for client element ≡ true
    own = ap (λ (c : ClientWindow). is_window_for client c) stands ∙ known-at.1

    pub known-window : window_for client xs ≡ element.window
    known-window =
        window-some client xs (get_or xs (place_in (λ (c : ClientWindow). c.client) client xs) element) (find-here (λ (c : ClientWindow). c.client) client xs element known-at.0 known-at.1)
        ∙ ap (λ (c : ClientWindow). c.window) (sym stands)

    pub known-answered : (new : Kept Reply) → new ≡ with_reply reply element.window → set xs place (client_window element.client new) ≡ answered client reply xs
    known-answered new is =
        let same : element.client ≡ client = eqb-true element.client client own in
        let made : client_window element.client new ≡ client_window client (with_reply reply (window_for client xs)) =
        ap (λ c. client_window c new) same ∙ ap (client_window client) (is ∙ ap (with_reply reply) (sym known-window)) in
        ap (λ n. set xs n (client_window element.client new)) at
        ∙ ap (set xs (place_in (λ (c : ClientWindow). c.client) client xs)) made
        ∙ set-put (λ (c : ClientWindow). c.client) (client_window client (with_reply reply (window_for client xs))) xs element known-at.0 known-at.1

pub first-answered : (client : ℕ) (reply : Reply) (xs : List ClientWindow) (place : ℕ) (window new : Kept Reply) → place ≡ place_in (λ (c : ClientWindow). c.client) client xs → find (is_window_for client) xs ≡ None → window ≡ window_of [] → new ≡ with_reply reply window → insert xs place (client_window client new) ≡ answered client reply xs
first-answered client reply xs place window new at none fresh is =
    let made : client_window client new ≡ client_window client (with_reply reply (window_for client xs)) =
    ap (client_window client) (is ∙ ap (with_reply reply) (fresh ∙ sym (window-none client xs none))) in
    ap (λ n. insert xs n (client_window client new)) at
    ∙ ap (insert xs (place_in (λ (c : ClientWindow). c.client) client xs)) made
    ∙ insert-put (λ (c : ClientWindow). c.client) (client_window client (with_reply reply (window_for client xs))) xs none

-- what is found under a client, by what stands at its place

pub found-there : (client : ℕ) (xs : List ClientWindow) (place : ℕ) (element : ClientWindow) → place ≡ place_in (λ (c : ClientWindow). c.client) client xs → place < length xs → element ≡ get_or xs place element → is_window_for client element ≡ true → Some element ≡ find (is_window_for client) xs
found-there client xs place element at within there own =
    let stands : element ≡ get_or xs (place_in (λ (c : ClientWindow). c.client) client xs) element = there ∙ ap (λ n. get_or xs n element) at in
    ap (λ (c : ClientWindow). Some c) stands
    ∙ sym (find-here (λ (c : ClientWindow). c.client) client xs element (omega (arith, at, within)) (sym (ap (λ (c : ClientWindow). is_window_for client c) stands) ∙ own))

pub none-there : (client : ℕ) (xs : List ClientWindow) (place : ℕ) → IsRising window_before xs → place ≡ place_in (λ (c : ClientWindow). c.client) client xs → ((d : ClientWindow) → place < length xs → is_window_for client (get_or xs place d) ≡ false) → None ≡ find (is_window_for client) xs
none-there client xs place rising at other =
    sym (find-none (λ (c : ClientWindow). c.client) client xs rising (λ d within. ap (λ n. is_window_for client (get_or xs n d)) (sym at) ∙ other d (omega (arith, at, within))))

pub none-at : (client : ℕ) (xs : List ClientWindow) (place : ℕ) (element : ClientWindow) → IsRising window_before xs → place ≡ place_in (λ (c : ClientWindow). c.client) client xs → element ≡ get_or xs place element → is_window_for client element ≡ false → None ≡ find (is_window_for client) xs
none-at client xs place element rising at there other =
    none-there client xs place rising at
    (λ d within. ap (λ (c : ClientWindow). is_window_for client c) (get_or_default xs place d element within ∙ sym there) ∙ other)
