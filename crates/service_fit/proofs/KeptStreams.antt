-- What each change of the log keeps: who has a stream open uses the service, somebody has each application's stream open, at
-- most 64 of these live, and no two streams have one place.
use Rattle.std.proofs.Common.{◌≡◌, ℕ, ◌+◌, ◌<◌, ◌≤◌, ◌==◌, nat_lt, Bool, true, false, not, ◌&&◌, ◌||◌, cond, List, [], ◌∷◌, ◌++◌, length, refl, ap, ◌∙◌, arith, length-append}
use Rattle.std.specs.Prelude.{Some, None, filter}
use Rattle.std.specs.List.{AllByRecursion}
use Rattle.std.proofs.lemmas.Bool.Decides.{nat_tests}
use Rattle.std.proofs.lemmas.List.Elements.{filter-append}
use Rattle.std.proofs.lemmas.Bool.{and_from, not-true}
use Rattle.std.proofs.Math.Bool.{and-false}
use Rattle.ais_values.specs.Codes.{all_differ}
use Rattle.client_set.specs.Members.{has}
use Rattle.client_set.specs.Rising.{put, without, IsRising}
use Rattle.client_set.proofs.RisingLaws.{IsOrder-nat_lt, IsRising-put, IsRising-without, has-put, has-without}
use Rattle.stream_config.specs.declared.attrs.StreamAttrs.{StreamAttrs}
use Rattle.stream_config.specs.declared.attrs.StreamName.{StreamName}
use Rattle.stream_config.specs.declared.mark.Mark.{Mark}
use Rattle.stream_config.specs.AttributeTests.{have_one_place}
use Rattle.stream_config.specs.Stamps.{stamp_after}
use Rattle.record_print.specs.declared.record.LogRecord.{LogRecord}
use Rattle.log_history.specs.Names.{is_application}
use Rattle.log_history.specs.Changes.{Began, Opened, Stored, Filtered, Closed, Ended}
use Rattle.log_history.specs.KeptAnswers.{has_place, is_of_application}
use Rattle.log_history.specs.Table.{OpenStream, LogTable, is_named, has_nobody, with_opener, with_mark, without_opener, with_stored, closed_streams, left_streams, kept_streams, opened_stream, table_after}
use Rattle.log_history.proofs.FitTableLaws.{some-put}
use Rattle.plain_service.specs.Fitness.{AreClients, IsAmong}
use Rattle.plain_service.specs.Legal.{IsClient}
use Rattle.plain_service.proofs.ListLaws.{each-put, each-without, each-weaker, each-push, each-filter, each-change_first, each-mapped, differ-changed, differ-filtered, differ-pushed, differ-mapped, count-changed, count-filtered}

-- a kept stream: those who have it open are users, and somebody has an application's stream open
pub record IsUsed (using : List ℕ) (stream : OpenStream) : Type 0 where
  pub rising : IsRising nat_lt stream.openers
  pub clients : AllByRecursion IsClient stream.openers
  pub users : AllByRecursion (IsAmong using) stream.openers
  pub somebody : has_nobody stream ≡ false

-- two kept streams have one path and file
abbrev pub have_one_spot : OpenStream → OpenStream → Bool
have_one_spot one other = have_one_place one.state.attrs other.state.attrs

-- what holds of what is kept
pub record IsSoundLog (kept : LogTable) : Type 0 where
  pub users : AreClients kept.users
  pub each : AllByRecursion (IsUsed kept.users) kept.streams
  pub few : length (filter is_of_application kept.streams) ≤ 64
  pub places : all_differ have_one_spot kept.streams ≡ true

-- who uses the service still does when one more client does, and one who left is alone in it
pub among-put : (client : ℕ) (using : List ℕ) (user : ℕ) → IsAmong using user → IsAmong (put nat_lt client using) user
among-put client using user is = has-put user client using ∙ later (client == user) (has user using) is where
  later : (a b : Bool) → b ≡ true → (a || b) ≡ true
  later true b e = refl
  later false b e = e

pub among-without : (client : ℕ) (using : List ℕ) (user : ℕ) → IsAmong using user → (user == client) ≡ false → IsAmong (without (λ other. other == client) using) user
among-without client using user is apart =
    has-without user client using ∙ and_from (not (client == user)) (has user using) (ap not (turned client user apart)) is where
      turned : (a b : ℕ) → (b == a) ≡ false → (a == b) ≡ false
      turned a b e = grind (arith, nat_tests)

IsUsed-more : (client : ℕ) (using : List ℕ) (stream : OpenStream) → IsUsed using stream → IsUsed (put nat_lt client using) stream
IsUsed-more client using stream is = record {
  rising = is.rising;
  clients = is.clients;
  users = each-weaker (IsAmong using) (IsAmong (put nat_lt client using)) (among-put client using) stream.openers is.users;
  somebody = is.somebody;
}

IsUsed-opened : (client : ℕ) (using : List ℕ) (stream : OpenStream) → IsClient client → IsAmong using client → IsUsed using stream → IsUsed using (with_opener client stream)
IsUsed-opened client using stream caller user is = record {
  rising = IsRising-put nat_lt IsOrder-nat_lt client stream.openers is.rising;
  clients = each-put IsClient nat_lt client stream.openers caller is.clients;
  users = each-put (IsAmong using) nat_lt client stream.openers user is.users;
  somebody = ap (λ b. is_application stream.state.name && b) (some-put client stream.openers) ∙ and-false (is_application stream.state.name);
}

-- what is left of the openers of a stream, before the streams that nobody has open end
record IsLeft (using : List ℕ) (stream : OpenStream) : Type 0 where
  rising : IsRising nat_lt stream.openers
  clients : AllByRecursion IsClient stream.openers
  users : AllByRecursion (IsAmong using) stream.openers

IsLeft-of : (using : List ℕ) (stream : OpenStream) → IsUsed using stream → IsLeft using stream
IsLeft-of using stream is = record { rising = is.rising; clients = is.clients; users = is.users }

IsLeft-closed : (client : ℕ) (using : List ℕ) (stream : OpenStream) → IsLeft using stream → IsLeft using (without_opener client stream)
IsLeft-closed client using stream is = record {
  rising = IsRising-without nat_lt (λ other. other == client) stream.openers is.rising;
  clients = each-without IsClient (λ other. other == client) stream.openers is.clients;
  users = each-without (IsAmong using) (λ other. other == client) stream.openers is.users;
}

-- a client that ends its use has no stream open any more
users-ended : (client : ℕ) (using clients : List ℕ) → AllByRecursion (IsAmong using) clients → AllByRecursion (IsAmong (without (λ other. other == client) using)) (without (λ other. other == client) clients)
users-ended client using [] each = tt
users-ended client using (other ∷ clients) each = by_case (other == client) refl (users-ended client using clients each.1) where
  by_case : (b : Bool) → (other == client) ≡ b → AllByRecursion (IsAmong (without (λ user. user == client) using)) (without (λ user. user == client) clients) → AllByRecursion (IsAmong (without (λ user. user == client) using)) (cond b (without (λ user. user == client) clients) (other ∷ without (λ user. user == client) clients))
  by_case true is rest = rest
  by_case false is rest = (among-without client using other each.0 is, rest)

IsLeft-ended : (client : ℕ) (using : List ℕ) (stream : OpenStream) → IsUsed using stream → IsLeft (without (λ other. other == client) using) (without_opener client stream)
IsLeft-ended client using stream is = record {
  rising = IsRising-without nat_lt (λ other. other == client) stream.openers is.rising;
  clients = each-without IsClient (λ other. other == client) stream.openers is.clients;
  users = users-ended client using stream.openers is.users;
}

-- once the streams that nobody has open have ended, all that are kept are used
used-kept : (using : List ℕ) (streams : List OpenStream) → AllByRecursion (IsLeft using) streams → AllByRecursion (IsUsed using) (kept_streams streams)
used-kept using streams each =
    each-weaker (λ (stream : OpenStream). IsLeft using stream × (not (has_nobody stream) ≡ true)) (IsUsed using)
    (λ stream is. record { rising = is.0.rising; clients = is.0.clients; users = is.0.users; somebody = not-true (has_nobody stream) is.1 })
    (kept_streams streams) (each-filter (IsLeft using) (λ stream. not (has_nobody stream)) streams each)

-- one more change

module _ (kept : LogTable) (sound : IsSoundLog kept) where
  pub sound-began : (client : ℕ) → IsClient client → IsSoundLog (table_after (Began client) kept)
  sound-began client caller = record {
    users = record {
      rising = IsRising-put nat_lt IsOrder-nat_lt client kept.users sound.users.rising;
      each = each-put IsClient nat_lt client kept.users caller sound.users.each;
    };
    each = each-weaker (IsUsed kept.users) (IsUsed (put nat_lt client kept.users)) (IsUsed-more client kept.users) kept.streams sound.each;
    few = sound.few;
    places = sound.places;
  }

  pub sound-opened : (client : ℕ) (name : StreamName) (second number : ℕ) → IsClient client → IsAmong kept.users client → IsSoundLog (table_after (Opened client name None second number) kept)
  sound-opened client name second number caller user = record {
    users = sound.users;
    each = each-change_first (IsUsed kept.users) (is_named name) (with_opener client) (λ stream is. IsUsed-opened client kept.users stream caller user is) kept.streams sound.each;
    few = omega (arith, count-changed is_of_application (is_named name) (with_opener client) (λ _. refl) kept.streams, sound.few);
    places = differ-changed have_one_spot (is_named name) (with_opener client) (λ _ _. refl) (λ _ _. refl) kept.streams ∙ sound.places;
  }

  pub sound-made : (client : ℕ) (name : StreamName) (attrs : StreamAttrs) (second number : ℕ) → IsClient client → IsAmong kept.users client → length (filter is_of_application kept.streams) < 64 → has_place kept.streams attrs ≡ false → IsSoundLog (table_after (Opened client name (Some attrs) second number) kept)
  sound-made client name attrs second number caller user room free =
      let made = opened_stream client name attrs (stamp_after kept.last second) number in
      let counted : length (filter is_of_application (kept.streams ++ made ∷ [])) ≡ length (filter is_of_application kept.streams) + length (filter is_of_application (made ∷ [])) =
      ap length (filter-append is_of_application kept.streams (made ∷ [])) ∙ length-append (filter is_of_application kept.streams) (filter is_of_application (made ∷ [])) in
      record {
        users = sound.users;
        each = each-push (IsUsed kept.users) kept.streams made sound.each (record { rising = (tt, tt); clients = (caller, tt); users = (user, tt); somebody = and-false (is_application name) });
        few = omega (arith, counted, one (is_application name) made, room);
        places = differ-pushed have_one_spot kept.streams made sound.places free;
      } where
        one : (app : Bool) (stream : OpenStream) → length (cond app (stream ∷ []) []) ≤ 1
        one true stream = omega arith
        one false stream = omega arith

  pub sound-stored : (name : StreamName) (rec : LogRecord) (second : ℕ) → IsSoundLog (table_after (Stored name rec second) kept)
  sound-stored name rec second = record {
    users = sound.users;
    each = each-change_first (IsUsed kept.users) (is_named name) (with_stored kept.last second rec)
        (λ stream is. record { rising = is.rising; clients = is.clients; users = is.users; somebody = is.somebody }) kept.streams sound.each;
    few = omega (arith, count-changed is_of_application (is_named name) (with_stored kept.last second rec) (λ _. refl) kept.streams, sound.few);
    places = differ-changed have_one_spot (is_named name) (with_stored kept.last second rec) (λ _ _. refl) (λ _ _. refl) kept.streams ∙ sound.places;
  }

  pub sound-filtered : (client : ℕ) (name : StreamName) (mask number : ℕ) → IsSoundLog (table_after (Filtered client name mask number) kept)
  sound-filtered client name mask number =
      let mark : Mark = record { since = number; mask = mask } in
      record {
        users = sound.users;
        each = each-change_first (IsUsed kept.users) (is_named name) (with_mark mark)
            (λ stream is. record { rising = is.rising; clients = is.clients; users = is.users; somebody = is.somebody }) kept.streams sound.each;
        few = omega (arith, count-changed is_of_application (is_named name) (with_mark mark) (λ _. refl) kept.streams, sound.few);
        places = differ-changed have_one_spot (is_named name) (with_mark mark) (λ _ _. refl) (λ _ _. refl) kept.streams ∙ sound.places;
      }

  pub sound-closed : (client : ℕ) (name : StreamName) (second : ℕ) → IsSoundLog (table_after (Closed client name second) kept)
  sound-closed client name second =
      let left = closed_streams client name kept.streams in
      record {
        users = sound.users;
        each = used-kept kept.users left
            (each-change_first (IsLeft kept.users) (is_named name) (without_opener client) (λ stream is. IsLeft-closed client kept.users stream is) kept.streams
            (each-weaker (IsUsed kept.users) (IsLeft kept.users) (IsLeft-of kept.users) kept.streams sound.each));
        few = omega (arith, count-filtered is_of_application (λ stream. not (has_nobody stream)) left, count-changed is_of_application (is_named name) (without_opener client) (λ _. refl) kept.streams, sound.few);
        places = differ-filtered have_one_spot (λ stream. not (has_nobody stream)) left (differ-changed have_one_spot (is_named name) (without_opener client) (λ _ _. refl) (λ _ _. refl) kept.streams ∙ sound.places);
      }

  pub sound-ended : (client second : ℕ) → IsSoundLog (table_after (Ended client second) kept)
  sound-ended client second =
      let left = left_streams client kept.streams in
      let using = without (λ other. other == client) kept.users in
      record {
        users = record {
          rising = IsRising-without nat_lt (λ other. other == client) kept.users sound.users.rising;
          each = each-without IsClient (λ other. other == client) kept.users sound.users.each;
        };
        each = used-kept using left
            (each-mapped (IsLeft using) (without_opener client) kept.streams
            (each-weaker (IsUsed kept.users) (λ stream. IsLeft using (without_opener client stream)) (λ stream is. IsLeft-ended client kept.users stream is) kept.streams sound.each));
        few = omega (arith, count-filtered is_of_application (λ stream. not (has_nobody stream)) left, count-left kept.streams, sound.few);
        places = differ-filtered have_one_spot (λ stream. not (has_nobody stream)) left (differ-mapped (without_opener client) have_one_spot have_one_spot (λ _ _. refl) kept.streams ∙ sound.places);
      } where
        more : (app : Bool) (stream other : OpenStream) (xs ys : List OpenStream) → length xs ≡ length ys → length (cond app (stream ∷ xs) xs) ≡ length (cond app (other ∷ ys) ys)
        more true stream other xs ys e = omega (arith, e)
        more false stream other xs ys e = e

        count-left : (streams : List OpenStream) → length (filter is_of_application (left_streams client streams)) ≡ length (filter is_of_application streams)
        count-left [] = refl
        count-left (stream ∷ streams) =
            more (is_of_application stream) (without_opener client stream) stream (filter is_of_application (left_streams client streams)) (filter is_of_application streams) (count-left streams)
