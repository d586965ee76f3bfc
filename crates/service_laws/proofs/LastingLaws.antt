-- A subscription that lasts was asked for, was not refused, and was not given up since.
use Rattle.std.proofs.Common.{◌≡◌, ℕ, suc, ◌≤◌, ◌==◌, Bool, true, false, not, ◌&&◌, ◌||◌, cond, inl, inr, List, [], ◌∷◌, length, refl, ap, sym, ◌∙◌, subst, arith}
use Rattle.std.specs.Prelude.{ℤ, Option, Some, None, is_some, nat_le}
use Rattle.std.specs.List.{AllByRecursion, list_any}
use Rattle.std.proofs.lemmas.Bool.Decides.{nat_tests}
use Rattle.std.proofs.lemmas.Bool.{or_right, and_from, ne_eqb}
use Rattle.ais_values.specs.declared.status.Status.{Status}
use Rattle.ais_values.specs.declared.status.Status.TheVariants as status
use Rattle.client_set.specs.Members.{Stands}
use Rattle.client_set.specs.Rising.{without}
use Rattle.client_set.proofs.RisingLaws.{Stands-put, Stands-without}
use Rattle.calls.specs.declared.call.Call.{Call}
use Rattle.calls.specs.declared.call.Call.TheVariants.{NtfInit, NtfSend, NtfSubscribe, NtfUnsubscribe, NtfFini}
use Rattle.calls.specs.declared.entry.Entry.{Entry}
use Rattle.calls.specs.declared.entry.Entry.TheVariants.{Called, Receipted}
use Rattle.calls.specs.declared.reply.Reply.{Reply}
use Rattle.calls.specs.declared.reply.Reply.TheVariants.{Refused, Done}
use Rattle.ntf_filters.specs.declared.filter.FilterSet.{FilterSet}
use Rattle.ntf_filters.specs.FitTests.{is_fit}
use Rattle.log_history.specs.Answers.{answer}
use Rattle.ntf_history.specs.Changes.{Sub, is_using}
use Rattle.ntf_history.specs.Rows.{end_by, unsubscribe_by}
use Rattle.ntf_history.specs.Subscriptions.{has_id, is_of, comes_first, subs, sub_at}
use Rattle.ntf_history.proofs.KeyLaws.{sub_at-stands, has_key-is}
use Rattle.cluster_facts.specs.Lists.{IsNumbered}
use Rattle.cluster_facts.specs.Messages.{calls_in}
use Rattle.cluster_facts.specs.Service.{answers_in, subscribed}
use Rattle.cluster_facts.proofs.Words.{by_test, All-at, All-map}
use Rattle.plain_service.specs.Setups.{Setup}
use Rattle.plain_service.specs.Pasts.{Past, counted}
use Rattle.plain_service.specs.Answers.{status_of}
use Rattle.plain_service.specs.Changing.{past_after, past_with, past_received, past_of}
use Rattle.plain_service.specs.Items.{lasts_for}
use Rattle.plain_service.specs.Replies.{ok_reply, reply_by, reply_of}
use Rattle.plain_service.proofs.OkAnswers.{subscribe-ok}
use Rattle.plain_service.proofs.Possible.{past_after-by}
use Rattle.service_laws.specs.PlainOf.{plain_of}

-- what holds of a subscription that lasts, by its client's calls and the replies to them: the client uses the service
record IsAsked (past : Past) (calls : List (ℕ × Call)) (answers : List (ℕ × Reply)) (sub : Sub) : Type 0 where
  user : is_using past.ntf sub.client ≡ true
  asked : Stands (sub.key, sub.id) (subscribed calls)
  unrefused : (refusal : Status) → Stands (sub.key, Refused refusal) answers → ⊥
  known : sub.key ≤ length calls

abbrev AllAsked : ℕ → Past → List (ℕ × Call) → List (ℕ × Reply) → Type 0
AllAsked client past calls answers = (sub : Sub) → Stands sub (subs past.ntf) → sub.client ≡ client → IsAsked past calls answers sub

-- words

second-not : (a b : Bool) → a ≡ true → (a && b) ≡ false → b ≡ false
second-not true b is both = both
second-not false b is both = cc

same-test : (a b : ℕ) → a ≡ b → (a == b) ≡ true
same-test a b e = grind (arith, nat_tests)

any-at : {X : Type 0} (test : X → Bool) (x : X) (xs : List X) → list_any test xs ≡ false → Stands x xs → test x ≡ false
any-at test x [] none stands = absurd stands
any-at {X} test x (y ∷ ys) none stands = by_case (test y) refl none stands (any-at test x ys) where
  by_case : (b : Bool) → test y ≡ b → (b || list_any test ys) ≡ false → Stands x (y ∷ ys) → (list_any test ys ≡ false → Stands x ys → test x ≡ false) → test x ≡ false
  by_case true is holds there behind = cc
  by_case false is holds (inl same) behind = ap test same ∙ is
  by_case false is holds (inr there) behind = behind holds there

Stands-kept : {X : Type 0} (test : X → Bool) (x : X) (xs : List X) → Stands x xs → test x ≡ false → Stands x (without test xs)
Stands-kept test x [] stands fails = absurd stands
Stands-kept {X} test x (y ∷ ys) stands fails = by_case (test y) refl stands (λ there. Stands-kept test x ys there fails) where
  by_case : (b : Bool) → test y ≡ b → Stands x (y ∷ ys) → (Stands x ys → Stands x (without test ys)) → Stands x (cond b (without test ys) (y ∷ without test ys))
  by_case true is (inl same) behind = let e : test y ≡ false = ap test (sym same) ∙ fails in cc
  by_case true is (inr there) behind = behind there
  by_case false is (inl same) behind = inl same
  by_case false is (inr there) behind = inr (behind there)

-- a later answer has another number
unrefused-later : (key number count : ℕ) (reply : Reply) (answers : List (ℕ × Reply)) → number ≡ suc count → key ≤ count → ((refusal : Status) → Stands (key, Refused refusal) answers → ⊥) → (refusal : Status) → Stands (key, Refused refusal) ((number, reply) ∷ answers) → ⊥
unrefused-later key number count reply answers next le before refusal (inl same) =
    let e : key ≡ number = ap (λ (answer : ℕ × Reply). answer.0) same in absurd (omega (arith, e, next, le))
unrefused-later key number count reply answers next le before refusal (inr there) = before refusal there

-- a call of the client that is refused

unsubscribe-refused : (using has : Bool) → using ≡ true → (answer (unsubscribe_by using has) ≡ status.Ok → ⊥) → has ≡ false
unsubscribe-refused true true user refused = absurd (refused refl)
unsubscribe-refused true false user refused = refl
unsubscribe-refused false has user refused = cc

end-refused : (using : Bool) → using ≡ true → (answer (end_by using) ≡ status.Ok → ⊥) → ⊥
end-refused true user refused = refused refl
end-refused false user refused = cc

module _ (setup : Setup) (past : Past) (client number : ℕ) (now : ℤ) (calls : List (ℕ × Call)) where
  asked-refused : (call : Call) → (status_of setup past client now call ≡ status.Ok → ⊥) → (sub : Sub) → Stands sub (subs past.ntf) → sub.client ≡ client → is_using past.ntf client ≡ true → Stands (sub.key, sub.id) (subscribed calls) → Stands (sub.key, sub.id) (subscribed ((number, call) ∷ calls))
  asked-refused (NtfSubscribe id filters) refused sub stands mine user asked = inr asked
  asked-refused (NtfUnsubscribe id) refused sub stands mine user asked =
      let none = unsubscribe-refused (is_using past.ntf client) (list_any (has_id client id) (subs past.ntf)) user refused in
      Stands-kept (λ (subscription : ℕ × ℕ). subscription.1 == id) (sub.key, sub.id) (subscribed calls) asked
      (second-not (sub.client == client) (sub.id == id) (same-test sub.client client mine) (any-at (has_id client id) sub (subs past.ntf) none stands))
  asked-refused NtfFini refused sub stands mine user asked = absurd (end-refused (is_using past.ntf client) user refused)
  asked-refused _ refused sub stands mine user asked = asked

-- what holds of a subscription after a call of its client that leaves it
asked-later : (past after : Past) (number : ℕ) (call : Call) (reply : Reply) (calls : List (ℕ × Call)) (answers : List (ℕ × Reply)) (sub : Sub) → number ≡ suc (length calls) → IsAsked past calls answers sub → is_using after.ntf sub.client ≡ true → Stands (sub.key, sub.id) (subscribed ((number, call) ∷ calls)) → IsAsked after ((number, call) ∷ calls) ((number, reply) ∷ answers) sub
asked-later past after number call reply calls answers sub next before user asked = record {
  user = user;
  asked = asked;
  unrefused = unrefused-later sub.key number (length calls) reply answers next before.known before.unrefused;
  known = omega (arith, before.known);
}

own-refused : (setup : Setup) (past : Past) (client number : ℕ) (now : ℤ) (call : Call) (calls : List (ℕ × Call)) (answers : List (ℕ × Reply)) (reply : Reply) → (status_of setup past client now call ≡ status.Ok → ⊥) → number ≡ suc (length calls) → AllAsked client past calls answers → AllAsked client (counted past) ((number, call) ∷ calls) ((number, reply) ∷ answers)
own-refused setup past client number now call calls answers reply refused next all sub stands mine =
    let before = all sub stands mine in
    asked-later past (counted past) number call reply calls answers sub next before before.user
    (asked-refused setup past client number now calls call refused sub stands mine (ap (is_using past.ntf) (sym mine) ∙ before.user) before.asked)

-- a subscription that is made
new-asked : (past after : Past) (client number id : ℕ) (filters : FilterSet) (calls : List (ℕ × Call)) (answers : List (ℕ × Reply)) (sub : Sub) → sub ≡ record { client = client; key = number; id = id; filters = filters } → number ≡ suc (length calls) → AllByRecursion (λ (told : ℕ × Reply). told.0 ≤ length calls) answers → is_using after.ntf client ≡ true → IsAsked after ((number, NtfSubscribe id filters) ∷ calls) ((number, Done) ∷ answers) sub
new-asked past after client number id filters calls answers sub made next told user =
    subst (IsAsked after ((number, NtfSubscribe id filters) ∷ calls) ((number, Done) ∷ answers)) (sym made)
    (record { user = user; asked = inl refl; unrefused = unrefused; known = omega (arith, next) }) where
      unrefused : (refusal : Status) → Stands (number, Refused refusal) ((number, Done) ∷ answers) → ⊥
      unrefused refusal (inl same) =
          let e : Refused refusal ≡ Done = ap (λ (answer : ℕ × Reply). answer.1) same in cc
      unrefused refusal (inr there) =
          let le : number ≤ length calls = All-at (λ (answer : ℕ × Reply). answer.0 ≤ length calls) (number, Refused refusal) answers told there in absurd (omega (arith, le, next))

-- a call of the client that is answered ok
own-ok : (setup : Setup) (past : Past) (client number : ℕ) (now : ℤ) (call : Call) (calls : List (ℕ × Call)) (answers : List (ℕ × Reply)) → status_of setup past client now call ≡ status.Ok → number ≡ suc (length calls) → AllByRecursion (λ (told : ℕ × Reply). told.0 ≤ length calls) answers → AllAsked client past calls answers → AllAsked client (past_after setup past client number now call status.Ok) ((number, call) ∷ calls) ((number, ok_reply setup past client now call) ∷ answers)
own-ok setup past client number now NtfInit calls answers ok next told all sub stands mine =
    let before = all sub stands mine in
    asked-later past (past_after setup past client number now NtfInit status.Ok) number NtfInit Done calls answers sub next before
    (or_right (client == sub.client) (is_using past.ntf sub.client) before.user) before.asked
own-ok setup past client number now (NtfSend notification) calls answers ok next told all sub stands mine =
    let before = all sub stands mine in
    asked-later past (past_after setup past client number now (NtfSend notification) status.Ok) number (NtfSend notification) (ok_reply setup past client now (NtfSend notification)) calls answers sub next before before.user before.asked
own-ok setup past client number now (NtfSubscribe id filters) calls answers ok next told all sub stands mine =
    let after = past_after setup past client number now (NtfSubscribe id filters) status.Ok in
    let new : Sub = record { client = client; key = number; id = id; filters = filters } in
    let rows = subscribe-ok (is_using past.ntf client) (is_fit filters) (list_any (has_id client id) (subs past.ntf)) (nat_le 64 (length (subs past.ntf))) ok in
    elim (Stands-put comes_first sub new (subs past.ntf) stands) [
      | inl made ↦ new-asked past after client number id filters calls answers sub made next told rows.0
      | inr there ↦ asked-later past after number (NtfSubscribe id filters) Done calls answers sub next (all sub there mine) (all sub there mine).user (inr (all sub there mine).asked)
    ]
own-ok setup past client number now (NtfUnsubscribe id) calls answers ok next told all sub stands mine =
    let left = Stands-without (has_id client id) sub (subs past.ntf) stands in
    let before = all sub left.0 mine in
    asked-later past (past_after setup past client number now (NtfUnsubscribe id) status.Ok) number (NtfUnsubscribe id) Done calls answers sub next before before.user
    (Stands-kept (λ (subscription : ℕ × ℕ). subscription.1 == id) (sub.key, sub.id) (subscribed calls) before.asked
    (second-not (sub.client == client) (sub.id == id) (same-test sub.client client mine) left.1))
own-ok setup past client number now NtfFini calls answers ok next told all sub stands mine =
    let left = Stands-without (is_of client) sub (subs past.ntf) stands in
    let own = same-test sub.client client mine in absurd (cc)
own-ok setup past client number now call calls answers ok next told all sub stands mine =
    let before = all sub stands mine in
    asked-later past (past_after setup past client number now call status.Ok) number call (ok_reply setup past client now call) calls answers sub next before before.user before.asked

own-called : (setup : Setup) (past : Past) (client number : ℕ) (now : ℤ) (call : Call) (calls : List (ℕ × Call)) (answers : List (ℕ × Reply)) → number ≡ suc (length calls) → AllByRecursion (λ (told : ℕ × Reply). told.0 ≤ length calls) answers → AllAsked client past calls answers → (answered : Status) → status_of setup past client now call ≡ answered → AllAsked client (past_after setup past client number now call answered) ((number, call) ∷ calls) ((number, reply_by answered (ok_reply setup past client now call)) ∷ answers)
own-called setup past client number now call calls answers next told all status.Ok is =
    own-ok setup past client number now call calls answers is next told all
own-called setup past client number now call calls answers next told all refusal is =
    own-refused setup past client number now call calls answers (Refused refusal) (λ ok. let e : refusal ≡ status.Ok = sym is ∙ ok in absurd (cc)) next all

-- a call of another client, and a receipt

asked-beside : (past after : Past) (calls : List (ℕ × Call)) (answers : List (ℕ × Reply)) (sub : Sub) → IsAsked past calls answers sub → is_using after.ntf sub.client ≡ true → IsAsked after calls answers sub
asked-beside past after calls answers sub before user =
    record { user = user; asked = before.asked; unrefused = before.unrefused; known = before.known }

beside-ok : (setup : Setup) (past : Past) (caller client number : ℕ) (now : ℤ) (call : Call) (calls : List (ℕ × Call)) (answers : List (ℕ × Reply)) → (caller ≡ client → ⊥) → AllAsked client past calls answers → AllAsked client (past_after setup past caller number now call status.Ok) calls answers
beside-ok setup past caller client number now NtfInit calls answers apart all sub stands mine =
    let before = all sub stands mine in
    asked-beside past (past_after setup past caller number now NtfInit status.Ok) calls answers sub before (or_right (caller == sub.client) (is_using past.ntf sub.client) before.user)
beside-ok setup past caller client number now (NtfSend notification) calls answers apart all sub stands mine =
    let before = all sub stands mine in
    asked-beside past (past_after setup past caller number now (NtfSend notification) status.Ok) calls answers sub before before.user
beside-ok setup past caller client number now (NtfSubscribe id filters) calls answers apart all sub stands mine =
    let after = past_after setup past caller number now (NtfSubscribe id filters) status.Ok in
    let new : Sub = record { client = caller; key = number; id = id; filters = filters } in
    elim (Stands-put comes_first sub new (subs past.ntf) stands) [
      | inl made ↦ absurd (apart (ap (λ (s : Sub). s.client) (sym made) ∙ mine))
      | inr there ↦ asked-beside past after calls answers sub (all sub there mine) (all sub there mine).user
    ]
beside-ok setup past caller client number now (NtfUnsubscribe id) calls answers apart all sub stands mine =
    let before = all sub (Stands-without (has_id caller id) sub (subs past.ntf) stands).0 mine in
    asked-beside past (past_after setup past caller number now (NtfUnsubscribe id) status.Ok) calls answers sub before before.user
beside-ok setup past caller client number now NtfFini calls answers apart all sub stands mine =
    let before = all sub (Stands-without (is_of caller) sub (subs past.ntf) stands).0 mine in
    asked-beside past (past_after setup past caller number now NtfFini status.Ok) calls answers sub before
    (and_from (not (caller == sub.client)) (is_using past.ntf sub.client) (ap not (ne_eqb caller sub.client (λ same. apart (same ∙ mine)))) before.user)
beside-ok setup past caller client number now call calls answers apart all sub stands mine =
    let before = all sub stands mine in
    asked-beside past (past_after setup past caller number now call status.Ok) calls answers sub before before.user

-- the numbers of answers are those of calls that were made
answers-known : (setup : Setup) (client : ℕ) (entries : List Entry) → IsNumbered (calls_in client entries) → AllByRecursion (λ (told : ℕ × Reply). told.0 ≤ length (calls_in client entries)) (answers_in (plain_of setup) client entries)
answers-known setup client [] numbered = tt
answers-known setup client (Called caller number now call ∷ entries) numbered =
    by_case (caller == client) numbered (answers-known setup client entries) where
      told_later : AllByRecursion (λ (told : ℕ × Reply). told.0 ≤ length (calls_in client entries)) (answers_in (plain_of setup) client entries) → AllByRecursion (λ (told : ℕ × Reply). told.0 ≤ suc (length (calls_in client entries))) (answers_in (plain_of setup) client entries)
      told_later each = All-map (λ (told : ℕ × Reply). told.0 ≤ length (calls_in client entries)) (λ (told : ℕ × Reply). told.0 ≤ suc (length (calls_in client entries))) (answers_in (plain_of setup) client entries) (λ told le. omega (arith, le)) each

      by_case : (b : Bool) → IsNumbered (cond b ((number, call) ∷ calls_in client entries) (calls_in client entries)) → (IsNumbered (calls_in client entries) → AllByRecursion (λ (told : ℕ × Reply). told.0 ≤ length (calls_in client entries)) (answers_in (plain_of setup) client entries)) → AllByRecursion (λ (told : ℕ × Reply). told.0 ≤ length (cond b ((number, call) ∷ calls_in client entries) (calls_in client entries))) (cond b ((number, reply_of setup entries caller now call) ∷ answers_in (plain_of setup) client entries) (answers_in (plain_of setup) client entries))
      by_case true is before = (omega (arith, is.0), told_later (before is.1))
      by_case false is before = before is
answers-known setup client (Receipted caller key through now ∷ entries) numbered = answers-known setup client entries numbered

-- what holds of each subscription that lasts

abbrev Step : Setup → (client number : ℕ) (now : ℤ) (call : Call) (entries : List Entry) → ℕ → Bool → Type 0
Step setup client number now call entries caller mine =
    IsNumbered (cond mine ((number, call) ∷ calls_in client entries) (calls_in client entries))
    → AllAsked client (past_with setup (past_of setup entries) caller number now call)
    (cond mine ((number, call) ∷ calls_in client entries) (calls_in client entries))
    (cond mine ((number, reply_of setup entries caller now call) ∷ answers_in (plain_of setup) client entries) (answers_in (plain_of setup) client entries))

own-step : (setup : Setup) (client number : ℕ) (now : ℤ) (call : Call) (entries : List Entry) → (IsNumbered (calls_in client entries) → AllAsked client (past_of setup entries) (calls_in client entries) (answers_in (plain_of setup) client entries)) → Step setup client number now call entries client true
unfolding reply_of
own-step setup client number now call entries before numbered =
    own-called setup (past_of setup entries) client number now call (calls_in client entries) (answers_in (plain_of setup) client entries) numbered.0 (answers-known setup client entries numbered.1) (before numbered.1)
    (status_of setup (past_of setup entries) client now call) refl

beside-step : (setup : Setup) (client number : ℕ) (now : ℤ) (call : Call) (entries : List Entry) (caller : ℕ) → (caller ≡ client → ⊥) → (IsNumbered (calls_in client entries) → AllAsked client (past_of setup entries) (calls_in client entries) (answers_in (plain_of setup) client entries)) → Step setup client number now call entries caller false
beside-step setup client number now call entries caller apart before numbered =
    past_after-by (λ after. AllAsked client after (calls_in client entries) (answers_in (plain_of setup) client entries)) setup (past_of setup entries) caller number now call (status_of setup (past_of setup entries) caller now call)
    (λ sub stands mine. let kept = before numbered sub stands mine in asked-beside (past_of setup entries) (counted (past_of setup entries)) (calls_in client entries) (answers_in (plain_of setup) client entries) sub kept kept.user)
    (λ ok. beside-ok setup (past_of setup entries) caller client number now call (calls_in client entries) (answers_in (plain_of setup) client entries) apart (before numbered))

all-asked : (setup : Setup) (client : ℕ) (entries : List Entry) → IsNumbered (calls_in client entries) → AllAsked client (past_of setup entries) (calls_in client entries) (answers_in (plain_of setup) client entries)
all-asked setup client [] numbered = λ sub stands mine. absurd stands
all-asked setup client (Called caller number now call ∷ entries) numbered =
    by_test (Step setup client number now call entries caller) caller client
    (λ same. subst (λ c. Step setup client number now call entries c true) (sym same) (own-step setup client number now call entries (all-asked setup client entries)))
    (λ different. beside-step setup client number now call entries caller different (all-asked setup client entries)) numbered
all-asked setup client (Receipted caller key through now ∷ entries) numbered = λ sub stands mine.
    let before = all-asked setup client entries numbered sub stands mine in
    asked-beside (past_of setup entries) (past_received (past_of setup entries) caller key through) (calls_in client entries) (answers_in (plain_of setup) client entries) sub before before.user

-- **a subscription that lasts was asked for, was not refused, and was not given up since**
pub lasting-asked : (setup : Setup) (entries : List Entry) (client key : ℕ) → IsNumbered (calls_in client entries) → lasts_for setup entries client key ≡ true → (id : ℕ) × Stands (key, id) (subscribed (calls_in client entries)) × ((refusal : Status) → Stands (key, Refused refusal) (answers_in (plain_of setup) client entries) → ⊥)
unfolding lasts_for
lasting-asked setup entries client key numbered lasting = by_case (sub_at (past_of setup entries).ntf client key) refl lasting where
  by_case : (found : Option Sub) → sub_at (past_of setup entries).ntf client key ≡ found → is_some found ≡ true → (id : ℕ) × Stands (key, id) (subscribed (calls_in client entries)) × ((refusal : Status) → Stands (key, Refused refusal) (answers_in (plain_of setup) client entries) → ⊥)
  by_case None none some = cc
  by_case (Some sub) found some =
      let stands = sub_at-stands (past_of setup entries).ntf client key sub found in
      let keys = has_key-is client key sub stands.1 in
      let is = all-asked setup client entries numbered sub stands.0 keys.0 in (
        sub.id,
        subst (λ k. Stands (k, sub.id) (subscribed (calls_in client entries))) keys.1 is.asked,
        subst (λ k. (refusal : Status) → Stands (k, Refused refusal) (answers_in (plain_of setup) client entries) → ⊥) keys.1 is.unrefused,
      )
