-- What holds of one client's agent and view, as calls are sent and replies and items are taken.
use Rattle.std.proofs.Common.{◌≡◌, ℕ, suc, ◌+◌, ◌<◌, ◌≤◌, ◌⊎◌, inl, inr, Bool, true, false, ◌||◌, ◌==◌, if◌then◌else◌, Option, Some, None, List, [], ◌∷◌, ◌++◌, length, refl, ap, sym, ◌∙◌, subst, arith}
use Rattle.std.specs.List.{AllByRecursion}
use Rattle.std.proofs.lemmas.Bool.Decides.{leb_tells}
use Rattle.cluster_facts.specs.Types.{Call, NtfSubscribe, NtfUnsubscribe, NtfFini, Reply, Refused, Status, Callback, StreamName, Mark}
use Rattle.cluster_facts.specs.Lists.{Stands, EndsIn, IsNumbered, count_of, without}
use Rattle.cluster_facts.specs.Service.{subscribes, asked_for, subscribed_after, subscribed}
use Rattle.cluster_facts.specs.Agents.{Living, Agent, is_shut, log_after, ntf_after, living_after, after_call, kept_call, living_after_reply, callbacks_of, status_of, after_reply, told_mark, given_by, changed_mask, asked_back, find_living, living_after_item, after_item, all_but_oldest, oldest}
use Rattle.cluster_facts.specs.Facts.{View, Keeps, Lives, IsClient, Fits}
use Rattle.cluster_facts.specs.Facts.Keeps.{starts, waits, answered}
use Rattle.cluster_facts.specs.Facts.Lives.{none as none_live, lives, refused}
use Rattle.cluster_facts.specs.Facts.Fits.{empty, of_item, of_write, of_mask}
use Rattle.cluster_facts.proofs.Marks.{last-taken}
use Rattle.cluster_facts.proofs.Words.{by_test, Stands-left, Stands-right, Stands-append, Stands-without, All-map, All-without, EndsIn-cons, count_of-none}

-- One reply more stands in the net.

pub Keeps-hears : (reply : ℕ × Reply) {heard : List (ℕ × Reply)} {sent kept : List (ℕ × Call)} {told : List (StreamName × Mark)} → Keeps heard sent kept told → Keeps (reply ∷ heard) sent kept told
Keeps-hears reply starts = starts
Keeps-hears reply (waits call rest) = waits call (Keeps-hears reply rest)
Keeps-hears reply (answered call answer stands rest) = answered call answer (inr stands) (Keeps-hears reply rest)

pub Lives-hears : (reply : ℕ × Reply) {heard : List (ℕ × Reply)} {marks subscriptions : List (ℕ × ℕ)} {living : List Living} → Lives heard marks subscriptions living → Lives (reply ∷ heard) marks subscriptions living
Lives-hears reply none_live = none_live
Lives-hears reply (lives subscription next_is rest) = lives subscription next_is (Lives-hears reply rest)
Lives-hears reply (refused subscription status stands rest) = refused subscription status (inr stands) (Lives-hears reply rest)

-- A call is sent.

-- where the window is open, a call that is kept stays in it though one more is sent
pub is_shut-opens : (next : ℕ) (kept : List (ℕ × Call)) → is_shut next kept ≡ false → AllByRecursion (λ (call : ℕ × Call). suc next ≤ call.0 + 32) kept
is_shut-opens next [] open_ = tt
is_shut-opens next (call ∷ kept) open_ =
    elim (leb_tells (call.0 + 32) next) [
      | inl far ↦
          let P : Bool → Type 0 = λ b. (b || is_shut next kept) ≡ false → AllByRecursion (λ (call : ℕ × Call). suc next ≤ call.0 + 32) (call ∷ kept) in
          subst P (sym far.0) (λ never. cc) open_
      | inr near ↦
          let P : Bool → Type 0 = λ b. (b || is_shut next kept) ≡ false → AllByRecursion (λ (call : ℕ × Call). suc next ≤ call.0 + 32) (call ∷ kept) in
          subst P (sym near.0) (λ rest. let above = near.1 in (omega arith, is_shut-opens next kept rest)) open_
    ]

-- an unsubscription ends in the agent what it ends among those asked for
Lives-without : (id : ℕ) {heard : List (ℕ × Reply)} {marks subscriptions : List (ℕ × ℕ)} {living : List Living} → Lives heard marks subscriptions living → Lives heard marks (without (λ subscription. subscription.1 == id) subscriptions) (without (λ subscription. subscription.id == id) living)
Lives-without id none_live = none_live
Lives-without id {heard = heard} {marks = marks} (lives {subscriptions = subscriptions} {living = living} subscription next_is rest) =
    let deeper = Lives-without id rest in
    elim (subscription.id == id) as (λ b. Lives heard marks (if b then without (λ subscription. subscription.1 == id) subscriptions else (subscription.key, subscription.id) ∷ without (λ subscription. subscription.1 == id) subscriptions) (if b then without (λ subscription. subscription.id == id) living else subscription ∷ without (λ subscription. subscription.id == id) living)) [
      | true ↦ deeper
      | false ↦ lives subscription next_is deeper
    ]
Lives-without id {heard = heard} {marks = marks} {living = all} (refused {subscriptions = subscriptions} subscription status stands rest) =
    let deeper = Lives-without id rest in
    elim (subscription.1 == id) as (λ b. Lives heard marks (if b then without (λ subscription. subscription.1 == id) subscriptions else subscription ∷ without (λ subscription. subscription.1 == id) subscriptions) (without (λ subscription. subscription.id == id) all)) [
      | true ↦ deeper
      | false ↦ refused subscription status stands deeper
    ]

Lives-call : (number : ℕ) (call : Call) {heard : List (ℕ × Reply)} {marks subscriptions : List (ℕ × ℕ)} {living : List Living} → count_of number marks ≡ 0 → Lives heard marks subscriptions living → Lives heard marks (subscribed_after number call subscriptions) (living_after number call living)
Lives-call number (NtfSubscribe id filters) unknown living =
    lives (record { key = number; id = id; next = 1 }) (ap suc (sym unknown)) living
Lives-call number (NtfUnsubscribe id) unknown living = Lives-without id living
Lives-call number NtfFini unknown living = none_live
Lives-call number _ unknown living = living

-- no receipt has the number of a call that was not sent yet
unknown_key : (marks : List (ℕ × ℕ)) (count : ℕ) → AllByRecursion (λ (mark : ℕ × ℕ). mark.0 ≤ count) marks → count_of (suc count) marks ≡ 0
unknown_key marks count known =
    count_of-none (suc count) marks (All-map (λ (mark : ℕ × ℕ). mark.0 ≤ count) (λ (mark : ℕ × ℕ). mark.0 < suc count) marks (λ mark below. omega arith) known)

pub IsClient-call : (sent calls : List (ℕ × Call)) (heard : List (ℕ × Reply)) (marks : List (ℕ × ℕ)) (agent : Agent) (call : Call) → is_shut agent.next agent.kept ≡ false → IsClient (record { sent = sent; heard = heard; marks = marks; calls = calls }) agent → IsClient (record { sent = (agent.next, call) ∷ sent; heard = heard; marks = marks; calls = calls }) (after_call call agent)
IsClient-call sent calls heard marks agent call open_ client =
    let next_is = client.sends.next_is in
    let unknown : count_of agent.next marks ≡ 0 = ap (λ n. count_of n marks) next_is ∙ unknown_key marks (length sent) client.follows.known in
    record {
      sends = record {
        numbered = (client.sends.next_is, client.sends.numbered);
        next_is = ap suc client.sends.next_is;
        log_is = ap (λ handle. log_after call handle) client.sends.log_is;
        ntf_is = ap (λ handle. ntf_after call handle) client.sends.ntf_is;
        first = EndsIn-cons (agent.next, call) sent calls client.sends.first;
      };
      awaits = record {
        told = client.awaits.told;
        keeps = waits (agent.next, call) client.awaits.keeps;
        last = client.awaits.last;
        window = (omega arith, is_shut-opens agent.next agent.kept open_);
      };
      follows = record {
        lives = Lives-call agent.next call unknown client.follows.lives;
        counted = client.follows.counted;
        known = All-map (λ (mark : ℕ × ℕ). mark.0 ≤ length sent) (λ (mark : ℕ × ℕ). mark.0 ≤ suc (length sent)) marks (λ mark below. omega arith) client.follows.known;
      };
    }

-- A reply is taken.

pub kept_call-stands : (number : ℕ) (kept : List (ℕ × Call)) (call : Call) → kept_call number kept ≡ Some call → Stands (number, call) kept
kept_call-stands number [] call found = cc
kept_call-stands number (first ∷ kept) call found =
    let P : Bool → Type 0 = λ b. (if b then Some first.1 else kept_call number kept) ≡ Some call → Stands (number, call) (first ∷ kept) in
    by_test P first.0 number (λ same here. let calls : first.1 ≡ call = cc in inl (λ i. (sym same i, sym calls i))) (λ different there. inr (kept_call-stands number kept call there)) found

Lives-refused : (number : ℕ) (status : Status) {heard : List (ℕ × Reply)} {marks subscriptions : List (ℕ × ℕ)} {living : List Living} → Stands (number, Refused status) heard → Lives heard marks subscriptions living → Lives heard marks subscriptions (without (λ subscription. subscription.key == number) living)
Lives-refused number status stands none_live = none_live
Lives-refused number status {heard = heard} {marks = marks} stands (lives {subscriptions = subscriptions} {living = living} subscription next_is rest) =
    let deeper = Lives-refused number status stands rest in
    let P : Bool → Type 0 = λ b. Lives heard marks ((subscription.key, subscription.id) ∷ subscriptions) (if b then without (λ subscription. subscription.key == number) living else subscription ∷ without (λ subscription. subscription.key == number) living) in
    let Q : ℕ → Type 0 = λ n. Stands (n, Refused status) heard in
    by_test P subscription.key number (λ same. refused (subscription.key, subscription.id) status (subst Q (sym same) stands) deeper) (λ different. lives subscription next_is deeper)
Lives-refused number status stands (refused subscription why told rest) = refused subscription why told (Lives-refused number status stands rest)

Lives-reply : (number : ℕ) (reply : Reply) {heard : List (ℕ × Reply)} {marks subscriptions : List (ℕ × ℕ)} {living : List Living} → Stands (number, reply) heard → Lives heard marks subscriptions living → Lives heard marks subscriptions (living_after_reply number reply living)
Lives-reply number (Refused status) stands living = Lives-refused number status stands living
Lives-reply number _ stands living = living

pub IsClient-reply : (view : View) (agent : Agent) (number : ℕ) (call : Call) (reply : Reply) → Stands (number, reply) view.heard → kept_call number agent.kept ≡ Some call → IsClient view agent → IsClient view (after_reply number call reply agent)
IsClient-reply view agent number call reply stands found client =
    let taken = last-taken number call reply view.heard view.sent agent.kept client.awaits.told agent.marks client.sends.numbered stands found client.awaits.keeps client.awaits.last in
    record {
      sends = client.sends;
      awaits = record {
        told = taken.0;
        keeps = taken.1;
        last = taken.2;
        window = All-without (λ (call : ℕ × Call). agent.next ≤ call.0 + 32) (λ (call : ℕ × Call). call.0 == number) agent.kept client.awaits.window;
      };
      follows = record {
        lives = Lives-reply number reply stands client.follows.lives;
        counted = client.follows.counted;
        known = client.follows.known;
      };
    }

Fits-given : (R : ℕ × ℕ → Callback → Type 0) (changed : Option (StreamName × ℕ)) (asked : Option ℕ) (status : Status) (marks : List (ℕ × ℕ)) (fed : List Callback) → Fits R marks fed → Fits R marks (given_by changed asked status ++ fed)
Fits-given R (Some changed) asked status marks fed fits = of_mask changed.0 changed.1 asked fits
Fits-given R None (Some invocation) status marks fed fits = of_write invocation status fits
Fits-given R None None status marks fed fits = fits

-- the callbacks of a reply stand before those that were taken
pub Fits-reply : (R : ℕ × ℕ → Callback → Type 0) (seen : List (StreamName × Mark)) (call : Call) (reply : Reply) (marks : List (ℕ × ℕ)) (fed : List Callback) → Fits R marks fed → Fits R marks (callbacks_of seen call reply ++ fed)
Fits-reply R seen call reply marks fed fits =
    Fits-given R (changed_mask (told_mark call reply) seen) (asked_back call) (status_of reply) marks fed fits

-- An item is taken.

-- a subscription that is found lives: its next item follows those that have a receipt, and it was asked for
pub record IsFound (marks subscriptions : List (ℕ × ℕ)) (key : ℕ) (subscription : Living) : Type 0 where
  pub key_is : subscription.key ≡ key
  pub next_is : subscription.next ≡ suc (count_of key marks)
  pub asked : Stands (key, subscription.id) subscriptions

pub find_living-found : (key : ℕ) (found : Living) {heard : List (ℕ × Reply)} {marks subscriptions : List (ℕ × ℕ)} {living : List Living} → Lives heard marks subscriptions living → find_living key living ≡ Some found → IsFound marks subscriptions key found
find_living-found key found none_live here = cc
find_living-found key found {marks = marks} (lives {subscriptions = subscriptions} {living = living} subscription next_is rest) here =
    let all : List (ℕ × ℕ) = (subscription.key, subscription.id) ∷ subscriptions in
    let P : Bool → Type 0 = λ b. (if b then Some subscription else find_living key living) ≡ Some found → IsFound marks all key found in
    let Q : Living → Type 0 = λ s. IsFound marks all key s in
    by_test P subscription.key key
    (λ same it. let is : subscription ≡ found = cc in subst Q is (record {
      key_is = same;
      next_is = next_is ∙ ap (λ k. suc (count_of k marks)) same;
      asked = inl (ap (λ k. (k, subscription.id)) (sym same));
    }))
    (λ different there. let deeper = find_living-found key found rest there in record { key_is = deeper.key_is; next_is = deeper.next_is; asked = inr deeper.asked })
    here
find_living-found key found (refused subscription status told rest) here =
    let deeper = find_living-found key found rest here in
    record { key_is = deeper.key_is; next_is = deeper.next_is; asked = inr deeper.asked }

pub Lives-item : (key number : ℕ) {heard : List (ℕ × Reply)} {marks subscriptions : List (ℕ × ℕ)} {living : List Living} → Lives heard marks subscriptions living → Lives heard ((key, number) ∷ marks) subscriptions (living_after_item key living)
Lives-item key number none_live = none_live
Lives-item key number {marks = marks} (lives subscription next_is rest) =
    let step : (b : Bool) → (if b then suc subscription.next else subscription.next) ≡ suc (if b then suc (count_of subscription.key marks) else count_of subscription.key marks) = elim [ true ↦ ap suc next_is | false ↦ next_is ] in
    lives (record { key = subscription.key; id = subscription.id; next = if key == subscription.key then suc subscription.next else subscription.next }) (step (key == subscription.key)) (Lives-item key number rest)
Lives-item key number (refused subscription status told rest) = refused subscription status told (Lives-item key number rest)

-- a subscription that was not given up was asked for, by a call that was sent
subscribed_after-asked : (key id number : ℕ) (call : Call) (subscriptions : List (ℕ × ℕ)) → Stands (key, id) (subscribed_after number call subscriptions) → Stands (key, id) (subscribes number call) ⊎ Stands (key, id) subscriptions
subscribed_after-asked key id number (NtfSubscribe other filters) subscriptions (inl same) = inl (inl same)
subscribed_after-asked key id number (NtfSubscribe other filters) subscriptions (inr stands) = inr stands
subscribed_after-asked key id number (NtfUnsubscribe other) subscriptions stands = inr (Stands-without (key, id) (λ subscription. subscription.1 == other) subscriptions stands)
subscribed_after-asked key id number NtfFini subscriptions stands = elim stands [ ]
subscribed_after-asked key id number _ subscriptions stands = inr stands

pub subscribed-asked : (key id : ℕ) (sent : List (ℕ × Call)) → Stands (key, id) (subscribed sent) → Stands (key, id) (asked_for sent)
subscribed-asked key id [] stands = elim stands [ ]
subscribed-asked key id (first ∷ sent) stands =
    elim (subscribed_after-asked key id first.0 first.1 (subscribed sent) stands) [
      | inl here ↦ Stands-left (key, id) (subscribes first.0 first.1) (asked_for sent) here
      | inr there ↦ Stands-right (key, id) (subscribes first.0 first.1) (asked_for sent) (subscribed-asked key id sent there)
    ]

pub subscribes-number : (key id number : ℕ) (call : Call) → Stands (key, id) (subscribes number call) → key ≡ number
subscribes-number key id number (NtfSubscribe other filters) (inl same) = ap (λ (p : ℕ × ℕ). p.0) same
subscribes-number key id number (NtfSubscribe other filters) (inr stands) = elim stands [ ]
subscribes-number key id number _ stands = elim stands [ ]

pub asked_for-number : (key id : ℕ) (sent : List (ℕ × Call)) → IsNumbered sent → Stands (key, id) (asked_for sent) → key ≤ length sent
asked_for-number key id [] numbered stands = elim stands [ ]
asked_for-number key id (first ∷ sent) numbered stands =
    elim (Stands-append (key, id) (subscribes first.0 first.1) (asked_for sent) stands) [
      | inl here ↦
          let is : key ≡ suc (length sent) = subscribes-number key id first.0 first.1 here ∙ numbered.0 in
          omega arith
      | inr there ↦
          let deeper = asked_for-number key id sent numbered.1 there in
          omega arith
    ]

pub IsClient-item : (view : View) (agent : Agent) (key number id : ℕ) (content : Rattle.sub_queue.specs.declared.item.Content.Content) → number ≡ suc (count_of key view.marks) → key ≤ length view.sent → IsClient view agent → IsClient (record { sent = view.sent; heard = view.heard; marks = (key, number) ∷ view.marks; calls = view.calls }) (after_item key id content agent)
IsClient-item view agent key number id content next known client = record {
  sends = client.sends;
  awaits = client.awaits;
  follows = record {
    lives = Lives-item key number client.follows.lives;
    counted = (next, client.follows.counted);
    known = (known, client.follows.known);
  };
}

-- One reply more stands in the net, or one call more was accepted.

pub IsClient-hears : (view : View) (agent : Agent) (reply : ℕ × Reply) → IsClient view agent → IsClient (record { sent = view.sent; heard = reply ∷ view.heard; marks = view.marks; calls = view.calls }) agent
IsClient-hears view agent reply client = record {
  sends = client.sends;
  awaits = record { told = client.awaits.told; keeps = Keeps-hears reply client.awaits.keeps; last = client.awaits.last; window = client.awaits.window };
  follows = record { lives = Lives-hears reply client.follows.lives; counted = client.follows.counted; known = client.follows.known };
}

pub IsClient-calls : (sent calls others : List (ℕ × Call)) (heard : List (ℕ × Reply)) (marks : List (ℕ × ℕ)) (agent : Agent) → EndsIn sent others → IsClient (record { sent = sent; heard = heard; marks = marks; calls = calls }) agent → IsClient (record { sent = sent; heard = heard; marks = marks; calls = others }) agent
IsClient-calls sent calls others heard marks agent first client = record {
  sends = record {
    numbered = client.sends.numbered;
    next_is = client.sends.next_is;
    log_is = client.sends.log_is;
    ntf_is = client.sends.ntf_is;
    first = first;
  };
  awaits = client.awaits;
  follows = client.follows;
}

-- Callbacks are handed out.

pub Fits-map : (R S : ℕ × ℕ → Callback → Type 0) {marks : List (ℕ × ℕ)} {fed : List Callback} → ((mark : ℕ × ℕ) (callback : Callback) → R mark callback → S mark callback) → Fits R marks fed → Fits S marks fed
Fits-map R S step empty = empty
Fits-map R S step (of_item mark callback here rest) = of_item mark callback (step mark callback here) (Fits-map R S step rest)
Fits-map R S step (of_write invocation status rest) = of_write invocation status (Fits-map R S step rest)
Fits-map R S step (of_mask name mask written rest) = of_mask name mask written (Fits-map R S step rest)

-- the oldest goes from the end of one list to the front of the other
pub oldest-append : {X : Type 0} (xs ys : List X) → all_but_oldest xs ++ (oldest xs ++ ys) ≡ xs ++ ys
oldest-append [] ys = refl
oldest-append (x ∷ []) ys = refl
oldest-append (x ∷ y ∷ xs) ys = ap (λ rest. x ∷ rest) (oldest-append (y ∷ xs) ys)
