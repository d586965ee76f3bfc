-- What lines say goes on from one event to the next.
use Rattle.std.proofs.Common.{◌≡◌, ℕ, suc, ◌+◌, ◌<◌, ◌≤◌, inl, inr, Bool, true, false, ◌==◌, if◌then◌else◌, Option, Some, None, List, [], ◌∷◌, ◌++◌, length, refl, ap, sym, ◌∙◌, subst, arith, append_assoc, append-nil, length-append}
use Rattle.std.specs.List.{AllByRecursion}
use Rattle.std.proofs.lemmas.Bool.Decides.{eqb_tells}
use Rattle.std.proofs.Math.Nat.{eq-or-lt_of_le}
use Rattle.cluster_facts.specs.Types.{Call, Reply, Item, Content, Single, Losses, Entry, Called, Callback, Status, StreamName, Mark, Message, Request, Answer, Delivery, Receipt, WireWhy}
use Rattle.cluster_facts.specs.Lists.{Stands, EndsIn, without}
use Rattle.cluster_facts.specs.Messages.{Spelled, Raw, messages_in, sent_by}
use Rattle.cluster_facts.specs.Service.{Plain, answers_in}
use Rattle.cluster_facts.specs.Storage.{dealt_in}
use Rattle.cluster_facts.specs.Agents.{Living, Agent, fed_of, kept_call, callbacks_of, given_by, changed_mask, told_mark, asked_back, marks_with, after_call, after_reply, after_item, callback_of, status_of}
use Rattle.cluster_facts.specs.History.{committed}
use Rattle.cluster_facts.specs.World.{World, with_agent}
use Rattle.cluster_facts.specs.Facts.{IsSound, IsOfRun}
use Rattle.cluster_facts.proofs.Words.{by_test, each_client, All-at, All-map, All-append, EndsIn-same, EndsIn-stands, IsNumbered-bound}
use Rattle.cluster_facts.proofs.Clients.{kept_call-stands}
use Rattle.cluster_events.specs.Lines.{Told, Posted, Injected, Replied, Ignored, Why}
use Rattle.cluster_events.specs.Saying.{gathered, post_in, entry_in, reply_in, deal_in, callback_in, mark_in, called_in, replies_told, deals_told, marks_seen, called_back, IsNumberedFrom, seconds, Grows, IsDone, IsOnce, HasNumber, TellsReplies, of_reply, of_replies, Says}
use Rattle.cluster_events.proofs.Carrying.{IsTold, Keeps-sent, EndsIn-both}
use Rattle.cluster_events.proofs.Dealing.{reply-dealt}

pub gathered-append : {X : Type 0} (read : Told → List X) (second first : List Told) → gathered read (second ++ first) ≡ gathered read second ++ gathered read first
gathered-append read [] first = refl
gathered-append read (line ∷ second) first =
    ap (λ rest. read line ++ rest) (gathered-append read second first) ∙ sym (append_assoc (read line) (gathered read second) (gathered read first))

-- Lists that grow.

seconds-append : {X : Type 0} (xs ys : List (ℕ × X)) → seconds (xs ++ ys) ≡ seconds xs ++ seconds ys
seconds-append [] ys = refl
seconds-append (x ∷ xs) ys = ap (λ rest. x.1 ∷ rest) (seconds-append xs ys)

seconds-length : {X : Type 0} (xs : List (ℕ × X)) → length (seconds xs) ≡ length xs
seconds-length [] = refl
seconds-length (x ∷ xs) = ap suc (seconds-length xs)

IsNumberedFrom-append : {X : Type 0} (start middle : ℕ) (second first : List (ℕ × X)) → middle ≡ start + length first → IsNumberedFrom middle second → IsNumberedFrom start first → IsNumberedFrom start (second ++ first)
IsNumberedFrom-append start middle [] first from two one = one
IsNumberedFrom-append start middle (x ∷ second) first from two one =
    let longer = length-append second first in
    let number = two.0 in
    (omega arith, IsNumberedFrom-append start middle second first from two.1 one)

pub Grows-same : {X : Type 0} (xs : List X) → Grows xs xs []
Grows-same xs = record { numbered = tt; grown = refl }

pub Grows-one : {X : Type 0} (x : X) (xs : List X) → Grows xs (x ∷ xs) ((suc (length xs), x) ∷ [])
Grows-one x xs = record { numbered = (omega arith, tt); grown = refl }

pub Grows-both : {X : Type 0} (one two three : List X) (first second : List (ℕ × X)) → Grows one two first → Grows two three second → Grows one three (second ++ first)
Grows-both one two three first second grows more =
    let whole = ap length grows.grown in
    let longer = length-append (seconds first) one in
    let count = seconds-length first in
    record {
      numbered = IsNumberedFrom-append (length one) (length two) second first (omega arith) more.numbered grows.numbered;
      grown = more.grown ∙ ap (λ xs. seconds second ++ xs) grows.grown ∙ sym (ap (λ xs. xs ++ one) (seconds-append second first) ∙ append_assoc (seconds second) (seconds first) one);
    }

pub grows-told : {X : Type 0} (read : Told → List (ℕ × X)) (one two three : List X) (first second : List Told) → Grows one two (gathered read first) → Grows two three (gathered read second) → Grows one three (gathered read (second ++ first))
grows-told read one two three first second grows more =
    subst (λ lines. Grows one three lines) (sym (gathered-append read second first)) (Grows-both one two three (gathered read first) (gathered read second) grows more)

-- Replies.

IsOnce-append : {X : Type 0} (P : ℕ → Type 0) (second first : List (ℕ × X)) → AllByRecursion (λ (x : ℕ × X). P x.0 → ⊥) second → AllByRecursion (λ (x : ℕ × X). P x.0) first → IsOnce second → IsOnce first → IsOnce (second ++ first)
IsOnce-append P [] first apart here two one = one
IsOnce-append {X = X} P (x ∷ second) first apart here two one = (
  All-append (λ (y : ℕ × X). (y.0 ≡ x.0) → ⊥) second first two.0 (All-map (λ (y : ℕ × X). P y.0) (λ (y : ℕ × X). (y.0 ≡ x.0) → ⊥) first (λ y holds same. apart.0 (subst P same holds)) here),
  IsOnce-append P second first apart.1 here two.1 one,
)

HasNumber-behind : {X : Type 0} (number : ℕ) (second first : List (ℕ × X)) → HasNumber number first → HasNumber number (second ++ first)
HasNumber-behind number [] first has = has
HasNumber-behind number (x ∷ second) first has = inr (HasNumber-behind number second first has)

HasNumber-before : {X : Type 0} (number : ℕ) (second first : List (ℕ × X)) → HasNumber number second → HasNumber number (second ++ first)
HasNumber-before number [] first has = absurd has
HasNumber-before number (x ∷ second) first (inl same) = inl same
HasNumber-before number (x ∷ second) first (inr has) = inr (HasNumber-before number second first has)

pub TellsReplies-both : (one two three : Agent) (before after : List (ℕ × Reply)) (first second : List (ℕ × Reply)) → EndsIn after before → TellsReplies one two before first → TellsReplies two three after second → TellsReplies one three after (second ++ first)
TellsReplies-both one two three before after first second grows tells more = record {
  later = λ number done. more.later number (tells.later number done);
  only = λ number done. elim (more.only number done) [
    | inl between ↦ elim (tells.only number between) [
      | inl before ↦ inl before
      | inr told ↦ inr (HasNumber-behind number second first told)
    ]
    | inr told ↦ inr (HasNumber-before number second first told)
  ];
  fresh = All-append (λ (reply : ℕ × Reply). IsDone one reply.0 → ⊥) second first (All-map (λ (reply : ℕ × Reply). IsDone two reply.0 → ⊥) (λ (reply : ℕ × Reply). IsDone one reply.0 → ⊥) second (λ reply apart done. apart (tells.later reply.0 done)) more.fresh) tells.fresh;
  done = All-append (λ (reply : ℕ × Reply). IsDone three reply.0) second first more.done (All-map (λ (reply : ℕ × Reply). IsDone two reply.0) (λ (reply : ℕ × Reply). IsDone three reply.0) first (λ reply done. more.later reply.0 done) tells.done);
  once = IsOnce-append (λ number. IsDone two number) second first more.fresh tells.done more.once tells.once;
  right = All-append (λ (reply : ℕ × Reply). Stands reply after) second first more.right (All-map (λ (reply : ℕ × Reply). Stands reply before) (λ (reply : ℕ × Reply). Stands reply after) first (λ reply stands. EndsIn-stands reply after before grows stands) tells.right);
}

-- the same calls are done
pub TellsReplies-none : (one two : Agent) (answers : List (ℕ × Reply)) → ((number : ℕ) → IsDone one number → IsDone two number) → ((number : ℕ) → IsDone two number → IsDone one number) → TellsReplies one two answers []
TellsReplies-none one two answers later back = record { later = later; only = λ number done. inl (back number done); fresh = tt; done = tt; once = tt; right = tt }

answers-step : (plain : Plain) (client : ℕ) (entry : Entry) (past : List Entry) → EndsIn (answers_in plain client (entry ∷ past)) (answers_in plain client past)
answers-step plain client (Called caller number time call) past =
    elim (caller == client) as (λ b. EndsIn (if b then (number, plain.reply past caller number time call) ∷ answers_in plain client past else answers_in plain client past) (answers_in plain client past)) [
      | true ↦ ((number, plain.reply past caller number time call) ∷ [], refl)
      | false ↦ EndsIn-same (answers_in plain client past)
    ]
answers-step plain client _ past = EndsIn-same (answers_in plain client past)

answers-more : (plain : Plain) (client : ℕ) (more past : List Entry) → EndsIn (answers_in plain client (more ++ past)) (answers_in plain client past)
answers-more plain client [] past = EndsIn-same (answers_in plain client past)
answers-more plain client (entry ∷ more) past =
    EndsIn-both (answers_in plain client past) (answers_in plain client (more ++ past)) (answers_in plain client (entry ∷ (more ++ past))) (answers-more plain client more past) (answers-step plain client entry (more ++ past))

-- a longer history has the replies of a shorter one
pub answers-ends : (plain : Plain) (client : ℕ) (new old : List Entry) → EndsIn new old → EndsIn (answers_in plain client new) (answers_in plain client old)
answers-ends plain client new old ends =
    let E : List Entry → Type 0 = λ past. EndsIn (answers_in plain client past) (answers_in plain client old) in
    subst E (sym ends.1) (answers-more plain client ends.0 old)

dealt-step : (plain : Plain) (client : ℕ) (entry : Entry) (past : List Entry) → EndsIn (dealt_in plain client (entry ∷ past)) (dealt_in plain client past)
dealt-step plain client (Called caller number time call) past =
    let deal : ℕ × Call × Reply = (number, call, plain.reply past caller number time call) in
    elim (caller == client) as (λ b. EndsIn (if b then deal ∷ dealt_in plain client past else dealt_in plain client past) (dealt_in plain client past)) [
      | true ↦ (deal ∷ [], refl)
      | false ↦ EndsIn-same (dealt_in plain client past)
    ]
dealt-step plain client _ past = EndsIn-same (dealt_in plain client past)

pub dealt-more : (plain : Plain) (client : ℕ) (more past : List Entry) → EndsIn (dealt_in plain client (more ++ past)) (dealt_in plain client past)
dealt-more plain client [] past = EndsIn-same (dealt_in plain client past)
dealt-more plain client (entry ∷ more) past =
    EndsIn-both (dealt_in plain client past) (dealt_in plain client (more ++ past)) (dealt_in plain client (entry ∷ (more ++ past))) (dealt-more plain client more past) (dealt-step plain client entry (more ++ past))

dealt-ends : (plain : Plain) (client : ℕ) (new old : List Entry) → EndsIn new old → EndsIn (dealt_in plain client new) (dealt_in plain client old)
dealt-ends plain client new old ends =
    let E : List Entry → Type 0 = λ past. EndsIn (dealt_in plain client past) (dealt_in plain client old) in
    subst E (sym ends.1) (dealt-more plain client ends.0 old)

-- Calls that are done.

kept_call-without : (number : ℕ) (test : ℕ × Call → Bool) (kept : List (ℕ × Call)) → kept_call number kept ≡ None → kept_call number (without test kept) ≡ None
kept_call-without number test [] none = refl
kept_call-without number test (first ∷ kept) none =
    let P : Bool → Type 0 = λ b. (if b then Some first.1 else kept_call number kept) ≡ None → kept_call number (without test (first ∷ kept)) ≡ None in
    let Q : Bool → Type 0 = λ b. kept_call number (if b then without test kept else first ∷ without test kept) ≡ None in
    by_test P first.0 number (λ same never. cc) (λ different rest.
    let deeper = kept_call-without number test kept rest in
    let S : Bool → Type 0 = λ b. (if b then Some first.1 else kept_call number (without test kept)) ≡ None in
    let keeps : Q false = by_test S first.0 number (λ same. absurd (different same)) (λ other. deeper) in
    let cases : (b : Bool) → Q b = elim [ true ↦ deeper | false ↦ keeps ] in
    cases (test first)) none

kept_call-taken : (number : ℕ) (kept : List (ℕ × Call)) → kept_call number (without (λ (call : ℕ × Call). call.0 == number) kept) ≡ None
kept_call-taken number [] = refl
kept_call-taken number (first ∷ kept) =
    let deeper = kept_call-taken number kept in
    let Q : Bool → Type 0 = λ b. kept_call number (if b then without (λ (call : ℕ × Call). call.0 == number) kept else first ∷ without (λ (call : ℕ × Call). call.0 == number) kept) ≡ None in
    let S : Bool → Type 0 = λ b. (if b then Some first.1 else kept_call number (without (λ (call : ℕ × Call). call.0 == number) kept)) ≡ None in
    by_test Q first.0 number (λ same. deeper) (λ different. by_test S first.0 number (λ same. absurd (different same)) (λ other. deeper))

kept_call-others : (other number : ℕ) (kept : List (ℕ × Call)) → ((number ≡ other) → ⊥) → kept_call other (without (λ (call : ℕ × Call). call.0 == number) kept) ≡ None → kept_call other kept ≡ None
kept_call-others other number [] apart none = refl
kept_call-others other number (first ∷ kept) apart none =
    let rest = without (λ (call : ℕ × Call). call.0 == number) kept in
    let K : Type 0 = (if first.0 == other then Some first.1 else kept_call other kept) ≡ None in
    let T : Bool → Type 0 = λ b. kept_call other (if b then rest else first ∷ rest) ≡ None → K in
    let S : Bool → Type 0 = λ b. (if b then Some first.1 else kept_call other kept) ≡ None in
    let B : Bool → Type 0 = λ b. (if b then Some first.1 else kept_call other rest) ≡ None → (if b then Some first.1 else kept_call other kept) ≡ None in
    by_test T first.0 number
    (λ gone taken. by_test S first.0 other (λ same. absurd (apart (sym gone ∙ same))) (λ different. kept_call-others other number kept apart taken))
    (λ stays taken. by_test B first.0 other (λ same never. cc) (λ different deeper. kept_call-others other number kept apart deeper) taken)
    none

-- a call that is kept was sent
kept_call-sent : (plain : Plain) (client number : ℕ) (call : Call) (world : World) → IsSound plain world → kept_call number (world.agents client).kept ≡ Some call → number < (world.agents client).next
kept_call-sent plain client number call world sound kept =
    let own = sound.facts.clients client in
    let stands = Keeps-sent (number, call) own.awaits.keeps (kept_call-stands number (world.agents client).kept call kept) in
    let bound = IsNumbered-bound (number, call) (sent_by client (messages_in world.net)) own.sends.numbered stands in
    let next_is = own.sends.next_is in
    omega arith

TellsReplies-reply : (plain : Plain) (client number : ℕ) (call : Call) (reply : Reply) (world : World) → IsSound plain world → kept_call number (world.agents client).kept ≡ Some call → Stands (Answer client number reply) (messages_in world.net) → TellsReplies (world.agents client) (after_reply number call reply (world.agents client)) (answers_in plain client world.core.answered) ((number, reply) ∷ [])
TellsReplies-reply plain client number call reply world sound kept stands =
    let agent = world.agents client in
    record {
      later = λ other done. record { sent = done.sent; taken = kept_call-without other (λ (call : ℕ × Call). call.0 == number) agent.kept done.taken };
      only = λ other done. elim (eqb_tells number other) [
        | inl same ↦ inr (inl same.1)
        | inr different ↦ inl (record { sent = done.sent; taken = kept_call-others other number agent.kept different.1 done.taken })
      ];
      fresh = (λ done. let none = done.taken in cc, tt);
      done = (record { sent = kept_call-sent plain client number call world sound kept; taken = kept_call-taken number agent.kept }, tt);
      once = (tt, tt);
      right = (All-at (IsOfRun plain world.core.answered) (Answer client number reply) (messages_in world.net) sound.facts.run stands, tt);
    }

pub IsDone-call : (agent : Agent) (call : Call) (number : ℕ) → IsDone agent number → IsDone (after_call call agent) number
IsDone-call agent call number done =
    let below = done.sent in
    let S : Bool → Type 0 = λ b. (if b then Some call else kept_call number agent.kept) ≡ None in
    record { sent = omega arith; taken = by_test S agent.next number (λ same. absurd (omega arith)) (λ different. done.taken) }

IsDone-before : (agent : Agent) (call : Call) (number : ℕ) → IsDone (after_call call agent) number → IsDone agent number
IsDone-before agent call number done =
    let below = done.sent in
    let most : number ≤ agent.next = omega arith in
    let S : Bool → Type 0 = λ b. (if b then Some call else kept_call number agent.kept) ≡ None → IsDone agent number in
    by_test S agent.next number (λ same never. absurd (cc)) (λ different none. record {
      sent = elim (eq-or-lt_of_le most) [ inl same ↦ absurd (different (sym same)) | inr less ↦ less ];
      taken = none;
    }) done.taken

-- Callbacks of replies.

of_replies-append : (xs ys : List Callback) → of_replies (xs ++ ys) ≡ of_replies xs ++ of_replies ys
of_replies-append [] ys = refl
of_replies-append (x ∷ xs) ys = ap (λ rest. of_reply x ++ rest) (of_replies-append xs ys) ∙ sym (append_assoc (of_reply x) (of_replies xs) (of_replies ys))

of_replies-given : (changed : Option (StreamName × ℕ)) (asked : Option ℕ) (status : Status) → of_replies (given_by changed asked status) ≡ given_by changed asked status
of_replies-given (Some changed) asked status = refl
of_replies-given None (Some invocation) status = refl
of_replies-given None None status = refl

of_replies-reply : (marks : List (StreamName × Mark)) (call : Call) (reply : Reply) → of_replies (callbacks_of marks call reply) ≡ callbacks_of marks call reply
of_replies-reply marks call reply = of_replies-given (changed_mask (told_mark call reply) marks) (asked_back call) (status_of reply)

-- the marks that first and second lines tell, and the callbacks that they give

pub marks_seen-append : (client : ℕ) (marks : List (StreamName × Mark)) (second first : List Told) → marks_seen client marks (second ++ first) ≡ marks_seen client (marks_seen client marks first) second
marks_seen-append client marks [] first = refl
marks_seen-append client marks (line ∷ second) first = ap (mark_in client line) (marks_seen-append client marks second first)

pub called_back-append : (client : ℕ) (marks : List (StreamName × Mark)) (second first : List Told) → called_back client marks (second ++ first) ≡ called_back client (marks_seen client marks first) second ++ called_back client marks first
called_back-append client marks [] first = refl
called_back-append client marks (line ∷ second) first =
    ap (λ m. called_in client line m ++ called_back client marks (second ++ first)) (marks_seen-append client marks second first)
    ∙ ap (λ rest. called_in client line (marks_seen client (marks_seen client marks first) second) ++ rest) (called_back-append client marks second first)
    ∙ sym (append_assoc (called_in client line (marks_seen client (marks_seen client marks first) second)) (called_back client (marks_seen client marks first) second) (called_back client marks first))

pub marks-both : (client : ℕ) (one two three : List (StreamName × Mark)) (first second : List Told) → two ≡ marks_seen client one first → three ≡ marks_seen client two second → three ≡ marks_seen client one (second ++ first)
marks-both client one two three first second says more = more ∙ ap (λ m. marks_seen client m second) says ∙ sym (marks_seen-append client one second first)

pub called-both : (client : ℕ) (one two : List (StreamName × Mark)) (old middle new : List Callback) (first second : List Told) → two ≡ marks_seen client one first → middle ≡ called_back client one first ++ old → new ≡ called_back client two second ++ middle → new ≡ called_back client one (second ++ first) ++ old
called-both client one two old middle new first second marks says more =
    more
    ∙ ap (λ m. called_back client m second ++ middle) marks
    ∙ ap (λ rest. called_back client (marks_seen client one first) second ++ rest) says
    ∙ sym (append_assoc (called_back client (marks_seen client one first) second) (called_back client one first) old)
    ∙ ap (λ front. front ++ old) (sym (called_back-append client one second first))

of_reply-item : (id : ℕ) (content : Content) → of_reply (callback_of id content) ≡ []
of_reply-item id (Single notification) = refl
of_reply-item id (Losses lost) = refl

-- What lines say.

-- events that leave agents and history, and whose lines are posts at most
says-net : (plain : Plain) (world : World) (message : Message) → Says plain world (record world { net = Spelled message ∷ world.net }) (Posted (suc (length world.net)) message ∷ [])
says-net plain world message = record {
  posts = Grows-one (Spelled message) world.net;
  entries = Grows-same (committed world.core);
  answers = EndsIn-same world.core.answered;
  replies = λ client. TellsReplies-none (world.agents client) (world.agents client) (answers_in plain client world.core.answered) (λ number done. done) (λ number done. done);
  callbacks = λ client. Grows-same (world.agents client).handed;
  marks = λ client. refl;
  called = λ client. refl;
  deals = λ client. tt;
}

pub Says-injected : (plain : Plain) (world : World) (bytes : List ℕ) (front : ℕ) (why : WireWhy) → Says plain world (record world { net = Raw bytes front why ∷ world.net }) (Injected (suc (length world.net)) bytes front why ∷ [])
Says-injected plain world bytes front why = record {
  posts = Grows-one (Raw bytes front why) world.net;
  entries = Grows-same (committed world.core);
  answers = EndsIn-same world.core.answered;
  replies = λ client. TellsReplies-none (world.agents client) (world.agents client) (answers_in plain client world.core.answered) (λ number done. done) (λ number done. done);
  callbacks = λ client. Grows-same (world.agents client).handed;
  marks = λ client. refl;
  called = λ client. refl;
  deals = λ client. tt;
}

pub Says-same : (plain : Plain) (world : World) → Says plain world world []
Says-same plain world = record {
  posts = Grows-same world.net;
  entries = Grows-same (committed world.core);
  answers = EndsIn-same world.core.answered;
  replies = λ client. TellsReplies-none (world.agents client) (world.agents client) (answers_in plain client world.core.answered) (λ number done. done) (λ number done. done);
  callbacks = λ client. Grows-same (world.agents client).handed;
  marks = λ client. refl;
  called = λ client. refl;
  deals = λ client. tt;
}

pub Says-ignored : (plain : Plain) (world : World) (place : ℕ) (why : Why) → Says plain world world (Ignored place why ∷ [])
Says-ignored plain world place why = record {
  posts = Grows-same world.net;
  entries = Grows-same (committed world.core);
  answers = EndsIn-same world.core.answered;
  replies = λ client. TellsReplies-none (world.agents client) (world.agents client) (answers_in plain client world.core.answered) (λ number done. done) (λ number done. done);
  callbacks = λ client. Grows-same (world.agents client).handed;
  marks = λ client. refl;
  called = λ client. refl;
  deals = λ client. tt;
}

pub Says-both : (plain : Plain) (one two three : World) (first second : List Told) → Says plain one two first → Says plain two three second → Says plain one three (second ++ first)
Says-both plain one two three first second says more = record {
  posts = grows-told post_in one.net two.net three.net first second says.posts more.posts;
  entries = grows-told entry_in (committed one.core) (committed two.core) (committed three.core) first second says.entries more.entries;
  answers = EndsIn-both one.core.answered two.core.answered three.core.answered says.answers more.answers;
  replies = λ client.
      let T : List (ℕ × Reply) → Type 0 = λ lines. TellsReplies (one.agents client) (three.agents client) (answers_in plain client three.core.answered) lines in
      subst T (sym (gathered-append (reply_in client) second first)) (TellsReplies-both (one.agents client) (two.agents client) (three.agents client) (answers_in plain client two.core.answered) (answers_in plain client three.core.answered) (replies_told client first) (replies_told client second) (answers-ends plain client three.core.answered two.core.answered more.answers) (says.replies client) (more.replies client));
  callbacks = λ client. grows-told (callback_in client) (one.agents client).handed (two.agents client).handed (three.agents client).handed first second (says.callbacks client) (more.callbacks client);
  deals = λ client.
      let Old : ℕ × Call × Reply → Type 0 = λ deal. Stands deal (dealt_in plain client two.core.answered) in
      let New : ℕ × Call × Reply → Type 0 = λ deal. Stands deal (dealt_in plain client three.core.answered) in
      let grown = dealt-ends plain client three.core.answered two.core.answered more.answers in
      let early = All-map Old New (deals_told client first) (λ deal stands. EndsIn-stands deal (dealt_in plain client three.core.answered) (dealt_in plain client two.core.answered) grown stands) (says.deals client) in
      subst (λ deals. AllByRecursion New deals) (sym (gathered-append (deal_in client) second first)) (All-append New (deals_told client second) (deals_told client first) (more.deals client) early);
  marks = λ client. marks-both client (one.agents client).marks (two.agents client).marks (three.agents client).marks first second (says.marks client) (more.marks client);
  called = λ client. called-both client (one.agents client).marks (two.agents client).marks (of_replies (fed_of (one.agents client))) (of_replies (fed_of (two.agents client))) (of_replies (fed_of (three.agents client))) first second (says.marks client) (says.called client) (more.called client);
}

says-reply : (plain : Plain) (world : World) (client number : ℕ) (call : Call) (reply : Reply) → IsSound plain world → kept_call number (world.agents client).kept ≡ Some call → Stands (Answer client number reply) (messages_in world.net) → Says plain world (record world { agents = with_agent client (after_reply number call reply (world.agents client)) world.agents }) (Replied client number call reply ∷ [])
says-reply plain world client number call reply sound kept stands =
    let agent = world.agents client in
    let after = after_reply number call reply agent in
    record {
      posts = Grows-same world.net;
      entries = Grows-same (committed world.core);
      answers = EndsIn-same world.core.answered;
      replies = each_client (λ other b. TellsReplies (world.agents other) (if b then after else world.agents other) (answers_in plain other world.core.answered) ((if b then (number, reply) ∷ [] else []) ++ [])) client
          (TellsReplies-reply plain client number call reply world sound kept stands)
          (λ other. TellsReplies-none (world.agents other) (world.agents other) (answers_in plain other world.core.answered) (λ number done. done) (λ number done. done));
      callbacks = each_client (λ other b. Grows (world.agents other).handed (if b then after else world.agents other).handed []) client (Grows-same agent.handed) (λ other. Grows-same (world.agents other).handed);
      deals = each_client (λ other b. AllByRecursion (λ (deal : ℕ × Call × Reply). Stands deal (dealt_in plain other world.core.answered)) ((if b then (number, call, reply) ∷ [] else []) ++ [])) client
          (reply-dealt plain world client number call reply sound kept stands, tt)
          (λ other. tt);
      marks = each_client (λ other b. (if b then after else world.agents other).marks ≡ (if b then marks_with (told_mark call reply) (world.agents other).marks else (world.agents other).marks)) client refl (λ other. refl);
      called = each_client (λ other b. of_replies (fed_of (if b then after else world.agents other)) ≡ ((if b then callbacks_of (world.agents other).marks call reply else []) ++ []) ++ of_replies (fed_of (world.agents other))) client
          (ap of_replies (append_assoc (callbacks_of agent.marks call reply) agent.queue agent.handed) ∙ of_replies-append (callbacks_of agent.marks call reply) (fed_of agent) ∙ ap (λ rest. rest ++ of_replies (fed_of agent)) (of_replies-reply agent.marks call reply ∙ sym (append-nil (callbacks_of agent.marks call reply))))
          (λ other. refl);
    }

says-item : (plain : Plain) (world : World) (client key : ℕ) (item : Item) (found : Living) → Says plain world (record world { net = Spelled (Receipt client key item.number) ∷ world.net; agents = with_agent client (after_item key found.id item.content (world.agents client)) world.agents }) (Posted (suc (length world.net)) (Receipt client key item.number) ∷ [])
says-item plain world client key item found =
    let agent = world.agents client in
    let after = after_item key found.id item.content agent in
    record {
      posts = Grows-one (Spelled (Receipt client key item.number)) world.net;
      entries = Grows-same (committed world.core);
      answers = EndsIn-same world.core.answered;
      replies = each_client (λ other b. TellsReplies (world.agents other) (if b then after else world.agents other) (answers_in plain other world.core.answered) []) client
          (TellsReplies-none agent after (answers_in plain client world.core.answered) (λ number done. record { sent = done.sent; taken = done.taken }) (λ number done. record { sent = done.sent; taken = done.taken }))
          (λ other. TellsReplies-none (world.agents other) (world.agents other) (answers_in plain other world.core.answered) (λ number done. done) (λ number done. done));
      callbacks = each_client (λ other b. Grows (world.agents other).handed (if b then after else world.agents other).handed []) client (Grows-same agent.handed) (λ other. Grows-same (world.agents other).handed);
      deals = λ other. tt;
      marks = each_client (λ other b. (if b then after else world.agents other).marks ≡ (world.agents other).marks) client refl (λ other. refl);
      called = each_client (λ other b. of_replies (fed_of (if b then after else world.agents other)) ≡ of_replies (fed_of (world.agents other))) client
          (ap (λ rest. rest ++ of_replies (fed_of agent)) (of_reply-item found.id item.content))
          (λ other. refl);
    }

-- what each step of the clients' side says
pub Says-told : (plain : Plain) → IsTold plain (Says plain)
Says-told plain = record {
  same = Says-same plain;
  both = λ one two three first second says more. Says-both plain one two three first second says more;
  ignored = Says-ignored plain;
  answer = λ world client number reply. says-net plain world (Answer client number reply);
  pushed = λ world client key item. says-net plain world (Delivery client key item);
  reply = λ world client number call reply sound kept place stands. says-reply plain world client number call reply sound kept stands;
  item = λ world client key item found sound here next place stands. says-item plain world client key item found;
}

-- Events that no round has.

pub Says-send : (plain : Plain) (world : World) (client : ℕ) (call : Call) (clients : List ℕ) → Says plain world (record world { net = Spelled (Request client (world.agents client).next call) ∷ world.net; agents = with_agent client (after_call call (world.agents client)) world.agents; clients = clients }) (Posted (suc (length world.net)) (Request client (world.agents client).next call) ∷ [])
Says-send plain world client call clients =
    let agent = world.agents client in
    let after = after_call call agent in
    record {
      posts = Grows-one (Spelled (Request client agent.next call)) world.net;
      entries = Grows-same (committed world.core);
      answers = EndsIn-same world.core.answered;
      replies = each_client (λ other b. TellsReplies (world.agents other) (if b then after else world.agents other) (answers_in plain other world.core.answered) []) client
          (TellsReplies-none agent after (answers_in plain client world.core.answered) (IsDone-call agent call) (IsDone-before agent call))
          (λ other. TellsReplies-none (world.agents other) (world.agents other) (answers_in plain other world.core.answered) (λ number done. done) (λ number done. done));
      callbacks = each_client (λ other b. Grows (world.agents other).handed (if b then after else world.agents other).handed []) client (Grows-same agent.handed) (λ other. Grows-same (world.agents other).handed);
      marks = each_client (λ other b. (if b then after else world.agents other).marks ≡ (world.agents other).marks) client refl (λ other. refl);
      called = each_client (λ other b. of_replies (fed_of (if b then after else world.agents other)) ≡ of_replies (fed_of (world.agents other))) client refl (λ other. refl);
      deals = λ other. tt;
    }
