-- What a reply makes of the marks that were seen, and which callback it gives.
use Rattle.std.proofs.Common.{◌≡◌, ℕ, ◌==◌, Bool, true, false, not, ◌&&◌, cond, if◌then◌else◌, Option, Some, None, List, [], ◌∷◌, ◌++◌, length, refl, ap, sym, subst, ◌∙◌, true≢false}
use Rattle.std.specs.Prelude.{nat_le}
use Rattle.std.specs.Global.{Vec}
use Rattle.std.specs.Map.{lookup}
use Rattle.std.specs.Str.{bytes_eq}
use Rattle.indexmap.specs.IndexMap.{insert_entry}
use Rattle.stream_config.specs.Equality.{same_name}
use Rattle.stream_config.specs.Marks.{first_mark}
use Rattle.stream_config.proofs.Equalities.{decides_name}
use Rattle.cluster_facts.specs.Types.{Call, Reply, Callback, Status, Mark, StreamName}
use Rattle.cluster_facts.specs.Lists.{without}
use Rattle.cluster_facts.specs.Agents.{mark_of, is_later, told_mark, put_mark, marks_with, changed_mask, asked_back, given_by, status_of, callbacks_of, kept_call, lacks_place, living_after_reply, after_reply}
use Rattle.client_agent.specs.declared.answers.MissedWhy.TheVariants.{Answered as AnsweredBefore, Left}
use Rattle.client_agent.specs.declared.answers.Taken.{Taken}
use Rattle.client_agent.specs.declared.answers.Taken.TheVariants.{Answered, Missed}
use Rattle.client_agent.specs.declared.marks.SeenMark.{SeenMark}
use Rattle.client_agent.specs.Seen.{Seen, seen_of}
use Rattle.client_agent.specs.Steps.{IsReply, IsReplyTo}
use Rattle.client_agent.specs.Inside.{Later, mark_kept, key_of, marks_kept, AreUnderKeys, later_mark, kept_of, changed_by, with_seen, gives, agent_of}
use Rattle.client_agent.proofs.Known.{same_seen}

-- the mark of what was found, or the first mark
abbrev pub mark_found : Option SeenMark → Mark
mark_found None = first_mark
mark_found (Some seen) = seen.mark

-- two names are tested in either order
same-turned : (one other : StreamName) → same_name one other ≡ same_name other one
same-turned one other = by_cases (same_name one other) (same_name other one) refl refl where
  by_cases : (b c : Bool) → same_name one other ≡ b → same_name other one ≡ c → b ≡ c
  by_cases true true is turned = refl
  by_cases false false is turned = refl
  by_cases true false is turned = sym ((decides_name other one).1 (sym ((decides_name one other).0 is))) ∙ turned
  by_cases false true is turned = sym is ∙ (decides_name one other).1 (sym ((decides_name other one).0 turned))

-- the mark of a stream is found by the key of its name
pub mark_of-found : (stream : StreamName) (key : List ℕ) (entries : List (Vec ℕ × SeenMark)) → key ≡ key_of stream → AreUnderKeys entries → mark_found (lookup (λ (other : Vec ℕ). bytes_eq key other.items) entries) ≡ mark_of stream (marks_kept entries)
mark_of-found stream key [] is keyed = refl
mark_of-found stream key (entry ∷ entries) is keyed =
    let P : Bool → Type 0 = λ b. mark_found (cond b (Some entry.1) (lookup (λ (other : Vec ℕ). bytes_eq key other.items) entries)) ≡ (if b then entry.1.mark else mark_of stream (marks_kept entries)) in
    let rest = mark_of-found stream key entries is keyed.1 in
    let cases : (b : Bool) → P b = elim [ true ↦ refl | false ↦ rest ] in
    let test : bytes_eq key entry.0.items ≡ same_name entry.1.stream stream = (λ i. bytes_eq (is i) (keyed.0 i)) ∙ same-turned stream entry.1.stream in
    ap (λ b. mark_found (cond b (Some entry.1) (lookup (λ (other : Vec ℕ). bytes_eq key other.items) entries))) test ∙ cases (same_name entry.1.stream stream)

-- a mark that is put under its key stands in the place of the one of its stream
pub marks-put : (key : Vec ℕ) (seen : SeenMark) (entries : List (Vec ℕ × SeenMark)) → key.items ≡ key_of seen.stream → AreUnderKeys entries → marks_kept (insert_entry (λ (one other : Vec ℕ). bytes_eq one.items other.items) entries key seen) ≡ put_mark (mark_kept seen) (marks_kept entries)
marks-put key seen [] is keyed = refl
marks-put key seen (entry ∷ entries) is keyed =
    let new = insert_entry (λ (one other : Vec ℕ). bytes_eq one.items other.items) entries key seen in
    let P : Bool → Type 0 = λ b. marks_kept (if b then (entry.0, seen) ∷ entries else entry ∷ new) ≡ (if b then mark_kept seen ∷ marks_kept entries else mark_kept entry.1 ∷ put_mark (mark_kept seen) (marks_kept entries)) in
    let rest = marks-put key seen entries is keyed.1 in
    let cases : (b : Bool) → P b = elim [ true ↦ refl | false ↦ ap (λ (marks : List (StreamName × Mark)). mark_kept entry.1 ∷ marks) rest ] in
    let test : bytes_eq key.items entry.0.items ≡ same_name seen.stream entry.1.stream = λ i. bytes_eq (is i) (keyed.0 i) in
    ap (λ b. marks_kept (if b then (entry.0, seen) ∷ entries else entry ∷ new)) test ∙ cases (same_name seen.stream entry.1.stream)

pub keys-put : (key : Vec ℕ) (seen : SeenMark) (entries : List (Vec ℕ × SeenMark)) → key.items ≡ key_of seen.stream → AreUnderKeys entries → AreUnderKeys (insert_entry (λ (one other : Vec ℕ). bytes_eq one.items other.items) entries key seen)
keys-put key seen [] is keyed = (is, tt)
keys-put key seen (entry ∷ entries) is keyed =
    by_case (same_name seen.stream entry.1.stream) refl (keys-put key seen entries is keyed.1)
  where
    test : bytes_eq key.items entry.0.items ≡ same_name seen.stream entry.1.stream
    test = λ i. bytes_eq (is i) (keyed.0 i)

    by_case : (b : Bool) → same_name seen.stream entry.1.stream ≡ b → AreUnderKeys (insert_entry (λ (one other : Vec ℕ). bytes_eq one.items other.items) entries key seen) → AreUnderKeys (insert_entry (λ (one other : Vec ℕ). bytes_eq one.items other.items) (entry ∷ entries) key seen)
    by_case true same rest =
        let own : entry.0.items ≡ key_of seen.stream = keyed.0 ∙ ap key_of (sym ((decides_name seen.stream entry.1.stream).0 same)) in
        let P : Bool → Type 0 = λ b. AreUnderKeys (if b then (entry.0, seen) ∷ entries else entry ∷ insert_entry (λ (one other : Vec ℕ). bytes_eq one.items other.items) entries key seen) in
        subst P (sym (test ∙ same)) (own, keyed.1)
    by_case false other rest =
        let P : Bool → Type 0 = λ b. AreUnderKeys (if b then (entry.0, seen) ∷ entries else entry ∷ insert_entry (λ (one other : Vec ℕ). bytes_eq one.items other.items) entries key seen) in
        subst P (sym (test ∙ other)) (keyed.0, rest)

-- A later mark is what the definitions of an agent make of a mark that is told.

pub later-changes : (told : Option (StreamName × Mark)) (marks : List (StreamName × Mark)) → changed_by (later_mark told marks) ≡ changed_mask told marks
later-changes None marks = refl
later-changes (Some told) marks =
    let other = not (told.1.mask == (mark_of told.0 marks).mask) in
    elim (is_later marks told) as (λ b. changed_by (if b then Some (record { stream = told.0; mark = told.1; changes = other }) else None) ≡ (if b && other then Some (told.0, told.1.mask) else None)) [
      | true ↦ refl
      | false ↦ refl
    ]

pub later-kept : (told : Option (StreamName × Mark)) (marks : List (StreamName × Mark)) → with_seen (kept_of (later_mark told marks)) marks ≡ marks_with told marks
later-kept None marks = refl
later-kept (Some told) marks =
    let other = not (told.1.mask == (mark_of told.0 marks).mask) in
    let with_it = put_mark told marks in
    elim (is_later marks told) as (λ b. with_seen (kept_of (if b then Some (record { stream = told.0; mark = told.1; changes = other }) else None)) marks ≡ (if b then with_it else marks)) [
      | true ↦ refl
      | false ↦ refl
    ]

-- A callback wants a place.

pub lacks-by : (places : ℕ) (queue : List Callback) (changed : Option (StreamName × ℕ)) (asked : Option ℕ) (status : Status) → (gives changed asked && nat_le places (length queue)) ≡ lacks_place places queue (given_by changed asked status)
lacks-by places queue (Some changed) asked status = refl
lacks-by places queue None (Some invocation) status = refl
lacks-by places queue None None status = refl

-- a callback that is given whatever the mask lacks a place in each case
pub lacks-anyway : (places : ℕ) (queue : List Callback) (changed : Option (StreamName × ℕ)) (asked : Option ℕ) (status : Status) → true ≡ (gives None asked && nat_le places (length queue)) → true ≡ lacks_place places queue (given_by changed asked status)
lacks-anyway places queue (Some changed) (Some invocation) status full = full
lacks-anyway places queue None (Some invocation) status full = full
lacks-anyway places queue changed None status full = absurd (true≢false full)

-- What becomes of a reply.

pub reply_unknown : (seen : Seen) (number : ℕ) (reply : Reply) → kept_call number seen.kept ≡ None → (handed : List Callback) → seen.given ≡ length handed → IsReply seen.client seen.places number reply (agent_of seen handed) (kept_call number seen.kept) (Missed AnsweredBefore) seen
reply_unknown seen number reply none handed given =
    let P : Option Call → Type 0 = λ call. IsReply seen.client seen.places number reply (agent_of seen handed) call (Missed AnsweredBefore) seen in
    subst P (sym none) (refl, same_seen seen handed given)

-- the callbacks of a reply by the later mark that it tells
pub callbacks-by : (call : Call) (reply : Reply) (marks : List (StreamName × Mark)) (later : Option Later) → later ≡ later_mark (told_mark call reply) marks → given_by (changed_by later) (asked_back call) (status_of reply) ≡ callbacks_of marks call reply
callbacks-by call reply marks later is =
    ap (λ (changed : Option (StreamName × ℕ)). given_by changed (asked_back call) (status_of reply)) (ap changed_by is ∙ later-changes (told_mark call reply) marks)

-- whether the callback of a reply lacks a place
pub lacks-later : (places : ℕ) (queue : List Callback) (call : Call) (reply : Reply) (marks : List (StreamName × Mark)) (later : Option Later) (wanted lacks : Bool) → later ≡ later_mark (told_mark call reply) marks → wanted ≡ gives (changed_by later) (asked_back call) → lacks ≡ (wanted && nat_le places (length queue)) → lacks ≡ lacks_place places queue (callbacks_of marks call reply)
lacks-later places queue call reply marks later wanted lacks is wanted_is lacks_is =
    lacks_is ∙ ap (λ (b : Bool). b && nat_le places (length queue)) wanted_is ∙ lacks-by places queue (changed_by later) (asked_back call) (status_of reply)
    ∙ ap (λ (given : List Callback). lacks_place places queue given) (callbacks-by call reply marks later is)

reply_to : (seen : Seen) (number : ℕ) (reply : Reply) (call : Call) (taken : Taken) (new : Seen) (lacks : Bool) (handed : List Callback) → Some call ≡ kept_call number seen.kept → lacks ≡ lacks_place seen.places seen.queue (callbacks_of seen.marks call reply) → IsReplyTo seen.client seen.places number reply (agent_of seen handed) call lacks taken new → IsReply seen.client seen.places number reply (agent_of seen handed) (kept_call number seen.kept) taken new
reply_to seen number reply call taken new lacks handed is lacks_is holds =
    let P : Option Call → Type 0 = λ found. IsReply seen.client seen.places number reply (agent_of seen handed) found taken new in
    let Q : Bool → Type 0 = λ b. IsReplyTo seen.client seen.places number reply (agent_of seen handed) call b taken new in
    subst P is (subst Q lacks_is holds)

pub reply_left : (seen : Seen) (number : ℕ) (reply : Reply) (call : Call) → Some call ≡ kept_call number seen.kept → true ≡ lacks_place seen.places seen.queue (callbacks_of seen.marks call reply) → (handed : List Callback) → seen.given ≡ length handed → IsReply seen.client seen.places number reply (agent_of seen handed) (kept_call number seen.kept) (Missed Left) seen
reply_left seen number reply call is full handed given =
    reply_to seen number reply call (Missed Left) seen true handed is full (refl, same_seen seen handed given)

-- what is seen of an agent that has taken a reply, by the later mark that it tells
abbrev pub with_reply : ℕ → Call → Reply → Option Later → Seen → Seen
with_reply number call reply later seen = record seen {
  kept = without (λ (sent : ℕ × Call). sent.0 == number) seen.kept;
  living = living_after_reply number reply seen.living;
  queue = given_by (changed_by later) (asked_back call) (status_of reply) ++ seen.queue;
  marks = with_seen (kept_of later) seen.marks;
}

pub reply_taken : (seen : Seen) (number : ℕ) (reply : Reply) (call : Call) (later : Option Later) (copy : Reply) (new : Seen) → Some call ≡ kept_call number seen.kept → later ≡ later_mark (told_mark call reply) seen.marks → false ≡ lacks_place seen.places seen.queue (callbacks_of seen.marks call reply) → copy ≡ reply → new ≡ with_reply number call reply later seen → (handed : List Callback) → seen.given ≡ length handed → IsReply seen.client seen.places number reply (agent_of seen handed) (kept_call number seen.kept) (Answered number copy) new
reply_taken seen number reply call later copy new is later_is free copied new_is handed given =
    let callbacks = callbacks-by call reply seen.marks later later_is in
    let marks : with_seen (kept_of later) seen.marks ≡ marks_with (told_mark call reply) seen.marks = ap (λ (l : Option Later). with_seen (kept_of l) seen.marks) later_is ∙ later-kept (told_mark call reply) seen.marks in
    let after : with_reply number call reply later seen ≡ seen_of seen.client seen.places (after_reply number call reply (agent_of seen handed)) = λ i. record {
      client = seen.client;
      places = seen.places;
      next = seen.next;
      log_handle = seen.log_handle;
      ntf_handle = seen.ntf_handle;
      kept = without (λ (sent : ℕ × Call). sent.0 == number) seen.kept;
      living = living_after_reply number reply seen.living;
      queue = callbacks i ++ seen.queue;
      given = given i;
      marks = marks i;
    } in
    reply_to seen number reply call (Answered number copy) new false handed is free (ap (λ (r : Reply). Answered number r) copied, new_is ∙ after)
