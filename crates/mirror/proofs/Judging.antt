-- A window's judgement of a request is the cluster's, and the reply that it repeats is the history's answer.
use Rattle.std.proofs.Common.{◌≡◌, ℕ, suc, ◌+◌, ◌-◌, ◌<◌, ◌≤◌, ◌==◌, Bool, true, false, nat_lt, if◌then◌else◌, Some, None, List, [], ◌∷◌, length, refl, ap, sym, ◌∙◌, arith}
use Rattle.std.specs.Prelude.{nat_le}
use Rattle.std.proofs.lemmas.Bool.Decides.{nat_tests}
use Rattle.calls.specs.declared.reply.Reply.{Reply}
use Rattle.calls.specs.declared.entry.Entry.{Entry}
use Rattle.calls.specs.declared.entry.Entry.TheVariants.{Called, Receipted}
use Rattle.client_window.specs.Judgement.{taken_under, forgotten}
use Rattle.cluster_facts.specs.History.{New, Repeat, Old, Ahead, judged, judged_call}
use Rattle.cluster_facts.specs.Messages.{calls_in}
use Rattle.cluster_facts.specs.Service.{answers_in}
use Rattle.cluster_facts.proofs.Words.{by_test}
use Rattle.cluster_events.specs.Events.{reply_at}
use Rattle.service_laws.specs.PlainOf.{plain_of}
use Rattle.plain_service.specs.Setups.{Setup}
use Rattle.plain_service.specs.Legal.{IsHistory}
use Rattle.plain_service.specs.Replies.{reply_of, calls_of, replies_to}

length-calls_in : (setup : Setup) (client : ℕ) (past : List Entry) → length (calls_in client past) ≡ length (replies_to setup client past)
length-calls_in setup client [] = refl
length-calls_in setup client (Called caller number time call ∷ past) =
    elim (caller == client) as (λ b. length (if b then (number, call) ∷ calls_in client past else calls_in client past) ≡ length (if b then reply_of setup past caller time call ∷ replies_to setup client past else replies_to setup client past)) [
      | true ↦ ap suc (length-calls_in setup client past)
      | false ↦ length-calls_in setup client past
    ]
length-calls_in setup client (Receipted caller key through time ∷ past) = length-calls_in setup client past

length-calls_of : (setup : Setup) (client : ℕ) (past : List Entry) → length (calls_of client past) ≡ length (replies_to setup client past)
length-calls_of setup client [] = refl
length-calls_of setup client (Called caller number time call ∷ past) =
    elim (caller == client) as (λ b. length (if b then call ∷ calls_of client past else calls_of client past) ≡ length (if b then reply_of setup past caller time call ∷ replies_to setup client past else replies_to setup client past)) [
      | true ↦ ap suc (length-calls_of setup client past)
      | false ↦ length-calls_of setup client past
    ]
length-calls_of setup client (Receipted caller key through time ∷ past) = length-calls_of setup client past

-- Judgements.

judged_by : (number count : ℕ) (next above old : Bool) → (number == suc count) ≡ next → nat_lt count number ≡ above → nat_le (number + 32) count ≡ old → judged number count ≡ (if next then New else if above then Ahead else if old then Old else Repeat)
judged_by number count next above old a b c = λ i. if a i then New else if b i then Ahead else if c i then Old else Repeat

pub judged-new : (number count : ℕ) → number ≡ count + 1 → judged number count ≡ New
judged-new number count is =
    judged_by number count true (nat_lt count number) (nat_le (number + 32) count) (grind (arith, nat_tests)) refl refl

pub judged-ahead : (number count : ℕ) → count + 1 < number → judged number count ≡ Ahead
judged-ahead number count above =
    judged_by number count false true (nat_le (number + 32) count) (grind (arith, nat_tests)) (grind (arith, nat_tests)) refl

pub judged-old : (number count : ℕ) → 0 < number → number ≤ count - 32 → judged number count ≡ Old
judged-old number count some below =
    judged_by number count false false true (grind (arith, nat_tests)) (grind (arith, nat_tests)) (grind (arith, nat_tests))

pub judged-repeat : (number count : ℕ) → count - 32 < number → number ≤ count → judged number count ≡ Repeat
judged-repeat number count above within =
    judged_by number count false false false (grind (arith, nat_tests)) (grind (arith, nat_tests)) (grind (arith, nat_tests))

-- the judgements of a client's request after a history
pub call-new : (setup : Setup) (client number : ℕ) (past : List Entry) → number ≡ length (replies_to setup client past) + 1 → judged_call past client number ≡ New
call-new setup client number past is =
    let long = length-calls_in setup client past in
    judged-new number (length (calls_in client past)) (omega arith)

pub call-ahead : (setup : Setup) (client number : ℕ) (past : List Entry) → length (replies_to setup client past) + 1 < number → judged_call past client number ≡ Ahead
call-ahead setup client number past above =
    let long = length-calls_in setup client past in
    judged-ahead number (length (calls_in client past)) (omega arith)

pub call-old : (setup : Setup) (client number : ℕ) (past : List Entry) → 0 < number → number ≤ forgotten (replies_to setup client past) → judged_call past client number ≡ Old
call-old setup client number past some below =
    let long = length-calls_in setup client past in
    judged-old number (length (calls_in client past)) some (omega arith)

pub taken-within : (number : ℕ) (all : List Reply) (reply : Reply) → taken_under number all ≡ Some reply → number ≤ length all
taken-within number [] reply is = absurd (let e : None ≡ Some reply = is in cc)
taken-within number (first ∷ before) reply is =
    let P : Bool → Type 0 = λ b. (if b then Some first else taken_under number before) ≡ Some reply → number ≤ suc (length before) in
    by_test P number (length before + 1) (λ same found. omega arith) (λ different found. let within = taken-within number before reply found in omega arith) is

pub call-repeat : (setup : Setup) (client number : ℕ) (past : List Entry) (reply : Reply) → forgotten (replies_to setup client past) < number → taken_under number (replies_to setup client past) ≡ Some reply → judged_call past client number ≡ Repeat
call-repeat setup client number past reply above is =
    let long = length-calls_in setup client past in
    let within = taken-within number (replies_to setup client past) reply is in
    judged-repeat number (length (calls_in client past)) (omega arith) (omega arith)

-- the client's next number, by its replies
pub next-number : (setup : Setup) (client : ℕ) (past : List Entry) → length (calls_of client past) + 1 ≡ length (replies_to setup client past) + 1
next-number setup client past = ap (λ n. n + 1) (length-calls_of setup client past)

-- Replies.

-- the reply under a number is the history's answer to the call of that number
pub reply-under : (setup : Setup) (client number : ℕ) (past : List Entry) → IsHistory setup past → reply_at number (answers_in (plain_of setup) client past) ≡ taken_under number (replies_to setup client past)
reply-under setup client number [] history = refl
reply-under setup client number (Called caller seq time call ∷ past) history =
    let rest = reply-under setup client number past history.1 in
    let reply = reply_of setup past caller time call in
    let P : Bool → Type 0 = λ b. reply_at number (if b then (seq, reply) ∷ answers_in (plain_of setup) client past else answers_in (plain_of setup) client past) ≡ taken_under number (if b then reply ∷ replies_to setup client past else replies_to setup client past) in
    by_test P caller client (λ same.
    let its : seq ≡ length (replies_to setup client past) + 1 = history.0.1 ∙ ap (λ c. length (calls_of c past) + 1) same ∙ next-number setup client past in
    let R : Bool → Type 0 = λ b. (if b then Some reply else reply_at number (answers_in (plain_of setup) client past)) ≡ taken_under number (reply ∷ replies_to setup client past) in
    by_test R seq number
    (λ equal. sym (ap (λ (b : Bool). if b then Some reply else taken_under number (replies_to setup client past)) (is_equal number (length (replies_to setup client past) + 1) (sym equal ∙ its))))
    (λ apart. rest ∙ sym (ap (λ (b : Bool). if b then Some reply else taken_under number (replies_to setup client past)) (is_apart number (length (replies_to setup client past) + 1) (λ e. apart (its ∙ sym e))))))
    (λ different. rest)
  where
    is_equal : (one other : ℕ) → one ≡ other → (one == other) ≡ true
    is_equal one other same = by_test (λ b. b ≡ true) one other (λ e. refl) (λ different. absurd (different same))

    is_apart : (one other : ℕ) → (one ≡ other → ⊥) → (one == other) ≡ false
    is_apart one other different = by_test (λ b. b ≡ false) one other (λ same. absurd (different same)) (λ d. refl)
reply-under setup client number (Receipted caller key through time ∷ past) history = reply-under setup client number past history.1
