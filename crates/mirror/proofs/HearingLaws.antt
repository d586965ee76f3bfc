-- What the active server makes of a message, by what the calls of its service tell.
use Rattle.std.proofs.Common.{◌≡◌, ◌≢◌, ℕ, ◌+◌, ◌<◌, ◌≤◌, true, false, List, length, refl, ap, sym, subst, ◌∙◌, arith, Bor}
use Rattle.std.specs.Prelude.{ℤ, Some, None}
use Rattle.calls.specs.declared.call.Call.{Call}
use Rattle.calls.specs.declared.reply.Reply.{Reply}
use Rattle.calls.specs.declared.entry.Entry.{Entry}
use Rattle.calls.specs.declared.entry.Entry.TheVariants.{Called, Receipted}
use Rattle.calls.specs.declared.saved.Saved.{Saved}
use Rattle.wire.specs.declared.message.Message.TheVariants.{Reply as Answer}
use Rattle.client_window.specs.declared.judged.Judged.{Judged as Told}
use Rattle.client_window.specs.declared.judged.Judged.TheVariants as told
use Rattle.client_window.specs.Judgement.{taken_under, forgotten, IsJudged}
use Rattle.plain_service.specs.Setups.{Setup}
use Rattle.plain_service.specs.Legal.{IsHistory, CanAccept, CanFollow}
use Rattle.plain_service.specs.Replies.{replies_to}
use Rattle.plain_service.specs.Values.{StandsFor}
use Rattle.service_core.specs.Applying.{CanAcceptIn, next_in, is_new_in}
use Rattle.cluster_facts.specs.History.{Judged, Repeat, Old, Ahead, judged_call}
use Rattle.cluster_facts.specs.Service.{is_new}
use Rattle.service_laws.specs.PlainOf.{plain_of}
use Rattle.mirror.specs.declared.heard.Why.TheVariants.{Old as OldRequest, Ahead as AheadRequest, Done}
use Rattle.mirror.specs.declared.heard.Heard.{Heard}
use Rattle.mirror.specs.Replicas.{ReplicaState}
use Rattle.mirror.specs.Hearing.{IsRequestHeard, IsReceiptHeard, ignored, repeated}
use Rattle.mirror.specs.ByValue.{serving}
use Rattle.mirror.specs.Reacting.{IsAccepted, IsHeardAgain}
use Rattle.mirror.proofs.Judging.{call-new, call-ahead, call-old, call-repeat, next-number, reply-under}
use Rattle.mirror.proofs.ReplicaLaws.{count-is, next-of, new-of}
use Rattle.service_laws.proofs.ServiceLaws.{new-receipt}

-- Entries.

can-accept : (setup : Setup) (past : List Entry) (saved : Saved) (client : ℕ) (now : ℤ) → StandsFor setup past saved → CanAcceptIn saved client now → CanAccept client now past
can-accept setup past saved client now stands can =
    record {
      caller = can.caller;
      time = can.time;
      few = subst (λ count. count < 4000000000) (ap (λ (value : Saved). value.number) stands ∙ count-is setup past) can.few;
    }

next-is : (setup : Setup) (past : List Entry) (saved : Saved) (client : ℕ) → StandsFor setup past saved → next_in saved client ≡ length (replies_to setup client past) + 1
next-is setup past saved client stands = ap (λ value. next_in value client) stands ∙ next-of setup past client

-- Requests.

-- the client's next request is new
pub request-new : (setup : Setup) (past : List Entry) (client number : ℕ) (call : Call) (now : ℤ) (saved : Saved) (heard : Heard) (server : ReplicaState) → StandsFor setup past saved → CanAcceptIn saved client now → number ≡ next_in saved client → (CanFollow setup (Called client number now call) past → IsAccepted setup past (Called client number now call) heard server) → IsRequestHeard setup past client number call now (judged_call past client number) heard server
request-new setup past client number call now saved heard server stands can is accepted =
    let next : number ≡ length (replies_to setup client past) + 1 = is ∙ next-is setup past saved client stands in
    let follows : CanFollow setup (Called client number now call) past = (can-accept setup past saved client now stands can, next ∙ sym (next-number setup client past)) in
    subst (λ judgement. IsRequestHeard setup past client number call now judgement heard server) (sym (call-new setup client number past next)) (accepted follows)

judged-as : (setup : Setup) (past : List Entry) (client number : ℕ) (judgement : Judged) (heard : Heard) → judged_call past client number ≡ judgement → IsHeardAgain setup past client number judgement heard → IsHeardAgain setup past client number (judged_call past client number) heard
judged-as setup past client number judgement heard same is =
    subst (λ j. IsHeardAgain setup past client number j heard) (sym same) is

pub again-ahead : (setup : Setup) (past : List Entry) (client number : ℕ) (saved : Saved) (heard : Heard) → StandsFor setup past saved → next_in saved client < number → heard ≡ ignored AheadRequest → IsHeardAgain setup past client number (judged_call past client number) heard
again-ahead setup past client number saved heard stands above is =
    let next = next-is setup past saved client stands in
    judged-as setup past client number Ahead heard (call-ahead setup client number past (omega (arith, next, above))) is

pub again-repeat : (setup : Setup) (past : List Entry) (client number : ℕ) (reply : Reply) (heard : Heard) → IsHistory setup past → (forgotten (replies_to setup client past) < number) × (taken_under number (replies_to setup client past) ≡ Some reply) → heard ≡ repeated (Answer client number reply) → IsHeardAgain setup past client number (judged_call past client number) heard
again-repeat setup past client number reply heard history found is =
    judged-as setup past client number Repeat heard (call-repeat setup client number past reply found.0 found.1) (reply, reply-under setup client number past history ∙ found.1, is)

again-old : (setup : Setup) (past : List Entry) (client number : ℕ) (heard : Heard) → 0 < number → number ≤ forgotten (replies_to setup client past) → heard ≡ ignored OldRequest → IsHeardAgain setup past client number (judged_call past client number) heard
again-old setup past client number heard some below is =
    judged-as setup past client number Old heard (call-old setup client number past some below) is

-- a request that is not above the next one and not the next one is not new and not ahead
not-new : (setup : Setup) (past : List Entry) (client number : ℕ) (saved : Saved) → StandsFor setup past saved → number ≢ next_in saved client → number ≡ length (replies_to setup client past) + 1 → ⊥
not-new setup past client number saved stands other is = other (is ∙ sym (next-is setup past saved client stands))

not-ahead : (setup : Setup) (past : List Entry) (client number : ℕ) (saved : Saved) → StandsFor setup past saved → number ≤ next_in saved client → length (replies_to setup client past) + 1 < number → ⊥
not-ahead setup past client number saved stands within above =
    let next = next-is setup past saved client stands in omega (arith, next, within, above)

-- a request that is not above the next one, not the next one and not repeated is old
pub again-rest : (setup : Setup) (past : List Entry) (client number : ℕ) (saved : Saved) (heard : Heard) (judgement : Told Reply) → ((reply : Bor Reply) → judgement ≡ told.Repeat reply → ⊥) → IsJudged number (replies_to setup client past) judgement → StandsFor setup past saved → 0 < number → number ≢ next_in saved client → number ≤ next_in saved client → heard ≡ ignored OldRequest → IsHeardAgain setup past client number (judged_call past client number) heard
again-rest setup past client number saved heard told.New other judged stands some apart within is =
    absurd (not-new setup past client number saved stands apart judged)
again-rest setup past client number saved heard (told.Repeat reply) other judged stands some apart within is =
    absurd (other reply refl)
again-rest setup past client number saved heard told.Old other judged stands some apart within is =
    again-old setup past client number heard some judged is
again-rest setup past client number saved heard told.Ahead other judged stands some apart within is =
    absurd (not-ahead setup past client number saved stands within judged)

-- Receipts.

pub receipt-new : (setup : Setup) (past : List Entry) (client key through : ℕ) (now : ℤ) (saved : Saved) (heard : Heard) (server : ReplicaState) → StandsFor setup past saved → CanAcceptIn saved client now → is_new_in saved client key through ≡ true → (CanFollow setup (Receipted client key through now) past → IsAccepted setup past (Receipted client key through now) heard server) → IsReceiptHeard setup past client key through now (is_new (plain_of setup) past client key through) heard server
receipt-new setup past client key through now saved heard server stands can is accepted =
    let new : is_new (plain_of setup) past client key through ≡ true = sym (new-of setup past client key through) ∙ ap (λ value. is_new_in value client key through) (sym stands) ∙ is in
    let follows : CanFollow setup (Receipted client key through now) past = (can-accept setup past saved client now stands can, new-receipt setup past client key through new) in
    subst (λ b. IsReceiptHeard setup past client key through now b heard server) (sym new) (accepted follows)

pub receipt-done : (setup : Setup) (past : List Entry) (client key through : ℕ) (now : ℤ) (saved : Saved) (heard : Heard) → StandsFor setup past saved → is_new_in saved client key through ≡ false → heard ≡ ignored Done → IsReceiptHeard setup past client key through now (is_new (plain_of setup) past client key through) heard (serving saved None)
receipt-done setup past client key through now saved heard stands is same =
    let done : is_new (plain_of setup) past client key through ≡ false = sym (new-of setup past client key through) ∙ ap (λ value. is_new_in value client key through) (sym stands) ∙ is in
    subst (λ b. IsReceiptHeard setup past client key through now b heard (serving saved None)) (sym done) (same, ap (λ value. serving value None) stands)
