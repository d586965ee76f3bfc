-- What the active server makes of a message by the value of its service, by what the calls of its service tell.
use Rattle.std.proofs.Common.{◌≡◌, ◌≢◌, ℕ, zero, suc, ◌+◌, ◌-◌, ◌<◌, ◌≤◌, Bool, true, false, if◌then◌else◌, cond, List, [], ◌∷◌, length, take, refl, ap, sym, subst, ◌∙◌, arith, Bor}
use Rattle.std.specs.Prelude.{ℤ, Option, Some, None, find, reverse, slice_get, ◌==◌}
use Rattle.std.specs.Option.{option_map_or}
use Rattle.std.specs.List.{AllByRecursion}
use Rattle.std.proofs.lemmas.List.{length-reverse}
use Rattle.calls.specs.declared.call.Call.{Call}
use Rattle.calls.specs.declared.reply.Reply.{Reply}
use Rattle.calls.specs.declared.entry.Entry.{Entry}
use Rattle.calls.specs.declared.entry.Entry.TheVariants.{Called, Receipted}
use Rattle.calls.specs.declared.saved.Saved.{Saved}
use Rattle.calls.specs.declared.saved.SavedWindow.{SavedWindow}
use Rattle.wire.specs.declared.message.Message.{Message}
use Rattle.wire.specs.declared.message.Message.TheVariants.{Request, Reply as Answer, Item, Receipt, Mirror, MirrorAck, Snapshot, JoinAck}
use Rattle.client_window.specs.declared.judged.Judged.{Judged as Told}
use Rattle.client_window.specs.declared.judged.Judged.TheVariants as told
use Rattle.client_window.specs.Judgement.{taken_under, forgotten, IsJudged}
use Rattle.client_window.specs.Windows.{Kept, window_of, window_of_parts, HasRepliesBefore}
use Rattle.client_window.proofs.Keeping.{window_of-some}
use Rattle.plain_service.specs.Fitness.{IsFit, IsFitWindow}
use Rattle.service_core.specs.Applying.{next_in, is_new_in}
use Rattle.service_core.specs.Valuing.{window_in}
use Rattle.cluster_facts.specs.History.{Judged, New, Repeat, Old, Ahead, judged}
use Rattle.cluster_facts.proofs.Words.{by_test}
use Rattle.mirror.specs.declared.heard.Why.TheVariants.{Old as OldRequest, Ahead as AheadRequest, Done}
use Rattle.mirror.specs.declared.heard.Heard.{Heard}
use Rattle.mirror.specs.Replicas.{ReplicaState}
use Rattle.mirror.specs.Hearing.{ignored, repeated}
use Rattle.mirror.specs.ByValue.{serving, IsAcceptedAt, judged_in, reply_kept, reply_by, reply_again, IsRequestByValue, IsReceiptByValue, IsHeardByValue}
use Rattle.mirror.specs.Pairing.{mirrors, mirrored, newest, IsMirroredByValue}
use Rattle.mirror.specs.Preparing.{entry_by, held_back, number_next}
use Rattle.mirror.specs.Reacting.{IsAgainByValue}
use Rattle.mirror.proofs.Judging.{judged-new, judged-ahead, judged-old, judged-repeat, taken-within}

-- Each window of a fit value is that of some replies.

abbrev HasReplies : Option SavedWindow → Type 0
HasReplies found =
    (replies : List Reply)
    × (option_map_or (λ (window : SavedWindow). window_of_parts window.next window.replies) found (window_of []) ≡ window_of replies)

window-replies : (number : ℕ) (window : SavedWindow) → IsFitWindow number window → HasReplies (Some window)
window-replies number window fit =
    window_of-some window.next (reverse window.replies) (subst (HasRepliesBefore window.next) (sym (length-reverse window.replies)) fit.replies)

client-replies : (number client : ℕ) (windows : List SavedWindow) → AllByRecursion (IsFitWindow number) windows → HasReplies (find (λ (window : SavedWindow). window.client == client) windows)
client-replies number client [] fit = ([], refl)
client-replies number client (window ∷ windows) fit =
    elim (window.client == client) as (λ b. HasReplies (cond b (Some window) (find (λ (it : SavedWindow). it.client == client) windows))) [
      | true ↦ window-replies number window fit.0
      | false ↦ client-replies number client windows fit.1
    ]

fit-window : (saved : Saved) (client : ℕ) → IsFit saved → (replies : List Reply) × (window_in saved client ≡ window_of replies)
fit-window saved client fit = client-replies saved.number client saved.windows fit.windows.each

-- The number of a client's next call and the replies that are kept, by these replies.

next-found : (found : Option SavedWindow) → option_map_or (λ (window : SavedWindow). window.next) found 1 ≡ (option_map_or (λ (window : SavedWindow). window_of_parts window.next window.replies) found (window_of [])).next
next-found None = refl
next-found (Some window) = refl

next-is : (saved : Saved) (client : ℕ) (replies : List Reply) → window_in saved client ≡ window_of replies → next_in saved client ≡ length replies + 1
next-is saved client replies is =
    next-found (find (λ (window : SavedWindow). window.client == client) saved.windows) ∙ ap (λ (window : Kept Reply). window.next) is

-- a reply stands as far from the front as calls were answered after it, and there among the last ones that are kept
kept-at : (kept number : ℕ) (all : List Reply) (reply : Reply) → length all - kept < number → taken_under number all ≡ Some reply → slice_get (take kept all) (length all - number) ≡ Some reply
kept-at kept number [] reply above is = absurd (let e : None ≡ Some reply = is in cc)
kept-at zero number (first ∷ before) reply above is =
    let within = taken-within number (first ∷ before) reply is in absurd (omega (arith, within, above))
kept-at (suc kept) number (first ∷ before) reply above is =
    let P : Bool → Type 0 = λ b. (if b then Some first else taken_under number before) ≡ Some reply → slice_get (first ∷ take kept before) (suc (length before) - number) ≡ Some reply in
    by_test P number (length before + 1)
    (λ same found.
    let place : suc (length before) - number ≡ 0 = omega arith in
    ap (slice_get (first ∷ take kept before)) place ∙ found)
    (λ apart found.
    let within = taken-within number before reply found in
    let place : suc (length before) - number ≡ suc (length before - number) = omega arith in
    ap (slice_get (first ∷ take kept before)) place ∙ kept-at kept number before reply (omega (arith, above)) found)
    is

kept-reply : (saved : Saved) (client number : ℕ) (replies : List Reply) (reply : Reply) → window_in saved client ≡ window_of replies → forgotten replies < number → taken_under number replies ≡ Some reply → reply_kept saved client number ≡ Some reply
kept-reply saved client number replies reply is above taken =
    let next = next-is saved client replies is in
    let place : next_in saved client - suc number ≡ length replies - number = omega (arith, next) in
    ap (λ (window : Kept Reply). slice_get window.replies (next_in saved client - suc number)) is
    ∙ ap (slice_get (take 32 replies)) place
    ∙ kept-at 32 number replies reply above taken

-- Requests.

-- what the window of these replies tells of a call is so of the value
judged-as : (saved : Saved) (client number : ℕ) (replies : List Reply) (judgement : Judged) (heard : Heard) → window_in saved client ≡ window_of replies → judged number (length replies) ≡ judgement → IsAgainByValue saved client number judgement heard → IsAgainByValue saved client number (judged_in saved client number) heard
judged-as saved client number replies judgement heard is same again =
    let next = next-is saved client replies is in
    let count : next_in saved client - 1 ≡ length replies = omega (arith, next) in
    subst (λ j. IsAgainByValue saved client number j heard) (sym (ap (judged number) count ∙ same)) again

pub again-ahead : (service saved : Saved) (client number : ℕ) (heard : Heard) → IsFit saved → service ≡ saved → next_in service client < number → heard ≡ ignored AheadRequest → IsAgainByValue saved client number (judged_in saved client number) heard
again-ahead service saved client number heard fit same above is =
    let window = fit-window saved client fit in
    let next = ap (λ value. next_in value client) same ∙ next-is saved client window.0 window.1 in
    judged-as saved client number window.0 Ahead heard window.1 (judged-ahead number (length window.0) (omega (arith, next, above))) is

-- what the service tells of a call, by the replies of the value's window
abbrev TellsOf : Saved → ℕ → (List Reply → Type 0) → Type 0
TellsOf service client P = (replies : List Reply) → window_in service client ≡ window_of replies → P replies

pub again-repeat : (service saved : Saved) (client number : ℕ) (reply : Reply) (heard : Heard) → IsFit saved → service ≡ saved → TellsOf service client (λ replies. (forgotten replies < number) × (taken_under number replies ≡ Some reply)) → heard ≡ repeated (Answer client number reply) → IsAgainByValue saved client number (judged_in saved client number) heard
again-repeat service saved client number reply heard fit same tells is =
    let window = fit-window saved client fit in
    let found = tells window.0 (ap (λ value. window_in value client) same ∙ window.1) in
    judged-as saved client number window.0 Repeat heard window.1 (judged-repeat number (length window.0) found.0 (taken-within number window.0 reply found.1)) (reply, kept-reply saved client number window.0 reply window.1 found.0 found.1, is)

-- the reply that a value gives again is the one that its service tells
pub told-again : (service saved : Saved) (client number : ℕ) (reply : Reply) → IsFit saved → service ≡ saved → TellsOf service client (λ replies. (forgotten replies < number) × (taken_under number replies ≡ Some reply)) → Some reply ≡ reply_again saved client number
told-again service saved client number reply fit same tells =
    let window = fit-window saved client fit in
    let found = tells window.0 (ap (λ value. window_in value client) same ∙ window.1) in
    let next = next-is saved client window.0 window.1 in
    let count : next_in saved client - 1 ≡ length window.0 = omega (arith, next) in
    let repeat = ap (judged number) count ∙ judged-repeat number (length window.0) found.0 (taken-within number window.0 reply found.1) in
    sym (ap (λ j. reply_by j (reply_kept saved client number)) repeat ∙ kept-reply saved client number window.0 reply window.1 found.0 found.1)

none-by : (number count : ℕ) (judgement : Judged) (kept : Option Reply) → (judgement ≡ Repeat → ⊥) → judged number count ≡ judgement → None ≡ reply_by (judged number count) kept
none-by number count judgement kept other is =
    sym (ap (λ j. reply_by j kept) is ∙ none judgement other)
  where
    none : (j : Judged) → (j ≡ Repeat → ⊥) → reply_by j kept ≡ None
    none New apart = refl
    none Repeat apart = absurd (apart refl)
    none Old apart = refl
    none Ahead apart = refl

untold-by : (number : ℕ) (replies : List Reply) (judgement : Told Reply) (kept : Option Reply) → ((reply : Bor Reply) → judgement ≡ told.Repeat reply → ⊥) → IsJudged number replies judgement → 0 < number → None ≡ reply_by (judged number (length replies)) kept
untold-by number replies told.New kept other judged some =
    none-by number (length replies) New kept (λ e. cc) (judged-new number (length replies) judged)
untold-by number replies (told.Repeat reply) kept other judged some = absurd (other reply refl)
untold-by number replies told.Old kept other judged some =
    none-by number (length replies) Old kept (λ e. cc) (judged-old number (length replies) some judged)
untold-by number replies told.Ahead kept other judged some =
    none-by number (length replies) Ahead kept (λ e. cc) (judged-ahead number (length replies) judged)

-- and it gives none where its service tells none
pub untold-again : (service saved : Saved) (client number : ℕ) (judgement : Told Reply) → IsFit saved → service ≡ saved → ((reply : Bor Reply) → judgement ≡ told.Repeat reply → ⊥) → TellsOf service client (λ replies. IsJudged number replies judgement) → 0 < number → None ≡ reply_again saved client number
untold-again service saved client number judgement fit same other tells some =
    let window = fit-window saved client fit in
    let judged_so = tells window.0 (ap (λ value. window_in value client) same ∙ window.1) in
    let next = next-is saved client window.0 window.1 in
    let count : length window.0 ≡ next_in saved client - 1 = omega (arith, next) in
    untold-by number window.0 judgement (reply_kept saved client number) other judged_so some
    ∙ ap (λ n. reply_by (judged number n) (reply_kept saved client number)) count

-- a request that is not above the next one, not the next one and not repeated is old
rest-by : (saved : Saved) (client number : ℕ) (replies : List Reply) (heard : Heard) (judgement : Told Reply) → window_in saved client ≡ window_of replies → ((reply : Bor Reply) → judgement ≡ told.Repeat reply → ⊥) → IsJudged number replies judgement → 0 < number → number ≢ next_in saved client → number ≤ next_in saved client → heard ≡ ignored OldRequest → IsAgainByValue saved client number (judged_in saved client number) heard
rest-by saved client number replies heard told.New window other judged some apart within is =
    absurd (apart (judged ∙ sym (next-is saved client replies window)))
rest-by saved client number replies heard (told.Repeat reply) window other judged some apart within is =
    absurd (other reply refl)
rest-by saved client number replies heard told.Old window other judged some apart within is =
    judged-as saved client number replies Old heard window (judged-old number (length replies) some judged) is
rest-by saved client number replies heard told.Ahead window other judged some apart within is =
    let next = next-is saved client replies window in absurd (omega (arith, next, judged, within))

pub again-rest : (service saved : Saved) (client number : ℕ) (heard : Heard) (judgement : Told Reply) → IsFit saved → service ≡ saved → ((reply : Bor Reply) → judgement ≡ told.Repeat reply → ⊥) → TellsOf service client (λ replies. IsJudged number replies judgement) → 0 < number → number ≢ next_in service client → number ≤ next_in service client → heard ≡ ignored OldRequest → IsAgainByValue saved client number (judged_in saved client number) heard
again-rest service saved client number heard judgement fit same other tells some apart within is =
    let window = fit-window saved client fit in
    let judged = tells window.0 (ap (λ value. window_in value client) same ∙ window.1) in
    let next = ap (λ value. next_in value client) same in
    rest-by saved client number window.0 heard judgement window.1 other judged some (λ e. apart (e ∙ sym next)) (subst (λ n. number ≤ n) next within) is

again-by : (saved : Saved) (client number : ℕ) (call : Call) (now : ℤ) (judgement : Judged) (heard : Heard) → IsAgainByValue saved client number judgement heard → IsRequestByValue saved client number call now judgement heard (serving saved None)
again-by saved client number call now New heard is = absurd is
again-by saved client number call now Repeat heard is = (is.0, is.1, is.2, refl)
again-by saved client number call now Old heard is = (is, refl)
again-by saved client number call now Ahead heard is = (is, refl)

-- one that is not the next leaves the value
pub request-again : (service saved : Saved) (client number : ℕ) (call : Call) (now : ℤ) (heard : Heard) → service ≡ saved → IsAgainByValue saved client number (judged_in saved client number) heard → IsRequestByValue saved client number call now (judged_in saved client number) heard (serving service None)
request-again service saved client number call now heard same is =
    subst (λ value. IsRequestByValue saved client number call now (judged_in saved client number) heard (serving value None)) (sym same) (again-by saved client number call now (judged_in saved client number) heard is)

-- the next one is accepted
-- the number of a client's next call is one above some other
pub next-in-is : (saved : Saved) (client : ℕ) → IsFit saved → next_in saved client ≡ suc (next_in saved client - 1)
next-in-is saved client fit =
    let window = fit-window saved client fit in
    omega (arith, next-is saved client window.0 window.1)

pub request-new : (service saved : Saved) (client number : ℕ) (call : Call) (now : ℤ) (heard : Heard) (server : ReplicaState) → IsFit saved → service ≡ saved → number ≡ next_in service client → IsAcceptedAt saved (Called client number now call) heard server → IsRequestByValue saved client number call now (judged_in saved client number) heard server
request-new service saved client number call now heard server fit same is accepted =
    let window = fit-window saved client fit in
    let next = next-is saved client window.0 window.1 in
    let before : next_in saved client ≡ (next_in saved client - 1) + 1 = omega (arith, next) in
    let last : number ≡ (next_in saved client - 1) + 1 = is ∙ ap (λ value. next_in value client) same ∙ before in
    subst (λ judgement. IsRequestByValue saved client number call now judgement heard server) (sym (judged-new number (next_in saved client - 1) last)) accepted

-- Receipts.

pub receipt-new : (service saved : Saved) (client key through : ℕ) (now : ℤ) (heard : Heard) (server : ReplicaState) → service ≡ saved → is_new_in service client key through ≡ true → IsAcceptedAt saved (Receipted client key through now) heard server → IsReceiptByValue saved client key through now (is_new_in saved client key through) heard server
receipt-new service saved client key through now heard server same is accepted =
    subst (λ new. IsReceiptByValue saved client key through now new heard server) (sym (ap (λ value. is_new_in value client key through) (sym same) ∙ is)) accepted

pub receipt-done : (service saved : Saved) (client key through : ℕ) (now : ℤ) (heard : Heard) → service ≡ saved → is_new_in service client key through ≡ false → heard ≡ ignored Done → IsReceiptByValue saved client key through now (is_new_in saved client key through) heard (serving service None)
receipt-done service saved client key through now heard same is heard_is =
    subst (λ new. IsReceiptByValue saved client key through now new heard (serving service None)) (sym (ap (λ value. is_new_in value client key through) (sym same) ∙ is))
    (heard_is, ap (λ value. serving value None) same)

-- An entry that goes to the partner.

abbrev IsHeldBack : ℕ → Message → ℤ → Heard → Type 0
IsHeldBack number message now heard = held_back heard.committed (mirrors number (entry_by message now)) heard ≡ mirrored number heard

request-held : (saved : Saved) (client seq : ℕ) (call : Call) (now : ℤ) (verdict : Judged) (heard : Heard) (server : ReplicaState) (number : ℕ) → IsRequestByValue saved client seq call now verdict heard server → IsHeldBack number (Request client seq call) now heard
request-held saved client seq call now New heard server number is =
    subst (IsHeldBack number (Request client seq call) now) (sym is.0) refl
request-held saved client seq call now Repeat heard server number is =
    subst (IsHeldBack number (Request client seq call) now) (sym is.2) refl
request-held saved client seq call now Old heard server number is =
    subst (IsHeldBack number (Request client seq call) now) (sym is.0) refl
request-held saved client seq call now Ahead heard server number is =
    subst (IsHeldBack number (Request client seq call) now) (sym is.0) refl

receipt-held : (saved : Saved) (client key through : ℕ) (now : ℤ) (new : Bool) (heard : Heard) (server : ReplicaState) (number : ℕ) → IsReceiptByValue saved client key through now new heard server → IsHeldBack number (Receipt client key through) now heard
receipt-held saved client key through now true heard server number is =
    subst (IsHeldBack number (Receipt client key through) now) (sym is.0) refl
receipt-held saved client key through now false heard server number is =
    subst (IsHeldBack number (Receipt client key through) now) (sym is.0) refl

held-is : (saved : Saved) (now : ℤ) (message : Message) (heard : Heard) (server : ReplicaState) (number : ℕ) → IsHeardByValue saved now message heard server → IsHeldBack number message now heard
held-is saved now (Request client seq call) heard server number is =
    request-held saved client seq call now (judged_in saved client seq) heard server number is
held-is saved now (Receipt client key through) heard server number is =
    receipt-held saved client key through now (is_new_in saved client key through) heard server number is
held-is saved now (Answer client seq reply) heard server number is =
    subst (IsHeldBack number (Answer client seq reply) now) (sym is.0) refl
held-is saved now (Item client key item) heard server number is =
    subst (IsHeldBack number (Item client key item) now) (sym is.0) refl
held-is saved now (Mirror place entry) heard server number is =
    subst (IsHeldBack number (Mirror place entry) now) (sym is.0) refl
held-is saved now (MirrorAck place) heard server number is =
    subst (IsHeldBack number (MirrorAck place) now) (sym is.0) refl
held-is saved now (Snapshot value) heard server number is =
    subst (IsHeldBack number (Snapshot value) now) (sym is.0) refl
held-is saved now (JoinAck place) heard server number is =
    subst (IsHeldBack number (JoinAck place) now) (sym is.0) refl

-- the entry that was made ready is the one that was accepted, under its number
pub mirrored-by_value : (saved : Saved) (now : ℤ) (message : Message) (node server : ReplicaState) (number : ℕ) (mirror : List Message) (heard later : Heard) (before waits : Option Entry) → node ≡ serving saved None → number ≡ number_next node.service → mirror ≡ mirrors number (entry_by message now) → IsHeardByValue saved now message heard server → later ≡ held_back heard.committed mirror heard → waits ≡ newest heard.committed before → IsMirroredByValue saved now message before later server waits
mirrored-by_value saved now message node server number mirror heard later before waits same counted made is later-is waits-is =
    let counts : number ≡ suc saved.number = counted ∙ ap (λ (it : ReplicaState). number_next it.service) same in
    let ready : mirror ≡ mirrors (suc saved.number) (entry_by message now) = made ∙ ap (λ n. mirrors n (entry_by message now)) counts in (
      heard,
      is,
      later-is ∙ ap (λ messages. held_back heard.committed messages heard) ready ∙ held-is saved now message heard server (suc saved.number) is,
      waits-is,
    )
