-- The items that are held are in range.
use Rattle.std.proofs.Common.{ℕ, suc, ◌≤◌, inl, inr, Bool, true, false, ◌==◌, if◌then◌else◌, List, [], ◌∷◌, length, arith}
use Rattle.std.specs.List.{AllByRecursion}
use Rattle.std.proofs.lemmas.Option.{slice_get_within}
use Rattle.wire.specs.MessageSpelling.{MessageInRange}
use Rattle.ntf_history.proofs.GrowthLaws.{length-made}
use Rattle.plain_service.specs.Setups.{Setup}
use Rattle.plain_service.specs.Legal.{IsHistory}
use Rattle.plain_service.specs.Changing.{past_of}
use Rattle.plain_service.specs.Items.{made_for}
use Rattle.plain_service.proofs.Possible.{possible}
use Rattle.service_laws.specs.PlainOf.{plain_of}
use Rattle.service_laws.proofs.ServiceLaws.{is_plain}
use Rattle.cluster_facts.specs.Types.{Call, Entry, Called, Receipted, Message, Delivery}
use Rattle.cluster_facts.specs.Lists.{Stands, IsNumbered}
use Rattle.cluster_facts.specs.Messages.{calls_in}
use Rattle.cluster_facts.specs.Service.{asked_for, subscribes, IsHeldItem}
use Rattle.cluster_facts.specs.Ranges.{AreInRange}
use Rattle.cluster_facts.proofs.Words.{by_test, All-map, Stands-append}
use Rattle.cluster_facts.proofs.Clients.{subscribed-asked, asked_for-number, subscribes-number}

-- keys begin at 1
asked-from : (key id : ℕ) (calls : List (ℕ × Call)) → IsNumbered calls → Stands (key, id) (asked_for calls) → 1 ≤ key
asked-from key id [] numbered stands = elim stands [ ]
asked-from key id (call ∷ calls) numbered stands = elim (Stands-append (key, id) (subscribes call.0 call.1) (asked_for calls) stands) [
  | inl own ↦
      let is = subscribes-number key id call.0 call.1 own in
      let number = numbered.0 in
      omega arith
  | inr deeper ↦ asked-from key id calls numbered.1 deeper
]

asked-some : (key id : ℕ) (calls : List (ℕ × Call)) → Stands (key, id) (asked_for calls) → 1 ≤ length calls
asked-some key id [] stands = elim stands [ ]
asked-some key id (call ∷ calls) stands = omega arith

-- a client that called is in range
caller-range : (client : ℕ) (past : List Entry) → AreInRange past → 1 ≤ length (calls_in client past) → (1 ≤ client) × (client ≤ 4096)
caller-range client [] range some = absurd (omega arith)
caller-range client (Called caller number time call ∷ past) range some =
    let P : Bool → Type 0 = λ b. 1 ≤ length (if b then (number, call) ∷ calls_in client past else calls_in client past) → (1 ≤ client) × (client ≤ 4096) in
    let from = range.0.from in
    let to = range.0.to in
    by_test P caller client (λ same here. (omega arith, omega arith)) (λ different there. caller-range client past range.1 there) some
caller-range client (Receipted caller key through time ∷ past) range some = caller-range client past range.1 some

pub calls-few : (client : ℕ) (past : List Entry) → length (calls_in client past) ≤ length past
calls-few client [] = omega arith
calls-few client (Called caller number time call ∷ past) =
    let deeper = calls-few client past in
    elim (caller == client) as (λ b. length (if b then (number, call) ∷ calls_in client past else calls_in client past) ≤ suc (length past)) [
      | true ↦ omega arith
      | false ↦ omega arith
    ]
calls-few client (Receipted caller key through time ∷ past) = let deeper = calls-few client past in omega arith

range-few : (past : List Entry) → AreInRange past → length past ≤ 4000000000
range-few [] range = omega arith
range-few (entry ∷ past) range = let few = range.0.few in omega arith

made-few : (setup : Setup) (past : List Entry) (client key : ℕ) → IsHistory setup past → length (made_for setup past client key) ≤ length past
unfolding made_for
made-few setup past client key history =
    let made = length-made setup.capacity (past_of setup past).ntf client key in
    let few = (possible setup past history).ntf_count in
    omega arith

held-one : (setup : Setup) (past : List Entry) → IsHistory setup past → AreInRange past → ((client : ℕ) → IsNumbered (calls_in client past)) → (message : Message) → IsHeldItem (plain_of setup) past message → MessageInRange message
held-one setup past history range numbered (Delivery client key item) held =
    let lasting = (is_plain setup).lasting past client key (numbered client) held.0 in
    let asked = subscribed-asked key lasting.0 (calls_in client past) lasting.1 in
    let own = caller-range client past range (asked-some key lasting.0 (calls_in client past) asked) in
    let low = own.0 in
    let high = own.1 in
    let from = asked-from key lasting.0 (calls_in client past) (numbered client) asked in
    let to = asked_for-number key lasting.0 (calls_in client past) (numbered client) asked in
    let calls = calls-few client past in
    let few = range-few past range in
    let made = held.2 in
    let number = made.1 in
    let within = slice_get_within (made_for setup past client key) made.0 item.content made.2 in
    let items = made-few setup past client key history in
    (record { least = low; most = high }, record { least = from; most = omega arith }, record { number = record { least = omega arith; most = omega arith } })
held-one setup past history range numbered message held = elim held [ ]

-- **what is pushed can be posted**
pub held-range : (setup : Setup) (past : List Entry) → IsHistory setup past → AreInRange past → ((client : ℕ) → IsNumbered (calls_in client past)) → AllByRecursion MessageInRange ((plain_of setup).held past)
held-range setup past history range numbered =
    All-map (IsHeldItem (plain_of setup) past) MessageInRange ((plain_of setup).held past) (held-one setup past history range numbered) ((is_plain setup).held_of past)
