-- What posting makes of the net, and which messages stand in it.
use Rattle.std.proofs.Common.{◌≡◌, ℕ, suc, ◌⊎◌, inl, inr, Bool, true, ◌||◌, if◌then◌else◌, Some, List, [], ◌∷◌, length, refl, ap, sym, subst, ◌∙◌}
use Rattle.std.proofs.lemmas.Bool.{cases_Bool}
use Rattle.cluster_facts.specs.Types.{Call, Reply, Message, Request, Answer, Receipt}
use Rattle.cluster_facts.specs.Lists.{Stands}
use Rattle.cluster_facts.specs.Messages.{Posting, Spelled, Raw, sent_by, answers_to, receipts_of, messages_in}
use Rattle.cluster_facts.specs.Service.{Plain, IsPlain}
use Rattle.cluster_facts.specs.World.{knows, posted, posting_at}
use Rattle.cluster_facts.proofs.Words.{by_test}

-- what the net knows stands in it
pub knows-stands : (plain : Plain) → IsPlain plain → (message : Message) (net : List Posting) → knows plain message net ≡ true → Stands message (messages_in net)
knows-stands plain is_plain message [] known = cc
knows-stands plain is_plain message (Raw bytes front why ∷ net) known = knows-stands plain is_plain message net known
knows-stands plain is_plain message (Spelled first ∷ net) known =
    let P : Bool → Type 0 = λ b. (b || knows plain message net) ≡ true → Stands message (first ∷ messages_in net) in
    elim (cases_Bool (plain.same message first)) [
      | inl same ↦ inl (is_plain.same_is message first same)
      | inr other ↦ subst P (sym other) (λ deeper. inr (knows-stands plain is_plain message net deeper)) known
    ]

-- a message stands in the net already, and posting it changes nothing; or it is the newest afterwards
pub posted-cases : (plain : Plain) → IsPlain plain → (message : Message) (net : List Posting) → (Stands message (messages_in net) × (posted plain message net ≡ net)) ⊎ (posted plain message net ≡ Spelled message ∷ net)
posted-cases plain is_plain message net =
    let P : Bool → List Posting = λ b. if b then net else Spelled message ∷ net in
    elim (cases_Bool (knows plain message net)) [
      | inl known ↦ inl (knows-stands plain is_plain message net known, ap P known)
      | inr unknown ↦ inr (ap P unknown)
    ]

pub posted-new : (plain : Plain) → IsPlain plain → (message : Message) (net : List Posting) → (Stands message (messages_in net) → ⊥) → posted plain message net ≡ Spelled message ∷ net
posted-new plain is_plain message net absent =
    elim (posted-cases plain is_plain message net) [
      | inl known ↦ absurd (absent known.0)
      | inr new ↦ new
    ]

pub posted-stands : (plain : Plain) → IsPlain plain → (message : Message) (net : List Posting) → Stands message (messages_in (posted plain message net))
posted-stands plain is_plain message net =
    let P : List Posting → Type 0 = λ postings. Stands message (messages_in postings) in
    elim (posted-cases plain is_plain message net) [
      | inl known ↦ subst P (sym known.1) known.0
      | inr new ↦ subst P (sym new) (inl refl)
    ]

pub posted-keeps : (plain : Plain) → IsPlain plain → (message other : Message) (net : List Posting) → Stands other (messages_in net) → Stands other (messages_in (posted plain message net))
posted-keeps plain is_plain message other net stands =
    let P : List Posting → Type 0 = λ postings. Stands other (messages_in postings) in
    elim (posted-cases plain is_plain message net) [
      | inl known ↦ subst P (sym known.1) stands
      | inr new ↦ subst P (sym new) (inr stands)
    ]

-- a message of a number stands in the net
pub posting_at-stands : (number : ℕ) (net : List Posting) (message : Message) → posting_at number net ≡ Some (Spelled message) → Stands message (messages_in net)
posting_at-stands number [] message found = cc
posting_at-stands number (Raw bytes front why ∷ net) message found =
    let P : Bool → Type 0 = λ b. (if b then Some (Raw bytes front why) else posting_at number net) ≡ Some (Spelled message) → Stands message (messages_in net) in
    by_test P number (suc (length net)) (λ same here. cc) (λ different there. posting_at-stands number net message there) found
posting_at-stands number (Spelled first ∷ net) message found =
    let P : Bool → Type 0 = λ b. (if b then Some (Spelled first) else posting_at number net) ≡ Some (Spelled message) → Stands message (first ∷ messages_in net) in
    by_test P number (suc (length net)) (λ same here. let is : first ≡ message = cc in inl (sym is)) (λ different there. inr (posting_at-stands number net message there)) found

-- The client's requests, replies and receipts in the net. Each is a list of what the messages of one form carry.

-- a net's newest message is of the form and carries the list's first, or is of another form and adds nothing to the list
abbrev Gathers : {X : Type 0} → (X → Message) → Message → List X → List X → Type 0
Gathers {X} form first old new =
    ((carried : X) × (first ≡ form carried) × (new ≡ carried ∷ old)) ⊎ (((carried : X) → form carried ≡ first → ⊥) × (new ≡ old))

module _ {X : Type 0} (form : X → Message) (gathered : List Message → List X) (steps : (first : Message) (net : List Message) → Gathers form first (gathered net) (gathered (first ∷ net))) where
  gathered-stands : ((one other : X) → form one ≡ form other → one ≡ other) → (x : X) (net : List Message) → Stands (form x) net → Stands x (gathered net)
  gathered-stands same x [] stands = elim stands [ ]
  gathered-stands same x (first ∷ net) stands =
      let deeper : Stands (form x) net → Stands x (gathered net) = λ behind. gathered-stands same x net behind in
      let P : List X → Type 0 = λ found. Stands x found in
      elim (steps first net) [
        | inl own ↦ subst P (sym own.2) (elim stands [ inl here ↦ inl (same x own.0 (here ∙ own.1)) | inr behind ↦ inr (deeper behind) ])
        | inr others ↦ subst P (sym others.1) (elim stands [ inl here ↦ absurd (others.0 x here) | inr behind ↦ deeper behind ])
      ]

  gathered-posted : gathered [] ≡ [] → (x : X) (net : List Message) → Stands x (gathered net) → Stands (form x) net
  gathered-posted none x [] stands =
      let P : List X → Type 0 = λ found. Stands x found in
      let nowhere : Stands x [] = subst P none stands in
      elim nowhere [ ]
  gathered-posted none x (first ∷ net) stands =
      let P : List X → Type 0 = λ found. Stands x found in
      let deeper : Stands x (gathered net) → Stands (form x) net = λ behind. gathered-posted none x net behind in
      let owned : (carried : X) → first ≡ form carried → Stands x (carried ∷ gathered net) → Stands (form x) (first ∷ net) = λ carried is. elim [ inl here ↦ inl (ap form here ∙ sym is) | inr behind ↦ inr (deeper behind) ] in
      elim (steps first net) [
        | inl own ↦ owned own.0 own.1 (subst P own.2 stands)
        | inr others ↦ inr (deeper (subst P others.1 stands))
      ]

abbrev request : ℕ → ℕ × Call → Message
request client carried = Request client carried.0 carried.1

sent_by-gathers : (client : ℕ) (first : Message) (net : List Message) → Gathers (request client) first (sent_by client net) (sent_by client (first ∷ net))
sent_by-gathers client (Request sender other asked) net =
    let own = sent_by client net in
    let P : Bool → Type 0 = λ b. Gathers (request client) (Request sender other asked) own (if b then (other, asked) ∷ own else own) in
    by_test P sender client (λ same. inl ((other, asked), ap (λ one. Request one other asked) same, refl)) (λ different. inr ((λ carried is. let reads : client ≡ sender = cc in different (sym reads)), refl))
sent_by-gathers client _ net = inr ((λ carried is. cc), refl)

pub sent_by-stands : (client number : ℕ) (call : Call) (net : List Message) → Stands (Request client number call) net → Stands (number, call) (sent_by client net)
sent_by-stands client number call net stands = gathered-stands (request client) (sent_by client) (sent_by-gathers client) (λ one other is. let numbers : one.0 ≡ other.0 = cc in let rests : one.1 ≡ other.1 = cc in λ i. (numbers i, rests i)) (number, call) net stands

pub sent_by-posted : (client number : ℕ) (call : Call) (net : List Message) → Stands (number, call) (sent_by client net) → Stands (Request client number call) net
sent_by-posted client number call net stands = gathered-posted (request client) (sent_by client) (sent_by-gathers client) refl (number, call) net stands

abbrev answer : ℕ → ℕ × Reply → Message
answer client carried = Answer client carried.0 carried.1

answers_to-gathers : (client : ℕ) (first : Message) (net : List Message) → Gathers (answer client) first (answers_to client net) (answers_to client (first ∷ net))
answers_to-gathers client (Answer receiver other told) net =
    let own = answers_to client net in
    let P : Bool → Type 0 = λ b. Gathers (answer client) (Answer receiver other told) own (if b then (other, told) ∷ own else own) in
    by_test P receiver client (λ same. inl ((other, told), ap (λ one. Answer one other told) same, refl)) (λ different. inr ((λ carried is. let reads : client ≡ receiver = cc in different (sym reads)), refl))
answers_to-gathers client _ net = inr ((λ carried is. cc), refl)

pub answers_to-stands : (client number : ℕ) (reply : Reply) (net : List Message) → Stands (Answer client number reply) net → Stands (number, reply) (answers_to client net)
answers_to-stands client number reply net stands = gathered-stands (answer client) (answers_to client) (answers_to-gathers client) (λ one other is. let numbers : one.0 ≡ other.0 = cc in let rests : one.1 ≡ other.1 = cc in λ i. (numbers i, rests i)) (number, reply) net stands

pub answers_to-posted : (client number : ℕ) (reply : Reply) (net : List Message) → Stands (number, reply) (answers_to client net) → Stands (Answer client number reply) net
answers_to-posted client number reply net stands = gathered-posted (answer client) (answers_to client) (answers_to-gathers client) refl (number, reply) net stands

abbrev receipt : ℕ → ℕ × ℕ → Message
receipt client carried = Receipt client carried.0 carried.1

receipts_of-gathers : (client : ℕ) (first : Message) (net : List Message) → Gathers (receipt client) first (receipts_of client net) (receipts_of client (first ∷ net))
receipts_of-gathers client (Receipt sender other number) net =
    let own = receipts_of client net in
    let P : Bool → Type 0 = λ b. Gathers (receipt client) (Receipt sender other number) own (if b then (other, number) ∷ own else own) in
    by_test P sender client (λ same. inl ((other, number), ap (λ one. Receipt one other number) same, refl)) (λ different. inr ((λ carried is. let reads : client ≡ sender = cc in different (sym reads)), refl))
receipts_of-gathers client _ net = inr ((λ carried is. cc), refl)

pub receipts_of-stands : (client key through : ℕ) (net : List Message) → Stands (Receipt client key through) net → Stands (key, through) (receipts_of client net)
receipts_of-stands client key through net stands = gathered-stands (receipt client) (receipts_of client) (receipts_of-gathers client) (λ one other is. let numbers : one.0 ≡ other.0 = cc in let rests : one.1 ≡ other.1 = cc in λ i. (numbers i, rests i)) (key, through) net stands

pub receipts_of-posted : (client key through : ℕ) (net : List Message) → Stands (key, through) (receipts_of client net) → Stands (Receipt client key through) net
receipts_of-posted client key through net stands = gathered-posted (receipt client) (receipts_of client) (receipts_of-gathers client) refl (key, through) net stands
