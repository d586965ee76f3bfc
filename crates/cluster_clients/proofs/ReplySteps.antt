-- The reply to a call is found in the net by how its spelling begins.
use Rattle.std.proofs.Common.{◌≡◌, ℕ, zero, suc, ◌-◌, ◌<◌, ◌≤◌, Bool, true, false, ◌==◌, if◌then◌else◌, Option, Some, None, List, [], ◌∷◌, ◌++◌, length, take, nat_eq, inl, inr, refl, ap, sym, ◌∙◌, subst, arith, append_assoc, length-append}
use Rattle.std.specs.List.{starts_with}
use Rattle.std.specs.Str.{bytes_eq}
use Rattle.std.specs.Cmp.Lexicographic.{bytes_decides}
use Rattle.std.proofs.Math.Seq.{take-append_seam}
use Rattle.std.proofs.lemmas.Bool.{cases_Bool, false_from_ne_true}
use Rattle.wire_code.specs.Spelling.{number_text, IsNumber, IsClient, IsCount}
use Rattle.wire_code.specs.Reading.{number_at}
use Rattle.wire_code.proofs.Codes.{ok_is}
use Rattle.wire_code.proofs.NumberCodes.{number_code, length-number_text}
use Rattle.wire.specs.CallSpelling.{reply_text}
use Rattle.wire.specs.MessageSpelling.{message_text}
use Rattle.wire.specs.Messages.{Spells}
use Rattle.wire.specs.MessageReading.{message_at}
use Rattle.wire.proofs.MessageCodes.{message_code}
use Rattle.message_net.specs.Nets.{bytes_at}
use Rattle.cluster_facts.specs.Types.{Reply, Message, Request, Answer, Delivery, Receipt}
use Rattle.wire.specs.declared.message.Message.TheVariants.{Mirror, MirrorAck, Snapshot, JoinAck}
use Rattle.cluster_facts.specs.Messages.{Spelled, Raw, answers_to, messages_in}
use Rattle.cluster_facts.proofs.Words.{by_test}
use Rattle.cluster_events.specs.Events.{reply_at}
use Rattle.cluster_clients.specs.Replies.{reply_front, IsReplyIn, FindsFirst, IsReplyFound, FindsReply}
use Rattle.cluster_clients.specs.Replies.FindsFirst.{Nothing, Here, Passed}

-- The search goes from the newest place down: so many of the oldest strings are left.

abbrev pub oldest : ℕ → List (List ℕ) → List (List ℕ)
oldest count [] = []
oldest count (bytes ∷ net) = if count == suc (length net) then bytes ∷ net else oldest count net

pub oldest-all : (net : List (List ℕ)) → oldest (length net) net ≡ net
oldest-all [] = refl
oldest-all (bytes ∷ net) =
    let P : Bool → Type 0 = λ b. (if b then bytes ∷ net else oldest (suc (length net)) net) ≡ bytes ∷ net in
    by_test P (suc (length net)) (suc (length net)) (λ same. refl) (λ different. absurd (different refl))

bytes_at-bound : (place : ℕ) (net : List (List ℕ)) (bytes : List ℕ) → bytes_at place net ≡ Some bytes → place ≤ length net
bytes_at-bound place [] bytes found = cc
bytes_at-bound place (known ∷ net) bytes found =
    let P : Bool → Type 0 = λ b. (if b then Some known else bytes_at place net) ≡ Some bytes → place ≤ suc (length net) in
    by_test P place (suc (length net)) (λ same here. omega arith) (λ different there. let deeper = bytes_at-bound place net bytes there in omega arith) found

pub bytes_at-within : (place : ℕ) (net : List (List ℕ)) → suc place ≤ length net → (bytes : List ℕ) × (bytes_at (suc place) net ≡ Some bytes)
bytes_at-within place [] within = absurd (omega arith)
bytes_at-within place (known ∷ net) within =
    let P : Bool → Type 0 = λ b. (bytes : List ℕ) × ((if b then Some known else bytes_at (suc place) net) ≡ Some bytes) in
    by_test P (suc place) (suc (length net)) (λ same. (known, refl)) (λ different. bytes_at-within place net (omega arith))

pub older : (place : ℕ) (bytes : List ℕ) (net : List (List ℕ)) → place ≤ length net → oldest place (bytes ∷ net) ≡ oldest place net
older place bytes net within =
    let P : Bool → Type 0 = λ b. (if b then bytes ∷ net else oldest place net) ≡ oldest place net in
    by_test P place (suc (length net)) (λ same. absurd (omega arith)) (λ different. refl)

pub oldest-next : (place : ℕ) (net : List (List ℕ)) (bytes : List ℕ) → bytes_at (suc place) net ≡ Some bytes → oldest (suc place) net ≡ bytes ∷ oldest place net
oldest-next place [] bytes found = cc
oldest-next place (known ∷ net) bytes found =
    let P : Bool → Type 0 = λ b. (if b then Some known else bytes_at (suc place) net) ≡ Some bytes → (if b then known ∷ net else oldest (suc place) net) ≡ bytes ∷ oldest place (known ∷ net) in
    by_test P (suc place) (suc (length net))
    (λ same here.
    let is : known ≡ bytes = cc in
    let all : place ≡ length net = omega arith in
    let rest : oldest place (known ∷ net) ≡ net = older place known net (omega arith) ∙ ap (λ n. oldest n net) all ∙ oldest-all net in
    ap (λ b. b ∷ net) is ∙ ap (λ n. bytes ∷ n) (sym rest))
    (λ different there.
    let bound = bytes_at-bound (suc place) net bytes there in
    oldest-next place net bytes there ∙ ap (λ n. bytes ∷ n) (sym (older place known net (omega arith))))
    found

-- The search goes on below a string that is none.

abbrev pub FindsBelow : List ℕ → ℕ → List (List ℕ) → Type 0
FindsBelow front place net = (found : Option Message) → FindsFirst front (oldest place net) found → FindsFirst front net found

pub finds-passed : (front : List ℕ) (place : ℕ) (net : List (List ℕ)) (bytes : List ℕ) → 0 < place → bytes_at place net ≡ Some bytes → IsReplyIn front bytes None → FindsBelow front place net → FindsBelow front (place - 1) net
finds-passed front zero net bytes some there none so_far found finds = absurd (omega arith)
finds-passed front (suc place) net bytes some there none so_far found finds =
    let less : suc place - 1 ≡ place = omega arith in
    let below : FindsFirst front (oldest place net) found = subst (λ p. FindsFirst front (oldest p net) found) less finds in
    so_far found (subst (λ n. FindsFirst front n found) (sym (oldest-next place net bytes there)) (Passed bytes none below))

pub finds-here : (front : List ℕ) (place : ℕ) (net : List (List ℕ)) (bytes : List ℕ) (message : Message) → 0 < place → bytes_at place net ≡ Some bytes → IsReplyIn front bytes (Some message) → FindsBelow front place net → FindsFirst front net (Some message)
finds-here front zero net bytes message some there is so_far = absurd (omega arith)
finds-here front (suc place) net bytes message some there is so_far =
    so_far (Some message) (subst (λ n. FindsFirst front n (Some message)) (sym (oldest-next place net bytes there)) (Here bytes message is))

pub first-there : (place : ℕ) (net : List (List ℕ)) → 0 < place → place ≤ length net → bytes_at place net ≡ None → ⊥
first-there zero net some within none = absurd (omega arith)
first-there (suc place) net some within none = let there = bytes_at-within place net within in let is = there.1 in cc

-- Fronts of replies.

number-same : (width one other : ℕ) (first second : List ℕ) → IsNumber width one → IsNumber width other → number_text width one ++ first ≡ number_text width other ++ second → (one ≡ other) × (first ≡ second)
number-same width one other first second fits also same =
    let read = sym ((number_code width).back one first fits) ∙ ap (number_at width) same ∙ (number_code width).back other second also in
    let pairs : (one, first) ≡ (other, second) = ok_is (one, first) (other, second) read in
    (ap (λ (p : ℕ × List ℕ). p.0) pairs, ap (λ (p : ℕ × List ℕ). p.1) pairs)

client-number : (client : ℕ) → IsClient client → IsNumber 2 client
client-number client is = let most = is.most in omega arith

count-number : (number : ℕ) → IsCount number → IsNumber 4 number
count-number number is = let most = is.most in omega arith

front-same : (client number receiver other : ℕ) → IsClient client → IsCount number → IsClient receiver → IsCount other → reply_front client number ≡ reply_front receiver other → (client ≡ receiver) × (number ≡ other)
front-same client number receiver other one two three four same =
    let tails : number_text 2 client ++ number_text 4 number ≡ number_text 2 receiver ++ number_text 4 other = cc in
    let clients = number-same 2 client receiver (number_text 4 number) (number_text 4 other) (client-number client one) (client-number receiver three) tails in
    let padded : number_text 4 number ++ [] ≡ number_text 4 other ++ [] = ap (λ l. l ++ []) clients.1 in
    let numbers = number-same 4 number other [] [] (count-number number two) (count-number other four) padded in
    (clients.0, numbers.0)

pub front-length : (client number : ℕ) → length (reply_front client number) ≡ 7
front-length client number =
    let one = length-number_text 2 client in
    let two = length-number_text 4 number in
    let both = length-append (number_text 2 client) (number_text 4 number) in
    omega arith

-- the spelling of a reply has its front
pub front-taken : (receiver other : ℕ) (reply : Reply) → take 7 (message_text (Answer receiver other reply)) ≡ reply_front receiver other
unfolding message_text
front-taken receiver other reply =
    let rest = reply_text reply in
    let text : message_text (Answer receiver other reply) ≡ reply_front receiver other ++ rest =
    ap (λ t. 2 ∷ t) (sym (append_assoc (number_text 2 receiver) (number_text 4 other) rest))
    in
    ap (take 7) text ∙ ap (λ n. take n (reply_front receiver other ++ rest)) (sym (front-length receiver other)) ∙ take-append_seam (reply_front receiver other) rest

starts-by : (client number receiver other : ℕ) (reply : Reply) → starts_with nat_eq (message_text (Answer receiver other reply)) (reply_front client number) ≡ bytes_eq (reply_front client number) (reply_front receiver other)
starts-by client number receiver other reply =
    ap (λ n. bytes_eq (reply_front client number) (take n (message_text (Answer receiver other reply)))) (front-length client number)
    ∙ ap (bytes_eq (reply_front client number)) (front-taken receiver other reply)

-- a message whose spelling begins so is the reply, and another one changes nothing
abbrev pub IsNextAs : Message → ℕ → ℕ → (value rest : Option Reply) → Bool → Type 0
IsNextAs message client number value rest true =
    (reply : Reply) × (message ≡ Answer client number reply) × (value ≡ Some reply)
IsNextAs message client number value rest false = value ≡ rest

reply-next : (client number receiver other : ℕ) (reply : Reply) (messages : List Message) (bytes : List ℕ) → IsClient client → IsCount number → Spells (Answer receiver other reply) bytes → IsNextAs (Answer receiver other reply) client number (reply_at number (answers_to client (Answer receiver other reply ∷ messages))) (reply_at number (answers_to client messages)) (starts_with nat_eq bytes (reply_front client number))
reply-next client number receiver other reply messages bytes is_client is_count spells =
    let message = Answer receiver other reply in
    let front = reply_front client number in
    let own = reply_front receiver other in
    let answers = answers_to client messages in
    let rest = reply_at number answers in
    let begins : starts_with nat_eq bytes front ≡ bytes_eq front own = ap (λ b. starts_with nat_eq b front) spells.is ∙ starts-by client number receiver other reply in
    let apart : ((front ≡ own) → ⊥) → starts_with nat_eq bytes front ≡ false = λ never. begins ∙ false_from_ne_true (bytes_eq front own) (λ is. never ((bytes_decides front own).0 is)) in
    let F : Option Reply → Bool → Type 0 = λ value c. IsNextAs message client number value rest c in
    let P : Bool → Type 0 = λ a. F (reply_at number (if a then (other, reply) ∷ answers else answers)) (starts_with nat_eq bytes front) in
    let Q : Bool → Type 0 = λ b. F (if b then Some reply else rest) (starts_with nat_eq bytes front) in
    let same-fronts : front ≡ own → (client ≡ receiver) × (number ≡ other) = front-same client number receiver other is_client is_count spells.fits.0 spells.fits.1 in
    by_test P receiver client
    (λ clients. by_test Q other number
    (λ numbers.
    let equal : front ≡ own = λ i. reply_front (sym clients i) (sym numbers i) in
    let on : starts_with nat_eq bytes front ≡ true = begins ∙ (bytes_decides front own).1 equal in
    let done : F (Some reply) true = (reply, (λ i. Answer (clients i) (numbers i) reply), refl) in
    subst (F (Some reply)) (sym on) done)
    (λ different. subst (F rest) (sym (apart (λ e. different (sym (same-fronts e).1)))) refl))
    (λ different. subst (F rest) (sym (apart (λ e. different (sym (same-fronts e).0)))) refl)

-- other messages begin with another byte
request-not : (client number receiver other : ℕ) (call : Rattle.cluster_facts.specs.Types.Call) → starts_with nat_eq (message_text (Request receiver other call)) (reply_front client number) ≡ false
unfolding message_text
request-not client number receiver other call = refl

item-not : (client number receiver other : ℕ) (item : Rattle.cluster_facts.specs.Types.Item) → starts_with nat_eq (message_text (Delivery receiver other item)) (reply_front client number) ≡ false
unfolding message_text
item-not client number receiver other item = refl

receipt-not : (client number receiver other through : ℕ) → starts_with nat_eq (message_text (Receipt receiver other through)) (reply_front client number) ≡ false
unfolding message_text
receipt-not client number receiver other through = refl

mirror-not : (client number place : ℕ) (entry : Rattle.cluster_facts.specs.Types.Entry) → starts_with nat_eq (message_text (Mirror place entry)) (reply_front client number) ≡ false
unfolding message_text
mirror-not client number place entry = refl

ack-not : (client number place : ℕ) → starts_with nat_eq (message_text (MirrorAck place)) (reply_front client number) ≡ false
unfolding message_text
ack-not client number place = refl

snapshot-not : (client number : ℕ) (saved : Rattle.calls.specs.declared.saved.Saved.Saved) → starts_with nat_eq (message_text (Snapshot saved)) (reply_front client number) ≡ false
unfolding message_text
snapshot-not client number saved = refl

join-not : (client number place : ℕ) → starts_with nat_eq (message_text (JoinAck place)) (reply_front client number) ≡ false
unfolding message_text
join-not client number place = refl

beside : (client number : ℕ) (message : Message) (rest : Option Reply) (bytes : List ℕ) → Spells message bytes → starts_with nat_eq (message_text message) (reply_front client number) ≡ false → IsNextAs message client number rest rest (starts_with nat_eq bytes (reply_front client number))
beside client number message rest bytes spells not =
    let F : Bool → Type 0 = λ c. IsNextAs message client number rest rest c in
    subst F (sym (ap (λ b. starts_with nat_eq b (reply_front client number)) spells.is ∙ not)) refl

next-string : (client number : ℕ) (message : Message) (messages : List Message) (bytes : List ℕ) → IsClient client → IsCount number → Spells message bytes → IsNextAs message client number (reply_at number (answers_to client (message ∷ messages))) (reply_at number (answers_to client messages)) (starts_with nat_eq bytes (reply_front client number))
next-string client number (Answer receiver other reply) messages bytes is_client is_count spells =
    reply-next client number receiver other reply messages bytes is_client is_count spells
next-string client number (Request receiver other call) messages bytes is_client is_count spells =
    beside client number (Request receiver other call) (reply_at number (answers_to client messages)) bytes spells (request-not client number receiver other call)
next-string client number (Delivery receiver other item) messages bytes is_client is_count spells =
    beside client number (Delivery receiver other item) (reply_at number (answers_to client messages)) bytes spells (item-not client number receiver other item)
next-string client number (Receipt receiver other through) messages bytes is_client is_count spells =
    beside client number (Receipt receiver other through) (reply_at number (answers_to client messages)) bytes spells (receipt-not client number receiver other through)
next-string client number (Mirror place entry) messages bytes is_client is_count spells =
    beside client number (Mirror place entry) (reply_at number (answers_to client messages)) bytes spells (mirror-not client number place entry)
next-string client number (MirrorAck place) messages bytes is_client is_count spells =
    beside client number (MirrorAck place) (reply_at number (answers_to client messages)) bytes spells (ack-not client number place)
next-string client number (Snapshot saved) messages bytes is_client is_count spells =
    beside client number (Snapshot saved) (reply_at number (answers_to client messages)) bytes spells (snapshot-not client number saved)
next-string client number (JoinAck place) messages bytes is_client is_count spells =
    beside client number (JoinAck place) (reply_at number (answers_to client messages)) bytes spells (join-not client number place)

-- What is found in the net.

same-spelled : (one other : Message) (bytes : List ℕ) → Spells one bytes → Spells other bytes → one ≡ other
same-spelled one other bytes spells also =
    let texts : message_text one ++ [] ≡ message_text other ++ [] = ap (λ t. t ++ []) (sym spells.is ∙ also.is) in
    let read = sym (message_code.back one [] spells.fits) ∙ ap message_at texts ∙ message_code.back other [] also.fits in
    let pairs : ◌≡◌ {A = Message × List ℕ} (one, []) (other, []) = ok_is (one, []) (other, []) read in
    ap (λ (p : Message × List ℕ). p.0) pairs

pub finds-reply : (client number : ℕ) (net : List (List ℕ)) (found : Option Message) → IsClient client → IsCount number → FindsFirst (reply_front client number) net found → FindsReply client number net found
finds-reply client number net found is_client is_count Nothing [] spelled = refl
finds-reply client number net found is_client is_count Nothing (posting ∷ postings) spelled = elim spelled [ ]
finds-reply client number net found is_client is_count (Here bytes message is) [] spelled = elim spelled [ ]
finds-reply client number net found is_client is_count (Passed bytes none finds) [] spelled = elim spelled [ ]
finds-reply client number net found is_client is_count (Here bytes message is) (Raw raw front why ∷ postings) spelled =
    absurd (spelled.0.2.unspelled message (subst (Spells message) spelled.0.0 is.1))
finds-reply client number net found is_client is_count (Here bytes message is) (Spelled first ∷ postings) spelled =
    let F : Bool → Type 0 = IsNextAs first client number (reply_at number (answers_to client (first ∷ messages_in postings))) (reply_at number (answers_to client (messages_in postings))) in
    let next = subst F is.0 (next-string client number first (messages_in postings) bytes is_client is_count spelled.0) in
    (next.0, same-spelled message first bytes is.1 spelled.0 ∙ next.1, next.2)
finds-reply client number net found is_client is_count (Passed {net = rest} bytes none finds) (Raw raw front why ∷ postings) spelled =
    finds-reply client number rest found is_client is_count finds postings spelled.1
finds-reply client number net found is_client is_count (Passed {net = rest} bytes none finds) (Spelled first ∷ postings) spelled =
    let front = reply_front client number in
    let value = reply_at number (answers_to client (messages_in postings)) in
    let F : Bool → Type 0 = IsNextAs first client number (reply_at number (answers_to client (first ∷ messages_in postings))) value in
    let next = next-string client number first (messages_in postings) bytes is_client is_count spelled.0 in
    let deeper = finds-reply client number rest found is_client is_count finds postings spelled.1 in
    elim (cases_Bool (starts_with nat_eq bytes front)) [
      | inl begins ↦ absurd (none begins first spelled.0)
      | inr apart ↦ subst (λ told. IsReplyFound client number told found) (sym (subst F apart next)) deeper
    ]
