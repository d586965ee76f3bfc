-- What becomes of a reply and of an item, by what is seen of the agent before and after.
use Rattle.std.proofs.Common.{◌≡◌, ℕ, ◌<◌, ◌+◌, Bool, true, false, ◌||◌, nat_lt, if◌then◌else◌, Option, Some, None, List, [], ◌++◌, length, reverse, refl, ap, sym, subst, ◌∙◌, arith, length-append}
use Rattle.std.specs.Prelude.{nat_le}
use Rattle.std.proofs.lemmas.Bool.{lt-ltb, le-ltb}
use Rattle.callback_dispatch.specs.declared.numbered.Numbered.{Numbered}
use Rattle.cluster_facts.specs.Types.{Item, Callback, Receipt, BadHandle}
use Rattle.cluster_facts.specs.Agents.{Living, Agent, find_living, after_item, oldest, all_but_oldest}
use Rattle.client_agent.specs.declared.answers.MissedWhy.TheVariants.{Left, Taken as TakenBefore, Ahead, Gone}
use Rattle.client_agent.specs.declared.answers.Taken.{Taken}
use Rattle.client_agent.specs.declared.answers.Taken.TheVariants.{Item as TakenItem, Missed}
use Rattle.client_agent.specs.declared.answers.How.{How}
use Rattle.client_agent.specs.declared.answers.How.TheVariants.{One, All}
use Rattle.client_agent.specs.declared.answers.Dispatched.TheVariants.{Given}
use Rattle.client_agent.specs.Seen.{Seen, seen_of}
use Rattle.client_agent.specs.Steps.{IsItem, IsItemBy, IsDispatched, numbered, handed_out}
use Rattle.client_agent.specs.Waiting.{Waiting, after_handing}
use Rattle.client_agent.specs.Inside.{agent_of}
use Rattle.client_agent.proofs.Known.{known, same_seen}

-- an item of a subscription that lives, by the tests of its number and of the queue
item_by : (seen : Seen) (key : ℕ) (item : Item) (found : Living) (taken : Taken) (new : Seen) (handed : List Callback) (before ahead full : Bool) → find_living key seen.living ≡ Some found → nat_lt item.number found.next ≡ before → nat_lt found.next item.number ≡ ahead → nat_le seen.places (length seen.queue) ≡ full → IsItemBy seen.client seen.places key item (agent_of seen handed) found before ahead full taken new → IsItem seen.client seen.places key item (agent_of seen handed) (find_living key seen.living) taken new
item_by seen key item found taken new handed before ahead full is e f g holds =
    let P : Option Living → Type 0 = λ living. IsItem seen.client seen.places key item (agent_of seen handed) living taken new in
    let one : Bool → Type 0 = λ b. IsItemBy seen.client seen.places key item (agent_of seen handed) found b ahead full taken new in
    let two : Bool → Type 0 = λ b. IsItemBy seen.client seen.places key item (agent_of seen handed) found (nat_lt item.number found.next) b full taken new in
    let three : Bool → Type 0 = λ b. IsItemBy seen.client seen.places key item (agent_of seen handed) found (nat_lt item.number found.next) (nat_lt found.next item.number) b taken new in
    subst P (sym is) (subst three (sym g) (subst two (sym f) (subst one (sym e) holds)))

pub item_gone : (seen : Seen) (key : ℕ) (item : Item) → find_living key seen.living ≡ None → (handed : List Callback) → seen.given ≡ length handed → IsItem seen.client seen.places key item (agent_of seen handed) (find_living key seen.living) (Missed Gone) seen
item_gone seen key item none handed given =
    let P : Option Living → Type 0 = λ living. IsItem seen.client seen.places key item (agent_of seen handed) living (Missed Gone) seen in
    subst P (sym none) (refl, same_seen seen handed given)

pub item_before : (seen : Seen) (key : ℕ) (item : Item) (found : Living) → find_living key seen.living ≡ Some found → item.number < found.next → (handed : List Callback) → seen.given ≡ length handed → IsItem seen.client seen.places key item (agent_of seen handed) (find_living key seen.living) (Missed TakenBefore) seen
item_before seen key item found is below handed given =
    item_by seen key item found (Missed TakenBefore) seen handed true (nat_lt found.next item.number) (nat_le seen.places (length seen.queue)) is (lt-ltb item.number found.next below) refl refl (refl, same_seen seen handed given)

pub item_ahead : (seen : Seen) (key : ℕ) (item : Item) (found : Living) → find_living key seen.living ≡ Some found → found.next < item.number → (handed : List Callback) → seen.given ≡ length handed → IsItem seen.client seen.places key item (agent_of seen handed) (find_living key seen.living) (Missed Ahead) seen
item_ahead seen key item found is above handed given =
    item_by seen key item found (Missed Ahead) seen handed false true (nat_le seen.places (length seen.queue)) is (le-ltb item.number found.next (omega arith)) (lt-ltb found.next item.number above) refl (refl, same_seen seen handed given)

pub item_left : (seen : Seen) (key : ℕ) (item : Item) (found : Living) → find_living key seen.living ≡ Some found → item.number ≡ found.next → nat_le seen.places (length seen.queue) ≡ true → (handed : List Callback) → seen.given ≡ length handed → IsItem seen.client seen.places key item (agent_of seen handed) (find_living key seen.living) (Missed Left) seen
item_left seen key item found is next full handed given =
    item_by seen key item found (Missed Left) seen handed false false true is (le-ltb item.number found.next (omega arith)) (le-ltb found.next item.number (omega arith)) full (refl, same_seen seen handed given)

pub item_taken : (seen : Seen) (key : ℕ) (item : Item) (found : Living) (client number : ℕ) (new : Seen) → find_living key seen.living ≡ Some found → item.number ≡ found.next → nat_le seen.places (length seen.queue) ≡ false → client ≡ seen.client → number ≡ item.number → ((handed : List Callback) → seen.given ≡ length handed → new ≡ seen_of seen.client seen.places (after_item key found.id item.content (agent_of seen handed))) → (handed : List Callback) → seen.given ≡ length handed → IsItem seen.client seen.places key item (agent_of seen handed) (find_living key seen.living) (TakenItem (Receipt client key number)) new
item_taken seen key item found client number new is next free its numbered after handed given =
    item_by seen key item found (TakenItem (Receipt client key number)) new handed false false false is (le-ltb item.number found.next (omega arith)) (le-ltb found.next item.number (omega arith)) free ((λ i. TakenItem (Receipt (its i) key (numbered i))), after handed given)

-- Callbacks are handed out.

counted : (before : ℕ) (out handed : List Callback) → before ≡ length handed → before + length out ≡ length (out ++ handed)
counted before out handed count = omega (arith, length-append out handed)

pub dispatched : (seen : Seen) (how : How) (taken : List Numbered) (after : Waiting) (client places : ℕ) (agent : Agent) → (seen.log_handle || seen.ntf_handle) ≡ true → taken ≡ reverse (numbered seen.given (handed_out how seen.queue)) → after ≡ after_handing how (record { places = seen.places; queue = seen.queue; given = seen.given }) → seen ≡ seen_of client places agent → IsDispatched client places how agent (Given taken) (record seen { places = after.places; queue = after.queue; given = after.given })
dispatched seen One taken after client places agent handle is left seen_is =
    let new : Waiting → Seen = λ w. record seen { places = w.places; queue = w.queue; given = w.given } in
    let P : ℕ → ℕ → Agent → Type 0 = λ c p a. IsDispatched c p One a (Given taken) (new after) in
    known P seen client places agent seen_is (λ handed count.
    let all = counted seen.given (oldest seen.queue) handed count in
    (ap (λ (b : Bool). if b then None else Some BadHandle) handle, is ∙ ap (λ n. reverse (numbered n (oldest seen.queue))) count, ap new left ∙ (λ i. record seen { queue = all_but_oldest seen.queue; given = all i })))
dispatched seen (All workers) taken after client places agent handle is left seen_is =
    let new : Waiting → Seen = λ w. record seen { places = w.places; queue = w.queue; given = w.given } in
    let P : ℕ → ℕ → Agent → Type 0 = λ c p a. IsDispatched c p (All workers) a (Given taken) (new after) in
    known P seen client places agent seen_is (λ handed count.
    let all = counted seen.given seen.queue handed count in
    (ap (λ (b : Bool). if b then None else Some BadHandle) handle, is ∙ ap (λ n. reverse (numbered n seen.queue)) count, ap new left ∙ (λ i. record seen { queue = []; given = all i })))
