-- Words of public clauses: what holds of history, net and agents between any two events.
use Rattle.std.specs.Prelude.{◌≡◌, ℕ, suc, ◌+◌, ◌≤◌, ◌⊎◌, Bool, ℤ, Option, List, [], ◌∷◌, ◌++◌, length}
use Rattle.std.specs.List.{AllByRecursion}
use Rattle.std.specs.Option.{option_to_list}
use Rattle.stream_config.specs.Marks.{first_mark}
use Rattle.cluster_facts.specs.Types.{Call, Reply, Refused, Status, Entry, Callback, Written, MaskSet, StreamName, Mark, Message, Request, Answer}
use Rattle.cluster_facts.specs.Types.{Delivery, Receipt}
use Rattle.cluster_facts.specs.Lists.{Stands, EndsIn, IsNumbered, IsCounted, count_of}
use Rattle.cluster_facts.specs.Messages.{sent_by, answers_to, receipts_of, calls_in, message_of, messages_in}
use Rattle.cluster_facts.specs.Service.{Plain, IsMade, answers_in, asked_for, subscribed}
use Rattle.cluster_facts.specs.Agents.{Living, Agent, fresh, fed_of, log_after, ntf_after, callback_of, mark_of, told_mark}
use Rattle.cluster_facts.specs.History.{IsLegal, accepted}
use Rattle.cluster_facts.specs.World.{World}
use Rattle.std.specs.Prelude.{false}

-- what the facts of one client read: the calls that it sent, the replies to it that stand in the net, the receipts that it
-- posted, and its calls that were accepted
pub record View : Type 0 where
  pub sent : List (ℕ × Call)
  pub heard : List (ℕ × Reply)
  pub marks : List (ℕ × ℕ)
  pub calls : List (ℕ × Call)

abbrev pub view_of : ℕ → List Message → List Entry → View
view_of client net past = record {
  sent = sent_by client net;
  heard = answers_to client net;
  marks = receipts_of client net;
  calls = calls_in client past;
}

-- whether the last initialisation or finalisation of a service among these calls is an initialisation
abbrev pub log_by : List (ℕ × Call) → Bool
log_by [] = false
log_by (sent ∷ calls) = log_after sent.1 (log_by calls)

abbrev pub ntf_by : List (ℕ × Call) → Bool
ntf_by [] = false
ntf_by (sent ∷ calls) = ntf_after sent.1 (ntf_by calls)

-- the agent numbers its calls, knows its handles by them, and the first of them were accepted, in order
pub record Sends (sent calls : List (ℕ × Call)) (next : ℕ) (log_handle ntf_handle : Bool) : Type 0 where
  pub numbered : IsNumbered sent
  pub next_is : next ≡ suc (length sent)
  pub log_is : log_handle ≡ log_by sent
  pub ntf_is : ntf_handle ≡ ntf_by sent
  pub first : EndsIn sent calls

-- of the calls that were sent, the agent keeps those that wait; the replies to the others stand in the net, and told these marks
pub data Keeps (heard : List (ℕ × Reply)) : List (ℕ × Call) → List (ℕ × Call) → List (StreamName × Mark) → Type 0 where
  starts : Keeps heard [] [] []
  waits : {sent kept : List (ℕ × Call)} {told : List (StreamName × Mark)} → (call : ℕ × Call) → Keeps heard sent kept told
      → Keeps heard (call ∷ sent) (call ∷ kept) told
  answered : {sent kept : List (ℕ × Call)} {told : List (StreamName × Mark)} → (call : ℕ × Call) → (reply : Reply) → Stands (call.0, reply) heard
      → Keeps heard sent kept told
      → Keeps heard (call ∷ sent) kept (option_to_list (told_mark call.1 reply) ++ told)

-- a stream's mark is of the greatest entry of those told of it, or is that of a stream of which none was told
pub record IsLast (told : List (StreamName × Mark)) (name : StreamName) (last : Mark) : Type 0 where
  pub stands : (last ≡ first_mark) ⊎ Stands (name, last) told
  pub most : (mark : Mark) → Stands (name, mark) told → mark.since ≤ last.since

pub record Awaits (sent : List (ℕ × Call)) (heard : List (ℕ × Reply)) (next : ℕ) (kept : List (ℕ × Call)) (marks : List (StreamName × Mark)) : Type 0 where
  pub told : List (StreamName × Mark)
  pub keeps : Keeps heard sent kept told
  pub last : (name : StreamName) → IsLast told name (mark_of name marks)
  -- a call that is kept has a number above the next minus 33
  pub window : AllByRecursion (λ (call : ℕ × Call). next ≤ call.0 + 32) kept

-- of the subscriptions that were asked for and not given up, those live whose call was not refused; the next item of each
-- follows those of which a receipt was posted
pub data Lives (heard : List (ℕ × Reply)) (marks : List (ℕ × ℕ)) : List (ℕ × ℕ) → List Living → Type 0 where
  none : Lives heard marks [] []
  lives : {subscriptions : List (ℕ × ℕ)} {living : List Living} → (subscription : Living) → subscription.next ≡ suc (count_of subscription.key marks)
      → Lives heard marks subscriptions living → Lives heard marks ((subscription.key, subscription.id) ∷ subscriptions) (subscription ∷ living)
  refused : {subscriptions : List (ℕ × ℕ)} {living : List Living} → (subscription : ℕ × ℕ) → (status : Status)
      → Stands (subscription.0, Refused status) heard → Lives heard marks subscriptions living → Lives heard marks (subscription ∷ subscriptions) living

pub record Follows (sent : List (ℕ × Call)) (heard : List (ℕ × Reply)) (marks : List (ℕ × ℕ)) (living : List Living) : Type 0 where
  pub lives : Lives heard marks (subscribed sent) living
  -- the receipts of each subscription go through 1, 2, 3 and so on, and are of subscriptions that were asked for
  pub counted : IsCounted marks
  pub known : AllByRecursion (λ (mark : ℕ × ℕ). mark.0 ≤ length sent) marks

pub record IsClient (view : View) (agent : Agent) : Type 0 where
  pub sends : Sends view.sent view.calls agent.next agent.log_handle agent.ntf_handle
  pub awaits : Awaits view.sent view.heard agent.next agent.kept agent.marks
  pub follows : Follows view.sent view.heard view.marks agent.living

-- the callback that came with a receipt is that of the item of the receipt's number, made for a subscription that was asked for
pub record IsToldItem (plain : Plain) (past : List Entry) (sent : List (ℕ × Call)) (client : ℕ) (mark : ℕ × ℕ) (callback : Callback) : Type 0 where
  pub id : ℕ
  pub asked : Stands (mark.0, id) (asked_for sent)
  pub content : Rattle.sub_queue.specs.declared.item.Content.Content
  pub made : IsMade plain past client mark.0 mark.1 content
  pub is : callback ≡ callback_of id content

-- the callbacks are, in order, those of the receipts, with those of replies between them
pub data Fits (R : ℕ × ℕ → Callback → Type 0) : List (ℕ × ℕ) → List Callback → Type 0 where
  empty : Fits R [] []
  of_item : {marks : List (ℕ × ℕ)} {fed : List Callback} → (mark : ℕ × ℕ) → (callback : Callback) → R mark callback → Fits R marks fed
      → Fits R (mark ∷ marks) (callback ∷ fed)
  of_write : {marks : List (ℕ × ℕ)} {fed : List Callback} → (invocation : ℕ) → (status : Status) → Fits R marks fed
      → Fits R marks (Written invocation status ∷ fed)
  of_mask : {marks : List (ℕ × ℕ)} {fed : List Callback} → (name : StreamName) → (mask : ℕ) → (written : Option ℕ) → Fits R marks fed
      → Fits R marks (MaskSet name mask written ∷ fed)

-- each message of the net belongs to the run: a reply is the service's to an entry whose work is done, and an item was made
abbrev pub IsOfRun : Plain → List Entry → Message → Type 0
IsOfRun plain past (Request client number call) = Unit {0}
IsOfRun plain past (Answer client number reply) = Stands (number, reply) (answers_in plain client past)
IsOfRun plain past (Delivery client key item) = IsMade plain past client key item.number item.content
IsOfRun plain past (Receipt client key through) = Unit {0}
IsOfRun plain past _ = ⊥

-- the facts of history, messages of the net and agents. Agents' facts read the accepted history, the net's the answered one
pub record Facts (plain : Plain) (now : ℤ) (accepted answered : List Entry) (net : List Message) (agents : ℕ → Agent) : Type 0 where
  pub clients : (client : ℕ) → IsClient (view_of client net accepted) (agents client)
  pub told : (client : ℕ) → Fits (IsToldItem plain answered (sent_by client net) client) (receipts_of client net) (fed_of (agents client))
  pub run : AllByRecursion (IsOfRun plain answered) net
  pub heard : AllByRecursion (λ (entry : Entry). Stands (message_of entry) net) accepted
  pub legal : IsLegal plain now accepted

-- the facts of a world
pub record IsSound (plain : Plain) (world : World) : Type 0 where
  pub facts : Facts plain world.now (accepted world.core) world.core.answered (messages_in world.net) world.agents
  -- a client that was never called has a fresh agent
  pub listed : (client : ℕ) → Stands client world.clients ⊎ (world.agents client ≡ fresh)
