-- A server that may stand for no history: what it is called with, and what each step leaves of it.
use Rattle.std.proofs.Common.{◌≡◌, ◌⊎◌, inl, inr, ℕ, ℤ, suc, ◌+◌, ◌-◌, ◌*◌, ◌<◌, ◌≤◌, Bool, true, false, Option, Some, None, List, [], ◌∷◌, ◌++◌, length, map, refl, ap, sym, subst, ◌∙◌, append-nil, arith}
use Rattle.std.specs.Prelude.{IsSome}
use Rattle.std.specs.List.{AllByRecursion}
use Rattle.calls.specs.declared.entry.Held.{Held}
use Rattle.calls.specs.declared.saved.Saved.{Saved}
use Rattle.wire.specs.MessageSpelling.{MessageInRange, message_text}
use Rattle.wire.specs.declared.message.Message.TheVariants as wire
use Rattle.wire.specs.Mirrored.{entry_in}
use Rattle.service_core.specs.Applying.{is_new_in, next_in}
use Rattle.service_core.specs.Valuing.{reply_by_value, value_after}
use Rattle.service_laws.specs.PlainOf.{item_message}
use Rattle.cluster_facts.specs.Types.{Call, Entry, Called, Receipted, Message, Request, Answer, Receipt}
use Rattle.cluster_facts.specs.Lists.{Stands}
use Rattle.cluster_facts.specs.Messages.{message_of, messages_in}
use Rattle.cluster_facts.specs.History.{Hand, Empty, Waiting, Applied, Ready, Judged, New, Repeat, Old, Ahead}
use Rattle.cluster_facts.specs.World.{World}
use Rattle.cluster_facts.proofs.Growing.{judged-new}
use Rattle.cluster_facts.proofs.Words.{All-map}
use Rattle.mirror.specs.declared.heard.Heard.{Heard}
use Rattle.mirror.specs.declared.heard.Role.{Role}
use Rattle.mirror.specs.declared.heard.Role.TheVariants.{Active}
use Rattle.mirror.specs.declared.owed.Owed.{Owed}
use Rattle.mirror.specs.declared.state.NodeState.{NodeState as Node}
use Rattle.mirror.specs.ByValue.{IsAcceptedAt, IsHeardByValue, IsReceiptByValue, IsRequestByValue, judged_in, owed_by_value, replies_for, serving}
use Rattle.mirror.specs.Hearing.{CanHear}
use Rattle.mirror.specs.Pairing.{IsHeard, IsReceived, IsTiedByValue, confirmed, mirrored, mirrors, newest, worked_out}
use Rattle.mirror.specs.Replicas.{ReplicaState}
use Rattle.mirror.specs.Working.{replies_in}
use Rattle.mirror.proofs.ByValueLaws.{next-in-is}
use Rattle.journal_found.proofs.Lists.{behind_first, first_or}
use Rattle.journal_start.specs.declared.journal.Journal.{Journal}
use Rattle.journal_start.specs.Journals.{pushed}
use Rattle.cluster_rounds.specs.declared.cluster.Cluster.{Cluster}
use Rattle.cluster_rounds.specs.Wild.{AreClients, ShowsClients}
use Rattle.cluster_rounds.proofs.WildSteps.{posted-range}
use Rattle.lone_server.specs.declared.lone.Lone.{Lone}
use Rattle.lone_server.specs.Appends.{confirmed_by}
use Rattle.lone_server.specs.Joining.{CommitsJoined, JoinsOne}
use Rattle.lone_server.specs.Working.{CanHearAll, HearsOne, worked_lone}
use Rattle.cold_servers.specs.declared.solo.Solo.{Solo}
use Rattle.cold_servers.specs.ColdNodes.{IsDown}
use Rattle.cold_servers.specs.ColdSeen.{ColdSeen}
use Rattle.cold_servers.specs.Silent.{AnswersCall, HasJoined, IsGoodValue, IsSilent, IsUpAt, Owes, OwesBy, active_at, back_at, link_at}
use Rattle.cold_servers.specs.Steps.{is_active}
use Rattle.cold_servers.proofs.FitSteps.{good-after, number-after}
use Rattle.cold_servers.proofs.PostSteps.{IsPostable}
use Rattle.cold_servers.proofs.RangeSteps.{mirror-range}

-- an active server is up
pub up-at : (servers : Solo) (net : List Message) (seen : ColdSeen) → IsSilent servers net seen → is_active servers.lone.node.replica.role ≡ true → IsUpAt net servers.lone
up-at servers net seen silent active = elim silent.stands [
  | inl up ↦ up
  | inr down ↦ let no : false ≡ true = ap (λ (n : Node). is_active n.replica.role) (sym down.node) ∙ active in cc
]

-- and one that is not is down
pub down-at : (servers : Solo) (net : List Message) (seen : ColdSeen) → IsSilent servers net seen → is_active servers.lone.node.replica.role ≡ false → IsDown servers.lone
down-at servers net seen silent rests = elim silent.stands [
  | inl up ↦ let no : true ≡ false = ap (λ (n : Node). is_active n.replica.role) (sym up.node) ∙ rests in cc
  | inr down ↦ down
]

-- **What it is called with.**

module _ (seen : World) (old : Cluster Solo) (clients : AreClients seen) (shows : ShowsClients seen old) where
  abbrev stood : List Message
  stood = messages_in seen.net

  answer-range : (message : Message) → AnswersCall stood message → MessageInRange message
  answer-range (Answer client number reply) answers = posted-range seen old (Request client number answers.0) clients shows answers.1
  answer-range message answers = elim answers [ ]

  link-by : (number : ℕ) (hand : Hand) (owed : Option Owed) → OwesBy stood hand owed → AllByRecursion MessageInRange (link_at number hand)
  link-by number Empty owed owes = tt
  link-by number (Waiting entry) owed owes =
      (mirror-range number entry (posted-range seen old (message_of entry) clients shows owes.asked), tt)
  link-by number (Applied entry) owed owes = tt
  link-by number (Ready entry) owed owes = tt

  -- what is on the way to the journal can be spelled
  pub link-safe : IsUpAt stood old.servers.lone → AllByRecursion MessageInRange old.servers.lone.link
  link-safe up =
      subst (λ (link : List Message). AllByRecursion MessageInRange link) (sym up.link) (link-by up.saved.number up.hand up.owed up.owes)

  owed-range : (entry : Entry) (owed : Option Owed) → Owes stood entry owed → AllByRecursion MessageInRange (replies_in owed)
  owed-range entry owed owes =
      subst (λ (o : Option Owed). AllByRecursion MessageInRange (replies_in o)) (sym owes.is)
      (All-map (AnswersCall stood) MessageInRange owes.held.to_net answer-range owes.answers)

  replies-by : (hand : Hand) (owed : Option Owed) → OwesBy stood hand owed → AllByRecursion MessageInRange (replies_in owed)
  replies-by Empty owed owes = subst (λ (o : Option Owed). AllByRecursion MessageInRange (replies_in o)) (sym owes) tt
  replies-by (Waiting entry) owed owes = owed-range entry owed owes
  replies-by (Applied entry) owed owes = owed-range entry owed owes
  replies-by (Ready entry) owed owes = owed-range entry owed owes

  -- the reply that is posted can be spelled
  pub replies-safe : IsUpAt stood old.servers.lone → AllByRecursion MessageInRange (replies_in old.servers.lone.node.replica.owed)
  replies-safe up =
      subst (λ (n : Node). AllByRecursion MessageInRange (replies_in n.replica.owed)) (sym up.node) (replies-by up.hand up.owed up.owes)

-- and it answers a call
owed-posts : (net : List Message) (entry : Entry) (owed : Option Owed) → Owes net entry owed → AllByRecursion (AnswersCall net) (replies_in owed)
owed-posts net entry owed owes = subst (λ (o : Option Owed). AllByRecursion (AnswersCall net) (replies_in o)) (sym owes.is) owes.answers

posts-by : (net : List Message) (hand : Hand) (owed : Option Owed) → OwesBy net hand owed → AllByRecursion (AnswersCall net) (replies_in owed)
posts-by net Empty owed owes = subst (λ (o : Option Owed). AllByRecursion (AnswersCall net) (replies_in o)) (sym owes) tt
posts-by net (Waiting entry) owed owes = owed-posts net entry owed owes
posts-by net (Applied entry) owed owes = owed-posts net entry owed owes
posts-by net (Ready entry) owed owes = owed-posts net entry owed owes

pub replies-post : (net : List Message) (servers : Lone) → IsUpAt net servers → AllByRecursion (AnswersCall net) (replies_in servers.node.replica.owed)
replies-post net servers up =
    subst (λ (n : Node). AllByRecursion (AnswersCall net) (replies_in n.replica.owed)) (sym up.node) (posts-by net up.hand up.owed up.owes)

-- what is on the way back can be heard
back-by : (node : Node) (number : ℕ) (hand : Hand) → CanHearAll node (back_at number hand)
back-by node number Empty = tt
back-by node number (Waiting entry) = tt
back-by node number (Applied entry) = (λ moment. tt, tt)
back-by node number (Ready entry) = tt

pub back-safe : (net : List Message) (servers : Lone) → IsUpAt net servers → CanHearAll servers.node servers.back
back-safe net servers up =
    subst (λ (messages : List Message). CanHearAll servers.node messages) (sym up.back) (back-by servers.node up.saved.number up.hand)

-- **The entry that waits joins the journal.**

none-first : (link : List Message) (message : Message) (rest : List Message) → link ≡ [] → link ≡ message ∷ rest → ⊥
none-first link message rest none first = let long = ap (λ (l : List Message). length l) (sym none ∙ first) in cc

module _ (net : List Message) (old new : Lone) (past entries : List Entry) (before after : List (List ℕ)) where
  joins-waiting : (joins : JoinsOne old new past entries before after) (saved : Saved) (owed : Option Owed) (entry : Entry) → IsGoodValue saved → Owes net entry owed → old.node ≡ active_at saved owed (Waiting entry) → old.link ≡ wire.Mirror saved.number entry ∷ [] → old.back ≡ [] → saved.number ≡ suc old.journal.number → old.journal.end ≤ (old.journal.number + 1) * 4294967299 → IsUpAt net new
  joins-waiting joins saved owed entry good owes node link back joined bound =
      let number = saved.number in
      let mirror : Message = wire.Mirror number entry in
      let text = message_text joins.message in
      let same : mirror ∷ [] ≡ joins.message ∷ joins.rest = sym link ∙ joins.first in
      let message : mirror ≡ joins.message = ap (first_or mirror) same in
      let rest : [] ≡ joins.rest = ap behind_first same in
      let C : Message → List Message → Type 0 = λ m r.
      CommitsJoined (entry_in m) (record old { journal = pushed text old.journal; link = r }) new past entries before after
      in
      let commits : C mirror [] = subst (λ (r : List Message). C mirror r) (sym rest) (subst (λ (m : Message). C m joins.rest) (sym message) joins.commits) in
      let now : Lone = confirmed_by number (record old { journal = pushed text old.journal; link = [] }) in
      let next : IsUpAt net now = record {
        saved = saved;
        owed = owed;
        hand = Applied entry;
        good = good;
        owes = owes;
        node = node;
        link = refl;
        back = ap (λ (messages : List Message). messages ++ wire.MirrorAck number ∷ []) back;
        joined = omega (arith, joined);
        bound = omega (arith, bound, joins.can.1);
      }
      in
      subst (IsUpAt net) (sym commits.0) next

  joins-by : (joins : JoinsOne old new past entries before after) (saved : Saved) (owed : Option Owed) (hand : Hand) → IsGoodValue saved → OwesBy net hand owed → old.node ≡ active_at saved owed hand → old.link ≡ link_at saved.number hand → old.back ≡ back_at saved.number hand → HasJoined saved.number hand old.journal.number → old.journal.end ≤ (old.journal.number + 1) * 4294967299 → IsUpAt net new
  joins-by joins saved owed Empty good owes node link back joined bound = absurd (none-first old.link joins.message joins.rest link joins.first)
  joins-by joins saved owed (Waiting entry) good owes node link back joined bound = joins-waiting joins saved owed entry good owes node link back joined bound
  joins-by joins saved owed (Applied entry) good owes node link back joined bound = absurd (none-first old.link joins.message joins.rest link joins.first)
  joins-by joins saved owed (Ready entry) good owes node link back joined bound = absurd (none-first old.link joins.message joins.rest link joins.first)

  pub joins-up : JoinsOne old new past entries before after → IsUpAt net old → IsUpAt net new
  joins-up joins up = joins-by joins up.saved up.owed up.hand up.good up.owes up.node up.link up.back up.joined up.bound

-- **It hears that it did.**

module _ (net : List Message) (old new : Lone) where
  hears-applied : HearsOne old new → (saved : Saved) (owed : Option Owed) (entry : Entry) → IsGoodValue saved → Owes net entry owed → old.node ≡ active_at saved owed (Applied entry) → old.link ≡ [] → old.back ≡ wire.MirrorAck saved.number ∷ [] → old.journal.number ≡ saved.number → old.journal.end ≤ (old.journal.number + 1) * 4294967299 → IsUpAt net new
  hears-applied hears saved owed entry good owes node link back joined bound =
      let ack : Message = wire.MirrorAck saved.number in
      let same : ack ∷ [] ≡ hears.message ∷ hears.rest = sym back ∙ hears.first in
      let message : ack ≡ hears.message = ap (first_or ack) same in
      let rest : [] ≡ hears.rest = ap behind_first same in
      let told = hears.confirmed in
      let role : old.node.replica.role ≡ Active = ap (λ (n : Node). n.replica.role) node in
      let R : Role → Message → Type 0 = λ r m. IsReceived r m told.moment old.node told.heard new.node in
      let got : R Active ack = subst (λ (r : Role). R r ack) role (subst (λ (m : Message). R old.node.replica.role m) (sym message) told.received) in
      record {
        saved = saved;
        owed = owed;
        hand = Ready entry;
        good = good;
        owes = owes;
        node = got.1 ∙ ap confirmed node;
        link = hears.link ∙ link;
        back = hears.back ∙ sym rest;
        joined = ap (λ (j : Journal). j.number) hears.journal ∙ joined;
        bound = subst (λ (j : Journal). j.end ≤ (j.number + 1) * 4294967299) (sym hears.journal) bound;
      }

  hears-by : HearsOne old new → (saved : Saved) (owed : Option Owed) (hand : Hand) → IsGoodValue saved → OwesBy net hand owed → old.node ≡ active_at saved owed hand → old.link ≡ link_at saved.number hand → old.back ≡ back_at saved.number hand → HasJoined saved.number hand old.journal.number → old.journal.end ≤ (old.journal.number + 1) * 4294967299 → IsUpAt net new
  hears-by hears saved owed Empty good owes node link back joined bound = absurd (none-first old.back hears.message hears.rest back hears.first)
  hears-by hears saved owed (Waiting entry) good owes node link back joined bound = absurd (none-first old.back hears.message hears.rest back hears.first)
  hears-by hears saved owed (Applied entry) good owes node link back joined bound = hears-applied hears saved owed entry good owes node link back joined bound
  hears-by hears saved owed (Ready entry) good owes node link back joined bound = absurd (none-first old.back hears.message hears.rest back hears.first)

  pub hears-up : HearsOne old new → IsUpAt net old → IsUpAt net new
  hears-up hears up = hears-by hears up.saved up.owed up.hand up.good up.owes up.node up.link up.back up.joined up.bound

  -- **The entry in hand is worked.**

  works-ready : new ≡ worked_lone old → (saved : Saved) (owed : Option Owed) (entry : Entry) → IsGoodValue saved → old.node ≡ active_at saved owed (Ready entry) → old.link ≡ [] → old.back ≡ [] → old.journal.number ≡ saved.number → old.journal.end ≤ (old.journal.number + 1) * 4294967299 → IsUpAt net new
  works-ready is saved owed entry good node link back joined bound =
      let next : IsUpAt net (worked_lone old) = record {
        saved = saved;
        owed = None;
        hand = Empty;
        good = good;
        owes = refl;
        node = ap worked_out node;
        link = link;
        back = back;
        joined = joined;
        bound = bound;
      }
      in
      subst (IsUpAt net) (sym is) next

  still-waits : (saved : Saved) (owed : Option Owed) (hand : Hand) (entry : Entry) → old.node ≡ active_at saved owed hand → (active_at saved owed hand).waits ≡ Some entry → old.node.waits ≡ None → ⊥
  still-waits saved owed hand entry node some none =
      let no : Some entry ≡ None = sym some ∙ sym (ap (λ (n : Node). n.waits) node) ∙ none in cc

  works-by : new ≡ worked_lone old → IsSome old.node.replica.owed → old.node.waits ≡ None → (saved : Saved) (owed : Option Owed) (hand : Hand) → IsGoodValue saved → OwesBy net hand owed → old.node ≡ active_at saved owed hand → old.link ≡ link_at saved.number hand → old.back ≡ back_at saved.number hand → HasJoined saved.number hand old.journal.number → old.journal.end ≤ (old.journal.number + 1) * 4294967299 → IsUpAt net new
  works-by is some none saved owed Empty good owes node link back joined bound =
      let no = subst (λ (o : Option Owed). IsSome o) (ap (λ (n : Node). n.replica.owed) node ∙ owes) some in cc
  works-by is some none saved owed (Waiting entry) good owes node link back joined bound = absurd (still-waits saved owed (Waiting entry) entry node refl none)
  works-by is some none saved owed (Applied entry) good owes node link back joined bound = absurd (still-waits saved owed (Applied entry) entry node refl none)
  works-by is some none saved owed (Ready entry) good owes node link back joined bound = works-ready is saved owed entry good node link back joined bound

  pub works-up : new ≡ worked_lone old → IsSome old.node.replica.owed → old.node.waits ≡ None → IsUpAt net old → IsUpAt net new
  works-up is some none up = works-by is some none up.saved up.owed up.hand up.good up.owes up.node up.link up.back up.joined up.bound

-- **It hears a request or a receipt.**

-- an entry is accepted, or something may be posted and the server stays as it is
record IsTaken (net : List Message) (saved : Saved) (plain : Heard) (server : ReplicaState) : Type 0 where
  pub entry : Entry
  pub asked : Stands (message_of entry) net
  pub answers : AllByRecursion (AnswersCall net) (replies_for entry (reply_by_value entry saved))
  pub good : IsGoodValue (value_after entry saved)
  pub is : IsAcceptedAt saved entry plain server

record IsLeft (net : List Message) (saved : Saved) (plain : Heard) (server : ReplicaState) : Type 0 where
  pub posts : AllByRecursion (IsPostable net) plain.to_net
  pub committed : plain.committed ≡ None
  pub is : server ≡ serving saved None

abbrev Reacts : List Message → Saved → Heard → ReplicaState → Type 0
Reacts net saved plain server = IsTaken net saved plain server ⊎ IsLeft net saved plain server

left-so : (net : List Message) (saved : Saved) (plain said : Heard) (server : ReplicaState) → plain ≡ said → AllByRecursion (IsPostable net) said.to_net → said.committed ≡ None → server ≡ serving saved None → Reacts net saved plain server
left-so net saved plain said server same posts committed is = inr (record {
  posts = subst (λ (h : Heard). AllByRecursion (IsPostable net) h.to_net) (sym same) posts;
  committed = ap (λ (h : Heard). h.committed) same ∙ committed;
  is = is;
})

module _ (net : List Message) (saved : Saved) (good : IsGoodValue saved) (few : saved.number < 4000000000) (now : ℤ) where
  request-reacts : (client number : ℕ) (call : Call) (verdict : Judged) (plain : Heard) (server : ReplicaState) → judged_in saved client number ≡ verdict → Stands (Request client number call) net → CanHear (Request client number call) now → IsRequestByValue saved client number call now verdict plain server → Reacts net saved plain server
  request-reacts client number call New plain server verdict stands can is =
      let next : number ≡ next_in saved client = judged-new number (next_in saved client - 1) verdict ∙ sym (next-in-is saved client good.fit) in
      inl (record {
        entry = Called client number now call;
        asked = stands;
        answers = ((call, stands), tt);
        good = good-after (Called client number now call) saved good (record { caller = can.0; time = can.2; few = few }, next);
        is = is;
      })
  request-reacts client number call Repeat plain server verdict stands can is =
      left-so net saved plain _ server is.2 ((call, stands), tt) refl is.3
  request-reacts client number call Old plain server verdict stands can is = left-so net saved plain _ server is.0 tt refl is.1
  request-reacts client number call Ahead plain server verdict stands can is = left-so net saved plain _ server is.0 tt refl is.1

  receipt-reacts : (client key through : ℕ) (new : Bool) (plain : Heard) (server : ReplicaState) → is_new_in saved client key through ≡ new → Stands (Receipt client key through) net → CanHear (Receipt client key through) now → IsReceiptByValue saved client key through now new plain server → Reacts net saved plain server
  receipt-reacts client key through true plain server new stands can is =
      inl (record {
        entry = Receipted client key through now;
        asked = stands;
        answers = tt;
        good = good-after (Receipted client key through now) saved good (record { caller = can.0; time = can.1; few = few }, new);
        is = is;
      })
  receipt-reacts client key through false plain server new stands can is = left-so net saved plain _ server is.0 tt refl is.1

  heard-reacts : (message : Message) (plain : Heard) (server : ReplicaState) → Stands message net → CanHear message now → IsHeardByValue saved now message plain server → Reacts net saved plain server
  heard-reacts (Request client number call) plain server stands can is =
      request-reacts client number call (judged_in saved client number) plain server refl stands can is
  heard-reacts (Receipt client key through) plain server stands can is =
      receipt-reacts client key through (is_new_in saved client key through) plain server refl stands can is
  heard-reacts _ plain server stands can is = left-so net saved plain _ server is.0 tt refl is.1

-- what is so of a server that heard a message, and of what it posts
pub record HeardWell (net : List Message) (old : Lone) (node : Node) (heard : Heard) : Type 0 where
  pub up : IsUpAt net (record old { node = node; link = old.link ++ heard.to_peer })
  pub posts : AllByRecursion (IsPostable net) heard.to_net

module _ (net : List Message) (old : Lone) (node : Node) (heard : Heard) where
  -- nothing was in hand
  taken-well : (saved : Saved) (plain : Heard) → old.link ≡ [] → old.back ≡ [] → old.journal.number ≡ saved.number → old.journal.end ≤ (old.journal.number + 1) * 4294967299 → IsTaken net saved plain node.replica → heard ≡ mirrored (suc saved.number) plain → node.waits ≡ newest plain.committed None → node ≡ record (active_at saved None Empty) { replica = node.replica; waits = node.waits } → HeardWell net old node heard
  taken-well saved plain link back joined bound taken told waits is =
      let entry = taken.entry in
      let value = value_after entry saved in
      let count = number-after entry saved in
      let W : Heard → Heard → Type 0 = λ p h. (h ≡ mirrored (suc saved.number) p) × (node.waits ≡ newest p.committed None) in
      let so = subst (λ (p : Heard). W p heard) taken.is.0 (told, waits) in
      let peer : heard.to_peer ≡ wire.Mirror (suc saved.number) entry ∷ [] = ap (λ (h : Heard). h.to_peer) so.0 in
      record {
        up = record {
          saved = value;
          owed = Some (owed_by_value entry saved);
          hand = Waiting entry;
          good = taken.good;
          owes = record { asked = taken.asked; held = owed_by_value entry saved; is = refl; answers = taken.answers };
          node = is ∙ (λ i. record (active_at saved None Empty) { replica = taken.is.1 i; waits = so.1 i });
          link = ap (λ (l : List Message). l ++ heard.to_peer) link ∙ peer ∙ ap (λ (n : ℕ). wire.Mirror n entry ∷ []) (sym count);
          back = back;
          joined = count ∙ ap suc (sym joined);
          bound = bound;
        };
        posts = subst (λ (h : Heard). AllByRecursion (IsPostable net) h.to_net) (sym so.0) tt;
      }

  left-well : (saved : Saved) (plain : Heard) → IsGoodValue saved → old.link ≡ [] → old.back ≡ [] → old.journal.number ≡ saved.number → old.journal.end ≤ (old.journal.number + 1) * 4294967299 → IsLeft net saved plain node.replica → heard ≡ mirrored (suc saved.number) plain → node.waits ≡ newest plain.committed None → node ≡ record (active_at saved None Empty) { replica = node.replica; waits = node.waits } → HeardWell net old node heard
  left-well saved plain good link back joined bound left told waits is =
      let peer : heard.to_peer ≡ [] = ap (λ (h : Heard). h.to_peer) told ∙ ap (mirrors (suc saved.number)) left.committed in
      record {
        up = record {
          saved = saved;
          owed = None;
          hand = Empty;
          good = good;
          owes = refl;
          node = is ∙ (λ i. record (active_at saved None Empty) { replica = left.is i; waits = (waits ∙ ap (λ (c : Option Entry). newest c None) left.committed) i });
          link = ap (λ (l : List Message). l ++ heard.to_peer) link ∙ peer;
          back = back;
          joined = joined;
          bound = bound;
        };
        posts = subst (λ (h : Heard). AllByRecursion (IsPostable net) h.to_net) (sym told) left.posts;
      }

  heard-idle : (saved : Saved) (now : ℤ) (message : Message) → IsGoodValue saved → saved.number < 4000000000 → Stands message net → CanHear message now → old.node ≡ active_at saved None Empty → old.link ≡ [] → old.back ≡ [] → old.journal.number ≡ saved.number → old.journal.end ≤ (old.journal.number + 1) * 4294967299 → IsTiedByValue old.node.tie saved now message old.node heard node → HeardWell net old node heard
  heard-idle saved now message good few stands can at link back joined bound tied =
      let T : Node → Type 0 = λ n. IsTiedByValue n.tie saved now message n heard node in
      let so : T (active_at saved None Empty) = subst T at tied in
      let told = so.0 in
      elim (heard-reacts net saved good few now message told.0 node.replica stands can told.1) [
        | inl taken ↦ taken-well saved told.0 link back joined bound taken told.2 told.3 so.1
        | inr left ↦ left-well saved told.0 good link back joined bound left told.2 told.3 so.1
      ]

  -- an entry was in hand: the server is busy
  heard-busy : (said : Heard) → IsUpAt net old → heard ≡ said → said.to_net ≡ [] → said.to_peer ≡ [] → node ≡ old.node → HeardWell net old node heard
  heard-busy said up told none alone same =
      let peer : heard.to_peer ≡ [] = ap (λ (h : Heard). h.to_peer) told ∙ alone in
      let now : Lone = record old { node = node; link = old.link ++ heard.to_peer } in
      let is : now ≡ old = λ i. record old { node = same i; link = (ap (λ (l : List Message). old.link ++ l) peer ∙ append-nil old.link) i } in
      record {
        up = subst (IsUpAt net) (sym is) up;
        posts = subst (λ (l : List Message). AllByRecursion (IsPostable net) l) (sym (ap (λ (h : Heard). h.to_net) told ∙ none)) tt;
      }

  abbrev At : Saved → Option Owed → Hand → Type 0
  At saved owed hand = old.node ≡ active_at saved owed hand

  heard-by : (saved : Saved) (owed : Option Owed) (hand : Hand) (now : ℤ) (message : Message) → IsUpAt net old → IsGoodValue saved → OwesBy net hand owed → saved.number < 4000000000 → Stands message net → CanHear message now → At saved owed hand → old.link ≡ link_at saved.number hand → old.back ≡ back_at saved.number hand → HasJoined saved.number hand old.journal.number → old.journal.end ≤ (old.journal.number + 1) * 4294967299 → IsHeard message now old.node heard node → HeardWell net old node heard
  heard-by saved owed Empty now message up good owes few stands can at link back joined bound is =
      let idle : At saved None Empty = subst (λ (o : Option Owed). At saved o Empty) owes at in
      heard-idle saved now message good few stands can idle link back joined bound (is.3 saved good.fit (ap (λ (n : Node). n.replica) idle))
  heard-by saved owed (Waiting entry) now message up good owes few stands can at link back joined bound is =
      let busy = is.2 saved owes.held (ap (λ (n : Node). n.replica) (subst (λ (o : Option Owed). At saved o (Waiting entry)) owes.is at)) in
      heard-busy _ up busy.0 refl refl busy.1
  heard-by saved owed (Applied entry) now message up good owes few stands can at link back joined bound is =
      let busy = is.2 saved owes.held (ap (λ (n : Node). n.replica) (subst (λ (o : Option Owed). At saved o (Applied entry)) owes.is at)) in
      heard-busy _ up busy.0 refl refl busy.1
  heard-by saved owed (Ready entry) now message up good owes few stands can at link back joined bound is =
      let busy = is.2 saved owes.held (ap (λ (n : Node). n.replica) (subst (λ (o : Option Owed). At saved o (Ready entry)) owes.is at)) in
      heard-busy _ up busy.0 refl refl busy.1

  pub heard-well : (now : ℤ) (message : Message) → (up : IsUpAt net old) → up.saved.number < 4000000000 → Stands message net → CanHear message now → IsHeard message now old.node heard node → HeardWell net old node heard
  heard-well now message up few stands can is =
      heard-by up.saved up.owed up.hand now message up up.good up.owes few stands can up.node up.link up.back up.joined up.bound is

-- What is pushed are items.
pub items-postable : (around : List Message) (held : List Held) → AllByRecursion (IsPostable around) (map item_message held)
items-postable around [] = tt
items-postable around (one ∷ held) = (tt, items-postable around held)
