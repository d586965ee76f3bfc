-- What any servers that do what a group does keep: no step of theirs asks anything, and an acceptance tells what it leaves.
use Rattle.std.proofs.Common.{◌≡◌, ℕ, suc, true, false, ◌||◌, if◌then◌else◌, List, [], ◌∷◌, length, refl, sym, subst, inl, inr}
use Rattle.cluster_facts.specs.Types.{Entry, Called, Receipted, Answer}
use Rattle.cluster_facts.specs.Messages.{Posting, Spelled, messages_in, sent_by}
use Rattle.cluster_facts.specs.Service.{Plain, IsPlain}
use Rattle.cluster_facts.specs.History.{Hand, Empty, Waiting, Applied, Ready, committed_by}
use Rattle.cluster_facts.specs.World.{World, knows}
use Rattle.cluster_events.specs.Cores.{with_core}
use Rattle.cluster_events.specs.Lines.{Told, Posted, Committed}
use Rattle.cluster_events.specs.Servers.{State}
use Rattle.cluster_events.specs.Devices.{Device}
use Rattle.cluster_events.specs.Serving.{IsCarried, AreStepped}
use Rattle.cluster_events.proofs.Carrying.{IsTold}
use Rattle.cluster_events.proofs.Telling.{Says-told}
use Rattle.event_text.specs.Texts.{printed}
use Rattle.group_cluster.specs.Answering.{net_answering, lines_answering}
use Rattle.group_cluster.specs.Seats.{Seat, Peers, IsGroup, is_sent, is_took, any_seat, on_seats}
use Rattle.group_cluster.specs.Falling.{looked_at, taken_by, commitment}
use Rattle.group_cluster.specs.Group.{sent_to, accept_group, group}
use Rattle.group_cluster.proofs.Stepping.{Bears}
use Rattle.group_cluster.proofs.Serving.{group-carries, group-stepped}
use Rattle.group_cluster.proofs.Saying.{says-borne}
use Rattle.cluster_rounds.specs.PartlyDone.{SaysUnasked}
use Rattle.cluster_rounds.specs.Timely.{AreTimely}
use Rattle.cluster_rounds.specs.Measured.{Measured, IsMeasured}
use Rattle.cluster_rounds.proofs.UnaskedSteps.{waits-same, asks-none, asks-both}
use Rattle.cluster_rounds.proofs.HearSteps.{measured-entry}
use Rattle.cluster_clients.proofs.ToldLines.{not-less}

-- No step of the servers asks anything.

-- no client sends anything as an entry is answered
answer-sent : (plain : Plain) (past : List Entry) (entry : Entry) (net : List Posting) (client : ℕ)
    → sent_by client (messages_in (net_answering plain past entry net)) ≡ sent_by client (messages_in net)
answer-sent plain past (Called caller number time call) net client =
    let message = Answer caller number (plain.reply past caller number time call) in
    let S : List Posting → Type 0 = λ after. sent_by client (messages_in after) ≡ sent_by client (messages_in net) in
    elim (knows plain message net) as (λ b. S (if b then net else Spelled message ∷ net)) [ true ↦ refl | false ↦ refl ]
answer-sent plain past (Receipted caller key through time) net client = refl

-- no line on a reply tells an entry
answer-times : (plain : Plain) (past : List Entry) (entry : Entry) (net : List Posting) (world : World) → AreTimely world (lines_answering plain past entry net)
answer-times plain past (Called client number time call) net world =
    let message = Answer client number (plain.reply past client number time call) in
    elim (knows plain message net) as (λ b. AreTimely world (if b then [] else Posted (suc (length net)) message ∷ [])) [ true ↦ tt | false ↦ tt ]
answer-times plain past (Receipted client key through time) net world = tt

pub unasked-borne : (plain : Plain) → Bears plain (SaysUnasked plain)
unasked-borne plain =
    let says = says-borne plain in
    record {
      same = λ world. record { says = says.same world; asks = asks-none world };
      both = λ one two three first second before after. record {
        says = says.both one two three first second before.says after.says;
        asks = asks-both one two three first second before.asks after.asks;
      };
      stood = λ world server stands_as. record {
        says = says.stood world server stands_as;
        asks = record { sent = λ client. refl; now = refl; times = tt; waits = waits-same world world.core.hand refl };
      };
      refused = λ world text standing. record {
        says = says.refused world text standing;
        asks = record { sent = λ client. refl; now = refl; times = tt; waits = waits-same world world.core.hand refl };
      };
      taken = λ world past entry in_force. record {
        says = says.taken world past entry in_force;
        asks = record { sent = λ client. refl; now = refl; times = tt; waits = inl in_force };
      };
      applied = λ world past entry sound. record {
        says = says.applied world past entry sound;
        asks = record { sent = λ client. refl; now = refl; times = (inr refl, tt); waits = tt };
      };
      confirmed = λ world past entry. record {
        says = says.confirmed world past entry;
        asks = record { sent = λ client. refl; now = refl; times = tt; waits = tt };
      };
      worked = λ world past entry. record {
        says = says.worked world past entry;
        asks = record {
          sent = answer-sent plain past entry world.net;
          now = refl;
          times = answer-times plain past entry world.net (with_core past (Ready entry) world);
          waits = tt;
        };
      };
      over = λ world past hand. record {
        says = says.over world past hand;
        asks = record { sent = λ client. refl; now = refl; times = tt; waits = tt };
      };
    }

-- nor does a step of the clients' side
pub unasked-told : (plain : Plain) → IsTold plain (SaysUnasked plain)
unasked-told plain =
    let says = Says-told plain in
    record {
      same = λ world. record { says = says.same world; asks = asks-none world };
      both = λ one two three first second before after. record {
        says = says.both one two three first second before.says after.says;
        asks = asks-both one two three first second before.asks after.asks;
      };
      ignored = λ world place why. record {
        says = says.ignored world place why;
        asks = record { sent = λ client. refl; now = refl; times = tt; waits = waits-same world world.core.hand refl };
      };
      answer = λ world client number reply. record {
        says = says.answer world client number reply;
        asks = record { sent = λ other. refl; now = refl; times = tt; waits = waits-same world world.core.hand refl };
      };
      pushed = λ world client key item. record {
        says = says.pushed world client key item;
        asks = record { sent = λ other. refl; now = refl; times = tt; waits = waits-same world world.core.hand refl };
      };
      reply = λ world client number call reply sound kept place stands. record {
        says = says.reply world client number call reply sound kept place stands;
        asks = record { sent = λ other. refl; now = refl; times = tt; waits = waits-same world world.core.hand refl };
      };
      item = λ world client key item found sound here next place stands. record {
        says = says.item world client key item found sound here next place stands;
        asks = record { sent = λ other. refl; now = refl; times = tt; waits = waits-same world world.core.hand refl };
      };
    }

-- so each step that a round is made of says what happened, and asks nothing
pub group-unasked : (n : ℕ) (plain : Plain) (device : Device) → IsPlain plain → IsCarried plain (group plain device) (IsGroup n) (SaysUnasked plain)
group-unasked n plain device is_plain = group-carries n plain is_plain device (SaysUnasked plain) (unasked-borne plain) (unasked-told plain)

-- nor does a step of a drain
pub group-steps-unasked : (n : ℕ) (plain : Plain) (device : Device) → IsPlain plain → AreStepped plain (group plain device) (IsGroup n) (SaysUnasked plain)
group-steps-unasked n plain device is_plain = group-stepped n plain is_plain device (SaysUnasked plain) (unasked-borne plain)

-- What an acceptance leaves, and what its lines tell.

-- nothing was told, and nothing grew
measured-none : (past net : ℕ) → Measured past past net net []
measured-none past net = record {
  loud = sym (not-less past);
  lines = λ i. if sym (not-less past) i || sym (not-less net) i then printed [] else [];
}

-- an entry that is looked at waits, or is committed
looked-measured : (seats : List Seat) (past : List Entry) (net : ℕ) (entry : Entry)
    → Measured (length past) (length (committed_by past (looked_at seats (Waiting entry)))) net net (commitment seats past (Waiting entry))
looked-measured seats past net entry =
    let told = Committed (suc (length past)) entry ∷ [] in
    let M : Hand → Type 0 = λ hand. Measured (length past) (length (committed_by past hand)) net net told in
    let grew : M (taken_by seats entry) = elim (any_seat is_took seats) as (λ b. M (if b then Applied entry else Ready entry)) [
      | true ↦ measured-entry (length past) net (suc (length past)) entry
      | false ↦ measured-entry (length past) net (suc (length past)) entry
    ] in
    let W : Hand → List Told → Type 0 = λ hand lines. Measured (length past) (length (committed_by past hand)) net net lines in
    elim (any_seat is_sent seats) as (λ b. W (if b then Waiting entry else taken_by seats entry) (if b then [] else told)) [
      | true ↦ measured-none (length past) net
      | false ↦ grew
    ]

pub accept-measured : (entry : Entry) (state : State Peers) → state.world.core.hand ≡ Empty → IsMeasured state.world (accept_group entry state)
accept-measured entry state empty =
    let past = state.world.core.answered in
    let net = length state.world.net in
    let sent = on_seats sent_to state.peers.seats in
    let new = length (committed_by past (looked_at sent (Waiting entry))) in
    let M : Hand → Type 0 = λ hand. Measured (length (committed_by past hand)) new net net (commitment sent past (Waiting entry)) in
    subst M (sym empty) (looked-measured sent past net entry)
