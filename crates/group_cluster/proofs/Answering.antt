-- What an entry leaves as it is answered.
use Rattle.std.proofs.Common.{ℕ, ℤ, suc, inl, Bool, true, false, if◌then◌else◌, List, [], ◌∷◌, ◌++◌, length, refl}
use Rattle.cluster_facts.specs.Types.{Call, Reply, Entry, Called, Receipted, Message, Answer}
use Rattle.cluster_facts.specs.Lists.{Stands}
use Rattle.cluster_facts.specs.Messages.{Posting, Spelled, messages_in}
use Rattle.cluster_facts.specs.Service.{Plain, IsPlain, answers_in}
use Rattle.cluster_facts.specs.Agents.{Agent}
use Rattle.cluster_facts.specs.History.{Empty, Ready}
use Rattle.cluster_facts.specs.World.{World, knows}
use Rattle.cluster_facts.specs.Facts.{Facts}
use Rattle.cluster_facts.proofs.Words.{by_test}
use Rattle.cluster_facts.proofs.Posting.{posted-keeps}
use Rattle.cluster_facts.proofs.Keeping.{Facts-answered, Facts-post_answer}
use Rattle.cluster_events.specs.Lines.{Told, Posted}
use Rattle.cluster_events.specs.Cores.{with_core}
use Rattle.group_cluster.specs.Answering.{net_answering, lines_answering}

-- the entry's reply is among those of the history with it
reply-stands : (plain : Plain) (past : List Entry) (client number : ℕ) (time : ℤ) (call : Call) → Stands (number, plain.reply past client number time call) (answers_in plain client (Called client number time call ∷ past))
reply-stands plain past client number time call =
    let told : ℕ × Reply = (number, plain.reply past client number time call) in
    let P : Bool → Type 0 = λ b. Stands told (if b then told ∷ answers_in plain client past else answers_in plain client past) in
    by_test P client client (λ same. inl refl) (λ different. absurd (different refl))

-- the facts go on
pub answer-facts : (plain : Plain) → IsPlain plain → (now : ℤ) (past : List Entry) (entry : Entry) (net : List Posting) (agents : ℕ → Agent) → Facts plain now (entry ∷ past) past (messages_in net) agents → Facts plain now (entry ∷ past) (entry ∷ past) (messages_in (net_answering plain past entry net)) agents
answer-facts plain is_plain now past (Called client number time call) net agents facts =
    let entry = Called client number time call in
    Facts-post_answer plain is_plain now (entry ∷ past) (entry ∷ past) net agents client number (plain.reply past client number time call) (reply-stands plain past client number time call) (Facts-answered plain is_plain now (entry ∷ past) past (messages_in net) agents entry facts)
answer-facts plain is_plain now past (Receipted client key through time) net agents facts =
    Facts-answered plain is_plain now (Receipted client key through time ∷ past) past (messages_in net) agents (Receipted client key through time) facts

-- no message goes from the net
pub answer-net : (plain : Plain) → IsPlain plain → (past : List Entry) (entry : Entry) (net : List Posting) (message : Message) → Stands message (messages_in net) → Stands message (messages_in (net_answering plain past entry net))
answer-net plain is_plain past (Called client number time call) net message stands = posted-keeps plain is_plain (Answer client number (plain.reply past client number time call)) message net stands
answer-net plain is_plain past (Receipted client key through time) net message stands = stands

-- A relation of worlds and lines holds where it holds as the entry in hand becomes an answered one, and as a reply is posted.
pub answer-goes : (plain : Plain) (R : World → World → List Told → Type 0) → ((one two three : World) (first second : List Told) → R one two first → R two three second → R one three (second ++ first)) → ((world : World) (client number : ℕ) (reply : Reply) → R world (record world { net = Spelled (Answer client number reply) ∷ world.net }) (Posted (suc (length world.net)) (Answer client number reply) ∷ [])) → ((world : World) (past : List Entry) (entry : Entry) → R (with_core past (Ready entry) world) (with_core (entry ∷ past) Empty world) []) → (world : World) (past : List Entry) (entry : Entry) → R (with_core past (Ready entry) world) (record (with_core (entry ∷ past) Empty world) { net = net_answering plain past entry world.net }) (lines_answering plain past entry world.net)
answer-goes plain R both posts answered world past (Called client number time call) =
    let entry = Called client number time call in
    let reply = plain.reply past client number time call in
    let message = Answer client number reply in
    let old : World = with_core past (Ready entry) world in
    let done : World = with_core (entry ∷ past) Empty world in
    elim (knows plain message world.net) as (λ b. R old (record done { net = if b then world.net else Spelled message ∷ world.net }) (if b then [] else Posted (suc (length world.net)) message ∷ [])) [
      | true ↦ answered world past entry
      | false ↦ both old done (record done { net = Spelled message ∷ world.net }) [] (Posted (suc (length world.net)) message ∷ []) (answered world past entry) (posts done client number reply)
    ]
answer-goes plain R both posts answered world past (Receipted client key through time) = answered world past (Receipted client key through time)
