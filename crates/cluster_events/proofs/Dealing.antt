-- Replies with their calls: what is kept by an agent is what the history has.
use Rattle.std.proofs.Common.{◌≡◌, ℕ, ℤ, inl, inr, Bool, true, false, ◌==◌, if◌then◌else◌, Some, List, [], ◌∷◌, refl, ap, sym, subst}
use Rattle.std.specs.List.{AllByRecursion}
use Rattle.cluster_facts.specs.Types.{Call, Reply, Entry, Called, Receipted, Answer}
use Rattle.cluster_facts.specs.Lists.{Stands}
use Rattle.cluster_facts.specs.Messages.{sent_by, calls_in, messages_in}
use Rattle.cluster_facts.specs.Service.{Plain, answers_in}
use Rattle.cluster_facts.specs.Storage.{dealt_in}
use Rattle.cluster_facts.specs.Agents.{kept_call}
use Rattle.cluster_facts.specs.History.{Hand, Empty, Waiting, Applied, Ready, accepted_by}
use Rattle.cluster_facts.specs.World.{World}
use Rattle.cluster_facts.specs.Facts.{IsSound, IsOfRun}
use Rattle.cluster_facts.proofs.Words.{by_test, All-at, All-map, EndsIn-stands, IsNumbered-once}
use Rattle.cluster_facts.proofs.Clients.{kept_call-stands}
use Rattle.cluster_events.specs.Promises.{IsAnswered}
use Rattle.cluster_events.proofs.Carrying.{Keeps-sent}

-- a reply of the history is that to a call
pub answers-dealt : (plain : Plain) (client number : ℕ) (reply : Reply) (past : List Entry) → Stands (number, reply) (answers_in plain client past) → (call : Call) × Stands (number, call, reply) (dealt_in plain client past)
answers-dealt plain client number reply [] stands = elim stands [ ]
answers-dealt plain client number reply (Called caller other time asked ∷ past) stands =
    let told : Reply = plain.reply past caller other time asked in
    let A : Bool → List (ℕ × Reply) = λ b. if b then (other, told) ∷ answers_in plain client past else answers_in plain client past in
    let D : Bool → List (ℕ × Call × Reply) = λ b. if b then (other, asked, told) ∷ dealt_in plain client past else dealt_in plain client past in
    let cases : (b : Bool) → Stands (number, reply) (A b) → (call : Call) × Stands (number, call, reply) (D b) = elim [
      | true ↦ elim [
        | inl here ↦ (asked, inl (ap (λ (p : ℕ × Reply). (p.0, asked, p.1)) here))
        | inr there ↦ let deeper = answers-dealt plain client number reply past there in (deeper.0, inr deeper.1)
      ]
      | false ↦ λ there. answers-dealt plain client number reply past there
    ] in
    cases (caller == client) stands
answers-dealt plain client number reply (Receipted sender key through time ∷ past) stands = answers-dealt plain client number reply past stands

-- such a call stands in the history
dealt-called : (plain : Plain) (client : ℕ) (deal : ℕ × Call × Reply) (past : List Entry) → Stands deal (dealt_in plain client past) → Stands (deal.0, deal.1) (calls_in client past)
dealt-called plain client deal [] stands = elim stands [ ]
dealt-called plain client deal (Called caller other time asked ∷ past) stands =
    let told : Reply = plain.reply past caller other time asked in
    let D : Bool → List (ℕ × Call × Reply) = λ b. if b then (other, asked, told) ∷ dealt_in plain client past else dealt_in plain client past in
    let C : Bool → List (ℕ × Call) = λ b. if b then (other, asked) ∷ calls_in client past else calls_in client past in
    let cases : (b : Bool) → Stands deal (D b) → Stands (deal.0, deal.1) (C b) = elim [
      | true ↦ elim [
        | inl here ↦ inl (ap (λ (p : ℕ × Call × Reply). (p.0, p.1)) here)
        | inr there ↦ inr (dealt-called plain client deal past there)
      ]
      | false ↦ λ there. dealt-called plain client deal past there
    ] in
    cases (caller == client) stands
dealt-called plain client deal (Receipted sender key through time ∷ past) stands = dealt-called plain client deal past stands

calls-grow : (client : ℕ) (x : ℕ × Call) (entry : Entry) (past : List Entry) → Stands x (calls_in client past) → Stands x (calls_in client (entry ∷ past))
calls-grow client x (Called caller number time call) past stands =
    elim (caller == client) as (λ b. Stands x (if b then (number, call) ∷ calls_in client past else calls_in client past)) [ true ↦ inr stands | false ↦ stands ]
calls-grow client x (Receipted sender key through time) past stands = stands

calls-accepted : (client : ℕ) (x : ℕ × Call) (past : List Entry) (hand : Hand) → Stands x (calls_in client past) → Stands x (calls_in client (accepted_by past hand))
calls-accepted client x past Empty stands = stands
calls-accepted client x past (Waiting entry) stands = calls-grow client x entry past stands
calls-accepted client x past (Applied entry) stands = calls-grow client x entry past stands
calls-accepted client x past (Ready entry) stands = calls-grow client x entry past stands

-- the reply that is posted to a call that the agent keeps is the service's to that call
pub reply-dealt : (plain : Plain) (world : World) (client number : ℕ) (call : Call) (reply : Reply) → IsSound plain world → kept_call number (world.agents client).kept ≡ Some call → Stands (Answer client number reply) (messages_in world.net) → Stands (number, call, reply) (dealt_in plain client world.core.answered)
reply-dealt plain world client number call reply sound kept stands =
    let past = world.core.answered in
    let own = sound.facts.clients client in
    let sent = sent_by client (messages_in world.net) in
    let dealt = answers-dealt plain client number reply past (All-at (IsOfRun plain past) (Answer client number reply) (messages_in world.net) sound.facts.run stands) in
    let here : Stands (number, call) sent = Keeps-sent (number, call) own.awaits.keeps (kept_call-stands number (world.agents client).kept call kept) in
    let heard = calls-accepted client (number, dealt.0) past world.core.hand (dealt-called plain client (number, dealt.0, reply) past dealt.1) in
    let there : Stands (number, dealt.0) sent = EndsIn-stands (number, dealt.0) sent (calls_in client (accepted_by past world.core.hand)) own.sends.first heard in
    let same = IsNumbered-once (number, dealt.0) (number, call) sent own.sends.numbered there here refl in
    subst (λ c. Stands (number, c, reply) (dealt_in plain client past)) (ap (λ (p : ℕ × Call). p.1) same) dealt.1

further : (plain : Plain) (client : ℕ) (entry : Entry) (past : List Entry) (deal : ℕ × Call × Reply) → IsAnswered plain past client deal → IsAnswered plain (entry ∷ past) client deal
further plain client entry past deal answered = record {
  later = entry ∷ answered.later;
  earlier = answered.earlier;
  time = answered.time;
  stands = ap (λ rest. entry ∷ rest) answered.stands;
  reply = answered.reply;
}

-- the newest entry is the client's call
newest-answered : (plain : Plain) (client caller other : ℕ) (time : ℤ) (asked : Call) (past : List Entry) (deal : ℕ × Call × Reply) → caller ≡ client → deal ≡ (other, asked, plain.reply past caller other time asked) → IsAnswered plain (Called caller other time asked ∷ past) client deal
newest-answered plain client caller other time asked past deal same here =
    let told : Reply = plain.reply past caller other time asked in
    let entry = Called caller other time asked in
    let D : ℕ × Call × Reply → Type 0 = λ d. IsAnswered plain (entry ∷ past) client d in
    let Q : ℕ → Type 0 = λ c. IsAnswered plain (entry ∷ past) c (other, asked, told) in
    let own : Q caller = record { later = []; earlier = past; time = time; stands = refl; reply = refl } in
    subst D (sym here) (subst Q same own)

-- a call with its reply, as the history has them
pub dealt-answered : (plain : Plain) (client : ℕ) (past : List Entry) (deal : ℕ × Call × Reply) → Stands deal (dealt_in plain client past) → IsAnswered plain past client deal
dealt-answered plain client [] deal stands = elim stands [ ]
dealt-answered plain client (Called caller other time asked ∷ past) deal stands =
    let told : Reply = plain.reply past caller other time asked in
    let entry = Called caller other time asked in
    let P : Bool → Type 0 = λ b. Stands deal (if b then (other, asked, told) ∷ dealt_in plain client past else dealt_in plain client past) → IsAnswered plain (entry ∷ past) client deal in
    let deeper : Stands deal (dealt_in plain client past) → IsAnswered plain (entry ∷ past) client deal = λ there. further plain client entry past deal (dealt-answered plain client past deal there) in
    by_test P caller client
    (λ same. elim [ inl here ↦ newest-answered plain client caller other time asked past deal same here | inr there ↦ deeper there ])
    (λ different. deeper)
    stands
dealt-answered plain client (Receipted sender key through time ∷ past) deal stands =
    further plain client (Receipted sender key through time) past deal (dealt-answered plain client past deal stands)

pub deals-answered : (plain : Plain) (client : ℕ) (past : List Entry) (deals : List (ℕ × Call × Reply)) → AllByRecursion (λ (deal : ℕ × Call × Reply). Stands deal (dealt_in plain client past)) deals → AllByRecursion (IsAnswered plain past client) deals
deals-answered plain client past deals all =
    All-map (λ (deal : ℕ × Call × Reply). Stands deal (dealt_in plain client past)) (IsAnswered plain past client) deals (dealt-answered plain client past) all
