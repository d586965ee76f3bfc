-- Events in which no client asks anything.
-- What an event adds.
use Rattle.std.proofs.Common.{◌≡◌, ℕ, suc, inl, inr, List, [], ◌∷◌, ◌++◌, length, refl, ap, sym, ◌∙◌, subst, arith}
use Rattle.std.specs.List.{AllByRecursion}
use Rattle.std.proofs.lemmas.List.{length-append}
use Rattle.cluster_facts.specs.Types.{Call, Reply, Entry}
use Rattle.cluster_facts.specs.Lists.{Stands, EndsIn}
use Rattle.cluster_facts.specs.Service.{Plain}
use Rattle.cluster_facts.specs.Storage.{dealt_in}
use Rattle.cluster_facts.specs.History.{Hand, Empty, Waiting, Applied, Ready}
use Rattle.cluster_facts.specs.World.{World}
use Rattle.cluster_facts.proofs.Words.{All-map, All-append, EndsIn-stands}
use Rattle.cluster_events.specs.Lines.{Told}
use Rattle.cluster_events.specs.Saying.{seconds, entry_in, deal_in, deals_told, entries_told}
use Rattle.cluster_events.proofs.Telling.{gathered-append, Says-same, dealt-more}
use Rattle.cluster_rounds.specs.PartlyDone.{AsksNone, SaysUnasked}
use Rattle.cluster_rounds.specs.Timely.{AreTimely, IsTimely, IsTimelyIn}

-- an entry that waits is timely
pub waits-same : (world : World) (hand : Hand) → world.core.hand ≡ hand → IsTimelyIn world hand
waits-same world (Waiting entry) is = inr is
waits-same world Empty is = tt
waits-same world (Applied entry) is = tt
waits-same world (Ready entry) is = tt

-- what is timely in a world of the same time is so in the one before it, if what waits there is
pub timely-before : (one two : World) (entry : Entry) → two.now ≡ one.now → IsTimelyIn one two.core.hand → IsTimely two entry → IsTimely one entry
timely-before one two entry now before (inl same) = inl (same ∙ now)
timely-before one two entry now before (inr waits) = subst (IsTimelyIn one) waits before

pub waits-before : (one two : World) (hand : Hand) → two.now ≡ one.now → IsTimelyIn one two.core.hand → IsTimelyIn two hand → IsTimelyIn one hand
waits-before one two (Waiting entry) now before waits = timely-before one two entry now before waits
waits-before one two Empty now before waits = tt
waits-before one two (Applied entry) now before waits = tt
waits-before one two (Ready entry) now before waits = tt

-- entries that lines tell, behind others
pub timely-both : (one two : World) (first second : List Told) → two.now ≡ one.now → IsTimelyIn one two.core.hand → AreTimely one first → AreTimely two second → AreTimely one (second ++ first)
timely-both one two first second now before early late =
    let A : World → ℕ × Entry → Type 0 = λ world line. IsTimely world line.1 in
    let moved : AreTimely one second = All-map (A two) (A one) (entries_told second) (λ line from. timely-before one two line.1 now before from) late in
    subst (λ lines. AllByRecursion (A one) lines) (sym (gathered-append entry_in second first)) (All-append (A one) (entries_told second) (entries_told first) moved early)

pub asks-none : (world : World) → AsksNone world world []
asks-none world = record { sent = λ client. refl; now = refl; times = tt; waits = waits-same world world.core.hand refl }

pub asks-both : (one two three : World) (first second : List Told) → AsksNone one two first → AsksNone two three second → AsksNone one three (second ++ first)
asks-both one two three first second asks more = record {
  sent = λ client. more.sent client ∙ asks.sent client;
  now = more.now ∙ asks.now;
  times = timely-both one two first second asks.now asks.waits asks.times more.times;
  waits = waits-before one two three.core.hand asks.now asks.waits more.waits;
}

pub unasked-same : (plain : Plain) (world : World) → SaysUnasked plain world world []
unasked-same plain world = record { says = Says-same plain world; asks = asks-none world }

-- Deals of events, one after another.

pub deals-both : (plain : Plain) (client : ℕ) (before after : List Entry) (first second : List Told) → EndsIn after before → AllByRecursion (λ (deal : ℕ × Call × Reply). Stands deal (dealt_in plain client before)) (deals_told client first) → AllByRecursion (λ (deal : ℕ × Call × Reply). Stands deal (dealt_in plain client after)) (deals_told client second) → AllByRecursion (λ (deal : ℕ × Call × Reply). Stands deal (dealt_in plain client after)) (deals_told client (second ++ first))
deals-both plain client before after first second ends early late =
    let Old : ℕ × Call × Reply → Type 0 = λ deal. Stands deal (dealt_in plain client before) in
    let New : ℕ × Call × Reply → Type 0 = λ deal. Stands deal (dealt_in plain client after) in
    let E : List Entry → Type 0 = λ past. EndsIn (dealt_in plain client past) (dealt_in plain client before) in
    let grown : E after = subst E (sym ends.1) (dealt-more plain client ends.0 before) in
    let moved = All-map Old New (deals_told client first) (λ deal stands. EndsIn-stands deal (dealt_in plain client after) (dealt_in plain client before) grown stands) early in
    subst (λ deals. AllByRecursion New deals) (sym (gathered-append (deal_in client) second first)) (All-append New (deals_told client second) (deals_told client first) late moved)

-- a list that is the same after some lines as before them grew by none
pub grown-none : {X : Type 0} (xs : List X) (lines : List (ℕ × X)) → xs ≡ seconds lines ++ xs → lines ≡ []
grown-none xs [] is = refl
grown-none xs (line ∷ lines) is =
    let longer : length xs ≡ suc (length (seconds lines ++ xs)) = ap length is in
    let counted = length-append (seconds lines) xs in
    absurd (omega arith)
