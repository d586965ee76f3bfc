-- What stays as the history grows.
use Rattle.std.proofs.Common.{◌≡◌, ℕ, suc, ◌+◌, inr, Bool, true, false, ◌==◌, nat_lt, nat_le, if◌then◌else◌, ℤ, pos, negsuc, ◌≤ℤ◌, Some, List, [], ◌∷◌, length, slice_get, sym, subst, le_trans, leb→le, le→leb}
use lib.Signed.{≤ℤ_refl}
use Rattle.cluster_facts.specs.Types.{Call, Reply, Content, Entry, Called, Receipted, Callback, Message, Request, Answer, Delivery, Receipt}
use Rattle.cluster_facts.specs.Lists.{Stands, IsNumbered}
use Rattle.cluster_facts.specs.Messages.{calls_in}
use Rattle.cluster_facts.specs.Service.{Plain, IsPlain, IsMade, answers_in, subscribes, asked_for}
use Rattle.cluster_facts.specs.History.{Judged, New, Repeat, Old, Ahead, judged, MayFollow, NeverAbove, ReceiptsAreNew, IsLegal, time_of}
use Rattle.cluster_facts.specs.Facts.{IsToldItem, IsOfRun}
use Rattle.ais_values.proofs.Basics.{slice_get-append}
use Rattle.cluster_facts.proofs.Words.{by_test, each_client, Stands-right}

pub IsMade-grows : (plain : Plain) → IsPlain plain → (entry : Entry) (past : List Entry) (client key number : ℕ) (content : Content) → IsMade plain past client key number content → IsMade plain (entry ∷ past) client key number content
IsMade-grows plain is_plain entry past client key number content made =
    let grows = is_plain.grows entry past client key in
    let P : List Content → Type 0 = λ contents. slice_get contents made.0 ≡ Some content in
    (made.0, made.1, subst P (sym grows.1) (slice_get-append (plain.made past client key) grows.0 made.0 content made.2))

pub answers_in-grows : (plain : Plain) (entry : Entry) (past : List Entry) (client : ℕ) (x : ℕ × Reply) → Stands x (answers_in plain client past) → Stands x (answers_in plain client (entry ∷ past))
answers_in-grows plain (Called caller number time call) past client x stands =
    elim (caller == client) as (λ b. Stands x (if b then (number, plain.reply past caller number time call) ∷ answers_in plain client past else answers_in plain client past)) [
      | true ↦ inr stands
      | false ↦ stands
    ]
answers_in-grows plain _ past client x stands = stands

pub IsOfRun-grows : (plain : Plain) → IsPlain plain → (entry : Entry) (past : List Entry) (message : Message) → IsOfRun plain past message → IsOfRun plain (entry ∷ past) message
IsOfRun-grows plain is_plain entry past (Request client number call) is = tt
IsOfRun-grows plain is_plain entry past (Answer client number reply) is = answers_in-grows plain entry past client (number, reply) is
IsOfRun-grows plain is_plain entry past (Delivery client key item) is = IsMade-grows plain is_plain entry past client key item.number item.content is
IsOfRun-grows plain is_plain entry past (Receipt client key through) is = tt
IsOfRun-grows plain is_plain entry past _ is = elim is [ ]

pub IsToldItem-grows : (plain : Plain) → IsPlain plain → (entry : Entry) (past : List Entry) (sent : List (ℕ × Call)) (client : ℕ) (mark : ℕ × ℕ) (callback : Callback) → IsToldItem plain past sent client mark callback → IsToldItem plain (entry ∷ past) sent client mark callback
IsToldItem-grows plain is_plain entry past sent client mark callback told = record {
  id = told.id;
  asked = told.asked;
  content = told.content;
  made = IsMade-grows plain is_plain entry past client mark.0 mark.1 told.content told.made;
  is = told.is;
}

pub IsToldItem-sends : (plain : Plain) (past : List Entry) (call : ℕ × Call) (sent : List (ℕ × Call)) (client : ℕ) (mark : ℕ × ℕ) (callback : Callback) → IsToldItem plain past sent client mark callback → IsToldItem plain past (call ∷ sent) client mark callback
IsToldItem-sends plain past call sent client mark callback told = record {
  id = told.id;
  asked = Stands-right (mark.0, told.id) (subscribes call.0 call.1) (asked_for sent) told.asked;
  content = told.content;
  made = told.made;
  is = told.is;
}

-- Which entries may follow.

pub judged-new : (number count : ℕ) → judged number count ≡ New → number ≡ suc count
judged-new number count is =
    let rest : Bool → Bool → Judged = λ b c. if b then Ahead else if c then Old else Repeat in
    let P : Bool → Type 0 = λ b. (if b then New else rest (nat_lt count number) (nat_le (number + 32) count)) ≡ New → number ≡ suc count in
    let never : (b c : Bool) → rest b c ≡ New → number ≡ suc count = elim [ true ↦ λ c e. cc | false ↦ elim [ true ↦ λ e. cc | false ↦ λ e. cc ] ] in
    by_test P number (suc count) (λ same e. same) (λ different. never (nat_lt count number) (nat_le (number + 32) count)) is

-- Times.

pub ≤ℤ-trans : (a b c : ℤ) → a ≤ℤ b → b ≤ℤ c → a ≤ℤ c
≤ℤ-trans (pos a) (pos b) (pos c) h k = record { le = le→leb a c (le_trans (leb→le a b h.le) (leb→le b c k.le)) }
≤ℤ-trans (pos a) (pos b) (negsuc c) h k = absurd k.le
≤ℤ-trans (pos a) (negsuc b) c h k = absurd h.le
≤ℤ-trans (negsuc a) (pos b) (pos c) h k = record { le = tt }
≤ℤ-trans (negsuc a) (pos b) (negsuc c) h k = absurd k.le
≤ℤ-trans (negsuc a) (negsuc b) (pos c) h k = record { le = tt }
≤ℤ-trans (negsuc a) (negsuc b) (negsuc c) h k = record { le = le→leb c a (le_trans (leb→le c b k.le) (leb→le b a h.le)) }

pub NeverAbove-later : (now later : ℤ) (past : List Entry) → now ≤ℤ later → NeverAbove now past → NeverAbove later past
NeverAbove-later now later [] after times = tt
NeverAbove-later now later (entry ∷ past) after times = (≤ℤ-trans (time_of entry) now later times.0 after, times.1)

-- Legal histories.

pub IsLegal-follow : (plain : Plain) (now : ℤ) (past : List Entry) (entry : Entry) → MayFollow plain past entry → time_of entry ≡ now → IsLegal plain now past → IsLegal plain now (entry ∷ past)
IsLegal-follow plain now past (Called client number time call) may at legal =
    let next = judged-new number (length (calls_in client past)) may in
    let P : ℤ → Type 0 = λ t. NeverAbove t past in
    record {
      numbered = each_client (λ other b. IsNumbered (if b then (number, call) ∷ calls_in other past else calls_in other past)) client (next, legal.numbered client) (λ other. legal.numbered other);
      receipts = legal.receipts;
      times = (subst (λ t. t ≤ℤ now) (sym at) (≤ℤ_refl now), subst P (sym at) legal.times);
    }
IsLegal-follow plain now past (Receipted client key through time) may at legal =
    let P : ℤ → Type 0 = λ t. NeverAbove t past in
    record {
      numbered = legal.numbered;
      receipts = (may, legal.receipts);
      times = (subst (λ t. t ≤ℤ now) (sym at) (≤ℤ_refl now), subst P (sym at) legal.times);
    }

numbered-tail : (entry : Entry) (past : List Entry) (client : ℕ) → IsNumbered (calls_in client (entry ∷ past)) → IsNumbered (calls_in client past)
numbered-tail (Called caller number time call) past client numbered =
    let P : Bool → Type 0 = λ b. IsNumbered (if b then (number, call) ∷ calls_in client past else calls_in client past) → IsNumbered (calls_in client past) in
    let cases : (b : Bool) → P b = elim [ true ↦ λ n. n.1 | false ↦ λ n. n ] in
    cases (caller == client) numbered
numbered-tail _ past client numbered = numbered

receipts-tail : (plain : Plain) (entry : Entry) (past : List Entry) → ReceiptsAreNew plain (entry ∷ past) → ReceiptsAreNew plain past
receipts-tail plain (Receipted client key through time) past receipts = receipts.1
receipts-tail plain _ past receipts = receipts

-- a legal history without its last entry is legal
pub IsLegal-before : (plain : Plain) (now : ℤ) (entry : Entry) (past : List Entry) → IsLegal plain now (entry ∷ past) → IsLegal plain now past
IsLegal-before plain now entry past legal = record {
  numbered = λ client. numbered-tail entry past client (legal.numbered client);
  receipts = receipts-tail plain entry past legal.receipts;
  times = NeverAbove-later (time_of entry) now past legal.times.0 legal.times.1;
}

pub IsLegal-later : (plain : Plain) (now later : ℤ) (past : List Entry) → now ≤ℤ later → IsLegal plain now past → IsLegal plain later past
IsLegal-later plain now later past after legal = record {
  numbered = legal.numbered;
  receipts = legal.receipts;
  times = NeverAbove-later now later past after legal.times;
}
