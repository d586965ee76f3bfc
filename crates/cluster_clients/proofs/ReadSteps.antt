-- Byte strings that are read back from the net.
use Rattle.std.proofs.Common.{◌≡◌, ℕ, suc, Bool, true, false, ◌==◌, if◌then◌else◌, Some, None, List, [], ◌∷◌, ◌++◌, length, refl, ap, sym, ◌∙◌, subst, append-nil}
use Rattle.wire.specs.declared.message.Message.{Message}
use Rattle.wire.specs.declared.message.WireWhy.{WireWhy}
use Rattle.wire.specs.MessageSpelling.{message_text}
use Rattle.wire.specs.Messages.{Spells, IsRefusedAt}
use Rattle.message_net.specs.Nets as bytes
use Rattle.cluster_facts.specs.Messages.{Posting, Spelled, Raw}
use Rattle.cluster_facts.specs.World.{posting_at}
use Rattle.cluster_clients.specs.declared.fetching.Fetched.{Fetched}
use Rattle.cluster_clients.specs.declared.fetching.Fetched.TheVariants.{Whole, Bad}
use Rattle.cluster_clients.specs.Spelled.{IsString, AreSpelled, SpellingsTell, IsFetched}
use Rattle.cluster_clients.specs.Fetching.{IsReadAs}
use Rattle.cluster_clients.proofs.PostingSteps.{spelled-length}

fetched-none : (place : ℕ) (postings : List Posting) (net : List (List ℕ)) → AreSpelled postings net → bytes.bytes_at place net ≡ None → posting_at place postings ≡ None
fetched-none place [] net spelled none = refl
fetched-none place (posting ∷ postings) [] spelled none = elim spelled [ ]
fetched-none place (posting ∷ postings) (known ∷ net) spelled none =
    let same : suc (length postings) ≡ suc (length net) = ap suc (spelled-length postings net spelled.1) in
    let P : Bool → Type 0 = λ b. (if b then Some known else bytes.bytes_at place net) ≡ None → (if b then Some posting else posting_at place postings) ≡ None in
    let cases : (b : Bool) → P b = elim [ true ↦ λ e. cc | false ↦ λ e. fetched-none place postings net spelled.1 e ] in
    ap (λ n. if place == n then Some posting else posting_at place postings) same ∙ cases (place == suc (length net)) none

-- what stands at the place of a string, beside the string
record IsThere (place : ℕ) (string : List ℕ) (postings : List Posting) : Type 0 where
  posting : Posting
  there : posting_at place postings ≡ Some posting
  is : IsString posting string

fetched-there : (place : ℕ) (string : List ℕ) (postings : List Posting) (net : List (List ℕ)) → AreSpelled postings net → bytes.bytes_at place net ≡ Some string → IsThere place string postings
fetched-there place string [] [] spelled found = cc
fetched-there place string [] (known ∷ net) spelled found = elim spelled [ ]
fetched-there place string (other ∷ postings) [] spelled found = elim spelled [ ]
fetched-there place string (other ∷ postings) (known ∷ net) spelled found =
    let same : suc (length postings) ≡ suc (length net) = ap suc (spelled-length postings net spelled.1) in
    let A : Bool → Type 0 = λ b. (posting : Posting) × ((if b then Some other else posting_at place postings) ≡ Some posting) × IsString posting string in
    let P : Bool → Type 0 = λ b. (if b then Some known else bytes.bytes_at place net) ≡ Some string → A b in
    let own : P true = λ is. let it : known ≡ string = cc in (other, refl, subst (IsString other) it spelled.0) in
    let deeper : P false = λ is. let rest = fetched-there place string postings net spelled.1 is in (rest.posting, rest.there, rest.is) in
    let cases : (b : Bool) → P b = elim [ true ↦ own | false ↦ deeper ] in
    let all = subst (λ n. A (place == n)) (sym same) (cases (place == suc (length net)) found) in
    record { posting = all.0; there = all.1; is = all.2 }

-- a string that a message spells stands there as that message, and another one as what it is read as
whole-there : SpellingsTell → (message : Message) (string : List ℕ) (posting : Posting) → Spells message string → IsString posting string → posting ≡ Spelled message
whole-there tell message string (Spelled other) spells is =
    let texts : message_text message ≡ message_text other ++ [] = sym spells.is ∙ is.is ∙ sym (append-nil (message_text other)) in
    ap Spelled (tell other message [] is.fits spells.fits texts).0
whole-there tell message string (Raw raw front why) spells is =
    absurd (is.2.unspelled message (subst (Spells message) is.0 spells))

bad-there : (string : List ℕ) (front : ℕ) (why : WireWhy) (posting : Posting) → IsReadAs string (Bad front why) → IsString posting string → (raw : List ℕ) × (posting ≡ Raw raw front why)
bad-there string front why (Spelled message) read is = absurd (read.0.unspelled message is)
bad-there string front why (Raw raw other reason) read is =
    let same = read.1 other reason (subst (λ bytes. IsRefusedAt bytes other reason) (sym is.0) is.2) in
    (raw, λ i. Raw raw (same.0 i) (same.1 i))

pub fetches-none : (place : ℕ) (net : List (List ℕ)) → bytes.bytes_at place net ≡ None → IsFetched place net None
fetches-none place net none postings spelled = fetched-none place postings net spelled none

pub fetches-some : SpellingsTell → (place : ℕ) (fetched : Fetched) (string : List ℕ) (net : List (List ℕ)) → IsReadAs string fetched → bytes.bytes_at place net ≡ Some string → IsFetched place net (Some fetched)
fetches-some tell place (Whole message) string net spells found = (
  spells.fits,
  λ postings spelled.
      let it = fetched-there place string postings net spelled found in
      it.there ∙ ap Some (whole-there tell message string it.posting spells it.is),
)
fetches-some tell place (Bad front why) string net read found = λ postings spelled.
    let it = fetched-there place string postings net spelled found in
    let bad = bad-there string front why it.posting read it.is in
    (bad.0, it.there ∙ ap Some bad.1)
