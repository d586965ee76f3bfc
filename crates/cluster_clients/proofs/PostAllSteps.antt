-- Messages that are posted one after another, and the number of a message in the net.
use Rattle.std.proofs.Common.{◌≡◌, ℕ, zero, suc, ◌+◌, ◌<◌, Bool, true, false, if◌then◌else◌, Option, Some, None, List, [], ◌∷◌, ◌++◌, length, get_or, take, refl, ap, sym, ◌∙◌, subst, arith, append_assoc, append-nil, inl, inr}
use Rattle.std.specs.List.{AllByRecursion}
use Rattle.std.proofs.lemmas.List.{take_more}
use Rattle.std.specs.Str.{bytes_eq}
use Rattle.wire.specs.declared.message.Message.{Message}
use Rattle.wire.specs.Messages.{Spells}
use Rattle.message_net.specs.Nets as bytes
use Rattle.cluster_facts.specs.Service.{Plain, IsPlain}
use Rattle.cluster_facts.specs.Messages.{Posting, Spelled, Raw}
use Rattle.cluster_facts.specs.World.{posted, number_of}
use Rattle.cluster_events.specs.ClientEvents.{post_lines}
use Rattle.event_text.specs.Texts.{printed}
use Rattle.cluster_clients.specs.Spelled.{AreSpelled, SpellingsTell, Posts, IsNumberIn, PostsOrNot}
use Rattle.cluster_clients.specs.Posted.{posted_all, lines_all, PostsAll, PostsSome}
use Rattle.cluster_clients.proofs.PostingSteps.{apart, same-test, spelled-length}
use Rattle.cluster_clients.proofs.ToldLines.{printed-append}
use Rattle.cluster_facts.specs.Types.{Message}

-- an element that is read has what all elements have
pub all-read : {X : Type 0} (P : X → Type 0) (xs : List X) (place : ℕ) (x : X) → place < length xs → x ≡ get_or xs place x → AllByRecursion P xs → P x
all-read P [] place x within is all = absurd (omega arith)
all-read P (first ∷ xs) zero x within is all = subst P (sym is) all.0
all-read P (first ∷ xs) (suc place) x within is all = all-read P xs place x (omega arith) is all.1

pub posted-more : (plain : Plain) (messages : List Message) (message : Message) (net : List Posting) → posted_all plain (messages ++ message ∷ []) net ≡ posted plain message (posted_all plain messages net)
posted-more plain [] message net = refl
posted-more plain (first ∷ messages) message net = posted-more plain messages message (posted plain first net)

lines-more : (plain : Plain) (messages : List Message) (message : Message) (net : List Posting) → lines_all plain (messages ++ message ∷ []) net ≡ post_lines plain message (posted_all plain messages net) ++ lines_all plain messages net
lines-more plain [] message net = sym (append-nil (post_lines plain message net))
lines-more plain (first ∷ messages) message net =
    ap (λ late. late ++ post_lines plain first net) (lines-more plain messages message (posted plain first net))
    ∙ append_assoc (post_lines plain message (posted_all plain messages (posted plain first net))) (lines_all plain messages (posted plain first net)) (post_lines plain first net)

pub posts-none_yet : (net : List (List ℕ)) (lines : List (List ℕ)) → PostsAll [] net net lines lines
posts-none_yet net lines plain postings is_plain spelled = (spelled, sym (append-nil lines))

-- one message more
pub posts-one_more : (messages : List Message) (count : ℕ) (message : Message) (first old new before between after : List (List ℕ)) → count < length messages → message ≡ get_or messages count message → PostsAll (take count messages) first old before between → Posts message old new between after → PostsAll (take (count + 1) messages) first new before after
posts-one_more messages count message first old new before between after within is so_far posts plain net is_plain spelled =
    let front = take count messages in
    let more : take (count + 1) messages ≡ front ++ message ∷ [] = take_more messages count message within ∙ ap (λ m. front ++ m ∷ []) (sym is) in
    let done = so_far plain net is_plain spelled in
    let next = posts plain (posted_all plain front net) is_plain done.0 in
    let N : List Posting → Type 0 = λ ms. AreSpelled ms new in
    let told = lines_all plain front net in
    let added = post_lines plain message (posted_all plain front net) in (
      subst N (sym (ap (λ ms. posted_all plain ms net) more ∙ posted-more plain front message net)) next.0,
      next.1 ∙ ap (λ lines. lines ++ printed added) done.1
          ∙ append_assoc before (printed told) (printed added)
          ∙ ap (λ lines. before ++ lines) (sym (printed-append added told))
          ∙ ap (λ lines. before ++ printed lines) (sym (lines-more plain front message net))
          ∙ ap (λ ms. before ++ printed (lines_all plain ms net)) (sym more),
    )

pub posts-whole : (messages : List Message) (count : ℕ) (first old before after : List (List ℕ)) → take count messages ≡ messages → PostsAll (take count messages) first old before after → PostsAll messages first old before after
posts-whole messages count first old before after whole posts =
    let P : List Message → Type 0 = λ ms. PostsAll ms first old before after in
    subst P whole posts

-- within one of them memory ran out
pub posts-stopped : (messages : List Message) (count : ℕ) (message : Message) (first old new before between : List (List ℕ)) → count < length messages → message ≡ get_or messages count message → PostsAll (take count messages) first old before between → PostsOrNot message old new → PostsSome messages first new
posts-stopped messages count message first old new before between within is so_far posts plain net is_plain spelled =
    let front = take count messages in
    let more : take (count + 1) messages ≡ front ++ message ∷ [] = take_more messages count message within ∙ ap (λ m. front ++ m ∷ []) (sym is) in
    let done = so_far plain net is_plain spelled in
    elim (posts plain (posted_all plain front net) is_plain done.0) [
      | inl same ↦ (count, same)
      | inr new_too ↦ (count + 1, subst (λ ms. AreSpelled ms new) (sym (ap (λ ms. posted_all plain ms net) more ∙ posted-more plain front message net)) new_too)
    ]

-- The number of a message in the net is the place of its spelling.

abbrev or-none : Option ℕ → ℕ
or-none None = 0
or-none (Some place) = place

number-is : (plain : Plain) → IsPlain plain → SpellingsTell → (message : Message) (string : List ℕ) (postings : List Posting) (net : List (List ℕ)) → Spells message string → AreSpelled postings net → number_of plain message postings ≡ or-none (bytes.place_of string net)
number-is plain is_plain tell message string [] [] spells spelled = refl
number-is plain is_plain tell message string [] (known ∷ net) spells spelled = elim spelled [ ]
number-is plain is_plain tell message string (posting ∷ postings) [] spells spelled = elim spelled [ ]
number-is plain is_plain tell message string (Spelled other ∷ postings) (known ∷ net) spells spelled =
    let test = same-test plain is_plain tell message other string known spells spelled.0 in
    let deeper = number-is plain is_plain tell message string postings net spells spelled.1 in
    let cases : (b : Bool) → (if b then suc (length postings) else number_of plain message postings) ≡ or-none (if b then Some (suc (length net)) else bytes.place_of string net) = elim [ true ↦ ap suc (spelled-length postings net spelled.1) | false ↦ deeper ] in
    ap (λ b. if b then suc (length postings) else number_of plain message postings) test ∙ cases (bytes_eq string known)
number-is plain is_plain tell message string (Raw raw front why ∷ postings) (known ∷ net) spells spelled =
    let other : bytes_eq string known ≡ false = ap (bytes_eq string) spelled.0.0 ∙ apart message string raw front why spells spelled.0.2 in
    number-is plain is_plain tell message string postings net spells spelled.1
    ∙ ap (λ b. or-none (if b then Some (suc (length net)) else bytes.place_of string net)) (sym other)

pub number-found : SpellingsTell → (message : Message) (string : List ℕ) (net : List (List ℕ)) (place : ℕ) → Spells message string → bytes.place_of string net ≡ Some place → IsNumberIn message net place
number-found tell message string net place spells found plain postings is_plain spelled =
    sym (number-is plain is_plain tell message string postings net spells spelled ∙ ap or-none found)

pub number-none : SpellingsTell → (message : Message) (string : List ℕ) (net : List (List ℕ)) → Spells message string → bytes.place_of string net ≡ None → IsNumberIn message net 0
number-none tell message string net spells found plain postings is_plain spelled =
    sym (number-is plain is_plain tell message string postings net spells spelled ∙ ap or-none found)
