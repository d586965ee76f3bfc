-- What is posted as bytes is posted as a message.
use Rattle.std.proofs.Common.{◌≡◌, ℕ, suc, inr, Bool, true, false, not, ◌||◌, if◌then◌else◌, Some, List, [], ◌∷◌, ◌++◌, length, refl, ap, sym, ◌∙◌, subst, append-nil, true≢false}
use Rattle.std.specs.Str.{bytes_eq}
use Rattle.std.proofs.lemmas.Bool.{false_from_ne_true, not-true, not-false}
use Rattle.std.specs.Cmp.Lexicographic.{bytes_decides}
use Rattle.wire_code.specs.Spelling.{IsBytes}
use Rattle.wire.specs.declared.message.Message.{Message}
use Rattle.wire.specs.declared.message.WireWhy.{WireWhy}
use Rattle.wire.specs.MessageSpelling.{message_text}
use Rattle.wire.specs.Messages.{Spells, IsRefusedAt}
use Rattle.message_net.specs.Nets as bytes
use Rattle.cluster_facts.specs.Service.{Plain, IsPlain}
use Rattle.cluster_facts.specs.Messages.{Posting, Spelled, Raw}
use Rattle.cluster_facts.specs.World.{knows, posted, knows_raw, injected}
use Rattle.cluster_events.specs.Lines.{Posted, Injected}
use Rattle.cluster_events.specs.ClientEvents.{post_lines, inject_lines}
use Rattle.event_text.specs.Texts as text
use Rattle.cluster_clients.specs.Spelled.{AreSpelled, SpellingsTell, Posts, PostsOrNot, InjectsRaw, IsRaw, InjectsOrNot}

-- a test of messages and one of bytes that hold where the same is equal
pub same-test : (plain : Plain) → IsPlain plain → SpellingsTell → (one other : Message) (front back : List ℕ) → Spells one front → Spells other back → plain.same one other ≡ bytes_eq front back
same-test plain is_plain tell one other front back spells also = by-tests (plain.same one other) (bytes_eq front back) refl refl
  where
    to-bytes : plain.same one other ≡ true → bytes_eq front back ≡ true
    to-bytes same =
        (bytes_decides front back).1 (spells.is ∙ ap message_text (is_plain.same_is one other same) ∙ sym also.is)

    to-same : bytes_eq front back ≡ true → plain.same one other ≡ true
    to-same equal =
        let texts : message_text other ≡ message_text one ++ [] = sym also.is ∙ sym ((bytes_decides front back).0 equal) ∙ spells.is ∙ sym (append-nil (message_text one)) in
        let is = (tell one other [] spells.fits also.fits texts).0 in
        let P : Message → Type 0 = λ m. plain.same one m ≡ true in
        subst P is (is_plain.same_self one)

    by-tests : (a b : Bool) → plain.same one other ≡ a → bytes_eq front back ≡ b → plain.same one other ≡ bytes_eq front back
    by-tests true b same equal = same ∙ sym (to-bytes same)
    by-tests false true same equal = absurd (true≢false (sym (to-same equal) ∙ same))
    by-tests false false same equal = same ∙ sym equal

-- a string that a message spells differs from one that none spells
pub apart : (message : Message) (string raw : List ℕ) (front : ℕ) (why : WireWhy) → Spells message string → IsRefusedAt raw front why → bytes_eq string raw ≡ false
apart message string raw front why spells refused =
    false_from_ne_true (bytes_eq string raw) (λ same. refused.unspelled message (subst (Spells message) ((bytes_decides string raw).0 same) spells))

raw-apart : (message : Message) (string raw : List ℕ) → ((other : Message) → ¬ Spells other raw) → Spells message string → bytes_eq raw string ≡ false
raw-apart message string raw unspelled spells =
    false_from_ne_true (bytes_eq raw string) (λ same. unspelled message (subst (Spells message) (sym ((bytes_decides raw string).0 same)) spells))

-- the net knows the bytes where it knows the message
knows-same : (plain : Plain) → IsPlain plain → SpellingsTell → (message : Message) (string : List ℕ) (postings : List Posting) (net : List (List ℕ)) → Spells message string → AreSpelled postings net → knows plain message postings ≡ bytes.knows string net
knows-same plain is_plain tell message string [] [] spells spelled = refl
knows-same plain is_plain tell message string [] (known ∷ net) spells spelled = elim spelled [ ]
knows-same plain is_plain tell message string (posting ∷ postings) [] spells spelled = elim spelled [ ]
knows-same plain is_plain tell message string (Spelled other ∷ postings) (known ∷ net) spells spelled =
    ap (λ b. b || knows plain message postings) (same-test plain is_plain tell message other string known spells spelled.0)
    ∙ ap (λ b. bytes_eq string known || b) (knows-same plain is_plain tell message string postings net spells spelled.1)
knows-same plain is_plain tell message string (Raw raw front why ∷ postings) (known ∷ net) spells spelled =
    knows-same plain is_plain tell message string postings net spells spelled.1
    ∙ ap (λ b. b || bytes.knows string net) (sym (ap (bytes_eq string) spelled.0.0 ∙ apart message string raw front why spells spelled.0.2))

pub spelled-length : (postings : List Posting) (net : List (List ℕ)) → AreSpelled postings net → length postings ≡ length net
spelled-length [] [] spelled = refl
spelled-length [] (known ∷ net) spelled = elim spelled [ ]
spelled-length (posting ∷ postings) [] spelled = elim spelled [ ]
spelled-length (posting ∷ postings) (known ∷ net) spelled = ap suc (spelled-length postings net spelled.1)

posted-spelled : (plain : Plain) → IsPlain plain → SpellingsTell → (message : Message) (string : List ℕ) (postings : List Posting) (net : List (List ℕ)) → Spells message string → AreSpelled postings net → AreSpelled (posted plain message postings) (bytes.posted string net)
posted-spelled plain is_plain tell message string postings net spells spelled =
    let same = knows-same plain is_plain tell message string postings net spells spelled in
    let P : Bool → Type 0 = λ b. AreSpelled (posted plain message postings) (if b then net else string ∷ net) in
    let Q : Bool → Bool → Type 0 = λ a b. AreSpelled (if a then postings else Spelled message ∷ postings) (if b then net else string ∷ net) in
    let both : (b : Bool) → Q b b = elim [ true ↦ spelled | false ↦ (spells, spelled) ] in
    subst P same (both (knows plain message postings))

-- the place of what was posted anew
place-new : (string : List ℕ) (net : List (List ℕ)) (place : ℕ) → bytes.knows string net ≡ false → bytes.place_of string (bytes.posted string net) ≡ Some place → place ≡ suc (length net)
place-new string net place unknown found =
    let P : Bool → Type 0 = λ b. bytes.place_of string (if b then net else string ∷ net) ≡ Some place in
    let here : bytes.place_of string (string ∷ net) ≡ Some place = subst P unknown found in
    let self = (bytes_decides string string).1 refl in
    let Q : Bool → Type 0 = λ b. (if b then Some (suc (length net)) else bytes.place_of string net) ≡ Some place in
    let is : Some (suc (length net)) ≡ Some place = subst Q self here in
    cc

-- what a posting comes to, with its line where it was new
pub posts-new : SpellingsTell → (message : Message) (string : List ℕ) (old new before after : List (List ℕ)) (place : ℕ) → Spells message string → new ≡ bytes.posted string old → bytes.place_of string new ≡ Some place → true ≡ not (bytes.knows string old) → after ≡ before ++ text.post_lines place message → Posts message old new before after
posts-new tell message string old new before after place spells is at first added plain postings is_plain spelled =
    let unknown : bytes.knows string old ≡ false = not-true (bytes.knows string old) (sym first) in
    let same = knows-same plain is_plain tell message string postings old spells spelled in
    let there : bytes.place_of string (bytes.posted string old) ≡ Some place = subst (λ n. bytes.place_of string n ≡ Some place) is at in
    let number : place ≡ suc (length postings) = place-new string old place unknown there ∙ ap suc (sym (spelled-length postings old spelled)) in
    let lines : text.printed (post_lines plain message postings) ≡ text.post_lines (suc (length postings)) message =
    ap (λ b. text.printed (if b then [] else Posted (suc (length postings)) message ∷ [])) (same ∙ unknown)
    in (
      subst (λ n. AreSpelled (posted plain message postings) n) (sym is) (posted-spelled plain is_plain tell message string postings old spells spelled),
      added ∙ ap (λ n. before ++ text.post_lines n message) number ∙ ap (λ l. before ++ l) (sym lines),
    )

pub posts-known : SpellingsTell → (message : Message) (string : List ℕ) (old new before after : List (List ℕ)) → Spells message string → new ≡ bytes.posted string old → false ≡ not (bytes.knows string old) → after ≡ before → Posts message old new before after
posts-known tell message string old new before after spells is first same_lines plain postings is_plain spelled =
    let known : bytes.knows string old ≡ true = not-false (bytes.knows string old) (sym first) in
    let same = knows-same plain is_plain tell message string postings old spells spelled in
    let lines : text.printed (post_lines plain message postings) ≡ [] = ap (λ b. text.printed (if b then [] else Posted (suc (length postings)) message ∷ [])) (same ∙ known) in (
      subst (λ n. AreSpelled (posted plain message postings) n) (sym is) (posted-spelled plain is_plain tell message string postings old spells spelled),
      same_lines ∙ sym (append-nil before) ∙ ap (λ l. before ++ l) (sym lines),
    )

-- where memory ran out the net is as before or has the message
pub posts-some : SpellingsTell → (message : Message) (string : List ℕ) (old new : List (List ℕ)) → Spells message string → new ≡ bytes.posted string old → PostsOrNot message old new
posts-some tell message string old new spells is plain postings is_plain spelled =
    inr (subst (λ n. AreSpelled (posted plain message postings) n) (sym is) (posted-spelled plain is_plain tell message string postings old spells spelled))

-- Bytes that no message spells.

raw-same : (string : List ℕ) (postings : List Posting) (net : List (List ℕ)) → ((message : Message) → ¬ Spells message string) → AreSpelled postings net → knows_raw string postings ≡ bytes.knows string net
raw-same string [] [] unspelled spelled = refl
raw-same string [] (known ∷ net) unspelled spelled = elim spelled [ ]
raw-same string (posting ∷ postings) [] unspelled spelled = elim spelled [ ]
raw-same string (Spelled message ∷ postings) (known ∷ net) unspelled spelled =
    raw-same string postings net unspelled spelled.1
    ∙ ap (λ b. b || bytes.knows string net) (sym (raw-apart message known string unspelled spelled.0))
raw-same string (Raw raw front why ∷ postings) (known ∷ net) unspelled spelled =
    ap (λ b. b || knows_raw string postings) (ap (bytes_eq string) (sym spelled.0.0))
    ∙ ap (λ b. bytes_eq string known || b) (raw-same string postings net unspelled spelled.1)

injected-spelled : (string : List ℕ) (front : ℕ) (why : WireWhy) (postings : List Posting) (net : List (List ℕ)) → IsBytes string → IsRefusedAt string front why → AreSpelled postings net → AreSpelled (injected string front why postings) (bytes.posted string net)
injected-spelled string front why postings net all refused spelled =
    let same = raw-same string postings net refused.unspelled spelled in
    let P : Bool → Type 0 = λ b. AreSpelled (injected string front why postings) (if b then net else string ∷ net) in
    let Q : Bool → Bool → Type 0 = λ a b. AreSpelled (if a then postings else Raw string front why ∷ postings) (if b then net else string ∷ net) in
    let both : (b : Bool) → Q b b = elim [ true ↦ spelled | false ↦ ((refl, all, refused), spelled) ] in
    subst P same (both (knows_raw string postings))

-- what an injection comes to, with its line where the net did not have the bytes
pub injects-new : (string : List ℕ) (old new before after : List (List ℕ)) (place : ℕ) → IsBytes string → new ≡ bytes.posted string old → bytes.place_of string new ≡ Some place → true ≡ not (bytes.knows string old) → after ≡ before ++ text.raw_line place (length string) ∷ [] → InjectsRaw string old new before after
injects-new string old new before after place all is at first added front why postings refused spelled =
    let unknown : bytes.knows string old ≡ false = not-true (bytes.knows string old) (sym first) in
    let same = raw-same string postings old refused.unspelled spelled in
    let there : bytes.place_of string (bytes.posted string old) ≡ Some place = subst (λ n. bytes.place_of string n ≡ Some place) is at in
    let number : place ≡ suc (length postings) = place-new string old place unknown there ∙ ap suc (sym (spelled-length postings old spelled)) in
    let lines : text.printed (inject_lines string front why postings) ≡ text.raw_line (suc (length postings)) (length string) ∷ [] =
    ap (λ b. text.printed (if b then [] else Injected (suc (length postings)) string front why ∷ [])) (same ∙ unknown)
    in (
      subst (λ n. AreSpelled (injected string front why postings) n) (sym is) (injected-spelled string front why postings old all refused spelled),
      added ∙ ap (λ n. before ++ text.raw_line n (length string) ∷ []) number ∙ ap (λ l. before ++ l) (sym lines),
    )

pub injects-known : (string : List ℕ) (old new before after : List (List ℕ)) → IsBytes string → new ≡ bytes.posted string old → false ≡ not (bytes.knows string old) → after ≡ before → InjectsRaw string old new before after
injects-known string old new before after all is first same_lines front why postings refused spelled =
    let known : bytes.knows string old ≡ true = not-false (bytes.knows string old) (sym first) in
    let same = raw-same string postings old refused.unspelled spelled in
    let lines : text.printed (inject_lines string front why postings) ≡ [] = ap (λ b. text.printed (if b then [] else Injected (suc (length postings)) string front why ∷ [])) (same ∙ known) in (
      subst (λ n. AreSpelled (injected string front why postings) n) (sym is) (injected-spelled string front why postings old all refused spelled),
      same_lines ∙ sym (append-nil before) ∙ ap (λ l. before ++ l) (sym lines),
    )

pub injects-some : (string : List ℕ) (old new : List (List ℕ)) → IsBytes string → IsRaw string → new ≡ bytes.posted string old → InjectsOrNot string old new
injects-some string old new all raw is =
    inr (raw, λ front why postings refused spelled. subst (λ n. AreSpelled (injected string front why postings) n) (sym is) (injected-spelled string front why postings old all refused spelled))
