-- Of what bytes can hold only one is so.
use Rattle.std.proofs.Common.{◌≡◌, ⊎_elim, ℕ, ◌≤◌, true, List, [], ◌∷◌, ◌++◌, length, Option, Some, None, refl, sym, ap, subst, ◌∙◌, arith, append_assoc, length-append}
use Rattle.std.proofs.lemmas.List.{append-nil}
use Rattle.wire.specs.declared.message.Message.{Message}
use Rattle.wire.specs.MessageSpelling.{message_text}
use Rattle.calls.specs.declared.entry.Entry.{Entry}
use Rattle.journal_frames.specs.Frames.{AreShort, body_of, frame, framed}
use Rattle.journal_frames.proofs.Frames.{length-body}
use Rattle.journal_found.specs.Found.{texts_of, is_journal, AllFit, Chain, CanCome, Follower, Found, RefusedAt}
use Rattle.journal_found.specs.Found.Chain.{starts, goes}
use Rattle.journal_found.proofs.Lists.{first_or, never-empty, compare, Further}
use Rattle.journal_found.proofs.Chains.{chain-once, chain-front, Front}

-- no further message may come where a gate is refused
no-further : (bytes : List ℕ) (place : ℕ) (refused : RefusedAt bytes place) (message : Message) (more : List Message) (all : List Message) (past : List Entry) (follower : Option Follower) (tail : List ℕ)
    → Chain all past follower → all ≡ refused.messages ++ message ∷ more → AllFit (message ∷ more) → AreShort (texts_of (message ∷ more)) → 1 ∷ refused.rest ≡ framed (texts_of (message ∷ more)) ++ tail → 1 ≤ length tail → ⊥
no-further bytes place refused message more all past follower tail chain is fits short behind long =
    let front : Front refused.messages message = chain-front all refused.messages message more past follower chain is in
    let same = chain-once refused.messages refused.messages front.past refused.past front.follower refused.follower front.chain refused.chain refl in
    let can : CanCome message refused.follower = subst (λ f. CanCome message f) same.1 front.can in
    let rest = framed (texts_of more) ++ tail in
    let none : rest ≡ [] = refused.none message rest (fits.0, short.0) can (behind ∙ append_assoc (frame (message_text message)) (framed (texts_of more)) tail) in
    let size = ap length none in
    omega (arith, size, long, length-append (framed (texts_of more)) tail)

-- bytes in which entries are found are not refused
pub found-refused : (bytes : List ℕ) (place : ℕ) (past : List Entry) (follower : Follower) → Found bytes past follower → RefusedAt bytes place → ⊥
found-refused bytes place past follower found refused =
    let holds = found.holds in
    ⊎_elim (λ further. ahead further.more further.behind) (λ further. inside further)
    (compare found.messages refused.messages (holds.gate ∷ holds.behind) (1 ∷ refused.rest) found.fits refused.fits holds.short refused.short (sym holds.is ∙ refused.is))
  where
    ahead : (more : List Message) → found.holds.gate ∷ found.holds.behind ≡ framed (texts_of more) ++ 1 ∷ refused.rest → ⊥
    ahead [] is = found.holds.closed (ap (first_or 0) is)
    ahead (message ∷ more) is = found.holds.closed (ap (first_or 0) is)

    behind : (more : List Message) → found.messages ≡ refused.messages ++ more → AllFit more → AreShort (texts_of more) → 1 ∷ refused.rest ≡ framed (texts_of more) ++ found.holds.gate ∷ found.holds.behind → ⊥
    behind [] is fits short same = found.holds.closed (sym (ap (first_or 0) same))
    behind (message ∷ more) is fits short same =
        no-further bytes place refused message more found.messages past (Some follower) (found.holds.gate ∷ found.holds.behind) found.chain is fits short same (omega arith)

    inside : Further refused.messages found.messages (1 ∷ refused.rest) (found.holds.gate ∷ found.holds.behind) → ⊥
    inside further = behind further.more further.is further.fits further.short further.behind

-- **there is one refused place**
pub refused-once : (bytes : List ℕ) (place other : ℕ) → RefusedAt bytes place → RefusedAt bytes other → place ≡ other
refused-once bytes place other one two =
    ⊎_elim (λ further. by-more one two further.more further.is further.fits further.short further.behind)
    (λ further. sym (by-more two one further.more further.is further.fits further.short further.behind))
    (compare one.messages two.messages (1 ∷ one.rest) (1 ∷ two.rest) one.fits two.fits one.short two.short (sym one.is ∙ two.is))
  where
    by-more : {here there : ℕ} (first : RefusedAt bytes here) (second : RefusedAt bytes there) (more : List Message) → second.messages ≡ first.messages ++ more → AllFit more → AreShort (texts_of more)
        → 1 ∷ first.rest ≡ framed (texts_of more) ++ 1 ∷ second.rest → here ≡ there
    by-more first second [] is fits short behind =
        first.at ∙ ap (λ (l : List Message). length (framed (texts_of l))) (sym (append-nil first.messages) ∙ sym is) ∙ sym second.at
    by-more {here = here} first second (message ∷ more) is fits short behind =
        absurd (no-further bytes here first message more second.messages second.past second.follower (1 ∷ second.rest) second.chain is fits short behind (omega arith))

-- bytes in which entries are found are a journal
pub found-journal : (bytes : List ℕ) (past : List Entry) (follower : Follower) → Found bytes past follower → is_journal bytes ≡ true
found-journal bytes past follower found = ap is_journal found.holds.is ∙ by-messages found.messages past found.chain
  where
    two : (first : List ℕ) (rest : List ℕ) → 1 ≤ length first → is_journal (1 ∷ first ++ rest) ≡ true
    two [] rest long = absurd (omega (arith, long))
    two (byte ∷ first) rest long = refl

    some-not : (messages : List Message) (past : List Entry) (f : Option Follower) → Chain messages past f → f ≡ Some follower → messages ≡ [] → ⊥
    some-not messages past f starts is none = none-some is
      where
        none-some : ◌≡◌ {A = Option Follower} None (Some follower) → ⊥
        none-some same = cc
    some-not all past f (goes {messages = messages} message chain can) is none = never-empty messages message (sym none)

    by-messages : (messages : List Message) (past : List Entry) → Chain messages past (Some follower) → is_journal (framed (texts_of messages) ++ found.holds.gate ∷ found.holds.behind) ≡ true
    by-messages [] past chain = absurd (some-not [] past (Some follower) chain refl refl)
    by-messages (message ∷ more) past chain =
        let text = message_text message in
        let tail = framed (texts_of more) ++ found.holds.gate ∷ found.holds.behind in
        ap is_journal (append_assoc (frame text) (framed (texts_of more)) (found.holds.gate ∷ found.holds.behind)) ∙ two (body_of text) tail (let long = length-body text in omega arith)
