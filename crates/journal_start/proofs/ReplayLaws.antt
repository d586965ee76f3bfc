-- Bytes of a journal that are followed frame by frame.
use Rattle.std.proofs.Common.{◌≡◌, inl, inr, ℕ, ◌+◌, ◌≤◌, Bool, true, false, List, [], ◌∷◌, ◌++◌, length, reverse, Option, Some, None, ◌-◌, ◌==◌, refl, sym, ap, subst, ◌∙◌, arith, append_assoc, length-append}
use Rattle.std.proofs.lemmas.Bool.Decides.{eqb_tells}
use Rattle.std.proofs.lemmas.List.{append-nil, reverse-append}
use Rattle.calls.specs.declared.entry.Entry.{Entry}
use Rattle.calls.specs.declared.entry.Entry.TheVariants.{Called, Receipted}
use Rattle.calls.specs.declared.saved.Saved.{Saved}
use Rattle.wire.specs.declared.message.Message.{Message}
use Rattle.wire.specs.declared.message.Message.TheVariants as message
use Rattle.wire.specs.MessageSpelling.{message_text, MessageFits}
use Rattle.wire.specs.Messages.{Spells}
use Rattle.service_core.specs.Valuing.{value_after}
use Rattle.mirror.specs.declared.state.NodeState.{NodeState as Node}
use Rattle.journal_frames.specs.Frames.{frame, framed, IsShort, AreShort}
use Rattle.journal_frames.specs.Reading.{IsFramed}
use Rattle.journal_frames.proofs.Frames.{framed-push, length-body, same-frame, short-push}
use Rattle.journal_found.specs.Found.{texts_of, is_journal, CanCome, entries_after, follower_after, Follower, RefusedAt}
use Rattle.journal_found.specs.Found.Chain.{starts, goes}
use Rattle.journal_found.proofs.Lists.{behind_first, texts-push, fits-push}
use Rattle.journal_start.specs.Replays.{entries_in, first_byte, number_behind, node_of, Followed, Following, HasFollowed, Passed, PassedNot}

pub begins : (bytes : List ℕ) → Following bytes bytes 0 0 [] (node_of None)
begins bytes = record {
  follower = None;
  followed = record { messages = []; past = []; fits = tt; short = tt; chain = starts; is = refl; at = refl; entries_are = refl };
  node_is = refl;
  number_is = λ f is. absurd (none-some f is);
}
  where
    none-some : (f : Follower) → ◌≡◌ {A = Option Follower} None (Some f) → ⊥
    none-some f is = cc

-- the bytes behind the first one
first-is : (bytes : List ℕ) → first_byte bytes ≡ 1 → bytes ≡ 1 ∷ behind_first bytes
first-is [] is = absurd (omega (arith, is))
first-is (byte ∷ bytes) is = ap (λ b. b ∷ bytes) is

value-number : (entry : Entry) (saved : Saved) → (value_after entry saved).number ≡ saved.number + 1
value-number (Called client seq now call) saved = refl
value-number (Receipted client key through now) saved = refl

-- the number behind a message that may come
number-after : (next : Message) (follower : Option Follower) → CanCome next follower → (f : Follower) → follower_after next follower ≡ Some f → number_behind next ≡ f.saved.number
number-after (message.Snapshot saved) None can f is = ap (value-in saved) is
  where
    value-in : Saved → Option Follower → ℕ
    value-in other None = other.number
    value-in other (Some f) = f.saved.number
number-after (message.Mirror number entry) (Some g) can f is = can.0 ∙ omega (arith, value-number entry g.saved) ∙ ap (value-in g.saved) is
  where
    value-in : Saved → Option Follower → ℕ
    value-in other None = other.number
    value-in other (Some f) = f.saved.number
number-after (message.Snapshot saved) (Some g) can f is = absurd can
number-after (message.Mirror number entry) None can f is = absurd can
number-after (message.Request client seq call) follower can f is = absurd can
number-after (message.Reply client seq reply) follower can f is = absurd can
number-after (message.Item client key item) follower can f is = absurd can
number-after (message.Receipt client key through) follower can f is = absurd can
number-after (message.MirrorAck number) follower can f is = absurd can
number-after (message.JoinAck number) follower can f is = absurd can

entries-grow : (next : Message) (past : List Entry) → reverse past ++ entries_in next ≡ reverse (entries_after next past)
entries-grow (message.Mirror number entry) past = sym (reverse-append (entry ∷ []) past)
entries-grow (message.Snapshot saved) past = append-nil (reverse past)
entries-grow (message.Request client seq call) past = append-nil (reverse past)
entries-grow (message.Reply client seq reply) past = append-nil (reverse past)
entries-grow (message.Item client key item) past = append-nil (reverse past)
entries-grow (message.Receipt client key through) past = append-nil (reverse past)
entries-grow (message.MirrorAck number) past = append-nil (reverse past)
entries-grow (message.JoinAck number) past = append-nil (reverse past)

-- **one frame more is followed**
pub follows-on : (bytes rest text behind : List ℕ) (place number : ℕ) (entries : List Entry) (follower : Option Follower) (next : Message) → Followed bytes rest place entries follower → IsFramed rest text behind
    → Spells next text → CanCome next follower → Followed bytes behind (place + (length text + 5)) (entries ++ entries_in next) (follower_after next follower)
follows-on bytes rest text behind place number entries follower next followed framed_is spells can =
    let texts = texts_of followed.messages in
    let push : texts_of (followed.messages ++ next ∷ []) ≡ texts ++ text ∷ [] = texts-push followed.messages next ∙ ap (λ t. texts ++ t ∷ []) (sym spells.is) in
    let lines : framed (texts ++ text ∷ []) ≡ framed texts ++ frame text = framed-push texts text in
    let all : bytes ≡ framed (texts_of (followed.messages ++ next ∷ [])) ++ behind =
    followed.is ∙ ap (λ l. framed texts ++ l) framed_is.is ∙ sym (append_assoc (framed texts) (frame text) behind) ∙ ap (λ l. l ++ behind) (sym lines) ∙ ap (λ (ts : List (List ℕ)). framed ts ++ behind) (sym push) in
    let long = ap length lines ∙ length-append (framed texts) (frame text) in
    let body = length-body text in
    let at = followed.at in
    let end : place + (length text + 5) ≡ length (framed (texts ++ text ∷ [])) = omega (arith, long, body, at) in
    record {
      messages = followed.messages ++ next ∷ [];
      past = entries_after next followed.past;
      fits = fits-push followed.messages next followed.fits spells.fits;
      short = subst AreShort (sym push) (short-push texts text followed.short framed_is.short);
      chain = goes next followed.chain can;
      is = all;
      at = end ∙ ap (λ (ts : List (List ℕ)). length (framed ts)) (sym push);
      entries_are = ap (λ l. l ++ entries_in next) followed.entries_are ∙ entries-grow next followed.past;
    }

pub following-on : (bytes rest text behind : List ℕ) (place number : ℕ) (entries late : List Entry) (node later : Node) (count : ℕ) → (now : Following bytes rest place number entries node) → IsFramed rest text behind
    → (next : Message) × Spells next text × CanCome next now.follower × (later ≡ node_of (follower_after next now.follower)) × (late ≡ entries ++ entries_in next) × (count ≡ number_behind next)
    → Following bytes behind (place + (length text + 5)) count late later
following-on bytes rest text behind place number entries late node later count now framed_is known = record {
  follower = follower_after known.0 now.follower;
  followed = subst (λ l. Followed bytes behind (place + (length text + 5)) l (follower_after known.0 now.follower)) (sym known.4)
      (follows-on bytes rest text behind place number entries now.follower known.0 now.followed framed_is known.1 known.2);
  node_is = known.3;
  number_is = λ f is. known.5 ∙ number-after known.0 now.follower known.2 f is;
}

-- **a gate is refused**
refused-by : (bytes rest : List ℕ) (place : ℕ) (entries : List Entry) (follower : Option Follower) → is_journal bytes ≡ true → Followed bytes rest place entries follower → rest ≡ 1 ∷ behind_first rest
    → ((next : Message) (behind : List ℕ) → MessageFits next → IsShort (message_text next) → CanCome next follower → rest ≡ frame (message_text next) ++ behind → behind ≡ []) → RefusedAt bytes place
refused-by bytes rest place entries follower journal followed open_is none = record {
  journal = journal;
  messages = followed.messages;
  past = followed.past;
  follower = follower;
  fits = followed.fits;
  short = followed.short;
  chain = followed.chain;
  rest = behind_first rest;
  is = followed.is ∙ ap (λ l. framed (texts_of followed.messages) ++ l) open_is;
  at = followed.at;
  none = λ next behind joins can is. none next behind joins.0 joins.1 can (open_is ∙ is);
}

pub refused-last : (bytes rest text : List ℕ) (place number : ℕ) (entries : List Entry) (node : Node) → is_journal bytes ≡ true → Following bytes rest place number entries node → rest ≡ 1 ∷ behind_first rest
    → IsFramed rest text [] → RefusedAt bytes place
refused-last bytes rest text place number entries node journal now open_is framed_is =
    refused-by bytes rest place entries now.follower journal now.followed open_is (λ next behind fits short can is.
    sym (same-frame text (message_text next) [] behind framed_is.short short (sym framed_is.is ∙ is)).1)

pub refused-unknown : (bytes rest text behind : List ℕ) (place number : ℕ) (entries : List Entry) (node : Node) → is_journal bytes ≡ true → (now : Following bytes rest place number entries node) → rest ≡ 1 ∷ behind_first rest
    → IsFramed rest text behind → ((next : Message) → Spells next text → CanCome next now.follower → ⊥) → RefusedAt bytes place
refused-unknown bytes rest text behind place number entries node journal now open_is framed_is unknown =
    refused-by bytes rest place entries now.follower journal now.followed open_is (λ next tail fits short can is.
    let same = same-frame text (message_text next) behind tail framed_is.short short (sym framed_is.is ∙ is) in
    absurd (unknown next (record { fits = fits; is = same.0 }) can))

-- One step.

framed-length : (rest text behind : List ℕ) → IsFramed rest text behind → length rest ≡ length text + 5 + length behind
framed-length rest text behind framed_is =
    let long = ap length framed_is.is ∙ length-append (frame text) behind in
    let body = length-body text in
    omega (arith, long, body)

no-bytes : (bytes : List ℕ) → length bytes ≡ 0 → bytes ≡ []
no-bytes [] none = refl
no-bytes (byte ∷ bytes) none = absurd (omega (arith, none))

pub passed-last : (rest text behind : List ℕ) (node : Node) (before : List Entry) (count : ℕ) → IsFramed rest text behind → length behind ≡ 0 → PassedNot rest node before count
passed-last rest text behind node before count framed_is none =
    record { refused = λ bytes place journal now open_is. refused-last bytes rest text place count before node journal now (first-is rest open_is) (subst (IsFramed rest text) (no-bytes behind none) framed_is) }

pub passed-unknown : (rest text behind : List ℕ) (old new : Node) (before after : List Entry) (count number : ℕ) → IsFramed rest text behind → HasFollowed false text old new before after number → PassedNot rest old before count
passed-unknown rest text behind old new before after count number framed_is followed =
    record { refused = λ bytes place journal now open_is. refused-unknown bytes rest text behind place count before old journal now (first-is rest open_is) framed_is (followed.followed now.follower now.node_is) }

pub passed-on : (rest text behind : List ℕ) (old new : Node) (before after : List Entry) (count number : ℕ) → IsFramed rest text behind → 1 ≤ length behind → HasFollowed true text old new before after number → Passed rest behind old new before after count number
passed-on rest text behind old new before after count number framed_is some followed =
    let long = framed-length rest text behind framed_is in
    let gone : length text + 5 ≡ length rest - length behind = omega (arith, long) in
    record {
      some = some;
      fewer = omega (arith, long);
      on = λ bytes place now. subst (λ (size : ℕ). Following bytes behind (place + size) number after new) gone
          (following-on bytes rest text behind place count before after old new number now framed_is (followed.followed now.follower now.node_is));
    }

-- All of them.

pub begun : (bytes : List ℕ) → Following bytes bytes (length bytes - length bytes) 0 [] (node_of None)
begun bytes = let none : 0 ≡ length bytes - length bytes = omega arith in subst (λ (place : ℕ). Following bytes bytes place 0 [] (node_of None)) none (begins bytes)

-- as the tests of the code tell it
pub passed-empty : (rest text behind : List ℕ) (node : Node) (before : List Entry) (count : ℕ) (is_empty : Bool) → IsFramed rest text behind → is_empty ≡ (length behind == 0) → is_empty ≡ true → PassedNot rest node before count
passed-empty rest text behind node before count is_empty framed_is told is = passed-last rest text behind node before count framed_is (empty-of behind (sym told ∙ is))
  where
    empty-of : (bytes : List ℕ) → (length bytes == 0) ≡ true → length bytes ≡ 0
    empty-of bytes same = elim (eqb_tells (length bytes) 0) [
      | inl tells ↦ tells.1
      | inr tells ↦ cc
    ]

pub passed-some : (rest text behind : List ℕ) (old new : Node) (before after : List Entry) (count number : ℕ) (is_empty known : Bool) → IsFramed rest text behind → is_empty ≡ (length behind == 0) → is_empty ≡ false → known ≡ true
    → HasFollowed known text old new before after number → Passed rest behind old new before after count number
passed-some rest text behind old new before after count number is_empty known framed_is told not_empty was_known followed =
    passed-on rest text behind old new before after count number framed_is (some-of behind (sym told ∙ not_empty)) (subst (λ b. HasFollowed b text old new before after number) was_known followed)
  where
    some-of : (bytes : List ℕ) → (length bytes == 0) ≡ false → 1 ≤ length bytes
    some-of [] same = cc
    some-of (byte ∷ bytes) same = omega arith

pub passed-other : (rest text behind : List ℕ) (old new : Node) (before after : List Entry) (count number : ℕ) (known : Bool) → IsFramed rest text behind → known ≡ false → HasFollowed known text old new before after number → PassedNot rest old before count
passed-other rest text behind old new before after count number known framed_is unknown followed =
    passed-unknown rest text behind old new before after count number framed_is (subst (λ b. HasFollowed b text old new before after number) unknown followed)

-- the test at the start
pub begun-at : (bytes : List ℕ) (entries : List Entry) (node : Node) → entries ≡ [] → node ≡ node_of None → Following bytes bytes (length bytes - length bytes) 0 entries node
begun-at bytes entries node none is =
    subst (λ (l : List Entry). Following bytes bytes (length bytes - length bytes) 0 l node) (sym none)
    (subst (λ (n : Node). Following bytes bytes (length bytes - length bytes) 0 [] n) (sym is) (begun bytes))

pub journal-long : (bytes : List ℕ) → is_journal bytes ≡ true → 1 ≤ length bytes
journal-long [] is = cc
journal-long (byte ∷ bytes) is = omega arith
