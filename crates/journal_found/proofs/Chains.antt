-- The journal of a history, and what is found behind an append that broke off.
use Rattle.std.proofs.Common.{◌≡◌, inl, inr, ⊎_elim, ℕ, suc, List, [], ◌∷◌, ◌++◌, length, Option, Some, refl, sym, ap, subst, ◌∙◌, append_assoc}
use Rattle.std.specs.Option.{option_map_or}
use Rattle.disk_model.specs.Disk.{Files}
use Rattle.disk_model.specs.DeviceCalls.{all_applied}
use Rattle.stream_layout.specs.declared.deed.Deed.{Deed}
use Rattle.calls.specs.declared.entry.Entry.{Entry}
use Rattle.calls.specs.declared.saved.Saved.{Saved}
use Rattle.wire.specs.declared.message.Message.{Message}
use Rattle.wire.specs.declared.message.Message.TheVariants.{Snapshot}
use Rattle.wire.specs.MessageSpelling.{message_text}
use Rattle.plain_service.specs.Legal.{IsHistory}
use Rattle.plain_service.specs.Setups.{Setup}
use Rattle.plain_service.specs.Values.{saved_of}
use Rattle.journal_frames.specs.Frames.{append_calls, behind_gate, framed, make_calls, HasJournal, Holds}
use Rattle.journal_frames.proofs.Appends.{append-done, append-staged, staged-holds}
use Rattle.journal_frames.proofs.Frames.{holds-once, short-push}
use Rattle.journal_frames.proofs.Making.{make-done}
use Rattle.service_fit.proofs.HistoryFit.{history-fit}
use Rattle.value_laws.proofs.Applying.{can-apply, count-is}
use Rattle.value_laws.proofs.Values.{value-follows, deeds-follow}
use Rattle.journal_found.specs.Found.{messages_of, next_message, texts_of, CanJoin, JournalOf, Chain, CanCome, entries_after, follower_after, Follower, follower_of, Found, FindsOrOneMore}
use Rattle.journal_found.specs.Joining.{JournalStaged, NextBreaks, calls_of_next}
use Rattle.journal_found.specs.Found.Chain.{starts, goes}
use Rattle.journal_found.proofs.Lists.{never-empty, last-same, by-last, texts-push, fits-push, same-messages}

-- **the journal of a history is a chain: its entries, its value and its last deeds**
pub chain-of : (setup : Setup) (past : List Entry) → IsHistory setup past → Chain (messages_of setup past) past (Some (follower_of setup past))
chain-of setup [] history = goes (Snapshot (saved_of setup [])) starts (history-fit setup [] history)
chain-of setup (entry ∷ past) history =
    let before_it = chain-of setup past history.1 in
    let next = goes (next_message past entry) before_it (ap suc (sym (count-is setup past)), can-apply setup past entry history.0) in
    let value = value-follows setup past entry history.1 history.0 in
    let deeds = deeds-follow setup past entry history.1 in
    let made : Saved → List Deed → Option Follower = λ saved kept. Some (record { saved = saved; kept = Some kept }) in
    subst (λ (f : Option Follower). Chain (messages_of setup past ++ next_message past entry ∷ []) (entry ∷ past) f) (λ i. made (value i) (deeds i)) next

pub journal-made : (setup : Setup) (files : Files) → CanJoin (Snapshot (saved_of setup [])) → JournalOf setup [] (all_applied (make_calls (behind_gate (message_text (Snapshot (saved_of setup []))))) files)
journal-made setup files joins =
    let text = message_text (Snapshot (saved_of setup [])) in
    record {
      fits = (joins.0, tt);
      has = record { short = (joins.1, tt); stands = make-done text files joins.1 };
    }

pub journal-done : (setup : Setup) (past : List Entry) (entry : Entry) (files : Files) → JournalOf setup past files → CanJoin (next_message past entry)
    → JournalOf setup (entry ∷ past) (all_applied (calls_of_next setup past entry) files)
journal-done setup past entry files journal joins =
    let messages = messages_of setup past in
    let texts = texts_of messages in
    let last = next_message past entry in
    let text = message_text last in
    let new = all_applied (append_calls (length (framed texts)) text) files in
    record {
      fits = fits-push messages last journal.fits joins.0;
      has = subst (λ (ts : List (List ℕ)). HasJournal ts new) (sym (texts-push messages last))
          (record { short = short-push texts text journal.has.short joins.1; stands = append-done texts text journal.has.short joins.1 files journal.has.stands });
    }

pub journal-broken : (setup : Setup) (past : List Entry) (entry : Entry) (old new : Files) → JournalOf setup past old → CanJoin (next_message past entry)
    → NextBreaks setup past entry old new → JournalStaged setup past entry new
journal-broken setup past entry old new journal joins broke = record {
  fits = journal.fits;
  short = journal.has.short;
  joins = joins;
  has = append-staged (texts_of (messages_of setup past)) (message_text (next_message past entry)) journal.has.short joins.1 broke.0 broke.1 old new journal.has.stands broke.2;
}

-- **from a journal that the history's next entry was to join the history is found, or it and the entry**
pub staged-finds : (setup : Setup) (past : List Entry) (entry : Entry) (files : Files) → IsHistory setup (entry ∷ past) → JournalStaged setup past entry files → FindsOrOneMore setup entry past files
staged-finds setup past entry files history staged =
    let messages = messages_of setup past in
    let texts = texts_of messages in
    let last = next_message past entry in
    let text = message_text last in
    let has = staged.has in
    let bytes = has.0.bytes in
    let as_was : Holds texts bytes → Found bytes past (follower_of setup past) =
    λ holds. record { messages = messages; fits = staged.fits; chain = chain-of setup past history.1; holds = holds } in
    let one_more : Holds (texts ++ text ∷ []) bytes → Found bytes (entry ∷ past) (follower_of setup (entry ∷ past)) =
    λ holds. record {
      messages = messages ++ last ∷ [];
      fits = fits-push messages last staged.fits staged.joins.0;
      chain = chain-of setup (entry ∷ past) history;
      holds = subst (λ (ts : List (List ℕ)). Holds ts bytes) (sym (texts-push messages last)) holds;
    } in
    (has.0, has.1, ⊎_elim (λ holds. inl (as_was holds)) (λ holds. inr (one_more holds)) (staged-holds texts text staged.short staged.joins.1 has.0 has.2))

-- What is found is told by the bytes.

pub chain-once : (one other : List Message) (past late : List Entry) (follower second : Option Follower) → Chain one past follower → Chain other late second → one ≡ other → (past ≡ late) × (follower ≡ second)
chain-once one other past late follower second starts starts is = (refl, refl)
chain-once one other past late follower second starts (goes {messages = messages} message chain can) is = absurd (never-empty messages message is)
chain-once one other past late follower second (goes {messages = messages} message chain can) starts is = absurd (never-empty messages message (sym is))
chain-once one other past late follower second (goes {messages = messages} {past = early} {follower = f} message chain can) (goes {messages = others} {past = before} {follower = g} next more may) is =
    let parts = last-same messages others message next is in
    let deeper = chain-once messages others early before f g chain more parts.0 in
    (λ i. entries_after (parts.1 i) (deeper.0 i), λ i. follower_after (parts.1 i) (deeper.1 i))

-- the front of a chain is a chain, and the next message may come behind it
pub record Front (one : List Message) (message : Message) : Type 0 where
  pub past : List Entry
  pub follower : Option Follower
  pub chain : Chain one past follower
  pub can : CanCome message follower

pub chain-front : (all one : List Message) (message : Message) (more : List Message) (past : List Entry) (follower : Option Follower) → Chain all past follower → all ≡ one ++ message ∷ more → Front one message
chain-front all one message more past follower starts is = absurd (empty-not one is)
  where
    empty-not : (xs : List Message) → [] ≡ xs ++ message ∷ more → ⊥
    empty-not [] same = let long = ap length same in cc
    empty-not (first ∷ xs) same = let long = ap length same in cc
chain-front all one message more past follower (goes {messages = messages} {past = early} {follower = f} last chain can) is =
    ⊎_elim
    (λ (none : more ≡ []).
    let parts = last-same messages one last message (is ∙ ap (λ l. one ++ message ∷ l) none) in
    record { past = early; follower = f; chain = subst (λ (l : List Message). Chain l early f) parts.0 chain; can = subst (λ m. CanCome m f) parts.1 can })
    (λ (some : (front : List Message) × (end : Message) × (more ≡ front ++ end ∷ [])).
    let parts = last-same messages (one ++ message ∷ some.0) last some.1 (is ∙ ap (λ l. one ++ message ∷ l) some.2 ∙ sym (append_assoc one (message ∷ some.0) (some.1 ∷ []))) in
    chain-front messages one message some.0 early f chain parts.0)
    (by-last more)

pub found-once : (bytes : List ℕ) (past late : List Entry) (follower second : Follower) → Found bytes past follower → Found bytes late second → (past ≡ late) × (follower ≡ second)
found-once bytes past late follower second one other =
    let both = chain-once one.messages other.messages past late (Some follower) (Some second) one.chain other.chain
    (same-messages one.messages other.messages one.fits other.fits (holds-once (texts_of one.messages) (texts_of other.messages) bytes one.holds other.holds)) in
    (both.0, ap (λ (f : Option Follower). option_map_or (λ (x : Follower). x) f follower) both.1)
