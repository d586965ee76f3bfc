-- What is found in the journal of a history is that history.
use Rattle.std.proofs.Common.{◌≡◌, ◌⊎◌, inl, inr, ⊎_elim, ℕ, List, [], ◌∷◌, ◌++◌, Option, Some, sym, ap, subst, ◌∙◌, arith}
use Rattle.std.specs.Option.{option_map_or}
use Rattle.disk_model.specs.Disk.{File, Files, settled_file}
use Rattle.calls.specs.declared.entry.Entry.{Entry}
use Rattle.wire.specs.MessageSpelling.{message_text}
use Rattle.plain_service.specs.Legal.{IsHistory}
use Rattle.plain_service.specs.Setups.{Setup}
use Rattle.journal_frames.specs.Frames.{Holds, journal_of}
use Rattle.journal_frames.proofs.Appends.{staged-holds}
use Rattle.journal_frames.proofs.Frames.{holds-once}
use Rattle.journal_found.specs.Found.{AllFit, Follower, Found, JournalOf, follower_of, messages_of, next_message, texts_of}
use Rattle.journal_found.specs.Joining.{IsFile, IsHistoryFound, JournalStaged}
use Rattle.journal_found.proofs.Chains.{chain-of, found-once}
use Rattle.journal_found.proofs.Lists.{fits-push, same-messages, texts-push}

-- bytes that hold the texts of a history's messages
holds-history : (setup : Setup) (past late : List Entry) (bytes : List ℕ) (follower : Follower) (found : Found bytes late follower) → IsHistory setup past → AllFit (messages_of setup past)
    → Holds (texts_of (messages_of setup past)) bytes → IsHistoryFound setup past found
holds-history setup past late bytes follower found history fits holds =
    let own : Found bytes past (follower_of setup past) = record { messages = messages_of setup past; fits = fits; chain = chain-of setup past history; holds = holds } in
    let same = found-once bytes late past follower (follower_of setup past) found own in
    record {
      entries = same.0;
      server = same.1;
      messages = same-messages found.messages (messages_of setup past) found.fits fits
          (holds-once (texts_of found.messages) (texts_of (messages_of setup past)) bytes found.holds holds);
    }

same-bytes : (file other : File) → ◌≡◌ {A = Option File} (Some file) (Some other) → file.bytes ≡ other.bytes
same-bytes file other is = ap (λ (o : Option File). option_map_or (λ (f : File). f.bytes) o []) is

pub whole-history : (setup : Setup) (past : List Entry) (late : List Entry) (files : Files) (file : File) (follower : Follower) (found : Found file.bytes late follower) → IsHistory setup past → JournalOf setup past files
    → IsFile file files → IsHistoryFound setup past found
whole-history setup past late files file follower found history journal is =
    let texts = texts_of (messages_of setup past) in
    let bytes : file.bytes ≡ journal_of texts = same-bytes file (settled_file (journal_of texts)) (sym is ∙ journal.has.stands) in
    holds-history setup past late file.bytes follower found history journal.fits
    (record { short = journal.has.short; gate = 0; behind = []; is = bytes; closed = λ same. omega (arith, same) })

pub staged-history : (setup : Setup) (past : List Entry) (entry : Entry) (late : List Entry) (files : Files) (file : File) (follower : Follower) (found : Found file.bytes late follower) → IsHistory setup (entry ∷ past)
    → JournalStaged setup past entry files → IsFile file files → IsHistoryFound setup past found ⊎ IsHistoryFound setup (entry ∷ past) found
staged-history setup past entry late files file follower found history staged is =
    let messages = messages_of setup past in
    let texts = texts_of messages in
    let last = next_message past entry in
    let text = message_text last in
    let same : staged.has.0.bytes ≡ file.bytes = same-bytes staged.has.0 file (sym staged.has.1 ∙ is) in
    let as_was : Holds texts staged.has.0.bytes → IsHistoryFound setup past found =
    λ holds. holds-history setup past late file.bytes follower found history.1 staged.fits (subst (λ (l : List ℕ). Holds texts l) same holds) in
    let one_more : Holds (texts ++ text ∷ []) staged.has.0.bytes → IsHistoryFound setup (entry ∷ past) found =
    λ holds. holds-history setup (entry ∷ past) late file.bytes follower found history (fits-push messages last staged.fits staged.joins.0)
    (subst (λ (ts : List (List ℕ)). Holds ts file.bytes) (sym (texts-push messages last)) (subst (λ (l : List ℕ). Holds (texts ++ text ∷ []) l) same holds)) in
    ⊎_elim (λ holds. inl (as_was holds)) (λ holds. inr (one_more holds)) (staged-holds texts text staged.short staged.joins.1 staged.has.0 staged.has.2)
