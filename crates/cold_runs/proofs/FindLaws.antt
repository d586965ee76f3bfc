-- What a start finds in the journal of a history, in one that an entry was to join, and in one behind a start that broke off.
use Rattle.std.proofs.Common.{◌≡◌, ◌⊎◌, inl, inr, ⊎_elim, ℕ, Bool, true, false, Option, Some, None, List, [], ◌∷◌, ◌++◌, length, refl, sym, ap, ◌∙◌, subst, arith}
use Rattle.std.specs.Prelude.{IfSome}
use Rattle.std.specs.Option.{option_map_or}
use Rattle.disk_model.specs.Disk.{File, Files, settled_file}
use Rattle.plain_service.specs.Legal.{IsHistory}
use Rattle.plain_service.specs.Setups.{Setup}
use Rattle.journal_frames.specs.Frames.{AreShort, HasFile, Holds, IsShort, journal_name, journal_of}
use Rattle.journal_frames.specs.Staging.{HasStaged}
use Rattle.journal_frames.proofs.Appends.{staged-holds}
use Rattle.journal_frames.proofs.Frames.{holds-once}
use Rattle.journal_found.specs.Found.{AllFit, FindsOrOneMore, Found, JournalOf, follower_of, messages_of, texts_of}
use Rattle.journal_found.proofs.Chains.{chain-of, staged-finds}
use Rattle.journal_found.proofs.Lists.{last-same}
use Rattle.cluster_facts.specs.Types.{Entry}
use Rattle.cluster_facts.specs.History.{Hand, Empty, Waiting, Applied, Ready, committed_by}
use Rattle.cold_servers.specs.ColdLaws.{told-left}
use Rattle.cold_servers.specs.ColdSeen.{HoldsJournal, JournalBetween, LeavesTold}
use Rattle.cold_servers.specs.Down.{JournalFound}
use Rattle.cold_runs.specs.AfterFault.{FindsHistory}

-- bytes that hold the texts of a history's messages
history-found : (setup : Setup) (past : List Entry) (bytes : List ℕ) → IsHistory setup past → AllFit (messages_of setup past) → Holds (texts_of (messages_of setup past)) bytes → Found bytes past (follower_of setup past)
history-found setup past bytes history fits holds =
    record { messages = messages_of setup past; fits = fits; chain = chain-of setup past history; holds = holds }

-- a whole journal holds its texts
whole-holds : (texts : List (List ℕ)) → AreShort texts → Holds texts (settled_file (journal_of texts)).bytes
whole-holds texts short = record { short = short; gate = 0; behind = []; is = refl; closed = λ same. omega (arith, same) }

whole-finds : (setup : Setup) (past : List Entry) (files : Files) → IsHistory setup past → JournalOf setup past files → FindsHistory setup past files
whole-finds setup past files history whole =
    let texts = texts_of (messages_of setup past) in
    let file = settled_file (journal_of texts) in
    inl (file, whole.has.stands, history-found setup past file.bytes history whole.fits (whole-holds texts whole.has.short))

more-finds : (setup : Setup) (entry : Entry) (past : List Entry) (files : Files) → IsHistory setup (entry ∷ past) → JournalOf setup (entry ∷ past) files → FindsOrOneMore setup entry past files
more-finds setup entry past files history whole =
    let texts = texts_of (messages_of setup (entry ∷ past)) in
    let file = settled_file (journal_of texts) in
    (file, whole.has.stands, inr (history-found setup (entry ∷ past) file.bytes history whole.fits (whole-holds texts whole.has.short)))

pub between-finds : (setup : Setup) (past : List Entry) (files : Files) → IsHistory setup past → JournalBetween setup past files → FindsHistory setup past files
between-finds setup past files history (inl whole) = whole-finds setup past files history whole
between-finds setup past files history (inr some) =
    inr (some.0, some.1, ⊎_elim (λ staged. staged-finds setup past some.0 files some.1 staged) (λ whole. more-finds setup some.0 past files some.1 whole) some.2)

-- A journal behind a start that broke off is one that any text was to join, so it holds no more than it did.

last-apart : (texts : List (List ℕ)) → texts ++ [] ∷ [] ≡ texts ++ (0 ∷ []) ∷ [] → ⊥
last-apart texts is =
    let same : ◌≡◌ {A = List ℕ} [] (0 ∷ []) = (last-same texts texts [] (0 ∷ []) is).1 in
    let long = ap length same in
    cc

same-bytes : (file other : File) → ◌≡◌ {A = Option File} (Some file) (Some other) → file.bytes ≡ other.bytes
same-bytes file other is = ap (λ (o : Option File). option_map_or (λ (f : File). f.bytes) o []) is

module _ (texts : List (List ℕ)) (files : Files) where
  abbrev HasTexts : Type 0
  HasTexts = HasFile journal_name (λ file. Holds texts file.bytes) files

  alone-by : (one two : HasFile journal_name (λ file. Unit {0}) files) → one.0.bytes ≡ two.0.bytes → Holds texts one.0.bytes ⊎ Holds (texts ++ [] ∷ []) one.0.bytes → Holds texts two.0.bytes ⊎ Holds (texts ++ (0 ∷ []) ∷ []) two.0.bytes → HasTexts
  alone-by one two same (inl holds) second = (one.0, one.1, holds)
  alone-by one two same (inr more) (inl holds) = (two.0, two.1, holds)
  alone-by one two same (inr more) (inr other) =
      let here = subst (λ (bytes : List ℕ). Holds (texts ++ [] ∷ []) bytes) same more in
      absurd (last-apart texts (holds-once (texts ++ [] ∷ []) (texts ++ (0 ∷ []) ∷ []) two.0.bytes here other))

  staged-alone : AreShort texts → ((text : List ℕ) → IsShort text → HasStaged texts text files) → HasTexts
  staged-alone short staged =
      let none : IsShort [] = omega arith in
      let some : IsShort (0 ∷ []) = omega arith in
      let one = staged [] none in
      let two = staged (0 ∷ []) some in
      alone-by (one.0, one.1, tt) (two.0, two.1, tt) (same-bytes one.0 two.0 (sym one.1 ∙ two.1))
      (staged-holds texts [] short none one.0 one.2) (staged-holds texts (0 ∷ []) short some two.0 two.2)

start-found : (setup : Setup) (past : List Entry) (files : Files) → IsHistory setup past → AllFit (messages_of setup past) → AreShort (texts_of (messages_of setup past)) → JournalFound setup past files → FindsHistory setup past files
start-found setup past files history fits short (inl between) = between-finds setup past files history between
start-found setup past files history fits short (inr staged) =
    let alone = staged-alone (texts_of (messages_of setup past)) files short staged in
    inl (alone.0, alone.1, history-found setup past alone.0.bytes history fits alone.2)

-- the texts of what was committed are in the journal of a state
abbrev HasFitTexts : Setup → List Entry → Type 0
HasFitTexts setup past = AllFit (messages_of setup past) × AreShort (texts_of (messages_of setup past))

held-texts : (up : Bool) (setup : Setup) (past : List Entry) (hand : Hand) (files : Files) → HoldsJournal up setup past hand files → HasFitTexts setup (committed_by past hand)
held-texts true setup past hand files whole = (whole.fits, whole.has.short)
held-texts false setup past Empty files whole = (whole.fits, whole.has.short)
held-texts false setup past (Waiting entry) files (inl whole) = (whole.fits, whole.has.short)
held-texts false setup past (Waiting entry) files (inr staged) = (staged.fits, staged.short)
held-texts false setup past (Applied entry) files whole = (whole.fits, whole.has.short)
held-texts false setup past (Ready entry) files whole = (whole.fits, whole.has.short)

-- **a start that broke off finds no less again**
pub start-finds : (up : Bool) (setup : Setup) (past : List Entry) (hand : Hand) (held left : Option Files) → IsHistory setup (committed_by past hand) → IfSome held (HoldsJournal up setup past hand) → LeavesTold (JournalFound setup (committed_by past hand)) held left → IfSome left (FindsHistory setup (committed_by past hand))
start-finds up setup past hand None left history tells leaves =
    told-left (FindsHistory setup (committed_by past hand)) None left leaves
start-finds up setup past hand (Some files) left history tells leaves =
    let core = committed_by past hand in
    let texts = held-texts up setup past hand files tells in
    told-left (FindsHistory setup core) (Some files) left (leaves.0, leaves.1, start-found setup core leaves.0 history texts.0 texts.1 leaves.2)
