-- What was read of a journal is found in it, and a journal that is mended is that of what was found.
use Rattle.std.proofs.Common.{◌≡◌, ◌⊎◌, inl, inr, Result, Ok, Err, ℕ, Bool, List, Option, Some, None, option_map, refl, sym, ap, subst, ◌∙◌}
use Rattle.std.specs.Prelude.{IfErr, IfOk, IfSome, IsErrOf}
use Rattle.std.specs.Option.{option_map_or}
use Rattle.std.specs.FinMap.{get}
use Rattle.disk_model.specs.Disk.{File, Files}
use Rattle.journal_frames.specs.Frames.{HasJournal, journal_name, mended}
use Rattle.journal_frames.specs.Staging.{EndsAt, HasStaged, IsMended, Keeps}
use Rattle.journal_frames.proofs.Mending.{mend-whole}
use Rattle.journal_found.specs.Found.{texts_of, Found}
use Rattle.journal_start.specs.declared.replaying.Replayed.{Replayed}
use Rattle.journal_start.specs.Replays.{ReadWhole}
use Rattle.disk_model.specs.DeviceCalls.{all_applied}
use Rattle.stream_layout.specs.Deeds.{calls_of_all}
use Rattle.mirror.specs.declared.state.NodeState.{NodeState as Node}
use Rattle.mirror.specs.declared.heard.Role.TheVariants.{Standby}
use Rattle.mirror.specs.Pairing.{deeds_kept, taken_over}
use Rattle.journal_frames.proofs.Keeping.{keeps-same}
use Rattle.journal_start.specs.declared.cold.Cold.{Cold}
use Rattle.journal_start.specs.declared.cold.ColdAnswer.{ColdAnswer}
use Rattle.journal_start.specs.declared.journal.Journal.{Journal}
use Rattle.journal_start.specs.Starts.{bytes_in, HasStarted, IsOfDisk, TakesOver, TriesDeeds, TriesFound, TriesOrNot}

pub read-found : (bytes : List ℕ) (read : Replayed) → (whole : ReadWhole bytes read) → Found bytes whole.followed.past whole.follower
read-found bytes read whole = record {
  messages = whole.followed.messages;
  fits = whole.followed.fits;
  chain = whole.followed.chain;
  holds = record { short = whole.followed.short; gate = whole.gate; behind = whole.behind; is = whole.followed.is; closed = whole.shut };
}

pub read-ends : (bytes : List ℕ) (read : Replayed) → ReadWhole bytes read → EndsAt bytes read.place read.closed
read-ends bytes read whole = record {
  texts = texts_of whole.followed.messages;
  short = whole.followed.short;
  gate = whole.gate;
  behind = whole.behind;
  is = whole.followed.is;
  shut = whole.shut;
  at = whole.followed.at;
  is_closed = whole.is_closed;
  is_torn = whole.is_torn;
}

-- the file whose bytes these are
file-of : (files : Files) (bytes : List ℕ) → Some bytes ≡ bytes_in files → (file : File) × (get files journal_name ≡ Some file) × (file.bytes ≡ bytes)
file-of files bytes told = by-file (get files journal_name) refl told
  where
    by-file : (found : Option File) → get files journal_name ≡ found → Some bytes ≡ option_map (λ (file : File). file.bytes) found → (file : File) × (get files journal_name ≡ Some file) × (file.bytes ≡ bytes)
    by-file None is same = absurd (none-some same)
      where
        none-some : ◌≡◌ {A = Option (List ℕ)} (Some bytes) None → ⊥
        none-some is = cc
    by-file (Some file) is same = (file, is, sym (ap (λ (o : Option (List ℕ)). option_map_or (λ (l : List ℕ). l) o bytes) same))

pub mended-has : (bytes : List ℕ) (read : Replayed) (whole : ReadWhole bytes read) (held left : Option Files) → IfSome held (λ files. Some bytes ≡ bytes_in files) → left ≡ option_map (mended read.place read.closed) held
    → IfSome held (λ files. IfSome left (HasJournal (texts_of whole.followed.messages)))
mended-has bytes read whole None left told is = tt
mended-has bytes read whole (Some files) left told is =
    let H = HasJournal (texts_of whole.followed.messages) in
    let texts = texts_of whole.followed.messages in
    let found = file-of files bytes told in
    let stands : get (mended read.place read.closed files) journal_name ≡ _ =
    ap (λ (place : ℕ). get (mended place read.closed files) journal_name) whole.followed.at
    ∙ mend-whole texts read.closed files found.0 whole.gate whole.behind found.1 (found.2 ∙ whole.followed.is) whole.is_closed in
    let has : H (mended read.place read.closed files) = record { short = whole.followed.short; stands = stands } in
    subst (λ (o : Option Files). IfSome o H) (sym is) has

pub started-kept : (texts : List (List ℕ)) (text bytes : List ℕ) (place : ℕ) (closed : Bool) (held mid left : Option Files) → mid ≡ held → IfSome held (λ files. Some bytes ≡ bytes_in files) → EndsAt bytes place closed
    → Keeps (IsMended texts text place closed) (HasStaged texts text) mid left → Keeps (HasStaged texts text) (HasStaged texts text) held left
started-kept texts text bytes place closed held mid left same told ends kept =
    by-held held left told (subst (λ (o : Option Files). Keeps (IsMended texts text place closed) (HasStaged texts text) o left) same kept)
  where
    is-mended : (files : Files) → Some bytes ≡ bytes_in files → HasStaged texts text files → IsMended texts text place closed files
    is-mended files is has =
        let found = file-of files bytes is in
        let one : has.0.bytes ≡ bytes = ap (λ (o : Option File). option_map_or (λ (f : File). f.bytes) o bytes) (sym has.1 ∙ found.1) ∙ found.2 in
        (has.0, has.1, (has.2, subst (λ (l : List ℕ). EndsAt l place closed) (sym one) ends))

    by-held : (one two : Option Files) → IfSome one (λ files. Some bytes ≡ bytes_in files) → Keeps (IsMended texts text place closed) (HasStaged texts text) one two → Keeps (HasStaged texts text) (HasStaged texts text) one two
    by-held None two is keeps = tt
    by-held (Some one) None is keeps = λ has. keeps (is-mended one is has)
    by-held (Some one) (Some two) is keeps = λ has. keeps (is-mended one is has)

-- **a server started**
pub started : (bytes : List ℕ) (read : Replayed) → ReadWhole bytes read → (cold : Cold) (held mid left before after : Option Files) → IfSome held (λ files. Some bytes ≡ bytes_in files) → mid ≡ held
    → left ≡ option_map (mended read.place read.closed) mid → TakesOver read cold before after → HasStarted cold held left before after
unfolding read-found
started bytes read whole cold held mid left before after told same is takes = record {
  bytes = bytes;
  read = told;
  past = whole.followed.past;
  follower = whole.follower;
  found = read-found bytes read whole;
  entries = takes.1 ∙ whole.followed.entries_are;
  node = takes.0 ∙ ap taken_over whole.node;
  number = ap (λ (j : Journal). j.number) takes.2 ∙ whole.number;
  end = ap (λ (j : Journal). j.end) takes.2 ∙ whole.followed.at;
  mended = mended-has bytes read whole held left told (is ∙ ap (option_map (mended read.place read.closed)) same);
  untold = λ none. is ∙ ap (option_map (mended read.place read.closed)) (same ∙ none);
  deeds = takes.3 ∙ ap (λ (n : Node). option_map (all_applied (calls_of_all (deeds_kept n.kept))) before) whole.node;
}

pub started-all : (bytes : List ℕ) (read : Replayed) → ReadWhole bytes read → (result : Result Cold ColdAnswer) (held mid left before after : Option Files) → IfSome held (λ files. Some bytes ≡ bytes_in files) → mid ≡ held
    → IfOk result (λ cold. left ≡ option_map (mended read.place read.closed) mid) → IfOk result (λ cold. TakesOver read cold before after) → IfOk result (λ cold. HasStarted cold held left before after)
started-all bytes read whole (Ok cold) held mid left before after told same is takes = started bytes read whole cold held mid left before after told same is takes
started-all bytes read whole (Err answer) held mid left before after told same is takes = tt

pub tried-all : (bytes : List ℕ) (read : Replayed) → ReadWhole bytes read → (result : Result Cold ColdAnswer) (held before after : Option Files) → IfSome held (λ files. Some bytes ≡ bytes_in files)
    → IfErr result (λ answer. TriesOrNot (deeds_kept read.node.kept) before after) → IfErr result (λ answer. TriesFound held before after)
tried-all bytes read whole (Ok cold) held before after told tries = tt
tried-all bytes read whole (Err answer) held before after told (inl same) = inl same
tried-all bytes read whole (Err answer) held before after told (inr tries) =
    inr (bytes, whole.followed.past, whole.follower, told, read-found bytes read whole, subst (λ (n : Node). TriesDeeds (deeds_kept n.kept) before after) whole.node tries)

pub never-err : (result : Result Cold ColdAnswer) (answer : ColdAnswer) → IfErr result IsOfDisk → IsErrOf result answer → IsOfDisk answer
never-err (Ok cold) answer never is = cc
never-err (Err other) answer never is = let same : other ≡ answer = cc in subst IsOfDisk same never

pub untouched-all : (result : Result Cold ColdAnswer) (X : Type 0) → IfErr result IsOfDisk → IfErr result (λ answer. IsOfDisk answer ⊎ X)
untouched-all (Ok cold) X never = tt
untouched-all (Err answer) X never = inl never

pub stays-staged : (texts : List (List ℕ)) (text : List ℕ) (old new : Option Files) → new ≡ old → Keeps (HasStaged texts text) (HasStaged texts text) old new
stays-staged texts text old new same = keeps-same (HasStaged texts text) old new same

pub role-is : (bytes : List ℕ) (read : Replayed) → ReadWhole bytes read → read.node.replica.role ≡ Standby
role-is bytes read whole = ap (λ (n : Node). n.replica.role) whole.node

-- what was read where the file stands
pub some-read : (held : Option Files) (found : Option (List ℕ)) (bytes slice : List ℕ) → slice ≡ bytes → found ≡ Some bytes → IfSome held (λ files. found ≡ bytes_in files) → IfSome held (λ files. Some slice ≡ bytes_in files)
some-read held found bytes slice same is told = subst (λ (o : Option (List ℕ)). IfSome held (λ files. o ≡ bytes_in files)) (is ∙ ap (λ (l : List ℕ). Some l) (sym same)) told
