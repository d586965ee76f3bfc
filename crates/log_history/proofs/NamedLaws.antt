-- All names that files of records ever had differ, since their last stamps do.
use Rattle.std.proofs.Common.{◌≡◌, ◌≢◌, ◌⊎◌, inl, inr, ℕ, suc, zero, ◌≤◌, Bool, true, false, cond, List, [], ◌∷◌, ◌++◌, drop, refl, ap, sym, ◌∙◌, subst, arith}
use Rattle.std.specs.Prelude.{Option, Some, None, pos, ⊤}
use Rattle.std.specs.Option.{option_to_list}
use Rattle.std.proofs.lemmas.Bool.{cases_eq}
use Rattle.std.specs.Str.{bytes_eq}
use Rattle.std.proofs.lemmas.Slice.Eq.{bytes_eq-Decides}
use Rattle.client_set.specs.Members.{Stands}
use Rattle.stream_config.specs.declared.attrs.StreamAttrs.{StreamAttrs}
use Rattle.stream_config.specs.declared.state.LogFile.{LogFile}
use Rattle.stream_config.specs.Events.{open_file, standing, file_closed}
use Rattle.stream_layout.specs.Names.{log_name}
use Rattle.stream_layout.specs.LogFiles.{bytes_in, entries_to, log_entries}
use Rattle.stream_config.specs.Fit.{next_first}
use Rattle.log_history.specs.Rounds.{Round, last_of, front_of}
use Rattle.stream_layout.specs.Carrying.{IsStamp, entry_at}
use Rattle.stream_layout.proofs.NameLaws.{last_stamp, last_apart}
use Rattle.log_history.specs.Changes.{LogChange}
use Rattle.log_history.specs.Chronicle.{LogSetup, Stream, chronicle, files_had, stamped_files, last_file, all_files}
use Rattle.log_history.specs.Stamps.{stamps_of_full, stamps_in, stamps_of_all}
use Rattle.log_history.specs.AllNames.{NoneTwice, names_of_full, last_names, names_in, names_of_all, names_ever}
use Rattle.log_history.specs.Files.{log_entries_of}
use Rattle.log_history.proofs.StampedLaws.{stamped}
use Rattle.log_history.proofs.StreamLaws.{stamp-is}

-- a name of a file whose last stamp is this one
pub record IsNamedBy (name : List ℕ) (stamp : ℕ) : Type 0 where
  pub attrs : StreamAttrs
  pub file : LogFile
  pub last : last_stamp file ≡ pos stamp
  pub is : name ≡ log_name attrs file

pub pos-tells : (one other : ℕ) → pos one ≡ pos other → one ≡ other
pos-tells one other same = cc

-- a name tells its last stamp
pub named-same : (name : List ℕ) (one other : ℕ) → one ≤ 20000000100 → other ≤ 20000000100 → IsNamedBy name one → IsNamedBy name other → one ≡ other
named-same name one other low low' is is' = by_case (cases_eq one other) where
  by_case : (one ≡ other) ⊎ (one ≢ other) → one ≡ other
  by_case (inl same) = same
  by_case (inr differ) =
      absurd (last_apart is.attrs is'.attrs is.file is'.file
      (subst IsStamp (sym is.last) (stamp-is one low)) (subst IsStamp (sym is'.last) (stamp-is other low'))
      (λ same. differ (pos-tells one other (sym is.last ∙ same ∙ is'.last))) (sym is.is ∙ is'.is))

-- names and their last stamps, in one order
abbrev pub AreNamedBy : List (List ℕ) → List ℕ → Type 0
AreNamedBy [] [] = ⊤
AreNamedBy (name ∷ names) (stamp ∷ stamps) = IsNamedBy name stamp × AreNamedBy names stamps
AreNamedBy _ _ = ⊥

named-append : (names more : List (List ℕ)) (stamps others : List ℕ) → AreNamedBy names stamps → AreNamedBy more others → AreNamedBy (names ++ more) (stamps ++ others)
named-append [] more [] others front behind = behind
named-append [] more (stamp ∷ stamps) others front behind = absurd front
named-append (name ∷ names) more [] others front behind = absurd front
named-append (name ∷ names) more (stamp ∷ stamps) others front behind = (front.0, named-append names more stamps others front.1 behind)

named-full : (attrs : StreamAttrs) (files : List (ℕ × ℕ)) → AreNamedBy (names_of_full attrs files) (stamps_of_full files)
named-full attrs [] = tt
named-full attrs (file ∷ files) = (
  record { attrs = attrs; file = open_file (pos file.0); last = refl; is = refl },
  (record { attrs = attrs; file = file_closed (pos file.1) (open_file (pos file.0)); last = refl; is = refl }, named-full attrs files),
)

named-last : (attrs : StreamAttrs) (created : ℕ) (ended : Option ℕ) → AreNamedBy (log_name attrs (open_file (pos created)) ∷ last_names attrs created ended) (created ∷ option_to_list ended)
named-last attrs created None = (record { attrs = attrs; file = open_file (pos created); last = refl; is = refl }, tt)
named-last attrs created (Some closed) = (
  record { attrs = attrs; file = open_file (pos created); last = refl; is = refl },
  (record { attrs = attrs; file = file_closed (pos closed) (open_file (pos created)); last = refl; is = refl }, tt),
)

pub named-in : (stream : Stream) → AreNamedBy (names_in stream) (stamps_in stream)
named-in stream =
    named-append (names_of_full stream.attrs stream.full) (log_name stream.attrs (open_file (pos stream.current)) ∷ last_names stream.attrs stream.current stream.ended)
    (stamps_of_full stream.full) (stream.current ∷ option_to_list stream.ended)
    (named-full stream.attrs stream.full) (named-last stream.attrs stream.current stream.ended)

pub named-all : (streams : List Stream) → AreNamedBy (names_of_all streams) (stamps_of_all streams)
named-all [] = tt
named-all (stream ∷ streams) =
    named-append (names_in stream) (names_of_all streams) (stamps_in stream) (stamps_of_all streams) (named-in stream) (named-all streams)

-- the stamp of a name
pub record HasStamp (name : List ℕ) (stamps : List ℕ) : Type 0 where
  pub stamp : ℕ
  pub there : Stands stamp stamps
  pub names : IsNamedBy name stamp

pub stamp-of : (names : List (List ℕ)) (stamps : List ℕ) (name : List ℕ) → AreNamedBy names stamps → Stands name names → HasStamp name stamps
stamp-of [] [] name are there = absurd there
stamp-of [] (stamp ∷ stamps) name are there = absurd are
stamp-of (first ∷ names) [] name are there = absurd are
stamp-of (first ∷ names) (stamp ∷ stamps) name are (inl same) =
    record { stamp = stamp; there = inl refl; names = subst (λ n. IsNamedBy n stamp) (sym same) are.0 }
stamp-of (first ∷ names) (stamp ∷ stamps) name are (inr later) =
    let found = stamp-of names stamps name are.1 later in
    record { stamp = found.stamp; there = inr found.there; names = found.names }

-- names differ where their stamps do
pub once-named : (names : List (List ℕ)) (stamps : List ℕ) → AreNamedBy names stamps → ((stamp : ℕ) → Stands stamp stamps → stamp ≤ 20000000100) → NoneTwice stamps → NoneTwice names
once-named [] stamps are low once = tt
once-named (name ∷ names) [] are low once = absurd are
once-named (name ∷ names) (stamp ∷ stamps) are low once =
    (alone, once-named names stamps are.1 (λ other there. low other (inr there)) once.1) where
      alone : Stands name names → ⊥
      alone there =
          let found = stamp-of names stamps name are.1 there in
          let same = named-same name stamp found.stamp (low stamp (inl refl)) (low found.stamp (inr found.there)) are.0 found.names in
          once.0 (subst (λ s. Stands s stamps) (sym same) found.there)

-- **the names of all files that ever stood differ**
pub names-once : (setup : LogSetup) (past : List LogChange) → (chronicle setup past).last ≤ 20000000100 → NoneTwice (names_ever setup past)
names-once setup past low =
    let streams = (chronicle setup past).streams in
    let are = stamped setup past in
    once-named (names_of_all streams) (stamps_of_all streams) (named-all streams) (λ stamp there. omega (arith, low, are.upto stamp there)) are.once

-- which name a file has that stands

pub Stands-drop : {X : Type 0} (k : ℕ) (x : X) (xs : List X) → Stands x (drop k xs) → Stands x xs
Stands-drop zero x xs there = there
Stands-drop (suc k) x [] there = there
Stands-drop (suc k) x (y ∷ xs) there = inr (Stands-drop k x xs there)

-- an entry of a stream's files is of one of them
pub record IsOfFile (attrs : StreamAttrs) (files : List LogFile) (name : List ℕ) : Type 0 where
  pub file : LogFile
  pub there : Stands file files
  pub is : name ≡ log_name attrs file

pub of-file : (attrs : StreamAttrs) (records : List (List ℕ)) (until : ℕ) (files : List LogFile) (name bytes : List ℕ) → entry_at (entries_to attrs records until files) name ≡ Some bytes → IsOfFile attrs files name
unfolding entries_to
of-file attrs records until [] name bytes found = cc
of-file attrs records until (file ∷ files) name bytes found =
    by_case (bytes_in attrs file.first (next_first files until) records) (bytes_eq name (log_name attrs file)) refl found (of-file attrs records until files name bytes) where
      by_case : (first : List ℕ) (b : Bool) → bytes_eq name (log_name attrs file) ≡ b → cond b (Some first) (entry_at (entries_to attrs records until files) name) ≡ Some bytes → (entry_at (entries_to attrs records until files) name ≡ Some bytes → IsOfFile attrs files name) → IsOfFile attrs (file ∷ files) name
      by_case first true is some later =
          record { file = file; there = inl refl; is = (bytes_eq-Decides name (log_name attrs file)).0 is }
      by_case first false is some later =
          let rest = later some in record { file = rest.file; there = inr rest.there; is = rest.is }

pub none-stamped : (full : List (ℕ × ℕ)) → (let none : List LogFile = [] in none) ≡ stamped_files full []
none-stamped [] = refl
none-stamped (stamps ∷ full) = refl

pub file-named : (attrs : StreamAttrs) (full : List (ℕ × ℕ)) (rounds : List Round) (created : ℕ) (ended : Option ℕ) (last : Round) (file : LogFile) → Stands file (stamped_files full rounds ++ last_file created ended last ∷ []) → Stands (log_name attrs file) (names_of_full attrs full ++ log_name attrs (open_file (pos created)) ∷ last_names attrs created ended)
file-named attrs [] rounds created None last file (inl same) = inl (ap (log_name attrs) same)
file-named attrs [] rounds created (Some closed) last file (inl same) = inr (inl (ap (log_name attrs) same))
file-named attrs [] rounds created ended last file (inr there) = absurd there
file-named attrs (one ∷ full) [] created ended last file there =
    inr (inr (file-named attrs full [] created ended last file (subst (λ files. Stands file (files ++ last_file created ended last ∷ [])) (none-stamped full) there)))
file-named attrs (one ∷ full) (round ∷ rounds) created ended last file (inl same) = inr (inl (ap (log_name attrs) same))
file-named attrs (one ∷ full) (round ∷ rounds) created ended last file (inr there) = inr (inr (file-named attrs full rounds created ended last file there))

-- **a file of records that stands has one of its stream's names**
pub entry-named : (stream : Stream) (name bytes : List ℕ) → entry_at (log_entries_of stream) name ≡ Some bytes → Stands name (names_in stream)
unfolding log_entries
entry-named stream name bytes found =
    let file = of-file stream.attrs _ _ (standing stream.attrs (all_files stream)) name bytes found in
    subst (λ n. Stands n (names_in stream)) (sym file.is)
    (file-named stream.attrs stream.full (front_of (files_had stream)) stream.current stream.ended (last_of (files_had stream)) file.file (Stands-drop _ file.file (all_files stream) file.there))
