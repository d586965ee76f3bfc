-- What is found under each name among the files of streams, and that one stream's files are told from all others'.
use Rattle.std.proofs.Common.{◌≡◌, ◌⊎◌, inl, inr, ℕ, ◌≤◌, Bool, true, false, cond, List, [], ◌∷◌, ◌++◌, map, refl, ap, sym, ◌∙◌, subst, arith, append_assoc, append-nil}
use Rattle.std.specs.Prelude.{Option, Some, None, option_map, reverse}
use Rattle.std.specs.Option.{option_map_or}
use Rattle.std.specs.List.{flat_map}
use Rattle.std.specs.Ordering.{nat_cmp}
use Rattle.std.specs.Cmp.Lexicographic.{slice_cmp, nat_list_cmp_total}
use Rattle.std.specs.Str.{bytes_eq}
use Rattle.std.specs.FinMap.{get, get-from_entries}
use Rattle.std.specs.FinMap.Entries.{find}
use Rattle.std.proofs.lemmas.List.{reverse-append}
use Rattle.std.proofs.lemmas.List.Concat.{flat_map-cons}
use Rattle.std.proofs.lemmas.Grind.{flat_map-append}
use Rattle.std.proofs.lemmas.Slice.Eq.{bytes_eq-Decides}
use Rattle.client_set.specs.Members.{Stands}
use Rattle.client_set.proofs.MemberLaws.{Stands-append_left, Stands-append_right}
use Rattle.disk_model.specs.Disk.{File, Files, settled_file}
use Rattle.stream_config.specs.declared.attrs.StreamAttrs.{StreamAttrs}
use Rattle.stream_config.specs.Cfg.{cfg_of}
use Rattle.stream_layout.specs.Names.{cfg_name}
use Rattle.stream_layout.specs.LogFiles.{Entries}
use Rattle.stream_layout.specs.Carrying.{entry_at}
use Rattle.stream_layout.proofs.FileLaws.{same_is}
use Rattle.stream_layout.proofs.NameLaws.{cfg_apart}
use Rattle.log_history.specs.Changes.{LogChange}
use Rattle.log_history.specs.Chronicle.{LogSetup, Stream, chronicle}
use Rattle.log_history.specs.Files.{log_entries_of, entries_of, history_entries, file_at, disk_files}
use Rattle.log_history.specs.Stamps.{stamps_in, stamps_of_all}
use Rattle.log_history.specs.AllNames.{names_in, names_of_all}
use Rattle.log_history.proofs.OnceLaws.{AreStamps, middle-alone}
use Rattle.log_history.proofs.StampedLaws.{stamps-around}
use Rattle.log_history.proofs.NamedLaws.{IsNamedBy, named-same, named-in, named-all, stamp-of, entry-named}

-- the entries of streams, those of the newest first
abbrev pub entries_back : List Stream → Entries
entries_back [] = []
entries_back (stream ∷ streams) = entries_back streams ++ entries_of stream

entries_back-is : (streams : List Stream) → flat_map entries_of (reverse streams) ≡ entries_back streams
entries_back-is [] = refl
entries_back-is (stream ∷ streams) =
    ap (flat_map entries_of) (reverse-append (stream ∷ []) streams)
    ∙ flat_map-append entries_of (reverse streams) (stream ∷ [])
    ∙ ap (λ front. front ++ flat_map entries_of (stream ∷ [])) (entries_back-is streams)
    ∙ ap (λ rest. entries_back streams ++ rest) (flat_map-cons entries_of stream [] ∙ append-nil (entries_of stream))

entries_back-append : (streams more : List Stream) → entries_back (streams ++ more) ≡ entries_back more ++ entries_back streams
entries_back-append [] more = sym (append-nil (entries_back more))
entries_back-append (stream ∷ streams) more =
    ap (λ front. front ++ entries_of stream) (entries_back-append streams more)
    ∙ append_assoc (entries_back more) (entries_back streams) (entries_of stream)

-- the first one, or the other
abbrev pub either_of : {X : Type 0} → Option X → Option X → Option X
either_of one other = option_map_or Some one other

pub entry_at-append : (front more : Entries) (name : List ℕ) → entry_at (front ++ more) name ≡ either_of (entry_at front name) (entry_at more name)
entry_at-append [] more name = refl
entry_at-append (entry ∷ front) more name =
    elim (bytes_eq name entry.0) as (λ b. cond b (Some entry.1) (entry_at (front ++ more) name) ≡ either_of (cond b (Some entry.1) (entry_at front name)) (entry_at more name)) [
      | true ↦ refl
      | false ↦ entry_at-append front more name
    ]

-- the bytes of the file of that name
abbrev pub found_in : List Stream → List ℕ → Option (List ℕ)
found_in streams name = entry_at (entries_back streams) name

-- the same, of a stream between others
abbrev pub whole : (behind : Option (List ℕ)) (is_cfg : Bool) (text : List ℕ) (log front : Option (List ℕ)) → Option (List ℕ)
whole behind is_cfg text log front = either_of (either_of behind (cond is_cfg (Some text) log)) front

pub found-around : (front behind : List Stream) (stream : Stream) (name : List ℕ) → found_in (front ++ stream ∷ behind) name ≡ either_of (either_of (found_in behind name) (entry_at (entries_of stream) name)) (found_in front name)
found-around front behind stream name =
    ap (λ entries. entry_at entries name) (entries_back-append front (stream ∷ behind))
    ∙ entry_at-append (entries_back behind ++ entries_of stream) (entries_back front) name
    ∙ ap (λ one. either_of one (found_in front name)) (entry_at-append (entries_back behind) (entries_of stream) name)

pub found-push : (streams : List Stream) (stream : Stream) (name : List ℕ) → found_in (streams ++ stream ∷ []) name ≡ either_of (entry_at (entries_of stream) name) (found_in streams name)
found-push streams stream name = found-around streams [] stream name

-- what is found is a file of records or a cfg file
pub found-tells : (streams : List Stream) (name bytes : List ℕ) → found_in streams name ≡ Some bytes → Stands name (names_of_all streams) ⊎ ((attrs : StreamAttrs) × (name ≡ cfg_name attrs))
found-tells [] name bytes found = cc
found-tells (stream ∷ streams) name bytes found =
    by_case (found_in streams name) refl (bytes_eq name (cfg_name stream.attrs)) refl (sym (entry_at-append (entries_back streams) (entries_of stream) name) ∙ found)
    (found-tells streams name) where
      by_case : (later : Option (List ℕ)) → found_in streams name ≡ later → (b : Bool) → bytes_eq name (cfg_name stream.attrs) ≡ b → either_of later (cond b (Some (cfg_of stream.name stream.attrs)) (entry_at (log_entries_of stream) name)) ≡ Some bytes → ((other : List ℕ) → found_in streams name ≡ Some other → Stands name (names_of_all streams) ⊎ ((attrs : StreamAttrs) × (name ≡ cfg_name attrs))) → Stands name (names_in stream ++ names_of_all streams) ⊎ ((attrs : StreamAttrs) × (name ≡ cfg_name attrs))
      by_case (Some other) there b is same behind = elim (behind other there) [
        | inl stands ↦ inl (Stands-append_right name (names_in stream) (names_of_all streams) stands)
        | inr cfg ↦ inr cfg
      ]
      by_case None there true is same behind = inr (stream.attrs, (bytes_eq-Decides name (cfg_name stream.attrs)).0 is)
      by_case None there false is same behind =
          inl (Stands-append_left name (names_in stream) (names_of_all streams) (entry-named stream name bytes same))

-- no file has a name whose last stamp none of the streams has
pub absent : (streams : List Stream) (last : ℕ) (name : List ℕ) (stamp : ℕ) → last ≤ 20000000100 → AreStamps last (stamps_of_all streams) → stamp ≤ 20000000100 → IsNamedBy name stamp → (Stands stamp (stamps_of_all streams) → ⊥) → found_in streams name ≡ None
absent streams last name stamp low are short named nowhere = by_case (found_in streams name) refl where
  by_case : (found : Option (List ℕ)) → found_in streams name ≡ found → found ≡ None
  by_case None is = refl
  by_case (Some bytes) is = elim (found-tells streams name bytes is) [
    | inl stands ↦
        let other = stamp-of (names_of_all streams) (stamps_of_all streams) name (named-all streams) stands in
        let le = are.upto other.stamp other.there in
        let same = named-same name stamp other.stamp short (omega (arith, le, low)) named other.names in
        absurd (nowhere (subst (λ s. Stands s (stamps_of_all streams)) (sym same) other.there))
    | inr cfg ↦ absurd (cfg_apart named.attrs cfg.0 named.file (sym named.is ∙ cfg.1))
  ]

-- a file of records of one stream, and of no other
pub record IsAlone (front behind : List Stream) (stream : Stream) (name : List ℕ) : Type 0 where
  pub before : found_in front name ≡ None
  pub later : found_in behind name ≡ None
  pub records : bytes_eq name (cfg_name stream.attrs) ≡ false

not-cfg : (name : List ℕ) (stamp : ℕ) (attrs : StreamAttrs) → IsNamedBy name stamp → bytes_eq name (cfg_name attrs) ≡ false
not-cfg name stamp attrs named = by_case (bytes_eq name (cfg_name attrs)) refl where
  by_case : (b : Bool) → bytes_eq name (cfg_name attrs) ≡ b → b ≡ false
  by_case true is = absurd (cfg_apart named.attrs attrs named.file (sym named.is ∙ (bytes_eq-Decides name (cfg_name attrs)).0 is))
  by_case false is = refl

-- stamps of some of the streams
pub stamps-within : (last : ℕ) (front middle behind : List ℕ) → AreStamps last (front ++ (middle ++ behind)) → AreStamps last front × AreStamps last behind
stamps-within last front middle behind are = (front_are front are, behind_are middle (behind_are front are)) where
  front_are : (these : List ℕ) → AreStamps last (these ++ (middle ++ behind)) → AreStamps last these
  front_are [] all = record { upto = λ stamp there. absurd there; once = tt }
  front_are (one ∷ these) all =
      let rest = front_are these (record { upto = λ stamp there. all.upto stamp (inr there); once = all.once.1 }) in
      record {
        upto = λ stamp there. all.upto stamp (Stands-append_left stamp (one ∷ these) (middle ++ behind) there);
        once = ((λ there. all.once.0 (Stands-append_left one these (middle ++ behind) there)), rest.once);
      }

  behind_are : (these : List ℕ) {more : List ℕ} → AreStamps last (these ++ more) → AreStamps last more
  behind_are [] all = all
  behind_are (one ∷ these) all = behind_are these (record { upto = λ stamp there. all.upto stamp (inr there); once = all.once.1 })

pub alone : (front behind : List Stream) (stream : Stream) (last : ℕ) → last ≤ 20000000100 → AreStamps last (stamps_of_all (front ++ stream ∷ behind)) → (name bytes : List ℕ) → entry_at (log_entries_of stream) name ≡ Some bytes → IsAlone front behind stream name
alone front behind stream last low are name bytes found =
    let F = stamps_of_all front in
    let S = stamps_in stream in
    let B = stamps_of_all behind in
    let all = subst (AreStamps last) (stamps-around front behind stream) are in
    let within = stamps-within last F S B all in
    let named = stamp-of (names_in stream) S name (named-in stream) (entry-named stream name bytes found) in
    let nowhere = middle-alone F S B named.stamp all.once named.there in
    let le = all.upto named.stamp (Stands-append_right named.stamp F (S ++ B) (Stands-append_left named.stamp S B named.there)) in
    let short : named.stamp ≤ 20000000100 = omega (arith, le, low) in
    record {
      before = absent front last name named.stamp low within.0 short named.names (λ there. nowhere (Stands-append_left named.stamp F B there));
      later = absent behind last name named.stamp low within.1 short named.names (λ there. nowhere (Stands-append_right named.stamp F B there));
      records = not-cfg name named.stamp stream.attrs named.names;
    }

-- what is found on the disk of a history

abbrev settle : List ℕ × List ℕ → List ℕ × File
settle entry = (entry.0, settled_file entry.1)

found-entry : (entries : Entries) (name : List ℕ) → find (slice_cmp nat_cmp) name (map settle entries) ≡ option_map settled_file (entry_at entries name)
found-entry [] name = refl
found-entry (entry ∷ entries) name =
    ap (λ b. cond b (Some (settled_file entry.1)) (find (slice_cmp nat_cmp) name (map settle entries))) (same_is name entry.0)
    ∙ elim (bytes_eq name entry.0) as (λ b. cond b (Some (settled_file entry.1)) (find (slice_cmp nat_cmp) name (map settle entries)) ≡ option_map settled_file (cond b (Some entry.1) (entry_at entries name))) [
      | true ↦ refl
      | false ↦ found-entry entries name
    ]

pub file-at : (setup : LogSetup) (past : List LogChange) (name : List ℕ) → file_at setup past name ≡ found_in (chronicle setup past).streams name
unfolding file_at
file-at setup past name = ap (λ entries. entry_at entries name) (entries_back-is (chronicle setup past).streams)

-- these are the files of the streams
abbrev pub Holds : List Stream → Files → Type 0
Holds streams files = (name : List ℕ) → get files name ≡ option_map settled_file (found_in streams name)

pub disk-holds : (setup : LogSetup) (past : List LogChange) → Holds (chronicle setup past).streams (disk_files setup past)
unfolding disk_files
disk-holds setup past name =
    get-from_entries nat_list_cmp_total (map settle (history_entries setup past)) name
    ∙ found-entry (history_entries setup past) name
    ∙ ap (λ entries. option_map settled_file (entry_at entries name)) (entries_back-is (chronicle setup past).streams)
