-- The files of a living stream: those that are closed, and the current one behind them.
use Rattle.std.proofs.Common.{◌≡◌, ◌≢◌, suc, ℤ, ◌<ℤ◌, int_lt, true, List, [], ◌∷◌, ◌++◌, length, None, is_some, refl, ap, subst, arith, sym, ◌∙◌, append_assoc}
use Rattle.std.specs.List.{All}
use Rattle.std.specs.Option.{option_to_list}
use Rattle.std.proofs.lemmas.Bool.{and_parts}
use Rattle.std.proofs.lemmas.Int.{ints}
use Rattle.std.proofs.lemmas.List.{drop_at}
use Rattle.std.proofs.lemmas.List.Elements.{All-nil, All-cons, All-head, All-tail, All-weaker, All-drop}
use Rattle.stream_config.specs.declared.state.LogFile.{LogFile}
use Rattle.stream_config.specs.Events.{file_closed, last_closed, open_file}
use Rattle.stream_config.specs.Fit.{stamps_of, rises, is_last_open}
use Rattle.stream_layout.specs.Deeds.{current_file}
use Rattle.ais_values.proofs.Basics.{none_from}

-- a list of files that is split at the current one
pub record HasCurrent (files : List LogFile) : Type 0 where
  pub front : List LogFile
  pub current : LogFile
  pub whole : files ≡ front ++ current ∷ []
  pub unclosed : current.closed ≡ None
  pub shut : All (λ (file : LogFile). is_some file.closed ≡ true) front

pub has_current : (files : List LogFile) → is_last_open files ≡ true → HasCurrent files
has_current [] is = cc
has_current (file ∷ []) is = record {
  front = [];
  current = file;
  whole = refl;
  unclosed = none_from file.closed is;
  shut = All-nil (λ (f : LogFile). is_some f.closed ≡ true);
}
has_current (file ∷ next ∷ files) is =
    let parts = and_parts (is_some file.closed) (is_last_open (next ∷ files)) is in
    let more = has_current (next ∷ files) parts.1 in
    record {
      front = file ∷ more.front;
      current = more.current;
      whole = ap (λ fs. file ∷ fs) more.whole;
      unclosed = more.unclosed;
      shut = All-cons (λ (f : LogFile). is_some f.closed ≡ true) file more.front parts.0 more.shut;
    }

pub current_file-append : (front : List LogFile) (current : LogFile) → current_file (front ++ current ∷ []) ≡ current
current_file-append [] current = refl
current_file-append (file ∷ []) current = refl
current_file-append (file ∷ next ∷ front) current = current_file-append (next ∷ front) current

pub last_closed-append : (closed : ℤ) (front : List LogFile) (current : LogFile) → last_closed closed (front ++ current ∷ []) ≡ front ++ file_closed closed current ∷ []
last_closed-append closed [] current = refl
last_closed-append closed (file ∷ []) current = refl
last_closed-append closed (file ∷ next ∷ front) current = ap (λ fs. file ∷ fs) (last_closed-append closed (next ∷ front) current)

pub length-last_closed : (closed : ℤ) (files : List LogFile) → length (last_closed closed files) ≡ length files
length-last_closed closed [] = refl
length-last_closed closed (file ∷ []) = refl
length-last_closed closed (file ∷ next ∷ files) = ap suc (length-last_closed closed (next ∷ files))

-- the stamps once the last file is closed and a new one is made
pub stamps-closed : (closed created : ℤ) (files : List LogFile) → is_last_open files ≡ true → stamps_of (last_closed closed files ++ open_file created ∷ []) ≡ stamps_of files ++ closed ∷ created ∷ []
stamps-closed closed created [] opened = cc
stamps-closed closed created (file ∷ []) opened =
    ap (λ stamp. file.created ∷ (option_to_list stamp ++ []) ++ closed ∷ created ∷ []) (sym (none_from file.closed opened))
stamps-closed closed created (file ∷ next ∷ files) opened =
    let split = and_parts (is_some file.closed) (is_last_open (next ∷ files)) opened in
    ap (λ stamps. file.created ∷ option_to_list file.closed ++ stamps) (stamps-closed closed created (next ∷ files) split.1)
    ∙ ap (λ stamps. file.created ∷ stamps) (sym (append_assoc (option_to_list file.closed) (stamps_of (next ∷ files)) (closed ∷ created ∷ [])))

-- stamps that rise

earlier : (one other : ℤ) → int_lt one other ≡ true → one <ℤ other
earlier one other is = grind (arith, ints)

pub unlike : (one other : ℤ) → one <ℤ other → one ≢ other
unlike one other less same = omega (arith, ints)

pub rises-tail : (stamp : ℤ) (stamps : List ℤ) → rises (stamp ∷ stamps) ≡ true → rises stamps ≡ true
rises-tail stamp [] is = refl
rises-tail stamp (next ∷ stamps) is = (and_parts (int_lt stamp next) (rises (next ∷ stamps)) is).1

rises-behind : (front stamps : List ℤ) → rises (front ++ stamps) ≡ true → rises stamps ≡ true
rises-behind [] stamps is = is
rises-behind (stamp ∷ front) stamps is = rises-behind front stamps (rises-tail stamp (front ++ stamps) is)

-- the first of rising stamps is earlier than all others
first_is_least : (stamp : ℤ) (stamps : List ℤ) → rises (stamp ∷ stamps) ≡ true → All (λ s. stamp <ℤ s) stamps
first_is_least stamp [] is = All-nil (λ s. stamp <ℤ s)
first_is_least stamp (next ∷ stamps) is =
    let parts = and_parts (int_lt stamp next) (rises (next ∷ stamps)) is in
    let less = earlier stamp next parts.0 in
    All-cons (λ s. stamp <ℤ s) next stamps less
    (All-weaker (λ s. next <ℤ s) (λ s. stamp <ℤ s) (λ s later. omega (arith, ints)) stamps (first_is_least next stamps parts.1))

pub behind_front : {X : Type 0} (P : X → Type 0) (front xs : List X) → All P (front ++ xs) → All P xs
behind_front P front xs all = subst (All P) (drop_at front xs (length front) refl) (All-drop P (length front) (front ++ xs) all)

-- what holds of all stamps holds of those at which files were made
pub created_all : (P : ℤ → Type 0) (files : List LogFile) → All P (stamps_of files) → All (λ (file : LogFile). P file.created) files
created_all P [] all = All-nil (λ (file : LogFile). P file.created)
created_all P (file ∷ files) all =
    let behind = All-tail P file.created (option_to_list file.closed ++ stamps_of files) all in
    All-cons (λ (f : LogFile). P f.created) file files (All-head P file.created (option_to_list file.closed ++ stamps_of files) all)
    (created_all P files (behind_front P (option_to_list file.closed) (stamps_of files) behind))

-- the first of some files was made before all others
pub first_made : (file : LogFile) (files : List LogFile) → rises (stamps_of (file ∷ files)) ≡ true → All (λ (f : LogFile). file.created <ℤ f.created) files
first_made file files is =
    created_all (λ s. file.created <ℤ s) files
    (behind_front (λ s. file.created <ℤ s) (option_to_list file.closed) (stamps_of files)
    (first_is_least file.created (option_to_list file.closed ++ stamps_of files) is))

-- files without the first rise too
pub others_rise : (file : LogFile) (files : List LogFile) → rises (stamps_of (file ∷ files)) ≡ true → rises (stamps_of files) ≡ true
others_rise file files is =
    rises-behind (option_to_list file.closed) (stamps_of files) (rises-tail file.created (option_to_list file.closed ++ stamps_of files) is)

-- the last file was made behind all others
pub last_made : (front : List LogFile) (current : LogFile) → rises (stamps_of (front ++ current ∷ [])) ≡ true
    → All (λ (f : LogFile). f.created <ℤ current.created) front
last_made [] current is = All-nil (λ (f : LogFile). f.created <ℤ current.created)
last_made (file ∷ front) current is =
    All-cons (λ (f : LogFile). f.created <ℤ current.created) file front
    (All-head (λ (f : LogFile). file.created <ℤ f.created) current []
    (behind_front (λ (f : LogFile). file.created <ℤ f.created) front (current ∷ []) (first_made file (front ++ current ∷ []) is)))
    (last_made front current (others_rise file (front ++ current ∷ []) is))

pub front_all : {X : Type 0} (P : X → Type 0) (front xs : List X) → All P (front ++ xs) → All P front
front_all P [] xs all = All-nil P
front_all P (x ∷ front) xs all = All-cons P x front (All-head P x (front ++ xs) all) (front_all P front xs (All-tail P x (front ++ xs) all))
