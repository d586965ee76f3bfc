-- The list of readers has each client's reader, as it is told by what changed the readers.
use Rattle.std.proofs.Common.{◌≡◌, ℕ, ◌==◌, nat_lt, Bool, true, false, cond, List, [], ◌∷◌, map, refl, ap, sym, ◌∙◌, arith}
use Rattle.std.specs.Prelude.{Option, Some, None, find, option_map}
use Rattle.std.proofs.lemmas.Bool.Decides.{nat_tests}
use Rattle.alarm_view.specs.declared.cursor.Cursor.{Cursor}
use Rattle.client_set.specs.Rising.{put, without, ComesFirst, IsRising, IsOrder}
use Rattle.client_set.proofs.RisingLaws.{IsOrder-nat_lt, IsRising-put, IsRising-without}
use Rattle.ntf_history.specs.Readers.{Reader, ReaderChange, moved_to, reader_of, reader_first, is_reader_of, move, readers}
use Rattle.ntf_history.specs.Readers.ReaderChange.{Started, Told, Stopped}

IsOrder-reader_first : IsOrder reader_first
IsOrder-reader_first = record {
  self = λ x. IsOrder-nat_lt.self x.client;
  onward = λ x y z. IsOrder-nat_lt.onward x.client y.client z.client;
  beside = λ x y z. IsOrder-nat_lt.beside x.client y.client z.client;
}

ComesFirst-moved : (client : ℕ) (cursor : Cursor) (x : Reader) (xs : List Reader) → ComesFirst reader_first x xs → ComesFirst reader_first (move client cursor x) (map (move client cursor) xs)
ComesFirst-moved client cursor x [] first = tt
ComesFirst-moved client cursor x (y ∷ ys) first = (first.0, ComesFirst-moved client cursor x ys first.1)

IsRising-moved : (client : ℕ) (cursor : Cursor) (xs : List Reader) → IsRising reader_first xs → IsRising reader_first (map (move client cursor) xs)
IsRising-moved client cursor [] rising = tt
IsRising-moved client cursor (x ∷ xs) rising =
    (ComesFirst-moved client cursor x xs rising.0, IsRising-moved client cursor xs rising.1)

-- the readers stand in order of their clients, one a client
pub readers-rising : (past : List ReaderChange) → IsRising reader_first (readers past)
readers-rising [] = tt
readers-rising (Started client filters cursor ∷ past) =
    IsRising-put reader_first IsOrder-reader_first (record { client = client; filters = filters; cursor = cursor }) (readers past) (readers-rising past)
readers-rising (Told client cursor ∷ past) = IsRising-moved client cursor (readers past) (readers-rising past)
readers-rising (Stopped client ∷ past) =
    IsRising-without reader_first (is_reader_of client) (readers past) (readers-rising past)

-- the tests of a reader that is passed on the way to another's place
passed_other : (x y c : ℕ) (rest : Option Reader) (one other : Reader) → nat_lt y x ≡ true → cond (y == c) (Some one) (cond (x == c) (Some other) rest) ≡ cond (x == c) (Some other) (cond (y == c) (Some one) rest)
passed_other x y c rest one other below = tests (x == c) (y == c) refl refl where
  tests : (a b : Bool) → (x == c) ≡ a → (y == c) ≡ b → cond b (Some one) (cond a (Some other) rest) ≡ cond a (Some other) (cond b (Some one) rest)
  tests true true is was =
      let apart : (x == c) ≡ false = grind (arith, nat_tests) in
      absurd (cc (is, apart))
  tests true false is was = refl
  tests false true is was = refl
  tests false false is was = refl

same_place : (x y c : ℕ) (rest : Option Reader) (one other : Reader) → nat_lt x y ≡ false → nat_lt y x ≡ false → cond (x == c) (Some one) rest ≡ cond (x == c) (Some one) (cond (y == c) (Some other) rest)
same_place x y c rest one other below above = tests (x == c) (y == c) refl refl where
  tests : (a b : Bool) → (x == c) ≡ a → (y == c) ≡ b → cond a (Some one) rest ≡ cond a (Some one) (cond b (Some other) rest)
  tests true b is was = refl
  tests false true is was =
      let same : (x == c) ≡ true = grind (arith, nat_tests) in
      absurd (cc (is, same))
  tests false false is was = refl

find-put : (client : ℕ) (x : Reader) (xs : List Reader) → find (is_reader_of client) (put reader_first x xs) ≡ cond (x.client == client) (Some x) (find (is_reader_of client) xs)
find-put client x [] = refl
find-put client x (y ∷ ys) = placed (reader_first x y) refl (reader_first y x) refl (find-put client x ys) where
  placed : (below : Bool) → reader_first x y ≡ below → (above : Bool) → reader_first y x ≡ above → find (is_reader_of client) (put reader_first x ys) ≡ cond (x.client == client) (Some x) (find (is_reader_of client) ys) → find (is_reader_of client) (cond below (x ∷ y ∷ ys) (cond above (y ∷ put reader_first x ys) (x ∷ ys))) ≡ cond (x.client == client) (Some x) (cond (y.client == client) (Some y) (find (is_reader_of client) ys))
  placed true is above was rest = refl
  placed false is true was rest =
      ap (λ o. cond (y.client == client) (Some y) o) rest ∙ passed_other x.client y.client client (find (is_reader_of client) ys) y x was
  placed false is false was rest = same_place x.client y.client client (find (is_reader_of client) ys) x y is was

map-cond : (f : Reader → Reader) (b : Bool) (x : Reader) (o : Option Reader) → cond b (Some (f x)) (option_map f o) ≡ option_map f (cond b (Some x) o)
map-cond f true x o = refl
map-cond f false x o = refl

find-moved : (other : ℕ) (cursor : Cursor) (client : ℕ) (xs : List Reader) → find (is_reader_of client) (map (move other cursor) xs) ≡ option_map (move other cursor) (find (is_reader_of client) xs)
find-moved other cursor client [] = refl
find-moved other cursor client (x ∷ xs) =
    ap (λ o. cond (x.client == client) (Some (move other cursor x)) o) (find-moved other cursor client xs) ∙ map-cond (move other cursor) (x.client == client) x (find (is_reader_of client) xs)

gone_one : (x other client : ℕ) (reader : Reader) (rest : Option Reader) → (x == other) ≡ true → cond (other == client) None rest ≡ cond (other == client) None (cond (x == client) (Some reader) rest)
gone_one x other client reader rest is = tests (other == client) (x == client) refl refl where
  tests : (a b : Bool) → (other == client) ≡ a → (x == client) ≡ b → cond a None rest ≡ cond a None (cond b (Some reader) rest)
  tests true b one two = refl
  tests false true one two =
      let same : (other == client) ≡ true = grind (arith, nat_tests) in
      absurd (cc (one, same))
  tests false false one two = refl

kept_one : (x other client : ℕ) (reader : Reader) (rest : Option Reader) → (x == other) ≡ false → cond (x == client) (Some reader) (cond (other == client) None rest) ≡ cond (other == client) None (cond (x == client) (Some reader) rest)
kept_one x other client reader rest is = tests (other == client) (x == client) refl refl where
  tests : (a b : Bool) → (other == client) ≡ a → (x == client) ≡ b → cond b (Some reader) (cond a None rest) ≡ cond a None (cond b (Some reader) rest)
  tests true true one two =
      let same : (x == other) ≡ true = grind (arith, nat_tests) in
      absurd (cc (is, same))
  tests true false one two = refl
  tests false b one two = refl

find-stopped : (other client : ℕ) (xs : List Reader) → find (is_reader_of client) (without (is_reader_of other) xs) ≡ cond (other == client) None (find (is_reader_of client) xs)
find-stopped other client [] =
    let none : Option Reader = None in
    elim (other == client) as (λ b. none ≡ cond b none none) [ true ↦ refl | false ↦ refl ]
find-stopped other client (x ∷ xs) = left (x.client == other) refl (find-stopped other client xs) where
  left : (gone : Bool) → (x.client == other) ≡ gone → find (is_reader_of client) (without (is_reader_of other) xs) ≡ cond (other == client) None (find (is_reader_of client) xs) → find (is_reader_of client) (cond gone (without (is_reader_of other) xs) (x ∷ without (is_reader_of other) xs)) ≡ cond (other == client) None (cond (x.client == client) (Some x) (find (is_reader_of client) xs))
  left true is rest = rest ∙ gone_one x.client other client x (find (is_reader_of client) xs) is
  left false is rest =
      ap (λ o. cond (x.client == client) (Some x) o) rest ∙ kept_one x.client other client x (find (is_reader_of client) xs) is

-- the client of a reader, or another where there is none
abbrev client_or : ℕ → Option Reader → ℕ
client_or client None = client
client_or client (Some reader) = reader.client

-- a client's reader is the client's
reader_of-client : (past : List ReaderChange) (client : ℕ) (reader : Reader) → reader_of past client ≡ Some reader → reader.client ≡ client
reader_of-client [] client reader is = cc
reader_of-client (Started other filters cursor ∷ past) client reader is = told (other == client) refl (reader_of-client past client reader) is where
  told : (b : Bool) → (other == client) ≡ b → (reader_of past client ≡ Some reader → reader.client ≡ client) → cond b (Some (record { client = other; filters = filters; cursor = cursor })) (reader_of past client) ≡ Some reader → reader.client ≡ client
  told true same rest is =
      let named : other ≡ client = grind (arith, nat_tests) in
      let started : Option Reader → ℕ = client_or client in
      ap started (sym is) ∙ named
  told false same rest is = rest is
reader_of-client (Told other cursor ∷ past) client reader is = told (other == client) (reader_of past client) (reader_of-client past client) is where
  told : (b : Bool) (o : Option Reader) → ((r : Reader) → o ≡ Some r → r.client ≡ client) → cond b (moved_to cursor o) o ≡ Some reader → reader.client ≡ client
  told true None rest is = cc
  told true (Some r) rest is =
      let moved : Option Reader → ℕ = client_or client in
      ap moved (sym is) ∙ rest r refl
  told false o rest is = rest reader is
reader_of-client (Stopped other ∷ past) client reader is = told (other == client) (reader_of-client past client reader) is where
  told : (b : Bool) → (reader_of past client ≡ Some reader → reader.client ≡ client) → cond b None (reader_of past client) ≡ Some reader → reader.client ≡ client
  told true rest is = cc
  told false rest is = rest is

-- a reader at a point
abbrev reader_at : Reader → Cursor → Reader
reader_at reader cursor = record { client = reader.client; filters = reader.filters; cursor = cursor }

moved-reader : (other client : ℕ) (cursor : Cursor) (o : Option Reader) → ((r : Reader) → o ≡ Some r → r.client ≡ client) → option_map (move other cursor) o ≡ cond (other == client) (moved_to cursor o) o
moved-reader other client cursor None named =
    let none : Option Reader = None in
    elim (other == client) as (λ b. none ≡ cond b none none) [ true ↦ refl | false ↦ refl ]
moved-reader other client cursor (Some r) named =
    let mine = named r refl in
    tests (r.client == other) (other == client) refl refl mine where
      tests : (a b : Bool) → (r.client == other) ≡ a → (other == client) ≡ b → r.client ≡ client → option_map (move other cursor) (Some r) ≡ cond b (moved_to cursor (Some r)) (Some r)
      tests true true one two mine = ap (λ b. Some (reader_at r (cond b cursor r.cursor))) one
      tests false false one two mine = ap (λ b. Some (reader_at r (cond b cursor r.cursor))) one
      tests true false one two mine =
          let same : (other == client) ≡ true = grind (arith, nat_tests) in
          absurd (cc (two, same))
      tests false true one two mine =
          let same : (r.client == other) ≡ true = grind (arith, nat_tests) in
          absurd (cc (one, same))

-- each client's reader stands in the list
pub find-reader : (past : List ReaderChange) (client : ℕ) → find (is_reader_of client) (readers past) ≡ reader_of past client
find-reader [] client = refl
find-reader (Started other filters cursor ∷ past) client =
    find-put client (record { client = other; filters = filters; cursor = cursor }) (readers past) ∙ ap (λ o. cond (other == client) (Some (record { client = other; filters = filters; cursor = cursor })) o) (find-reader past client)
find-reader (Told other cursor ∷ past) client =
    find-moved other cursor client (readers past) ∙ ap (option_map (move other cursor)) (find-reader past client) ∙ moved-reader other client cursor (reader_of past client) (reader_of-client past client)
find-reader (Stopped other ∷ past) client =
    find-stopped other client (readers past) ∙ ap (λ o. cond (other == client) None o) (find-reader past client)
