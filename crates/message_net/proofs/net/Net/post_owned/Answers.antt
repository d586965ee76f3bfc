use Rattle.std.proofs.Common.{◌≡◌, List, ℕ, suc, [], ◌∷◌, ◌++◌, ◌+◌, ◌<◌, Bool, if◌then◌else◌, Result, true, false, not, length, refl, ap, sym, ◌∙◌, subst, add-one, true≢false}
use Rattle.std.specs.Prelude.{nat_eq, IsOk, IfOk, OnOk}
use Rattle.std.specs.Global.{Vec}
use Rattle.std.specs.HashMap.{get}
use Rattle.std.specs.List.{list_any, IsDistinct}
use Rattle.std.specs.Str.{bytes_eq}
use Rattle.std.specs.declared.alloc.AllocError.{AllocError}
use Rattle.std.proofs.lemmas.Bool.{not-true, not-false}
use Rattle.message_net.specs.declared.net.Posted.{Posted}
use Rattle.message_net.specs.Nets.{knows, posted, front_of, place_of}
use Rattle.message_net.specs.Inside.{net_from}
use Rattle.message_net.proofs.Places.{is_of, known-place, none-len, knows-place, knows-strings, posted-known, posted-new, keys-pushed, strings-pushed, place-pushed}
use Rattle.message_net.proofs.Found.{length-net, found-same, found-joined}
use Rattle.message_net.proofs.net.Net.post_owned.Goals as goal
use Rattle.message_net.proofs.net.Net.post_owned.Goals.{in-Some, in-None}

-- There is no room for one string more.

slice-known : (c : goal.After-drop-bytes) → knows c.args.bytes.items c.args.self.now ≡ knows c.as_slice.result.now (net_from c.self.inside.strings.keys)
slice-known c =
    ap (knows c.args.bytes.items) (sym c.self.view_is) ∙ ap (λ (bytes : List ℕ). knows bytes (net_from c.self.inside.strings.keys)) (sym c.as_slice.ensures.value)

pub returns-then-is_err-clause-net : goal.returns-then-is_err-clause-net
returns-then-is_err-clause-net c =
    let bytes = c.args.bytes.items in
    let net = net_from c.self.inside.strings.keys in
    let N : Result Posted AllocError → Type 0 = λ result. OnOk result (net ≡ posted bytes c.args.self.now) in
    elim c.match-place_of.branch [
      | in-Some w ↦
          let known = slice-known c ∙ (knows-place c.as_slice.result.now net).1 w.in-Some.place (sym w.in-Some.ensures) in
          subst N (sym w.result-is) (c.self.view_is ∙ posted-known bytes c.args.self.now known)
      | in-None w ↦ subst N (sym w.result-is) tt
    ]

pub returns-then-is_err-clause-first : goal.returns-then-is_err-clause-first
returns-then-is_err-clause-first c =
    let bytes = c.args.bytes.items in
    let net = net_from c.self.inside.strings.keys in
    let F : Result Posted AllocError → Type 0 = λ result. IfOk result (λ it. it.new ≡ not (knows bytes c.args.self.now)) in
    elim c.match-place_of.branch [
      | in-Some w ↦
          let known = slice-known c ∙ (knows-place c.as_slice.result.now net).1 w.in-Some.place (sym w.in-Some.ensures) in
          subst F (sym w.result-is) (ap not (sym known))
      | in-None w ↦ subst F (sym w.result-is) tt
    ]

pub returns-then-is_err-clause-known : goal.returns-then-is_err-clause-known
returns-then-is_err-clause-known c knows_it =
    let net = net_from c.self.inside.strings.keys in
    elim c.match-place_of.branch [
      | in-Some w ↦ subst (λ (result : Result Posted AllocError). IsOk result) (sym w.result-is) refl
      | in-None w ↦
          let unknown = slice-known c ∙ (knows-place c.as_slice.result.now net).0 (sym w.in-None.ensures) in
          absurd (true≢false (sym knows_it ∙ unknown))
    ]

-- There is room.

pub returns-in_err-index-clause-known : goal.returns-in_err-index-clause-known
returns-in_err-index-clause-known c knows_it =
    let bytes = c.args.bytes.items in
    let strings = c.self.inside.strings.keys in
    let unknown = ap (knows bytes) (sym c.self.view_is) ∙ knows-strings bytes strings ∙ c.in_err-index.ensures.absent in
    absurd (true≢false (sym knows_it ∙ unknown))

-- a string that is new has bytes that no other has
absent : (c : goal.After-join) → list_any (is_of c.args.bytes.items) c.self.inside.strings.keys ≡ false
absent c = not-true (list_any (is_of c.args.bytes.items) c.self.inside.strings.keys) (sym c.in_ok-index.ensures.added ∙ c.if-new.true)

unknown : (c : goal.After-join) → knows c.args.bytes.items c.args.self.now ≡ false
unknown c =
    ap (knows c.args.bytes.items) (sym c.self.view_is) ∙ knows-strings c.args.bytes.items c.self.inside.strings.keys ∙ absent c

-- the net at the end is the one before with the bytes as its newest
joined : (c : goal.After-join) → net_from c.insert_full.new.self.keys ≡ c.args.bytes.items ∷ c.args.self.now
joined c =
    let bytes = c.args.bytes.items in
    strings-pushed bytes c.self.inside.strings.keys c.insert_full.new.self.keys c.args.bytes refl (ap (knows bytes) c.self.view_is ∙ unknown c) c.in_ok-index.ensures.keys ∙ ap (λ (net : List (List ℕ)). bytes ∷ net) c.self.view_is

-- its place is behind all
last : (c : goal.After-join) → c.in_ok-index.index + 1 ≡ length (net_from c.insert_full.new.self.keys)
last c =
    let strings = c.self.inside.strings.keys in
    let index = c.in_ok-index.ensures.index ∙ none-len (is_of c.args.bytes.items) strings (absent c) in
    let before : length c.args.self.now ≡ length strings = ap length (sym c.self.view_is) ∙ length-net strings in
    ap (λ (place : ℕ). place + 1) index ∙ add-one (length strings) ∙ sym (ap length (joined c) ∙ ap (λ (count : ℕ). suc count) before)

pub returns-then-new-clause-net : goal.returns-then-new-clause-net
returns-then-new-clause-net c = joined c ∙ posted-new c.args.bytes.items c.args.self.now (unknown c)

pub returns-then-new-clause-place : goal.returns-then-new-clause-place
returns-then-new-clause-place c = place-pushed c.args.bytes.items c.args.self.now _ (c.in_ok-index.index + 1) (joined c) (last c)

pub returns-then-new-clause-first : goal.returns-then-new-clause-first
returns-then-new-clause-first c = c.if-new.true ∙ ap not (sym (unknown c))

pub invariant_of-self-then-new : goal.invariant_of-self-then-new
invariant_of-self-then-new c =
    let inside = c.self.inside in
    let bytes = c.args.bytes.items in
    let strings = inside.strings.keys in
    let before = get nat_eq c.reserve.new.newest in
    let older = c.reserve.new.older.items in
    let found = found-same strings (get nat_eq inside.newest) before inside.older.items older c.self.invariant c.reserve.ensures.newest c.reserve.ensures.older in
    let is = keys-pushed bytes strings c.insert_full.new.self.keys c.args.bytes refl (ap (knows bytes) c.self.view_is ∙ unknown c) c.in_ok-index.ensures.keys in
    let counts = last c ∙ length-net c.insert_full.new.self.keys in
    found-joined strings c.insert_full.new.self.keys c.args.bytes before (get nat_eq c.join.new.newest) older c.join.new.older.items c.front_of-front.result (c.in_ok-index.index + 1) found is (c.front_of-front.ensures ∙ ap front_of c.as_slice-2.ensures.value) counts c.join.ensures.newest c.join.ensures.older

-- Some string has these bytes.

present : (c : goal.Else-new) → list_any (is_of c.args.bytes.items) c.self.inside.strings.keys ≡ true
present c = not-false (list_any (is_of c.args.bytes.items) c.self.inside.strings.keys) (sym c.in_ok-index.ensures.added ∙ c.if-new.false)

known : (c : goal.Else-new) → knows c.args.bytes.items c.args.self.now ≡ true
known c =
    ap (knows c.args.bytes.items) (sym c.self.view_is) ∙ knows-strings c.args.bytes.items c.self.inside.strings.keys ∙ present c

stay : (c : goal.Else-new) → c.insert_full.new.self.keys ≡ c.self.inside.strings.keys
stay c =
    let strings = c.self.inside.strings.keys in
    c.in_ok-index.ensures.keys ∙ ap (λ (b : Bool). if b then strings else strings ++ c.args.bytes ∷ []) (present c)

pub returns-else-new-clause-net : goal.returns-else-new-clause-net
returns-else-new-clause-net c =
    ap net_from (stay c) ∙ c.self.view_is ∙ posted-known c.args.bytes.items c.args.self.now (known c)

pub returns-else-new-clause-place : goal.returns-else-new-clause-place
returns-else-new-clause-place c =
    let bytes = c.args.bytes.items in
    let strings = c.self.inside.strings.keys in
    let apart = subst (λ (all : List (Vec ℕ)). IsDistinct (λ (one other : Vec ℕ). bytes_eq one.items other.items) all) (stay c) c.in_ok-index.ensures.unique in
    let within = subst (λ (all : List (Vec ℕ)). c.in_ok-index.index < length all) (stay c) c.in_ok-index.ensures.within in
    ap (λ (all : List (Vec ℕ)). place_of bytes (net_from all)) (stay c) ∙ known-place bytes strings c.in_ok-index.index apart c.in_ok-index.ensures.index within

pub returns-else-new-clause-first : goal.returns-else-new-clause-first
returns-else-new-clause-first c = c.if-new.false ∙ ap not (sym (known c))
