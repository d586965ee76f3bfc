-- Words of the law: what the rule of a queue comes to.
use Rattle.std.specs.Prelude.{◌≡◌, ℕ, suc, ◌<◌, ◌≤◌, ◌↔◌, ⊤, true, Some, All, Contains, List, [], ◌∷◌, length, drop, slice_get}
use mathlib.Core.Option.{some}
use lib.ListN.{get_elem?}
use Rattle.calls.specs.declared.reply.Callback.{Callback}
use Rattle.callback_dispatch.specs.declared.numbered.Numbered.{Numbered}
use Rattle.callback_dispatch.specs.declared.rule.View.{View}
use Rattle.callback_dispatch.specs.Seen.{element, numbered}

-- each number is above those before it
abbrev pub Rises : List Numbered → Type 0
Rises [] = ⊤
Rises (x ∷ elements) = All (λ y. x.number < y.number) elements × Rises elements

-- this element stands in the list of one pass, and in no other list
abbrev pub StandsOnce : Numbered → List View → Type 0
StandsOnce x views =
    (taker : ℕ) × (taker < length views) × ((pass : ℕ) (v : View) → get_elem? views pass ≡ some v → (Contains v.taken x ↔ (pass ≡ taker)))

-- the element is one of the first callbacks, so many of them, under its number
abbrev pub IsOfFirst : ℕ → List Callback → Numbered → Type 0
IsOfFirst out all x = (place : ℕ) × (place < out) × (slice_get all place ≡ Some x.callback) × (x.number ≡ suc place)

-- All are the callbacks that the feeder fed. The first of them left the queue, and it holds the others, in order. Each
-- that left stands in one taker's list alone, and there once; no list has another element.
pub record IsShared (items : List Numbered) (views : List View) : Type 0 where
  pub all : List Callback
  pub out : ℕ
  pub within : out ≤ length all
  pub waiting : items ≡ numbered (suc out) (drop out all)
  pub taken : (place : ℕ) (callback : Callback) → place < out → slice_get all place ≡ Some callback → StandsOnce (element (suc place) callback) views
  pub once : (pass : ℕ) (v : View) → get_elem? views pass ≡ some v → Rises v.taken
  pub fed : (pass : ℕ) (v : View) → get_elem? views pass ≡ some v → v.feeds ≡ true → v.fed ≡ all
  pub own : (pass : ℕ) (v : View) (x : Numbered) → get_elem? views pass ≡ some v → Contains v.taken x → IsOfFirst out all x
