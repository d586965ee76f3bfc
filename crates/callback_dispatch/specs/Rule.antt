-- Words of the rule of a queue, of which a law speaks: who feeds it, which pass took each callback, and what each pass knows.
use Rattle.std.specs.Prelude.{◌≡◌, ℕ, suc, ◌+◌, ◌-◌, ◌<◌, ◌≤◌, max, Bool, true}
use Rattle.std.specs.Prelude.{false, ◌==◌, if◌then◌else◌, Some, List, [], ◌∷◌, ◌++◌, length, slice_get}
use mathlib.Core.Option.{some}
use mathlib.Core.List.{IsPrefix}
use lib.ListN.{get_elem?}
use Rattle.calls.specs.declared.reply.Callback.{Callback}
use Rattle.callback_dispatch.specs.declared.numbered.Numbered.{Numbered}
use Rattle.callback_dispatch.specs.declared.rule.View.{View}
use Rattle.callback_dispatch.specs.Seen.{element, numbered, AllBelow, union, longer_of}

abbrev pub view_of : Bool → List Callback → ℕ → List Numbered → List Callback → ℕ → View
view_of feeds fed share taken known count =
    record { feeds = feeds; fed = fed; share = share; taken = taken; known = known; count = count }

-- the first pass feeds and takes
abbrev pub first_view : View
first_view = view_of true [] 8 [] [] 0

abbrev pub spent_view : View
spent_view = view_of false [] 0 [] [] 0

-- those whose number went to this pass
abbrev pub taken_by : (ℕ → ℕ) → ℕ → ℕ → List Callback → List Numbered
taken_by taker pass number [] = []
taken_by taker pass number (callback ∷ callbacks) =
    if taker number == pass then element number callback ∷ taken_by taker pass (suc number) callbacks else taken_by taker pass (suc number) callbacks

abbrev pub shares : List View → ℕ
shares [] = 0
shares (v ∷ views) = v.share + shares views

-- what a pass knows is so: the front was taken, and the back waits
pub record Fits (feeder : ℕ) (taker : ℕ → ℕ) (front back : List Callback) (pass : ℕ) (v : View) : Type 0 where
  pub feeds : v.feeds ≡ true → (pass ≡ feeder) × (v.fed ≡ front ++ back)
  pub takes : v.taken ≡ taken_by taker pass 1 front
  pub idle : v.share ≡ 0 → v.taken ≡ []
  pub known : IsPrefix v.known (front ++ back)
  pub count : v.count ≤ length front

-- One pass feeds, each number was taken by one pass, and the queue holds the callbacks behind them, in order.
pub record Dispatch (items : List Numbered) (views : List View) : Type 0 where
  pub feeder : ℕ
  pub taker : ℕ → ℕ
  pub front : List Callback
  pub back : List Callback
  pub waits : items ≡ numbered (suc (length front)) back
  pub whole : shares views ≡ 8
  pub beyond : (pass : ℕ) → length views ≤ pass → taken_by taker pass 1 front ≡ []
  pub fits : (pass : ℕ) (v : View) → get_elem? views pass ≡ some v → Fits feeder taker front back pass v

-- The steps.

abbrev pub pushed : View → Numbered → View
pushed v x = view_of v.feeds (v.fed ++ x.callback ∷ []) v.share v.taken v.known v.count

abbrev pub popped : View → Numbered → View
popped v x = view_of v.feeds v.fed v.share (v.taken ++ x ∷ []) v.known v.count

-- the element stands at its place among the callbacks that are known
abbrev pub IsNext : Numbered → List Numbered → List Callback → Type 0
IsNext x taken known =
    (x.number ≡ suc (length taken)) × (length taken < length known → slice_get known (length taken) ≡ Some x.callback)

-- the element is what was fed under its number, as far as that is known
abbrev pub IsOfFed : Numbered → List Callback → Type 0
IsOfFed x known =
    (place : ℕ) × (x.number ≡ suc place) × (place < length known → slice_get known place ≡ Some x.callback)

abbrev pub Popped : View → Numbered → View → Type 0
Popped v x w =
    (w ≡ popped v x) × AllBelow x.number v.taken × (v.share ≡ 8 → IsNext x v.taken v.known) × IsOfFed x v.known

-- what a pass that took all knows of what the queue holds
pub record TookAll (v : View) (items : List Numbered) : Type 0 where
  pub all : List Callback
  pub in_order : v.taken ++ items ≡ numbered 1 all
  pub known : IsPrefix v.known all
  pub count : v.count ≤ length v.taken

-- what a pass learns of what the queue holds
abbrev pub Learned : View → List Numbered → Type 0
Learned v items =
    (v.feeds ≡ true → (v.count + length items ≤ length v.fed) × IsPrefix v.known v.fed) × (v.share ≡ 8 → TookAll v items)

-- of a pass that feeds and takes, one that feeds, and one that takes
abbrev pub feeding : View → View
feeding v = view_of v.feeds v.fed 0 v.taken v.known v.count

abbrev pub taking : View → View
taking v = view_of false [] v.share [] v.known 0

-- of a taker, one with a share less, and a new one with this share
abbrev pub with_less : View → View
with_less v = view_of v.feeds v.fed (v.share - 1) v.taken v.known v.count

abbrev pub with_one : View → View
with_one v = view_of false [] 1 [] v.known 0

abbrev pub joined : View → View → View
joined v w =
    view_of v.feeds v.fed (v.share + w.share) (union v.taken w.taken) (longer_of v.known w.known) v.count

-- notes, in which a feeder tells what it fed, and a taker how much it took
abbrev pub fed_note : View → View
fed_note v = view_of false [] 0 [] v.fed v.count

abbrev pub taken_note : View → View
taken_note v = view_of false [] 0 [] v.known (length v.taken)

abbrev pub told : View → View → View
told v w = view_of v.feeds v.fed v.share v.taken w.known (max v.count w.count)
