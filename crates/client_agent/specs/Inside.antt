-- Words of bodies alone: how an agent keeps its calls, subscriptions, callbacks and marks, the newest in front.
use Rattle.std.specs.Prelude.{◌≡◌, ℕ, suc, ◌<◌, ◌≤◌, ◌==◌, ⊤, Bool, true}
use Rattle.std.specs.Prelude.{false, not, if◌then◌else◌, Option, Some, None, option_map, List, [], ◌∷◌}
use Rattle.std.specs.Global.{Vec}
use Rattle.std.specs.Prelude.{length, map, take, drop, reverse}
use Rattle.indexmap.specs.IndexMap.{spare}
use Rattle.stream_config.specs.Equality.{name_code, own_name}
use Rattle.calls.specs.declared.call.Call.{Call}
use Rattle.calls.specs.declared.call.Call.TheVariants.{NtfSubscribe}
use Rattle.calls.specs.declared.reply.Callback.{Callback}
use Rattle.cluster_facts.specs.Types.{Ask, Start, Other, Status, VersionRefused, BadHandle, Mark, StreamName}
use Rattle.callback_dispatch.specs.Seen.{QueueSeen, FeederSeen, TakerSeen, numbered}
use Rattle.cluster_facts.specs.Agents.{Living, Agent, can_serve, service_of, has_handle, mark_of, is_later, put_mark}
use Rattle.client_agent.specs.declared.kept.Kept.{Kept}
use Rattle.client_agent.specs.declared.living.Subscription.{Subscription}
use Rattle.client_agent.specs.declared.marks.SeenMark.{SeenMark}
use Rattle.client_agent.specs.declared.marks.LaterMark.{LaterMark}
use Rattle.client_agent.specs.declared.marks.ReadyMark.{ReadyMark}
use Rattle.client_agent.specs.declared.marks.SeenMarks.TheInside.{Inside as MarksInside}
use Rattle.client_agent.specs.declared.ring.Ring.TheInside.{Inside as RingInside}
use Rattle.client_agent.specs.declared.waiting.WaitingCallbacks.TheInside.{Inside as WaitingInside}
use Rattle.client_agent.specs.declared.library.Library.TheInside.{Inside}
use Rattle.client_agent.specs.Marks.{Marks}
use Rattle.client_agent.specs.Waiting.{Waiting, none_waits}
use Rattle.client_agent.specs.Seen.{Seen}

abbrev pub call_kept : Kept → ℕ × Call
call_kept kept = (kept.number, kept.call)

abbrev pub calls_kept : List Kept → List (ℕ × Call)
calls_kept kept = map call_kept kept

abbrev pub living_of : Subscription → Living
living_of subscription = record { key = subscription.key; id = subscription.id; next = suc subscription.taken }

abbrev pub all_living : List Subscription → List Living
all_living subscriptions = map living_of subscriptions

-- the subscription of this key has taken the item of this number
abbrev pub moved : ℕ → ℕ → Subscription → Subscription
moved key number subscription = record {
  key = subscription.key;
  id = subscription.id;
  taken = if key == subscription.key then number else subscription.taken;
}

-- the subscription that a call begins has a place, if it begins one
abbrev pub HasPlaceFor : Call → (count places : ℕ) → Type 0
HasPlaceFor (NtfSubscribe id filters) count places = count < places
HasPlaceFor _ count places = ⊤

-- keys fall, all of them below the bound
abbrev pub AreBelow : ℕ → List Living → Type 0
AreBelow bound [] = ⊤
AreBelow bound (subscription ∷ living) = (subscription.key < bound) × AreBelow subscription.key living

abbrev pub mark_kept : SeenMark → StreamName × Mark
mark_kept seen = (seen.stream, seen.mark)

-- numbers of calls fall, all of them below the bound
abbrev pub AreFalling : ℕ → List (ℕ × Call) → Type 0
AreFalling bound [] = ⊤
AreFalling bound (sent ∷ kept) = (sent.0 < bound) × AreFalling sent.0 kept

-- calls stand by falling numbers
abbrev pub Fall : List (ℕ × Call) → Type 0
Fall kept = (bound : ℕ) × AreFalling bound kept

-- the bytes by which the mark of a stream of this name is found
abbrev pub key_of : StreamName → List ℕ
key_of name = name_code name ∷ own_name name

abbrev pub marks_kept : List (Vec ℕ × SeenMark) → List (StreamName × Mark)
marks_kept entries = map (λ (entry : Vec ℕ × SeenMark). mark_kept entry.1) entries

abbrev pub marks_inside : MarksInside → Marks
marks_inside inside = record { told = marks_kept inside.marks.entries; spare = spare inside.marks }

-- each mark stands under the key of its stream's name
abbrev pub AreUnderKeys : List (Vec ℕ × SeenMark) → Type 0
AreUnderKeys [] = ⊤
AreUnderKeys (entry ∷ entries) = (entry.0.items ≡ key_of entry.1.stream) × AreUnderKeys entries

abbrev pub AreKeyed : MarksInside → Type 0
AreKeyed inside = AreUnderKeys inside.marks.entries

abbrev pub mark_ready : ReadyMark → StreamName × Mark
mark_ready ready = mark_kept ready.seen

-- the mark can be put without memory
abbrev pub IsReady : ℕ → ReadyMark → Type 0
IsReady room ready = (ready.key.items ≡ key_of ready.seen.stream) × (0 < room)

abbrev pub seen_inside : Inside → Seen
seen_inside inside = record {
  client = inside.client;
  places = inside.callbacks.places;
  next = inside.next;
  log_handle = inside.log_handle;
  ntf_handle = inside.ntf_handle;
  kept = calls_kept inside.kept.items;
  living = all_living inside.living.items;
  queue = inside.callbacks.queue;
  given = inside.callbacks.given;
  marks = inside.marks.told;
}

-- each subscription was made by a call of its own that was sent, and calls stand by falling numbers
abbrev pub AreOfCalls : Inside → Type 0
AreOfCalls inside = AreBelow inside.next (all_living inside.living.items) × AreFalling inside.next (calls_kept inside.kept.items)

-- the agent of which this is seen, and from which these callbacks were handed out
abbrev pub agent_of : Seen → List Callback → Agent
agent_of seen handed = record {
  next = seen.next;
  log_handle = seen.log_handle;
  ntf_handle = seen.ntf_handle;
  kept = seen.kept;
  living = seen.living;
  queue = seen.queue;
  handed = handed;
  marks = seen.marks;
}

-- what a call lacks before the window is asked: a version that is served, or a handle
abbrev pub lack : Ask → Agent → Option Status
lack (Start service version) agent = if can_serve service version then None else Some VersionRefused
lack (Other call) agent = if has_handle (service_of call) agent then None else Some BadHandle

-- What a taken reply makes of its stream's mark.

-- a mark that is later than the last one of its stream, and whether its mask is another
pub record Later : Type 0 where
  pub stream : StreamName
  pub mark : Mark
  pub changes : Bool

abbrev pub later_of : LaterMark → Later
later_of later = record { stream = later.stream.now; mark = later.mark; changes = later.changes }

-- the mark that is told, where it is later than the last
abbrev pub later_mark : Option (StreamName × Mark) → List (StreamName × Mark) → Option Later
later_mark None marks = None
later_mark (Some told) marks =
    if is_later marks told then Some (record { stream = told.0; mark = told.1; changes = not (told.1.mask == (mark_of told.0 marks).mask) }) else None

-- the mark that is kept of it
abbrev pub kept_of : Option Later → Option (StreamName × Mark)
kept_of later = option_map (λ (it : Later). (it.stream, it.mark)) later

-- the mask that becomes another by it
abbrev pub changed_by : Option Later → Option (StreamName × ℕ)
changed_by None = None
changed_by (Some later) = if later.changes then Some (later.stream, later.mark.mask) else None

-- a mark stands in the place of the one of its stream
abbrev pub with_seen : Option (StreamName × Mark) → List (StreamName × Mark) → List (StreamName × Mark)
with_seen None marks = marks
with_seen (Some seen) marks = put_mark seen marks

-- whether a callback is given, by the mask that changes and the invocation that is to be told
abbrev pub gives : Option (StreamName × ℕ) → Option ℕ → Bool
gives (Some changed) asked = true
gives None (Some invocation) = true
gives None None = false

-- The callbacks of a client are what the feeder of its queue fed. Those wait that the taker has not taken.

abbrev pub ring_inside : RingInside → Waiting
ring_inside inside = record {
  places = inside.places;
  queue = reverse (drop inside.given inside.feeder.list);
  given = inside.given;
}

-- the only taker of the queue, which took the first so many of what was fed
pub record IsOnlyTaker (queue : QueueSeen) (feeder : FeederSeen) (given : ℕ) (taker : TakerSeen) : Type 0 where
  pub here : taker.queue ≡ queue.name
  pub whole : taker.share ≡ 8
  pub took : taker.list ≡ numbered 1 (take given feeder.list)

abbrev pub HasOnlyTaker : QueueSeen → FeederSeen → ℕ → Option TakerSeen → Type 0
HasOnlyTaker queue feeder given None = ⊥
HasOnlyTaker queue feeder given (Some taker) = IsOnlyTaker queue feeder given taker

pub record AreEnds (inside : RingInside) : Type 0 where
  pub here : inside.feeder.queue ≡ inside.queue.name
  pub size : inside.places ≡ inside.queue.capacity
  pub count : inside.fed ≡ length inside.feeder.list
  pub within : inside.given ≤ length inside.feeder.list
  pub taker : HasOnlyTaker inside.queue inside.feeder inside.given inside.taker

-- Where no callback came there is no queue yet.

abbrev pub waiting_in : ℕ → Option Waiting → Waiting
waiting_in places None = none_waits places
waiting_in places (Some waiting) = waiting

abbrev pub all_waiting : WaitingInside → Waiting
all_waiting inside = waiting_in inside.places inside.ring

abbrev pub HasPlaces : WaitingInside → Type 0
HasPlaces inside = inside.places ≡ (waiting_in inside.places inside.ring).places
