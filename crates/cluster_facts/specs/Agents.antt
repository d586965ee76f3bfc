-- Words of public clauses: a client's agent: what it keeps, when it refuses, and what each of its events makes of it.
use Rattle.std.specs.Prelude.{ℕ, zero, suc, ◌+◌, Bool, true, false, not, ◌&&◌, ◌||◌, ◌==◌, nat_le}
use Rattle.std.specs.Prelude.{if◌then◌else◌, Option, Some, None, option_map, List, [], ◌∷◌, ◌++◌, length, nat_lt}
use Rattle.ais_values.specs.Statuses.{release_a, supported_version}
use Rattle.ais_values.specs.FirstRow.{first_row}
use Rattle.cluster_facts.specs.Types.{Which, Log, Ntf, Version, Status, Success, VersionRefused, TryAgain, BadHandle, Ask, Start, Other, Call}
use Rattle.cluster_facts.specs.Types.{LogInit, LogOpen, LogWrite, LogFilter, LogClose, LogFini, NtfInit, NtfSubscribe, NtfUnsubscribe, NtfFini, Reply}
use Rattle.cluster_facts.specs.Types.{Refused, Marked, Mark, StreamName, Content, Single, Losses, Callback, Written, Notified, Discarded, MaskSet}
use Rattle.cluster_facts.specs.Types.{Message, Request, Receipt}
use Rattle.stream_config.specs.Equality.{same_name}
use Rattle.stream_config.specs.Marks.{first_mark}
use Rattle.cluster_facts.specs.Lists.{without}

-- a subscription that lives in the agent: its key, its id, and the number of the item that comes next
pub record Living : Type 0 where
  pub key : ℕ
  pub id : ℕ
  pub next : ℕ

-- lists have the newest first
pub record Agent : Type 0 where
  -- the number of the next call
  pub next : ℕ
  -- whether the last initialisation or finalisation that was sent of each service is an initialisation
  pub log_handle : Bool
  pub ntf_handle : Bool
  -- the calls that were sent and whose reply was not taken, each with its number
  pub kept : List (ℕ × Call)
  pub living : List Living
  -- the callbacks taken and not handed out, and those handed out
  pub queue : List Callback
  pub handed : List Callback
  -- the marks of streams that were told last, one of a name
  pub marks : List (StreamName × Mark)

-- an agent that was never called
abbrev pub fresh : Agent
fresh = record { next = 1; log_handle = false; ntf_handle = false; kept = []; living = []; queue = []; handed = []; marks = [] }

-- all callbacks ever taken
abbrev pub fed_of : Agent → List Callback
fed_of agent = agent.queue ++ agent.handed

-- What an agent refuses by itself.

-- the version is one that the service serves: its release is the service's, and its major not above
abbrev pub can_serve : Which → Version → Bool
can_serve service wanted =
    wanted.release == release_a && nat_le wanted.major (supported_version service).major

-- the service that a call belongs to
abbrev pub service_of : Call → Which
service_of LogInit = Log
service_of (LogOpen stream create) = Log
service_of (LogWrite stream invocation flags time header body) = Log
service_of (LogFilter stream mask) = Log
service_of (LogClose stream) = Log
service_of LogFini = Log
service_of _ = Ntf

-- the call that is sent for what is asked
abbrev pub call_of : Ask → Call
call_of (Start Log version) = LogInit
call_of (Start Ntf version) = NtfInit
call_of (Other call) = call

abbrev pub has_handle : Which → Agent → Bool
has_handle Log agent = agent.log_handle
has_handle Ntf agent = agent.ntf_handle

-- some call whose reply was not taken has a number at most the next number minus 32
abbrev pub is_shut : ℕ → List (ℕ × Call) → Bool
is_shut next [] = false
is_shut next (sent ∷ kept) = nat_le (sent.0 + 32) next || is_shut next kept

-- what the agent refuses by itself, in order: an initialisation of a version that is not served; another call without a handle
-- of its service; any call while the window is shut
abbrev pub refusal_rows : Ask → Agent → List (Bool × Status)
refusal_rows (Start service version) agent =
    (not (can_serve service version), VersionRefused) ∷ (is_shut agent.next agent.kept, TryAgain) ∷ []
refusal_rows (Other call) agent =
    (not (has_handle (service_of call) agent), BadHandle) ∷ (is_shut agent.next agent.kept, TryAgain) ∷ []

abbrev pub refusal : Ask → Agent → Option Status
refusal ask agent = first_row (refusal_rows ask agent)

-- a dispatch wants a handle of either service
abbrev pub dispatch_refusal : Agent → Option Status
dispatch_refusal agent = if agent.log_handle || agent.ntf_handle then None else Some BadHandle

-- A call is sent.

abbrev pub log_after : Call → Bool → Bool
log_after LogInit before = true
log_after LogFini before = false
log_after _ before = before

abbrev pub ntf_after : Call → Bool → Bool
ntf_after NtfInit before = true
ntf_after NtfFini before = false
ntf_after _ before = before

-- a subscription lives from its call on, until an unsubscription of its id or a finalisation is sent
abbrev pub living_after : ℕ → Call → List Living → List Living
living_after number (NtfSubscribe id filters) living = record { key = number; id = id; next = 1 } ∷ living
living_after number (NtfUnsubscribe id) living = without (λ subscription. subscription.id == id) living
living_after number NtfFini living = []
living_after number _ living = living

abbrev pub after_call : Call → Agent → Agent
after_call call agent = record {
  next = suc agent.next;
  log_handle = log_after call agent.log_handle;
  ntf_handle = ntf_after call agent.ntf_handle;
  kept = (agent.next, call) ∷ agent.kept;
  living = living_after agent.next call agent.living;
  queue = agent.queue;
  handed = agent.handed;
  marks = agent.marks;
}

-- A reply is taken.

-- the call of this number whose reply was not taken
abbrev pub kept_call : ℕ → List (ℕ × Call) → Option Call
kept_call number [] = None
kept_call number (sent ∷ kept) = if sent.0 == number then Some sent.1 else kept_call number kept

abbrev pub status_of : Reply → Status
status_of (Refused status) = status
status_of _ = Success

-- the invocation of a write that asked for a callback
abbrev pub asked_back : Call → Option ℕ
asked_back (LogWrite stream invocation flags time header body) = if flags == 1 then Some invocation else None
asked_back _ = None

-- the mark of a stream that was told last, or that of one that was never set
abbrev pub mark_of : StreamName → List (StreamName × Mark) → Mark
mark_of name [] = first_mark
mark_of name (seen ∷ marks) = if same_name seen.0 name then seen.1 else mark_of name marks

-- the stream of whose mark a call's reply tells
abbrev pub stream_in : Call → Option StreamName
stream_in (LogOpen stream create) = Some stream
stream_in (LogWrite stream invocation flags time header body) = Some stream
stream_in (LogFilter stream mask) = Some stream
stream_in _ = None

abbrev pub told_mark : Call → Reply → Option (StreamName × Mark)
told_mark call (Marked filtered mark) = option_map (λ name. (name, mark)) (stream_in call)
told_mark call _ = None

-- a mark that is told is later than the last one of its stream
abbrev pub is_later : List (StreamName × Mark) → StreamName × Mark → Bool
is_later marks seen = nat_lt (mark_of seen.0 marks).since seen.1.since

-- a mark takes the place of the one of its stream, or stands behind the others
abbrev pub put_mark : StreamName × Mark → List (StreamName × Mark) → List (StreamName × Mark)
put_mark seen [] = seen ∷ []
put_mark seen (other ∷ marks) = if same_name seen.0 other.0 then seen ∷ marks else other ∷ put_mark seen marks

-- the marks once one is told
abbrev pub marks_with : Option (StreamName × Mark) → List (StreamName × Mark) → List (StreamName × Mark)
marks_with None marks = marks
marks_with (Some seen) marks = if is_later marks seen then put_mark seen marks else marks

-- the mask of a stream that becomes another by what is told
abbrev pub changed_mask : Option (StreamName × Mark) → List (StreamName × Mark) → Option (StreamName × ℕ)
changed_mask None marks = None
changed_mask (Some seen) marks =
    if is_later marks seen && not (seen.1.mask == (mark_of seen.0 marks).mask) then Some (seen.0, seen.1.mask) else None

abbrev pub given_by : Option (StreamName × ℕ) → Option ℕ → Status → List Callback
given_by (Some changed) asked status = MaskSet changed.0 changed.1 asked ∷ []
given_by None (Some invocation) status = Written invocation status ∷ []
given_by None None status = []

-- the callbacks that a reply gives to an agent that saw these marks: one where it changes a stream's mask, or where it is of a
-- write with flags 1, whatever its status
abbrev pub callbacks_of : List (StreamName × Mark) → Call → Reply → List Callback
callbacks_of marks call reply = given_by (changed_mask (told_mark call reply) marks) (asked_back call) (status_of reply)

-- callbacks want a place where a queue of this many places has none
abbrev pub lacks_place : ℕ → List Callback → List Callback → Bool
lacks_place places queue [] = false
lacks_place places queue (_ ∷ _) = nat_le places (length queue)

-- a subscription ends where its call is refused
abbrev pub living_after_reply : ℕ → Reply → List Living → List Living
living_after_reply number (Refused status) living = without (λ subscription. subscription.key == number) living
living_after_reply number _ living = living

abbrev pub after_reply : ℕ → Call → Reply → Agent → Agent
after_reply number call reply agent = record {
  next = agent.next;
  log_handle = agent.log_handle;
  ntf_handle = agent.ntf_handle;
  kept = without (λ sent. sent.0 == number) agent.kept;
  living = living_after_reply number reply agent.living;
  queue = callbacks_of agent.marks call reply ++ agent.queue;
  handed = agent.handed;
  marks = marks_with (told_mark call reply) agent.marks;
}

-- An item is taken.

abbrev pub find_living : ℕ → List Living → Option Living
find_living key [] = None
find_living key (subscription ∷ living) =
    if subscription.key == key then Some subscription else find_living key living

-- the callback that an item gives to a subscription of this id
abbrev pub callback_of : ℕ → Content → Callback
callback_of id (Single notification) = Notified id notification
callback_of id (Losses lost) = Discarded id lost

-- the subscription goes on to its next item
abbrev pub living_after_item : ℕ → List Living → List Living
living_after_item key [] = []
living_after_item key (subscription ∷ living) =
    record {
      key = subscription.key;
      id = subscription.id;
      next = if key == subscription.key then suc subscription.next else subscription.next;
    } ∷ living_after_item key living

abbrev pub after_item : ℕ → ℕ → Content → Agent → Agent
after_item key id content agent = record {
  next = agent.next;
  log_handle = agent.log_handle;
  ntf_handle = agent.ntf_handle;
  kept = agent.kept;
  living = living_after_item key agent.living;
  queue = callback_of id content ∷ agent.queue;
  handed = agent.handed;
  marks = agent.marks;
}

-- What is sent again: the calls without reply by number, then the greatest receipt of each living subscription by key.

abbrev pub requests_of : ℕ → List (ℕ × Call) → List Message
requests_of client [] = []
requests_of client (sent ∷ kept) = requests_of client kept ++ Request client sent.0 sent.1 ∷ []

-- the receipt of the item before the next, where one was taken
abbrev pub greatest_receipt : ℕ → ℕ → ℕ → List Message
greatest_receipt client key zero = []
greatest_receipt client key (suc taken) = if taken == 0 then [] else Receipt client key taken ∷ []

abbrev pub greatest_receipts : ℕ → List Living → List Message
greatest_receipts client [] = []
greatest_receipts client (subscription ∷ living) =
    greatest_receipts client living ++ greatest_receipt client subscription.key subscription.next

abbrev pub resent : ℕ → Agent → List Message
resent client agent = requests_of client agent.kept ++ greatest_receipts client agent.living

-- Callbacks are handed out: all of the queue, or the oldest.

abbrev pub all_but_oldest : {X : Type 0} → List X → List X
all_but_oldest [] = []
all_but_oldest (x ∷ []) = []
all_but_oldest (x ∷ y ∷ xs) = x ∷ all_but_oldest (y ∷ xs)

abbrev pub oldest : {X : Type 0} → List X → List X
oldest [] = []
oldest (x ∷ []) = x ∷ []
oldest (x ∷ y ∷ xs) = oldest (y ∷ xs)

abbrev pub after_dispatch_all : Agent → Agent
after_dispatch_all agent = record agent { queue = []; handed = agent.queue ++ agent.handed }

abbrev pub after_dispatch_one : Agent → Agent
after_dispatch_one agent = record agent {
  queue = all_but_oldest agent.queue;
  handed = oldest agent.queue ++ agent.handed;
}
