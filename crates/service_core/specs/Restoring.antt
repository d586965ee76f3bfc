-- Words of bodies alone: of what the parts of a service are made again.
use Rattle.std.specs.Prelude.{◌≡◌, ℕ, List, ◌∷◌, ◌++◌, map}
use Rattle.stream_config.specs.declared.mark.Mark.{Mark}
use Rattle.stream_config.specs.declared.state.StreamState.{StreamState}
use Rattle.sub_queue.specs.Queue.{IsSound}
use Rattle.alarm_view.specs.Alarms.{CanAdd}
use Rattle.calls.specs.declared.saved.SavedStream.{SavedStream}
use Rattle.calls.specs.declared.saved.SavedAlarm.{SavedAlarm}
use Rattle.calls.specs.declared.saved.SavedSub.{SavedSub}
use Rattle.service_table.specs.Tables.{kept_alarm_of, kept_sub_of}

abbrev pub states_in : List SavedStream → List StreamState
states_in streams = map (λ (stream : SavedStream). stream.state) streams

abbrev pub openers_in : List SavedStream → List (List ℕ)
openers_in streams = map (λ (stream : SavedStream). stream.openers) streams

abbrev pub marks_in : List SavedStream → List Mark
marks_in streams = map (λ (stream : SavedStream). stream.mark) streams

-- the queue of a subscription can be made again
abbrev pub HasSoundQueue : ℕ → SavedSub → Type 0
HasSoundQueue cap sub = IsSound (kept_sub_of cap sub).queue

-- each alarm can be added behind those before it
abbrev pub CanAddEach : List SavedAlarm → Type 0
CanAddEach alarms =
    (front : List SavedAlarm) (alarm : SavedAlarm) (rest : List SavedAlarm) → alarms ≡ front ++ alarm ∷ rest
    → CanAdd alarm.k alarm.notification (map kept_alarm_of front)
