-- The streams with which a state begins.
use Rattle.std.proofs.Common.{w64, ◌≡◌, ℕ, ◌<◌, suc, false, ◌||◌, List, [], ◌∷◌, ◌++◌, length, get_or, drop, append_assoc, refl, ap, sym, ◌∙◌, subst, arith, length-append}
use Rattle.std.specs.List.{list_any}
use Rattle.std.proofs.Math.Seq.{drop-cons}
use Rattle.stream_config.specs.declared.attrs.StreamAttrs.{StreamAttrs}
use Rattle.stream_config.specs.declared.attrs.StreamName.TheVariants as name
use Rattle.stream_config.specs.declared.mark.Mark.{Mark}
use Rattle.stream_config.specs.Marks.{first_mark}
use Rattle.stream_config.specs.declared.state.StreamState.{StreamState}
use Rattle.std.specs.Prelude.{ℤ, pos, unsigned_abs, map}
use mir.Val.{SFits}
use Rattle.stream_config.specs.declared.event.StreamEvent.{StreamEvent}
use Rattle.log_history.specs.Chronicle.{LogSetup, new_stream}
use Rattle.log_history.specs.Legal.{IsSetup}
use Rattle.log_history.specs.Table.{OpenStream, has_nobody, state_of, new_state, table}
use Rattle.log_history.proofs.StreamLaws.{made-is}
use Rattle.log_service.specs.Moments.{IsTimeOfCall, second_of}
use Rattle.log_service.proofs.EndLemmas.{second-bound}
use Rattle.log_service.specs.State.{made_event, BeginsWith, HasBegun, table_with, joined_streams, IsSoundStream, AreSoundStreams}
use Rattle.log_service.specs.Beginning.{unopened_stream, AreWells, second_stamp, third_stamp, well_streams, HasWells}

-- a stream among sound ones is sound
pub sound-at : (front rest : List OpenStream) (stream : OpenStream) → AreSoundStreams (front ++ stream ∷ rest) → IsSoundStream stream
sound-at [] rest stream sound = sound.0
sound-at (one ∷ front) rest stream sound = sound-at front rest stream sound.1

-- somebody has each of them open that is an application's
pub busy-sound : (streams : List OpenStream) → AreSoundStreams streams → list_any has_nobody streams ≡ false
busy-sound [] sound = refl
busy-sound (stream ∷ streams) sound =
    ap (λ b. b || list_any has_nobody streams) sound.0.opened ∙ busy-sound streams sound.1

-- so many streams were made again, and these states are left
pub record AreJoined (states : List StreamState) (openers : List (List ℕ)) (marks : List Mark) (came rest : List StreamState) (left : ℕ) (made : List OpenStream) : Type 0 where
  pub parts : came ++ rest ≡ states
  pub count : left ≡ length rest
  pub places : length made ≡ length came
  pub all : made ++ joined_streams rest (drop (length came) openers) (drop (length came) marks) ≡ joined_streams states openers marks

-- while a state is left, the openers and the mark at that place are its own
pub AreJoined-within : (states : List StreamState) (openers : List (List ℕ)) (marks : List Mark) (came rest : List StreamState) (left : ℕ) (made : List OpenStream) → AreJoined states openers marks came rest left made → (state : StreamState) (others : List StreamState) → rest ≡ state ∷ others → length made < length states
AreJoined-within states openers marks came rest left made joined state others is =
    let all = ap length joined.parts in
    let both = length-append came rest in
    let some = ap length is in
    let made_is = joined.places in
    omega arith

front-at : {X : Type 0} (xs : List X) (made came : ℕ) (x : X) → made ≡ came → made < length xs → x ≡ get_or xs made x → drop came xs ≡ x ∷ drop (suc came) xs
front-at xs made came x same within read =
    subst (λ n. drop n xs ≡ x ∷ drop (suc n) xs) same (drop-cons xs made x within ∙ ap (λ first. first ∷ drop (suc made) xs) (sym read))

next-all : (states : List StreamState) (openers : List (List ℕ)) (marks : List Mark) (came rest : List StreamState) (left : ℕ) (made : List OpenStream) → AreJoined states openers marks came rest left made → (state : StreamState) (others : List StreamState) (clients : List ℕ) (mark : Mark) → rest ≡ state ∷ others → length made < length openers → length made < length marks → clients ≡ get_or openers (length made) clients → mark ≡ get_or marks (length made) mark → (let stream : OpenStream = record { state = state; openers = clients; mark = mark } in made ++ stream ∷ joined_streams others (drop (suc (length came)) openers) (drop (suc (length came)) marks) ≡ joined_streams states openers marks)
next-all states openers marks came rest left made joined state others clients mark is within within_marks read read_mark =
    let at = front-at openers (length made) (length came) clients joined.places within read in
    let at_mark = front-at marks (length made) (length came) mark joined.places within_marks read_mark in
    ap (λ back. made ++ back) (sym (ap (λ these. joined_streams these (drop (length came) openers) (drop (length came) marks)) is
    ∙ ap (λ these. joined_streams (state ∷ others) these (drop (length came) marks)) at
    ∙ ap (joined_streams (state ∷ others) (clients ∷ drop (suc (length came)) openers)) at_mark)) ∙ joined.all

-- the stream that is made next is sound
pub AreJoined-sound : (states : List StreamState) (openers : List (List ℕ)) (marks : List Mark) (came rest : List StreamState) (left : ℕ) (made : List OpenStream) → AreJoined states openers marks came rest left made → AreSoundStreams (joined_streams states openers marks) → (state : StreamState) (others : List StreamState) (clients : List ℕ) (mark : Mark) → rest ≡ state ∷ others → length made < length openers → length made < length marks → clients ≡ get_or openers (length made) clients → mark ≡ get_or marks (length made) mark → (let stream : OpenStream = record { state = state; openers = clients; mark = mark } in IsSoundStream stream)
AreJoined-sound states openers marks came rest left made joined sound state others clients mark is within within_marks read read_mark =
    let stream : OpenStream = record { state = state; openers = clients; mark = mark } in
    sound-at made (joined_streams others (drop (suc (length came)) openers) (drop (suc (length came)) marks)) stream
    (subst (λ (streams : List OpenStream). AreSoundStreams streams) (sym (next-all states openers marks came rest left made joined state others clients mark is within within_marks read read_mark)) sound)

-- the well-known streams, by the attributes and the stamps with which they are made
pub wells-are : (start : ℕ) (wells : List StreamAttrs) (alarm notification system : StreamAttrs) (first second third : ℕ) → AreWells wells → alarm ≡ get_or wells 0 alarm → notification ≡ get_or wells 1 notification → system ≡ get_or wells 2 system → first ≡ start → second ≡ second_stamp start → third ≡ third_stamp start → unopened_stream name.Alarm alarm first ∷ unopened_stream name.Notification notification second ∷ unopened_stream name.System system third ∷ [] ≡ well_streams start wells
wells-are start [] alarm notification system first second third passes a b c d e f = absurd passes
wells-are start (x ∷ []) alarm notification system first second third passes a b c d e f = absurd passes
wells-are start (x ∷ y ∷ []) alarm notification system first second third passes a b c d e f = absurd passes
wells-are start (x ∷ y ∷ z ∷ []) alarm notification system first second third passes a b c d e f = cc
wells-are start (x ∷ y ∷ z ∷ w ∷ more) alarm notification system first second third passes a b c d e f = absurd passes

-- what is put behind a list in three steps stands behind it in a row
pub three-behind : {A : Type 0} (front one two all : List A) (a b c : A) → one ≡ front ++ a ∷ [] → two ≡ one ++ b ∷ [] → all ≡ two ++ c ∷ [] → all ≡ front ++ a ∷ b ∷ c ∷ []
three-behind front one two all a b c first second third = rw (third, second, first) (simp append_assoc)

-- the streams of a service to which nothing happened yet
start-streams : (setup : LogSetup) → IsSetup setup → (table setup []).streams ≡ well_streams setup.start (setup.alarm ∷ setup.notification ∷ setup.system ∷ [])
start-streams setup sound =
    let opened : StreamState → OpenStream = λ state. record { state = state; openers = []; mark = first_mark } in
    let alarm = λ (created : ℕ). state_of (new_stream name.Alarm setup.alarm created) in
    let second = second_stamp setup.start in
    let third = third_stamp setup.start in
    ap (λ state. opened state ∷ opened (state_of (new_stream name.Notification setup.notification second)) ∷ opened (state_of (new_stream name.System setup.system third)) ∷ []) (made-is name.Alarm setup.alarm setup.start sound.alarm.some_rotated)
    ∙ ap (λ state. opened (new_state name.Alarm setup.alarm setup.start) ∷ opened state ∷ opened (state_of (new_stream name.System setup.system third)) ∷ []) (made-is name.Notification setup.notification second sound.notification.some_rotated)
    ∙ ap (λ state. opened (new_state name.Alarm setup.alarm setup.start) ∷ opened (new_state name.Notification setup.notification second) ∷ opened state ∷ []) (made-is name.System setup.system third sound.system.some_rotated)

pub begun : (setup : LogSetup) (start : ℤ) (wells : List StreamAttrs) (last : ℤ) (users : List ℕ) (streams : List OpenStream) (events : List StreamEvent) → users ≡ [] → BeginsWith setup start wells → HasWells (second_of start) wells last streams events → HasBegun setup (table_with (unsigned_abs last) users streams, events)
begun setup start wells last users streams events none begins has =
    let all : well_streams (second_of start) wells ≡ (table setup []).streams =
    ap (well_streams (second_of start)) begins.attributes
    ∙ ap (λ second. well_streams second (setup.alarm ∷ setup.notification ∷ setup.system ∷ [])) (sym begins.second)
    ∙ sym (start-streams setup begins.sound) in
    let stamp : unsigned_abs last ≡ (table setup []).last = ap unsigned_abs has.stamp ∙ ap third_stamp (sym begins.second) in
    record {
      now = ap (λ these. table_with (unsigned_abs last) these streams) none ∙ ap (λ n. table_with n [] streams) stamp ∙ ap (table_with (table setup []).last []) (has.made ∙ all);
      done = has.told ∙ ap (map made_event) all;
    }

pub third-fits : (start : ℤ) → IsTimeOfCall start → (last : ℤ) → last ≡ pos (third_stamp (second_of start)) → SFits w64 last
third-fits start time last is =
    let low = second-bound start time in
    subst (λ (z : ℤ). SFits w64 z) (sym is) (record { sfits = omega (arith, low) })
