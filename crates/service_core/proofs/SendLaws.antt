-- A notification that is sent, part by part.
use Rattle.std.proofs.Common.{◌≡◌, true, false, Bool, List, [], ◌∷◌, refl, ap, sym}
use Rattle.std.specs.Prelude.{Some, Result, Ok, Err, IsOk, is_ok, ◌↔◌, option_map, slice_get}
use Rattle.stream_config.specs.declared.state.StreamState.{StreamState}
use Rattle.ntf_types.specs.declared.notification.Notification.{Notification}
use Rattle.ntf_types.specs.Sound.{IsSound}
use Rattle.ntf_types.specs.SoundTests.{is_sound}
use Rattle.ntf_types.proofs.SoundLaws.{is_sound-decides}
use Rattle.log_history.specs.Table.{OpenStream}
use Rattle.service_fit.specs.Fit.{alarm_count}

-- a check of a notification that tells whether it is sound tells the test
pub right : {T E : Type 0} (notification : Notification) (r : Result T E) → IsOk r ↔ IsSound notification → is_ok r ≡ is_sound notification
right notification (Ok value) tells = sym ((is_sound-decides notification).1 (tells.0 refl))
right notification (Err error) tells = fails (is_sound notification) refl where
  fails : (b : Bool) → is_sound notification ≡ b → false ≡ is_sound notification
  fails true is =
      let accepted = tells.1 ((is_sound-decides notification).0 is) in
      cc
  fails false is = sym is

-- the alarm stream's state tells how many records it has taken
pub taken-first : (streams : List OpenStream) (state : StreamState) → Some state ≡ option_map (λ (s : OpenStream). s.state) (slice_get streams 0) → state.taken ≡ alarm_count streams
taken-first [] state is = cc
taken-first (s ∷ streams) state is = let e : state ≡ s.state = cc in ap (λ (st : StreamState). st.taken) e
