-- A notification that may be sent is accepted with a known time.
use Rattle.std.proofs.Common.{◌≡◌, ℕ, Bool, true, false, cond, inl, inr}
use Rattle.std.specs.Prelude.{ℤ, pos, ◌≤ℤ◌}
use Rattle.std.specs.Ordering.{int_eq}
use Rattle.std.proofs.lemmas.Bool.Decides.{Decides-int_eq}
use Rattle.ais_values.specs.Times.{unknown_time, IsTime}
use Rattle.log_history.specs.Times.{filled_time}
use Rattle.ntf_types.specs.declared.notification.Notification.{Notification}
use Rattle.ntf_types.specs.Sound.{IsSound}
use Rattle.plain_service.specs.Setups.{IsMoment}
use Rattle.plain_service.specs.Alarms.{accepted_as}

-- a notification that was sent, as it was accepted
pub record IsAccepted (notification : Notification) : Type 0 where
  pub sound : IsSound notification
  pub time : pos 0 ≤ℤ notification.event_time

-- a time that is filled in is known
filled-known : (time now : ℤ) → IsTime time → pos 0 ≤ℤ now → pos 0 ≤ℤ filled_time time now
filled-known time now (inl known) moment = by_case (int_eq time unknown_time) where
  by_case : (b : Bool) → pos 0 ≤ℤ cond b now time
  by_case true = moment
  by_case false = known
filled-known time now (inr unknown) moment = by_case (int_eq time unknown_time) ((Decides-int_eq time unknown_time).1 unknown) where
  by_case : (b : Bool) → b ≡ true → pos 0 ≤ℤ cond b now time
  by_case true is = moment
  by_case false is = cc

pub accepted : (id : ℕ) (now : ℤ) (notification : Notification) → IsMoment now → IsSound notification → IsAccepted (accepted_as id now notification)
accepted id now notification moment sound =
    let known = filled-known notification.event_time now sound.event_time moment.from in
    record {
      sound = record {
        event_type = sound.event_type;
        event_time = inl known;
        text = sound.text;
        correlated = sound.correlated;
        info = sound.info;
        body = sound.body;
      };
      time = known;
    }
