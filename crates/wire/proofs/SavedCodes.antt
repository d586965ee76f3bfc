-- The readings of the saved value of a service are exact.
use Rattle.std.proofs.Common.{refl}
use Rattle.wire_code.specs.Spelling.{number_text, IsNumber}
use Rattle.wire_code.specs.Reading.{number_at}
use Rattle.wire.proofs.NtfCodes.{notification_code, filter_set_code}
use Rattle.wire.proofs.LogCodes.{stream_code, mark_code}
use Rattle.wire.specs.CallSpelling.{reply_text, ReplyFits, lost_text, LostFits, content_text, ContentFits}
use Rattle.wire.specs.CallReading.{reply_at, lost_at, content_at}
use Rattle.wire.proofs.CallCodes.{reply_code, lost_code, content_code}
use Rattle.wire.specs.SavedSpelling.{saved_window_text, SavedWindowFits, saved_stream_text, SavedStreamFits, saved_alarm_text, SavedAlarmFits, saved_sub_text, SavedSubFits, saved_reader_text, SavedReaderFits, saved_text, SavedFits}
use Rattle.wire.specs.SavedReading.{saved_window_at, saved_window_of, saved_stream_at, saved_stream_of, saved_alarm_at, saved_alarm_of, saved_sub_at, saved_sub_of, saved_reader_at, saved_reader_of, saved_at, saved_of}
use Rattle.wire_code.proofs.Codes.{Code, made_code, both_code}
use Rattle.wire_code.proofs.NumberCodes.{number_code, signed_code}
use Rattle.wire_code.proofs.RangeCodes.{client_code, count_code}
use Rattle.wire_code.proofs.ListCodes.{list_code}
use Rattle.wire_code.proofs.ChoiceCodes.{flag_code}

-- the window of a client
pub saved_window_code : Code saved_window_at saved_window_text SavedWindowFits
unfolding saved_window_at saved_window_text
saved_window_code =
    made_code saved_window_of saved_window_text SavedWindowFits (both_code client_code (both_code count_code (list_code reply_at reply_text ReplyFits reply_code)))
    (λ p fits. refl)
    (λ p fits. record { client = fits.0; next = fits.1.0; replies = fits.1.1 })
    (λ x fits. ((x.client, (x.next, x.replies)), refl, (fits.client, (fits.next, fits.replies))))

-- a stream with its openers and its mark
pub saved_stream_code : Code saved_stream_at saved_stream_text SavedStreamFits
unfolding saved_stream_at saved_stream_text
saved_stream_code =
    made_code saved_stream_of saved_stream_text SavedStreamFits (both_code stream_code (both_code (list_code (number_at 2) (number_text 2) (IsNumber 2) (number_code 2)) mark_code))
    (λ p fits. refl)
    (λ p fits. record { state = fits.0; openers = fits.1.0; mark = fits.1.1 })
    (λ x fits. ((x.state, (x.openers, x.mark)), refl, (fits.state, (fits.openers, fits.mark))))

-- a stored alarm
pub saved_alarm_code : Code saved_alarm_at saved_alarm_text SavedAlarmFits
unfolding saved_alarm_at saved_alarm_text
saved_alarm_code =
    made_code saved_alarm_of saved_alarm_text SavedAlarmFits (both_code (number_code 4) notification_code)
    (λ p fits. refl)
    (λ p fits. record { k = fits.0; notification = fits.1 })
    (λ x fits. ((x.k, x.notification), refl, (fits.k, fits.notification)))

-- a subscription
pub saved_sub_code : Code saved_sub_at saved_sub_text SavedSubFits
unfolding saved_sub_at saved_sub_text
saved_sub_code =
    made_code saved_sub_of saved_sub_text SavedSubFits (both_code client_code (both_code count_code (both_code (number_code 4) (both_code filter_set_code (both_code (number_code 4) (both_code (list_code content_at content_text ContentFits content_code) (list_code lost_at lost_text LostFits lost_code)))))))
    (λ p fits. refl)
    (λ p fits. record { client = fits.0; key = fits.1.0; id = fits.1.1.0; filters = fits.1.1.1.0; first = fits.1.1.1.1.0; held = fits.1.1.1.1.1.0; lost = fits.1.1.1.1.1.1 })
    (λ x fits. ((x.client, (x.key, (x.id, (x.filters, (x.first, (x.held, x.lost)))))), refl, (fits.client, (fits.key, (fits.id, (fits.filters, (fits.first, (fits.held, fits.lost))))))))

-- a reader of stored alarms
pub saved_reader_code : Code saved_reader_at saved_reader_text SavedReaderFits
unfolding saved_reader_at saved_reader_text
saved_reader_code =
    made_code saved_reader_of saved_reader_text SavedReaderFits (both_code client_code (both_code filter_set_code (both_code signed_code (both_code (number_code 8) flag_code))))
    (λ p fits. refl)
    (λ p fits. record { client = fits.0; filters = fits.1.0; time = fits.1.1.0; id = fits.1.1.1.0 })
    (λ x fits. ((x.client, (x.filters, (x.time, (x.id, x.fresh)))), refl, (fits.client, (fits.filters, (fits.time, (fits.id, tt))))))

-- the value of a service
pub saved_code : Code saved_at saved_text SavedFits
unfolding saved_at saved_text
saved_code =
    made_code saved_of saved_text SavedFits (both_code (number_code 8) (both_code signed_code (both_code (number_code 8) (both_code (number_code 4) (both_code (list_code (number_at 2) (number_text 2) (IsNumber 2) (number_code 2)) (both_code (list_code (number_at 2) (number_text 2) (IsNumber 2) (number_code 2)) (both_code (list_code saved_window_at saved_window_text SavedWindowFits saved_window_code) (both_code (list_code saved_stream_at saved_stream_text SavedStreamFits saved_stream_code) (both_code (list_code saved_alarm_at saved_alarm_text SavedAlarmFits saved_alarm_code) (both_code (list_code saved_sub_at saved_sub_text SavedSubFits saved_sub_code) (list_code saved_reader_at saved_reader_text SavedReaderFits saved_reader_code)))))))))))
    (λ p fits. refl)
    (λ p fits. record { number = fits.0; last_stamp = fits.1.0; last_id = fits.1.1.0; capacity = fits.1.1.1.0; log_users = fits.1.1.1.1.0; ntf_users = fits.1.1.1.1.1.0; windows = fits.1.1.1.1.1.1.0; streams = fits.1.1.1.1.1.1.1.0; alarms = fits.1.1.1.1.1.1.1.1.0; subs = fits.1.1.1.1.1.1.1.1.1.0; readers = fits.1.1.1.1.1.1.1.1.1.1 })
    (λ x fits. ((x.number, (x.last_stamp, (x.last_id, (x.capacity, (x.log_users, (x.ntf_users, (x.windows, (x.streams, (x.alarms, (x.subs, x.readers)))))))))), refl, (fits.number, (fits.last_stamp, (fits.last_id, (fits.capacity, (fits.log_users, (fits.ntf_users, (fits.windows, (fits.streams, (fits.alarms, (fits.subs, fits.readers))))))))))))
