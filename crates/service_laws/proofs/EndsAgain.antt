-- The deeds of streams that end, made again after any attempts, leave what they would have left at once.
use Rattle.std.proofs.Common.{◌≡◌, ◌≢◌, ℕ, ◌<◌, ◌≤◌, Bool, true, false, cond, List, [], ◌∷◌, ◌++◌, refl, sym, ap, subst, ◌∙◌, inl, inr, arith, leb→le}
use Rattle.std.specs.Prelude.{ℤ, pos, negsuc, None, is_some}
use Rattle.std.specs.List.{AllByRecursion}
use Rattle.std.specs.FinMap.{get}
use Rattle.std.specs.Option.{option_to_list}
use Rattle.std.proofs.lemmas.Bool.{and_parts}
use Rattle.disk_model.specs.Disk.{Files, renamed}
use Rattle.disk_model.specs.DeviceCalls.{DeviceCall, all_applied}
use Rattle.disk_model.specs.Failures.{Crashed, WhollyOrNot}
use Rattle.disk_model.proofs.Renaming.{renamed_absent}
use Rattle.stream_config.specs.declared.event.StreamEvent.{StreamEvent}
use Rattle.stream_config.specs.declared.event.StreamEvent.TheVariants.{Made, Stored, Ended}
use Rattle.stream_config.specs.declared.state.LogFile.{LogFile}
use Rattle.stream_config.specs.declared.state.StreamState.{StreamState}
use Rattle.stream_config.specs.Events.{file_closed}
use Rattle.stream_config.specs.Fit.{stamps_of, is_last_open}
use Rattle.stream_config.specs.Stamps.{stamp_after}
use Rattle.stream_layout.specs.Carrying.{IsFitEnded, IsFitEvent}
use Rattle.stream_layout.specs.Deeds.{calls_of_all, current_file, deeds_of}
use Rattle.stream_layout.specs.Names.{log_name}
use Rattle.stream_layout.proofs.DeedLaws.{some_files, current_stamps}
use Rattle.stream_layout.proofs.NameLaws.{last_apart}
use Rattle.log_history.specs.Deeds.{deeds_of_all}
use Rattle.log_history.specs.Stamps.{IsStampUpTo}
use Rattle.log_history.specs.Table.{OpenStream, has_nobody, ends_in}
use Rattle.cluster_facts.specs.Storage.{Attempt, Attempts}
use Rattle.service_laws.specs.Disks.{service_disk}
use Rattle.service_laws.proofs.Attempting.{IsRepeatable}
use Rattle.service_laws.proofs.DoneAgain.{renamed-gone, renamed-stays}
use Rattle.stream_layout.specs.Repeating.{AllSettled}
use Rattle.stream_layout.proofs.RepeatOn.{current_open}
use Rattle.stream_layout.proofs.Settled.{none_loose, settled-but, all-settled, crash-at, crash-nothing, settled-renamed}

-- the end of a stream whose current file was made by this stamp or before, and that is closed later
pub record IsLateEnd (low : ℕ) (before : StreamState) (closed : ℤ) : Type 0 where
  pub fit : IsFitEnded before closed
  pub made : IsStampUpTo (pos low) (current_file before.files).created
  pub number : ℕ
  pub stamp : closed ≡ pos number
  pub later : low < number

abbrev pub IsLateEvent : ℕ → StreamEvent → Type 0
IsLateEvent low (Ended before closed) = IsLateEnd low before closed
IsLateEvent low _ = ⊥

abbrev pub from_name : StreamState → List ℕ
from_name before = log_name before.attrs (current_file before.files)

abbrev pub to_name : StreamState → ℤ → List ℕ
to_name before closed = log_name before.attrs (file_closed closed (current_file before.files))

unlike-stamp : (low number : ℕ) (made : ℤ) → IsStampUpTo (pos low) made → low < number → made ≢ pos number
unlike-stamp low number (pos n) is later same =
    let le : n ≤ low = leb→le n low is.to.le in
    let e : n ≡ number = cc in absurd (omega (arith, le, later, e))
unlike-stamp low number (negsuc n) is later same = absurd (is.from.le)

-- the name of a current file is none that a file gets as it is closed later
pub apart-names : (low : ℕ) (one : StreamState) (other : StreamState) (first closed : ℤ) → IsLateEnd low one first → IsLateEnd low other closed → from_name one ≢ to_name other closed
apart-names low one other first closed is late =
    let opened = current_open one.files is.fit.stream.standing.last_open in
    let made = (current_stamps one.files is.fit.stream.stamps (some_files one.files is.fit.stream.standing.last_open)).created in
    let current : LogFile = current_file one.files in
    let open_one : LogFile = record { created = current.created; closed = None; first = current.first; bytes = current.bytes } in
    let whole : open_one ≡ current = λ i. record { created = current.created; closed = sym opened i; first = current.first; bytes = current.bytes } in
    subst (λ (file : LogFile). log_name one.attrs file ≢ to_name other closed) whole
    (last_apart one.attrs other.attrs open_one (file_closed closed (current_file other.files)) made late.fit.stamp
    (subst (λ stamp. current.created ≢ stamp) (sym late.stamp) (unlike-stamp low late.number current.created is.made late.later)))

abbrev pub end_calls : List StreamEvent → List DeviceCall
end_calls events = calls_of_all (deeds_of_all events)

-- a name that stands for nothing stands for nothing after a crash
crash-gone : (old new : Files) (name : List ℕ) → get old name ≡ None → Crashed old new → get new name ≡ None
crash-gone old new name gone crashed = crash-at old new name (λ file is. cc (gone, is)) crashed ∙ gone

-- a name of a current file that is gone does not come back by a renaming
left-gone : (low : ℕ) (one : StreamState) (first : ℤ) → IsLateEnd low one first → (before : StreamState) (closed : ℤ) → IsLateEnd low before closed → (old new : Files) → get old (from_name one) ≡ None
    → WhollyOrNot (renamed old (from_name before) (to_name before closed)) old new → get new (from_name one) ≡ None
left-gone low one first is before closed late old new gone (inl same) = ap (λ files. get files (from_name one)) same ∙ gone
left-gone low one first is before closed late old new gone (inr done) =
    ap (λ files. get files (from_name one)) done
    ∙ renamed-stays old (from_name before) (to_name before closed) (from_name one) (apart-names low one before first closed is late) gone

-- nor by attempts
pub stays-gone : (low : ℕ) (one : StreamState) (first : ℤ) → IsLateEnd low one first → (events : List StreamEvent) → AllByRecursion (IsLateEvent low) events → (old new : Files) → get old (from_name one) ≡ None → Attempt service_disk (end_calls events) old new → get new (from_name one) ≡ None
unfolding deeds_of
stays-gone low one first is [] late old new gone same = ap (λ files. get files (from_name one)) same ∙ gone
stays-gone low one first is (Made state ∷ events) late old new gone attempt = elim late.0 [ ]
stays-gone low one first is (Stored before bytes stamps ∷ events) late old new gone attempt = elim late.0 [ ]
stays-gone low one first is (Ended before closed ∷ events) late old new gone (inl same) =
    ap (λ files. get files (from_name one)) same ∙ gone
stays-gone low one first is (Ended before closed ∷ events) late old new gone (inr (inl (inl left))) =
    left-gone low one first is before closed late.0 old new gone left
stays-gone low one first is (Ended before closed ∷ events) late old new gone (inr (inl (inr stopped))) =
    crash-gone stopped.0 new (from_name one) (left-gone low one first is before closed late.0 old stopped.0 gone stopped.1) stopped.2
stays-gone low one first is (Ended before closed ∷ events) late old new gone (inr (inr rest)) =
    stays-gone low one first is events late.1 (renamed old (from_name before) (to_name before closed)) new
    (renamed-stays old (from_name before) (to_name before closed) (from_name one) (apart-names low one before first closed is late.0) gone) rest

-- a first renaming that was not done wholly: nothing is loose, and the ends leave what they would have left
left-again : (low : ℕ) (before : StreamState) (closed : ℤ) → IsLateEnd low before closed → (events : List StreamEvent) (old new : Files) → AllSettled old → WhollyOrNot (renamed old (from_name before) (to_name before closed)) old new
    → AllSettled new × (all_applied (end_calls events) (renamed new (from_name before) (to_name before closed)) ≡ all_applied (end_calls events) (renamed old (from_name before) (to_name before closed)))
left-again low before closed late events old new settled (inl same) =
    (subst AllSettled (sym same) settled, ap (λ files. all_applied (end_calls events) (renamed files (from_name before) (to_name before closed))) same)
left-again low before closed late events old new settled (inr done) =
    let from = from_name before in
    let to = to_name before closed in
    let gone = renamed-gone old from to (apart-names low before before closed closed late late) in (
      subst AllSettled (sym done) (all-settled (renamed old from to) (settled-renamed none_loose from to old refl (settled-but none_loose old settled))),
      ap (λ files. all_applied (end_calls events) (renamed files from to)) done
          ∙ ap (all_applied (end_calls events)) (renamed_absent (renamed old from to) from to gone),
    )

-- after one attempt
ends-after : (low : ℕ) (events : List StreamEvent) → AllByRecursion (IsLateEvent low) events → (old new : Files) → AllSettled old → Attempt service_disk (end_calls events) old new
    → AllSettled new × (all_applied (end_calls events) new ≡ all_applied (end_calls events) old)
unfolding deeds_of
ends-after low [] late old new settled same = (subst AllSettled (sym same) settled, same)
ends-after low (Made state ∷ events) late old new settled attempt = elim late.0 [ ]
ends-after low (Stored before bytes stamps ∷ events) late old new settled attempt = elim late.0 [ ]
ends-after low (Ended before closed ∷ events) late old new settled (inl same) =
    (subst AllSettled (sym same) settled, ap (all_applied (end_calls (Ended before closed ∷ events))) same)
ends-after low (Ended before closed ∷ events) late old new settled (inr (inl (inl left))) =
    left-again low before closed late.0 events old new settled left
ends-after low (Ended before closed ∷ events) late old new settled (inr (inl (inr stopped))) =
    let from = from_name before in
    let to = to_name before closed in
    let running = left-again low before closed late.0 events old stopped.0 settled stopped.1 in
    let same = crash-nothing stopped.0 new running.0 stopped.2 in
    (subst AllSettled (sym same) running.0, ap (λ files. all_applied (end_calls events) (renamed files from to)) same ∙ running.1)
ends-after low (Ended before closed ∷ events) late old new settled (inr (inr rest)) =
    let from = from_name before in
    let to = to_name before closed in
    let gone = renamed-gone old from to (apart-names low before before closed closed late.0 late.0) in
    let all = all-settled (renamed old from to) (settled-renamed none_loose from to old refl (settled-but none_loose old settled)) in
    let behind = ends-after low events late.1 (renamed old from to) new all rest in (
      behind.0,
      ap (all_applied (end_calls events)) (renamed_absent new from to (stays-gone low before closed late.0 events late.1 (renamed old from to) new gone rest))
          ∙ behind.1,
    )

-- after any attempts
ends-behind : (low : ℕ) (events : List StreamEvent) → AllByRecursion (IsLateEvent low) events → (old left : Files) → AllSettled old → Attempts service_disk (end_calls events) old left
    → AllSettled left × (all_applied (end_calls events) left ≡ all_applied (end_calls events) old)
ends-behind low events late old left settled Attempts.none = (settled, refl)
ends-behind low events late old left settled (Attempts.more {mid = mid} before last) =
    let behind = ends-behind low events late old mid settled before in
    let after = ends-after low events late mid left behind.0 last in
    (after.0, after.1 ∙ behind.1)

pub ends-again : (low : ℕ) (events : List StreamEvent) → AllByRecursion (IsLateEvent low) events → (old : Files) → IsRepeatable (calls_of_all (deeds_of_all events)) old
ends-again low events late old settled left tried = (ends-behind low events late old left settled tried).1

-- the streams that end

up-to-current : (last : ℤ) (files : List LogFile) → is_last_open files ≡ true → AllByRecursion (IsStampUpTo last) (stamps_of files) → IsStampUpTo last (current_file files).created
up-to-current last [] is each = cc
up-to-current last (file ∷ []) is each = each.0
up-to-current last (file ∷ next ∷ files) is each =
    up-to-current last (next ∷ files) (and_parts (is_some file.closed) (is_last_open (next ∷ files)) is).1 (behind (option_to_list file.closed) each.1) where
      behind : (front : List ℤ) → AllByRecursion (IsStampUpTo last) (front ++ stamps_of (next ∷ files)) → AllByRecursion (IsStampUpTo last) (stamps_of (next ∷ files))
      behind [] all = all
      behind (stamp ∷ front) all = behind front all.1

pub late-ends : (low last second : ℕ) → low ≤ last → (streams : List OpenStream) → AllByRecursion (λ (stream : OpenStream). AllByRecursion (IsStampUpTo (pos low)) (stamps_of stream.state.files)) streams → AllByRecursion IsFitEvent (ends_in last second streams) → AllByRecursion (IsLateEvent low) (ends_in last second streams)
late-ends low last second le [] made fit = tt
late-ends low last second le (stream ∷ streams) made fit =
    by_case (has_nobody stream) fit (λ rest. late-ends low (stamp_after last second) second (omega (arith, le)) streams made.1 rest) (λ rest. late-ends low last second le streams made.1 rest) where
      by_case : (b : Bool) → AllByRecursion IsFitEvent (cond b (Ended stream.state (pos (stamp_after last second)) ∷ ends_in (stamp_after last second) second streams) (ends_in last second streams)) → (AllByRecursion IsFitEvent (ends_in (stamp_after last second) second streams) → AllByRecursion (IsLateEvent low) (ends_in (stamp_after last second) second streams)) → (AllByRecursion IsFitEvent (ends_in last second streams) → AllByRecursion (IsLateEvent low) (ends_in last second streams)) → AllByRecursion (IsLateEvent low) (cond b (Ended stream.state (pos (stamp_after last second)) ∷ ends_in (stamp_after last second) second streams) (ends_in last second streams))
      by_case true all later same = (
        record {
          fit = all.0;
          made = up-to-current (pos low) stream.state.files all.0.stream.standing.last_open made.0;
          number = stamp_after last second;
          stamp = refl;
          later = omega (arith, le);
        },
        later all.1,
      )
      by_case false all later same = same all
