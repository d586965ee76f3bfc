-- What holds of every history: at most one living stream has a name, who has a stream open keeps it living, and attributes pass.
use Rattle.std.proofs.Common.{◌≡◌, ℕ, ◌==◌, nat_lt, Bool, true, false, cond, List, [], ◌∷◌, ◌++◌, refl, ap, sym, ◌∙◌}
use Rattle.std.specs.Prelude.{Option, Some, None, is_some}
use Rattle.std.specs.List.{find}
use Rattle.std.proofs.lemmas.Bool.{and_parts}
use Rattle.client_set.specs.Rising.{put, without}
use Rattle.stream_config.specs.Attributes.{kind_of, PassesAttrs}
use Rattle.stream_config.specs.declared.attrs.StreamAttrs.{StreamAttrs}
use Rattle.stream_config.specs.declared.attrs.StreamName.{StreamName}
use Rattle.stream_config.specs.declared.attrs.StreamName.TheVariants as name
use Rattle.stream_config.specs.Equality.{same_name}
use Rattle.stream_config.specs.Stamps.{stamp_after}
use Rattle.stream_config.proofs.Equalities.{decides_name}
use Rattle.log_history.specs.Names.{is_application}
use Rattle.log_history.specs.Changes.{LogChange, Began, Opened, Stored, Filtered, Closed, Ended}
use Rattle.log_history.specs.Handles.{openers}
use Rattle.log_history.specs.Chronicle.{LogSetup, Stream, Chronicle, new_stream, lives, is_living, is_empty, is_idle, is_ending, with_record, after_ends, chronicle}
use Rattle.log_history.specs.Answers.{living_stream}
use Rattle.log_history.specs.Legal.{IsLogHistory}
use Rattle.log_history.proofs.FirstLaws.{none_is, Each, Each-push, Each-change_first, AtMostOne, AtMostOne-push, AtMostOne-change_first, find-push, find-change_first_none}
use Rattle.log_history.proofs.AnswerLaws.{makes-stream}
use Rattle.log_history.proofs.EndLaws.{Each-all_ended, AtMostOne-all_ended, find-all_ended}

-- the attributes of a stream pass
abbrev pub Passes : Stream → Type 0
Passes stream = PassesAttrs (kind_of stream.name) stream.attrs

-- where no stream of the name lives, nobody has it open
abbrev pub IsUnopened : List LogChange → List Stream → Type 0
IsUnopened past streams = (name : StreamName) → find (is_living name) streams ≡ None → openers past name ≡ []

pub record Reached (past : List LogChange) (streams : List Stream) : Type 0 where
  pub single : (name : StreamName) → AtMostOne (is_living name) streams
  pub unopened : IsUnopened past streams
  pub passing : Each Passes streams

empty-is : (clients : List ℕ) → is_empty clients ≡ true → clients ≡ []
empty-is [] is = refl
empty-is (client ∷ clients) is = cc

-- nobody is left where nobody was
cond-without : (b : Bool) (client : ℕ) (clients : List ℕ) → clients ≡ [] → cond b (without (λ other. other == client) clients) clients ≡ []
cond-without true client clients none = ap (without (λ other. other == client)) none
cond-without false client clients none = none

-- when the streams without openers have ended, none without openers lives
IsUnopened-ends : (past : List LogChange) (second : ℕ) (before : Chronicle) → IsUnopened past before.streams → IsUnopened past (after_ends past second before).streams
IsUnopened-ends past second before unopened name none = by_case (find (is_living name) before.streams) refl where
  by_case : (found : Option Stream) → find (is_living name) before.streams ≡ found → openers past name ≡ []
  by_case None none_before = unopened name none_before
  by_case (Some stream) was =
      let ended = find-all_ended name (is_ending past) before.last second before.streams stream was none in
      let idle = and_parts (lives stream) (is_idle past stream) ended.0 in
      let empty = and_parts (is_application stream.name) (is_empty (openers past stream.name)) idle.1 in
      let living = and_parts (lives stream) (same_name stream.name name) ended.1 in
      ap (openers past) (sym ((decides_name stream.name name).0 living.1)) ∙ empty-is (openers past stream.name) empty.1

Reached-ends : (past : List LogChange) (second : ℕ) (before : Chronicle) → ((name : StreamName) → AtMostOne (is_living name) before.streams) → IsUnopened past before.streams → Each Passes before.streams → Reached past (after_ends past second before).streams
Reached-ends past second before single unopened passing = record {
  single = λ name. AtMostOne-all_ended name (is_ending past) before.last second before.streams (single name);
  unopened = IsUnopened-ends past second before unopened;
  passing = Each-all_ended Passes (λ closed stream passes. passes) (is_ending past) before.last second before.streams passing;
}

-- a name is not the same as another one to which it is not the same
not-same : (one other : StreamName) → same_name one other ≡ false → same_name other one ≡ false
not-same one other differ = by_case (same_name other one) refl where
  by_case : (b : Bool) → same_name other one ≡ b → same_name other one ≡ false
  by_case true same =
      let e : same_name one other ≡ true = ap (same_name one) ((decides_name other one).0 same) ∙ (decides_name one one).1 refl in
      let contradiction : true ≡ false = sym e ∙ differ in cc
  by_case false is = is

-- who opens a stream that lives leaves the others alone
IsUnopened-opened : (past : List LogChange) (client : ℕ) (opened : StreamName) (second number : ℕ) (streams : List Stream) → IsUnopened past streams → is_some (find (is_living opened) streams) ≡ true → IsUnopened (Opened client opened None second number ∷ past) streams
IsUnopened-opened past client opened second number streams unopened living name none = by_case (same_name name opened) refl where
  by_case : (b : Bool) → same_name name opened ≡ b → cond b (put nat_lt client (openers past name)) (openers past name) ≡ []
  by_case true same =
      let found : is_some (find (is_living name) streams) ≡ true = ap (λ n. is_some (find (is_living n) streams)) ((decides_name name opened).0 same) ∙ living in
      let lost : false ≡ true = ap is_some (sym none) ∙ found in cc
  by_case false differ = unopened name none

Reached-made : (past : List LogChange) (client : ℕ) (made : StreamName) (attrs : StreamAttrs) (second number created : ℕ) (streams : List Stream) → Reached past streams → find (is_living made) streams ≡ None → PassesAttrs (kind_of made) attrs → Reached (Opened client made (Some attrs) second number ∷ past) (streams ++ new_stream made attrs created ∷ [])
Reached-made past client made attrs second number created streams reached new passes = record {
  single = λ name. AtMostOne-push (is_living name) streams stream (reached.single name) (λ is. ap (λ n. find (is_living n) streams) (sym ((decides_name made name).0 is)) ∙ new);
  unopened = unopened;
  passing = Each-push Passes streams stream reached.passing passes;
} where
  stream : Stream
  stream = new_stream made attrs created

  unopened : IsUnopened (Opened client made (Some attrs) second number ∷ past) (streams ++ new_stream made attrs created ∷ [])
  unopened name none =
      let none_both = find-push (is_living name) streams (new_stream made attrs created) none in
      ap (λ b. cond b (put nat_lt client (openers past name)) (openers past name)) (not-same made name none_both.1)
      ∙ reached.unopened name none_both.0

-- what holds of every history
pub reached : (setup : LogSetup) (past : List LogChange) → IsLogHistory setup past → Reached past (chronicle setup past).streams
reached setup [] legal = record { single = single; unopened = λ name none. refl; passing = (legal.alarm, (legal.notification, (legal.system, tt))) } where
  single : (name : StreamName) → AtMostOne (is_living name) (chronicle setup []).streams
  single name.Alarm = ((λ is. refl), ((λ is. cc), ((λ is. cc), tt)))
  single name.Notification = ((λ is. cc), ((λ is. refl), ((λ is. cc), tt)))
  single name.System = ((λ is. cc), ((λ is. cc), ((λ is. refl), tt)))
  single (name.App application) = ((λ is. cc), ((λ is. cc), ((λ is. cc), tt)))
reached setup (Began client ∷ past) legal =
    let before = reached setup past legal.1 in
    record { single = before.single; unopened = before.unopened; passing = before.passing }
reached setup (Opened client name None second number ∷ past) legal =
    let before = reached setup past legal.1 in
    record {
      single = before.single;
      unopened = IsUnopened-opened past client name second number (chronicle setup past).streams before.unopened legal.0.1;
      passing = before.passing;
    }
reached setup (Opened client name (Some attrs) second number ∷ past) legal =
    let before = reached setup past legal.1 in
    let new = none_is (living_stream setup past name) legal.0.0 in
    let makes = makes-stream setup past client name attrs legal.0.0 legal.0.1 in
    Reached-made past client name attrs second number (stamp_after (chronicle setup past).last second) (chronicle setup past).streams before new makes.passes
reached setup (Stored name rec second ∷ past) legal =
    let before = reached setup past legal.1 in
    let streams = (chronicle setup past).streams in
    let change = with_record (chronicle setup past).last second rec in
    record {
      single = λ other. AtMostOne-change_first (is_living other) (is_living name) change (λ _. refl) streams (before.single other);
      unopened = λ other none. before.unopened other (none_is (find (is_living other) streams) (sym (find-change_first_none (is_living other) (is_living name) change (λ _. refl) streams) ∙ ap is_some none));
      passing = Each-change_first Passes (is_living name) change (λ _ passes. passes) streams before.passing;
    }
reached setup (Filtered client name mask number ∷ past) legal =
    let before = reached setup past legal.1 in
    record { single = before.single; unopened = before.unopened; passing = before.passing }
reached setup (Closed client name second ∷ past) legal =
    let before = reached setup past legal.1 in
    Reached-ends (Closed client name second ∷ past) second (chronicle setup past) before.single
    (λ other none. cond-without (same_name other name) client (openers past other) (before.unopened other none)) before.passing
reached setup (Ended client second ∷ past) legal =
    let before = reached setup past legal.1 in
    Reached-ends (Ended client second ∷ past) second (chronicle setup past) before.single
    (λ other none. ap (without (λ user. user == client)) (before.unopened other none)) before.passing
