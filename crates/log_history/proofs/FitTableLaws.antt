-- What is kept of a history is fit: it can be kept on.
use Rattle.std.proofs.Common.{◌≡◌, ℕ, suc, ◌≤◌, ◌==◌, nat_lt, nat_le, Bool, true, false, not, ◌&&◌, ◌||◌, cond, List, [], ◌∷◌, length, map, refl, ap, sym, ◌∙◌, subst, arith, length-append}
use Rattle.std.specs.Prelude.{Option, Some, None, filter}
use Rattle.std.specs.List.{find, AllByRecursion, list_any, count_by}
use Rattle.std.proofs.lemmas.List.Elements.{filter-append}
use Rattle.std.proofs.lemmas.List.Sums.{length-filter}
use Rattle.std.proofs.lemmas.Bool.{and_right, not-true, and_from, leb-false}
use Rattle.client_set.specs.Rising.{put, without, IsRising}
use Rattle.client_set.proofs.RisingLaws.{IsOrder-nat_lt, IsRising-put, IsRising-without}
use Rattle.ais_values.specs.Codes.{all_differ}
use Rattle.stream_config.specs.declared.attrs.StreamAttrs.{StreamAttrs}
use Rattle.stream_config.specs.declared.attrs.StreamName.{StreamName}
use Rattle.stream_config.specs.Equality.{same_name}
use Rattle.stream_config.specs.Stamps.{stamp_after}
use Rattle.stream_config.proofs.Equalities.{decides_name}
use Rattle.stream_layout.specs.Carrying.{IsFitStream}
use Rattle.log_history.specs.Names.{is_application}
use Rattle.log_history.specs.Firsts.{change_first}
use Rattle.log_history.specs.Changes.{LogChange, Began, Opened, Stored, Filtered, Closed, Ended}
use Rattle.log_history.specs.Handles.{users, openers}
use Rattle.log_history.specs.Chronicle.{LogSetup, Stream, new_stream, lives, is_empty, is_idle, is_ending, with_record, all_ended, chronicle}
use Rattle.log_history.specs.Legal.{IsLogHistory}
use Rattle.log_history.specs.KeptAnswers.{is_of_application}
use Rattle.log_history.specs.Table.{OpenStream, open_stream, table}
use Rattle.log_history.specs.FitTables.{IsFitKept, have_one_name, IsFitTable}
use Rattle.log_history.proofs.FirstLaws.{Each, Each-weaker, Each-push, Each-filter, Each-change_first, AtMostOne, AtMostOne-filter, filter-change_first, count_by-map, count_by-filter}
use Rattle.log_history.proofs.AnswerLaws.{makes-stream}
use Rattle.log_history.proofs.EndLaws.{filter-all_ended}
use Rattle.log_history.proofs.EventLaws.{fit-kept}
use Rattle.log_history.proofs.Reaching.{reached}
use Rattle.log_history.proofs.TableLaws.{living}

-- lists that rise

put-rises : (client : ℕ) (clients : List ℕ) → IsRising nat_lt clients → IsRising nat_lt (put nat_lt client clients)
put-rises client clients rises = IsRising-put nat_lt IsOrder-nat_lt client clients rises

without-rises : (client : ℕ) (clients : List ℕ) → IsRising nat_lt clients → IsRising nat_lt (without (λ other. other == client) clients)
without-rises client clients rises = IsRising-without nat_lt (λ other. other == client) clients rises

pub users-rise : (past : List LogChange) → IsRising nat_lt (users past)
users-rise [] = tt
users-rise (Began client ∷ past) = put-rises client (users past) (users-rise past)
users-rise (Filtered client name mask number ∷ past) = users-rise past
users-rise (Ended client second ∷ past) = without-rises client (users past) (users-rise past)
users-rise (Opened client name making second number ∷ past) = users-rise past
users-rise (Stored name rec second ∷ past) = users-rise past
users-rise (Closed client name second ∷ past) = users-rise past

pub openers-rise : (past : List LogChange) (name : StreamName) → IsRising nat_lt (openers past name)
openers-rise [] name = tt
openers-rise (Opened client opened making second number ∷ past) name =
    elim (same_name name opened) as (λ b. IsRising nat_lt (cond b (put nat_lt client (openers past name)) (openers past name))) [
      | true ↦ put-rises client (openers past name) (openers-rise past name)
      | false ↦ openers-rise past name
    ]
openers-rise (Closed client closed second ∷ past) name =
    elim (same_name name closed) as (λ b. IsRising nat_lt (cond b (without (λ other. other == client) (openers past name)) (openers past name))) [
      | true ↦ without-rises client (openers past name) (openers-rise past name)
      | false ↦ openers-rise past name
    ]
openers-rise (Filtered client filtered mask number ∷ past) name = openers-rise past name
openers-rise (Ended client second ∷ past) name = without-rises client (openers past name) (openers-rise past name)
openers-rise (Began client ∷ past) name = openers-rise past name
openers-rise (Stored stored rec second ∷ past) name = openers-rise past name

-- somebody has each living stream of an application open

abbrev HasSome : List LogChange → Stream → Type 0
HasSome past stream = is_idle past stream ≡ false

pub some-put : (client : ℕ) (clients : List ℕ) → is_empty (put nat_lt client clients) ≡ false
some-put client [] = refl
some-put client (first ∷ clients) =
    elim (nat_lt client first) as (λ b. is_empty (cond b (client ∷ first ∷ clients) (cond (nat_lt first client) (first ∷ put nat_lt client clients) (client ∷ clients))) ≡ false) [
      | true ↦ refl
      | false ↦ elim (nat_lt first client) as (λ b. is_empty (cond b (first ∷ put nat_lt client clients) (client ∷ clients)) ≡ false) [ true ↦ refl | false ↦ refl ]
    ]

some-opened : (past : List LogChange) (client : ℕ) (name : StreamName) (making : Option StreamAttrs) (second number : ℕ) (stream : Stream) → HasSome past stream → HasSome (Opened client name making second number ∷ past) stream
some-opened past client name making second number stream some = by_case (same_name stream.name name) where
  by_case : (b : Bool) → (is_application stream.name && is_empty (cond b (put nat_lt client (openers past stream.name)) (openers past stream.name))) ≡ false
  by_case true = and_right (is_application stream.name) (is_empty (put nat_lt client (openers past stream.name))) (some-put client (openers past stream.name))
  by_case false = some

some-made : (past : List LogChange) (client : ℕ) (name : StreamName) (attrs : StreamAttrs) (second number created : ℕ) → HasSome (Opened client name (Some attrs) second number ∷ past) (new_stream name attrs created)
some-made past client name attrs second number created =
    ap (λ b. is_application name && is_empty (cond b (put nat_lt client (openers past name)) (openers past name))) ((decides_name name name).1 refl)
    ∙ and_right (is_application name) (is_empty (put nat_lt client (openers past name))) (some-put client (openers past name))

left-some : (past : List LogChange) (last second : ℕ) (streams : List Stream) → Each (HasSome past) (living (all_ended (is_ending past) last second streams))
left-some past last second streams =
    subst (Each (HasSome past)) (sym (filter-all_ended (is_idle past) last second streams))
    (Each-weaker (λ s. Unit {0} × (not (is_idle past s) ≡ true)) (HasSome past) (λ s is. not-true (is_idle past s) is.1) (filter (λ s. not (is_idle past s)) (living streams))
    (Each-filter (λ s. Unit {0}) (λ s. not (is_idle past s)) (living streams) (anything (living streams)))) where
      anything : (these : List Stream) → Each (λ (s : Stream). Unit {0}) these
      anything [] = tt
      anything (s ∷ these) = (tt, anything these)

pub all-opened : (setup : LogSetup) (past : List LogChange) → Each (HasSome past) (living (chronicle setup past).streams)
all-opened setup [] = (refl, (refl, (refl, tt)))
all-opened setup (Began client ∷ past) = all-opened setup past
all-opened setup (Opened client name None second number ∷ past) =
    Each-weaker (HasSome past) (HasSome (Opened client name None second number ∷ past)) (λ stream some. some-opened past client name None second number stream some)
    (living (chronicle setup past).streams) (all-opened setup past)
all-opened setup (Opened client name (Some attrs) second number ∷ past) =
    let streams = (chronicle setup past).streams in
    let now = Opened client name (Some attrs) second number ∷ past in
    let made = new_stream name attrs (stamp_after (chronicle setup past).last second) in
    subst (Each (HasSome now)) (sym (filter-append lives streams (made ∷ [])))
    (Each-push (HasSome now) (living streams) made
    (Each-weaker (HasSome past) (HasSome now) (λ stream some. some-opened past client name (Some attrs) second number stream some) (living streams) (all-opened setup past))
    (some-made past client name attrs second number (stamp_after (chronicle setup past).last second)))
all-opened setup (Stored name rec second ∷ past) =
    let streams = (chronicle setup past).streams in
    let change = with_record (chronicle setup past).last second rec in
    subst (Each (HasSome past)) (sym (filter-change_first lives (λ stream. same_name stream.name name) change (λ _. refl) streams))
    (Each-change_first (HasSome past) (λ stream. same_name stream.name name) change (λ stream some. some) (living streams) (all-opened setup past))
all-opened setup (Filtered client name mask number ∷ past) = all-filtered (living (chronicle setup past).streams) (all-opened setup past) where
  all-filtered : (streams : List Stream) → Each (HasSome past) streams → Each (HasSome (Filtered client name mask number ∷ past)) streams
  all-filtered [] each = tt
  all-filtered (stream ∷ streams) each = (each.0, all-filtered streams each.1)
all-opened setup (Closed client name second ∷ past) =
    left-some (Closed client name second ∷ past) (chronicle setup past).last second (chronicle setup past).streams
all-opened setup (Ended client second ∷ past) =
    left-some (Ended client second ∷ past) (chronicle setup past).last second (chronicle setup past).streams

-- at most 64 streams of applications live

abbrev is_app : Stream → Bool
is_app stream = is_application stream.name

kept-count : (test : Stream → Bool) (change : Stream → Stream) → ((stream : Stream) → is_app (change stream) ≡ is_app stream) → (streams : List Stream) → length (filter is_app (change_first test change streams)) ≡ length (filter is_app streams)
kept-count test change keeps [] = refl
kept-count test change keeps (stream ∷ streams) = by_case (test stream) (kept-count test change keeps streams) where
  same : (one other : Bool) (rest : List Stream) (x y : Stream) → one ≡ other → length (cond one (x ∷ rest) rest) ≡ length (cond other (y ∷ rest) rest)
  same true true rest x y e = refl
  same true false rest x y e = cc
  same false true rest x y e = cc
  same false false rest x y e = refl

  further : (b : Bool) (one other : List Stream) → length one ≡ length other → length (cond b (stream ∷ one) one) ≡ length (cond b (stream ∷ other) other)
  further true one other e = ap suc e
  further false one other e = e

  by_case : (b : Bool) → length (filter is_app (change_first test change streams)) ≡ length (filter is_app streams) → length (filter is_app (cond b (change stream ∷ streams) (stream ∷ change_first test change streams))) ≡ length (filter is_app (stream ∷ streams))
  by_case true rest = same (is_app (change stream)) (is_app stream) (filter is_app streams) (change stream) stream (keeps stream)
  by_case false rest = further (is_app stream) (filter is_app (change_first test change streams)) (filter is_app streams) rest

fewer : (keep : Stream → Bool) (streams : List Stream) → length (filter is_app (filter keep streams)) ≤ length (filter is_app streams)
fewer keep [] = omega arith
fewer keep (stream ∷ streams) = by_case (keep stream) (is_app stream) refl (fewer keep streams) where
  by_case : (k a : Bool) → is_app stream ≡ a → length (filter is_app (filter keep streams)) ≤ length (filter is_app streams) → length (filter is_app (cond k (stream ∷ filter keep streams) (filter keep streams))) ≤ length (cond a (stream ∷ filter is_app streams) (filter is_app streams))
  by_case true true is le = let one = ap (λ b. length (cond b (stream ∷ filter is_app (filter keep streams)) (filter is_app (filter keep streams)))) is in omega (arith, one, le)
  by_case true false is le = let one = ap (λ b. length (cond b (stream ∷ filter is_app (filter keep streams)) (filter is_app (filter keep streams)))) is in omega (arith, one, le)
  by_case false true is le = omega (arith, le)
  by_case false false is le = le

count-is : (streams : List Stream) → count_by is_app (living streams) ≡ length (filter is_app (living streams))
count-is streams = sym (length-filter is_app (living streams))

few-left : (past : List LogChange) (last second : ℕ) (streams : List Stream) → length (filter is_app (living streams)) ≤ 64 → length (filter is_app (living (all_ended (is_ending past) last second streams))) ≤ 64
few-left past last second streams few =
    let same = ap (λ these. length (filter is_app these)) (filter-all_ended (is_idle past) last second streams) in
    let less = fewer (λ s. not (is_idle past s)) (living streams) in
    omega (arith, same, less, few)

pub few-living : (setup : LogSetup) (past : List LogChange) → IsLogHistory setup past → length (filter is_app (living (chronicle setup past).streams)) ≤ 64
few-living setup [] legal = omega arith
few-living setup (Began client ∷ past) legal = few-living setup past legal.1
few-living setup (Opened client name None second number ∷ past) legal = few-living setup past legal.1
few-living setup (Opened client name (Some attrs) second number ∷ past) legal =
    let streams = (chronicle setup past).streams in
    let made = new_stream name attrs (stamp_after (chronicle setup past).last second) in
    let crowd = (makes-stream setup past client name attrs legal.0.0 legal.0.1).room in
    let counted = sym (count_by-filter lives is_app streams) ∙ count-is streams in
    let room = leb-false 64 (length (filter is_app (living streams))) (ap (nat_le 64) (sym counted) ∙ crowd) in
    let parts = ap (λ these. length (filter is_app these)) (filter-append lives streams (made ∷ []))
    ∙ ap length (filter-append is_app (living streams) (made ∷ []))
    ∙ length-append (filter is_app (living streams)) (filter is_app (made ∷ [])) in
    let one = at-most (is_app made) made in
    omega (arith, parts, one, room) where
      at-most : (b : Bool) (stream : Stream) → length (cond b (stream ∷ []) []) ≤ 1
      at-most true stream = omega arith
      at-most false stream = omega arith
few-living setup (Stored name rec second ∷ past) legal =
    let streams = (chronicle setup past).streams in
    let change = with_record (chronicle setup past).last second rec in
    let named : Stream → Bool = λ stream. same_name stream.name name in
    let same = ap (λ these. length (filter is_app these)) (filter-change_first lives named change (λ _. refl) streams)
    ∙ kept-count named change (λ _. refl) (living streams) in
    let before = few-living setup past legal.1 in
    omega (arith, same, before)
few-living setup (Filtered client name mask number ∷ past) legal = few-living setup past legal.1
few-living setup (Closed client name second ∷ past) legal =
    few-left (Closed client name second ∷ past) (chronicle setup past).last second (chronicle setup past).streams (few-living setup past legal.1)
few-living setup (Ended client second ∷ past) legal =
    few-left (Ended client second ∷ past) (chronicle setup past).last second (chronicle setup past).streams (few-living setup past legal.1)

-- names differ where at most one stream has each

none-same : (past : List LogChange) (name : StreamName) (first : OpenStream) (streams : List Stream) → first.state.name ≡ name → find (λ (stream : Stream). same_name stream.name name) streams ≡ None → list_any (have_one_name first) (map (open_stream past) streams) ≡ false
none-same past name first [] is none = refl
none-same past name first (stream ∷ streams) is none = by_case (same_name stream.name name) refl none (none-same past name first streams is) where
  by_case : (b : Bool) → same_name stream.name name ≡ b → cond b (Some stream) (find (λ (s : Stream). same_name s.name name) streams) ≡ None → (find (λ (s : Stream). same_name s.name name) streams ≡ None → list_any (have_one_name first) (map (open_stream past) streams) ≡ false) → (same_name first.state.name stream.name || list_any (have_one_name first) (map (open_stream past) streams)) ≡ false
  by_case true same found behind = cc
  by_case false other none_behind behind =
      ap (λ b. b || list_any (have_one_name first) (map (open_stream past) streams)) (ap (λ n. same_name n stream.name) is ∙ other-way (same_name name stream.name) refl) ∙ behind none_behind where
        other-way : (b : Bool) → same_name name stream.name ≡ b → same_name name stream.name ≡ false
        other-way true same =
            let e : same_name stream.name name ≡ true = ap (λ n. same_name n name) (sym ((decides_name name stream.name).0 same)) ∙ (decides_name name name).1 refl in
            let contradiction : true ≡ false = sym e ∙ other in cc
        other-way false is_not = is_not

names-differ : (past : List LogChange) (streams : List Stream) → ((name : StreamName) → AtMostOne (λ (stream : Stream). same_name stream.name name) streams) → all_differ have_one_name (map (open_stream past) streams) ≡ true
names-differ past [] single = refl
names-differ past (stream ∷ streams) single =
    and_from (not (list_any (have_one_name (open_stream past stream)) (map (open_stream past) streams))) (all_differ have_one_name (map (open_stream past) streams))
    (ap not (none-same past stream.name (open_stream past stream) streams refl ((single stream.name).0 ((decides_name stream.name stream.name).1 refl))))
    (names-differ past streams (λ name. (single name).1))

fit-each : (past : List LogChange) (streams : List Stream) → Each (λ (kept : OpenStream). IsFitStream kept.state) (map (open_stream past) streams) → Each (HasSome past) streams → AllByRecursion IsFitKept (map (open_stream past) streams)
fit-each past [] fit some = tt
fit-each past (stream ∷ streams) fit some =
    (record { state = fit.0; openers = openers-rise past stream.name; opened = some.0 }, fit-each past streams fit.1 some.1)

-- **what is kept of a history is fit**
pub table-fit : (setup : LogSetup) (past : List LogChange) → IsLogHistory setup past → (chronicle setup past).last ≤ 20000000100 → IsFitTable (table setup past)
table-fit setup past legal low =
    let streams = (chronicle setup past).streams in
    let few = few-living setup past legal in
    let counted : count_by is_of_application (map (open_stream past) (living streams)) ≡ length (filter is_app (living streams)) =
    count_by-map (open_stream past) is_app is_of_application (λ _. refl) (living streams) ∙ count-is streams in
    record {
      users = users-rise past;
      each = fit-each past (living streams) (fit-kept setup past legal low) (all-opened setup past);
      names = names-differ past (living streams) (λ name. AtMostOne-filter lives (λ stream. same_name stream.name name) streams ((reached setup past legal).single name));
      few = omega (arith, counted, few);
    }
