-- Lines of which nothing is written, played behind others.
use Rattle.std.proofs.Common.{◌≡◌, ℕ, zero, suc, ◌≤◌, ◌⊎◌, inl, inr, ◌+◌, ◌<◌, List, [], ◌∷◌, ◌++◌, length, take, drop, get_or, Option, Some, None, Result, Ok, Err, refl, ap, sym, ◌∙◌, subst, arith, append_assoc, append-nil, take-append-drop}
use Rattle.std.proofs.lemmas.List.{take_more}
use Rattle.disk_model.specs.Counts.{Counters}
use Rattle.disk_model.specs.Disk.{Files}
use Rattle.disk_model.specs.Seen.{DiskSeen}
use Rattle.plain_service.specs.Setups.{Setup}
use Rattle.played_runs.specs.declared.ending.Status8.TheVariants.{DiskFault as Faulted}
use Rattle.played_runs.specs.declared.passing.Halt.{Halt}
use Rattle.played_runs.specs.declared.passing.Halt.TheVariants.{Memory, DiskFault}
use Rattle.played_runs.specs.Counts.{HasRisen}
use Rattle.played_runs.specs.Ends.{fault_line}
use Rattle.played_runs.specs.Games.{BreaksOn, DoesEvent, FaultLeaves, Game, HasState}
use Rattle.played_runs.specs.Laws.{IsGame}
use Rattle.played_runs.specs.Passing.{CanPass, HasGone, PassEnds, Passes, RisesPassing}
use Rattle.played_runs.specs.Steps.{BreaksBehind, EventsEnd, Going, HasBegun, LacksBehind}
use Rattle.played_runs.specs.Views.{counters_of}
use Rattle.played_runs.specs.Writing.{joined_lines}
use Rattle.played_runs.proofs.CountSteps.{on-behind, risen-later}
use Rattle.played_runs.proofs.GoingSteps.{fault-left, from-place, going-next, going-plays, going-start, going-state, going-tells, line-events, line-lacks}

-- A line among others.

pub line-taken : {L : Type 0} (lines : List L) (place : ℕ) (next : L) → place < length lines → next ≡ get_or lines place next → take (place + 1) lines ≡ take place lines ++ next ∷ []
line-taken {L} lines place next inside is = take_more lines place next inside ∙ ap (λ (one : L). take place lines ++ one ∷ []) (sym is)

pub line-parts : {L : Type 0} (lines : List L) (place : ℕ) (next : L) → place < length lines → next ≡ get_or lines place next → (take place lines ++ next ∷ []) ++ drop (place + 1) lines ≡ lines
line-parts {L} lines place next inside is =
    append_assoc (take place lines) (next ∷ []) (drop (place + 1) lines)
    ∙ ap (λ (behind : List L). take place lines ++ behind) (sym (from-place lines place next inside is))
    ∙ take-append-drop place lines

-- no more elements than are taken
pub take-all : {X : Type 0} (xs : List X) (place : ℕ) → length xs ≤ place → take place xs ≡ xs
take-all [] zero low = refl
take-all [] (suc place) low = refl
take-all (x ∷ xs) zero low = absurd (omega arith)
take-all {X} (x ∷ xs) (suc place) low = ap (λ (rest : List X). x ∷ rest) (take-all xs place (omega arith))

-- The disk's count of faults.

pub rises-later : (old mid new : ℕ) (result : Result Unit Halt) → old ≤ mid → RisesPassing (mid, new) result → RisesPassing (old, new) result
rises-later old mid new (Ok done) before rises = on-behind old mid new before rises
rises-later old mid new (Err Memory) before rises = on-behind old mid new before rises
rises-later old mid new (Err DiskFault) before rises = risen-later old mid new before rises

module _ {P L S W : Type 0} (game : Game P L S W) (is_game : IsGame game) where
  -- The run ended in one of some lines, and so in one of these and more.

  module _ (setup : Setup) (places : ℕ) (held : Option Files) (first : Counters) where
    abbrev breaks-more : (lines more : List L) (front : List ℕ) → (BreaksBehind game) setup places held first lines front → (BreaksBehind game) setup places held first (lines ++ more) front
    breaks-more lines more front behind = record {
      done = behind.done;
      next = behind.next;
      rest = behind.rest ++ more;
      parts = ap (λ (all : List L). all ++ more) behind.parts ∙ append_assoc behind.done (behind.next ∷ behind.rest) more;
      goes = behind.goes;
    }

    wants-more : (Since : Option Files → Counters → Type 0) (left : DiskSeen) (world : W) (lines more : List L) (text : List ℕ) → (LacksBehind game) setup places held first left world lines text ⊎ (EventsEnd game) setup places held first left Since world lines None text → (LacksBehind game) setup places held first left world (lines ++ more) text ⊎ (EventsEnd game) setup places held first left Since world (lines ++ more) None text
    wants-more Since left world lines more text (inl lacks) =
        inl (record { behind = breaks-more lines more text lacks.behind; broken = lacks.broken; lacks = lacks.lacks })
    wants-more Since left world lines more text (inr ends) =
        inr (ends.0, ends.1 ++ more, ap (λ (all : List L). all ++ more) ends.2 ∙ append_assoc ends.0 ends.1 more, ends.3)

    halts-more : (Since : Option Files → Counters → Type 0) (left : DiskSeen) (world : W) (lines more : List L) (halt : Halt) → (PassEnds game) Since setup places held first lines left world (Err halt) → (PassEnds game) Since setup places held first (lines ++ more) left world (Err halt)
    halts-more Since left world lines more Memory ends = (ends.0, wants-more Since left world lines more ends.0 ends.1)
    halts-more Since left world lines more DiskFault ends =
        let fault = ends.1 in
        (ends.0, record { front = fault.front; behind = breaks-more lines more fault.front fault.behind; lines = fault.lines; fault = fault.fault; since = fault.since; written = fault.written })

  -- some lines, and others behind them
  pub passes-then : (Since : Option Files → Counters → Type 0) (one two : List L) (start between left : DiskSeen) (first_world mid_world last_world : W) (done : Unit) (result : Result Unit Halt) → (Passes game) Since one start between first_world mid_world (Ok done) → (Passes game) Since two between left mid_world last_world result → (Passes game) Since (one ++ two) start left first_world last_world result
  passes-then Since one two start between left first_world mid_world last_world done result before then =
      λ setup places held first lines text going.
      let gone = before setup places held first lines text going in
      let ends = then setup places held first (lines ++ one) gone.0 gone.1 in
      subst (λ (all : List L). (PassEnds game) Since setup places held first all left last_world result) (append_assoc lines one two) ends

  -- what ended the run in some lines ended it in these and more
  pub passes-halted : (Since : Option Files → Counters → Type 0) (one more : List L) (mid left : DiskSeen) (old new : W) (halt : Halt) → (Passes game) Since one mid left old new (Err halt) → (Passes game) Since (one ++ more) mid left old new (Err halt)
  passes-halted Since one more mid left old new halt passes =
      λ setup places held first done text going.
      subst (λ (all : List L). (PassEnds game) Since setup places held first all left new (Err halt)) (append_assoc done one more) (halts-more setup places held first Since left new (done ++ one) more halt (passes setup places held first done text going))

  -- no line yet
  pub passes-nothing : (Since : Option Files → Counters → Type 0) (mid : DiskSeen) (world : W) (done : Unit) → (Passes game) Since [] mid mid world world (Ok done)
  passes-nothing Since mid world unit =
      λ setup places held first done text going. (text, subst (λ (all : List L). (Going game) setup places held first mid world all text) (sym (append-nil done)) going)

  -- lines that were not made for want of memory
  pub passes-unmade : (Since : Option Files → Counters → Type 0) (lines : List L) (mid : DiskSeen) (world : W) → (Passes game) Since lines mid mid world world (Err Memory)
  passes-unmade Since lines mid world =
      λ setup places held first done text going. (text, inr (done, lines, refl, going-plays game is_game setup places held first mid world done text going))

  -- One line.

  pub passes-line : (Since : Option Files → Counters → Type 0) (next : L) (lines : List (List ℕ)) (mid left : DiskSeen) (old new : W) (done : Unit) → (DoesEvent game) next lines old new mid left → (Passes game) Since (next ∷ []) mid left old new (Ok done)
  passes-line Since next lines mid left old new unit does =
      λ setup places held first done text going.
      (text ++ joined_lines lines, going-next game is_game setup places held first mid left old new done text next lines going (does setup going.state going.good going.shows going.armed (going-tells game is_game setup places held first mid old done text going)))

  pub passes-broken : (Since : Option Files → Counters → Type 0) (next : L) (mid left : DiskSeen) (old new : W) → (BreaksOn game) next old new mid left → (Passes game) Since (next ∷ []) mid left old new (Err Memory)
  passes-broken Since next mid left old new breaks =
      λ setup places held first done text going.
      let broken = breaks setup going.state going.good going.shows going.armed in
      (text ++ [], inl (line-lacks game is_game setup places held first mid left old new done next [] text going [] (refl, broken.0, broken.1)))

  pub passes-fault : (Since : Option Files → Counters → Type 0) (next : L) (lines : List (List ℕ)) (mid left : DiskSeen) (old new : W) → Since mid.files (counters_of mid) → HasRisen (mid.faults, left.faults) → (FaultLeaves game) next old new [] lines mid left → (Passes game) Since (next ∷ []) mid left old new (Err DiskFault)
  passes-fault Since next lines mid left old new since risen leaves =
      λ setup places held first done text going.
      let fault = fault-left game is_game setup going.state next mid left old new lines going.good going.shows going.armed risen leaves in
      let last = joined_lines lines ++ fault_line in
      (text ++ last, line-events game is_game setup places held first mid left Since old new done next [] text going since (Some Faulted) last (joined_lines lines, fault, refl))

  -- Lines that led to a world and a disk.

  pub gone-on : (Since : Option Files → Counters → Type 0) (lines : List L) (mid left : DiskSeen) (old new : W) (done : Unit) → (HasGone game) mid old → (Passes game) Since lines mid left old new (Ok done) → (HasGone game) left new
  gone-on Since lines mid left old new done gone passes =
      let ends = passes gone.0 gone.1 gone.2 gone.3 gone.4 gone.5 gone.6 in
      (gone.0, gone.1, gone.2, gone.3, gone.4 ++ lines, ends.0, ends.1)

  pub gone-start : (left : DiskSeen) (world : W) → (HasBegun game) left world → (HasGone game) left world
  gone-start left world begun =
      (begun.0, begun.1, begun.2, counters_of left, [], [], going-start game is_game begun.0 begun.1 begun.2 left world begun.3)

  pub gone-state : (left : DiskSeen) (world : W) → (HasGone game) left world → (HasState game) world left.tally.armed
  gone-state left world gone = going-state game is_game gone.0 gone.1 gone.2 gone.3 left world gone.4 gone.5 gone.6

  -- A line among others.

  pub line-can : (lines : List L) (place : ℕ) (next : L) → place < length lines → next ≡ get_or lines place next → (CanPass game) (drop place lines) → (CanPass game) (next ∷ drop (place + 1) lines)
  line-can lines place next inside is can = subst (CanPass game) (from-place lines place next inside is) can
