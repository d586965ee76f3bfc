-- What each kind of words comes to.
use Rattle.std.proofs.Common.{◌≡◌, ℕ, inl, inr, List, [], Some, ap, sym, ◌∙◌}
use Rattle.commands.specs.declared.command.Command.TheVariants.{Cold, Recover, Trio}
use Rattle.commands.specs.Commands.{command_of}
use Rattle.played_runs.specs.declared.ending.Status8.{Status8}
use Rattle.played_runs.specs.declared.ending.Status8.TheVariants.{Memory}
use Rattle.played_runs.specs.Counts.{RisesBy}
use Rattle.played_runs.specs.Edges.{IsUntouched, LeavesAll, fault_count}
use Rattle.played_runs.specs.Writing.{Counting, Ended, Standing}
use Rattle.played_runs.proofs.CountSteps.{untouched-on, untouched-stood}
use Rattle.played_runs.proofs.EndingSteps.{lacked}
use Rattle.cold_runs.specs.Recovering.{RecoversBy}
use Rattle.cold_runs.specs.Stages.{LeavesBoth}
use Rattle.aisrun.specs.Colds.{AsksApart, AsksCold, AsksJournal, AsksOther, AsksRecover}
use Rattle.aisrun.specs.Edges.{Around}
use Rattle.aisrun.specs.Endings.{Ends, EndsBy}
use Rattle.aisrun.specs.RunSteps.{Beside, ColdServed, OfCold, OfOther, OfRecover, OfTrio, StaysCold, StaysThree, StaysTwo, TrioServed, WordsEnd, WordsLack, on_journal, on_three}
use Rattle.aisrun.specs.Trios.{AsksTrio}
use Rattle.aisrun.proofs.Asking.{ForCold, ForNone, ForRecover, ForThree, Which, which}
use Rattle.aisrun.proofs.EarlyEnds.{cold-early, recover-early, trio-early}
use Rattle.aisrun.proofs.EndingSteps.{lacks-early}
use Rattle.aisrun.proofs.StatusLaws as whole

-- memory was wanting for words of another command, or of none
pub other-lacks : {S K D : Type 0} (run : Around S K D) → AsksOther run.words → LeavesAll run.stage → IsUntouched run.source → WordsLack run []
other-lacks run other all source =
    lacks-early run (command_of run.words) (λ asks. other (inl asks)) (λ asks. other (inr (inl asks))) (λ asks. other (inr (inr asks))) all source

module _ {S K D J : Type 0} (run : Around S K D) (beside : Beside J) where
  apart : (command_of run.words ≡ Some Trio → ⊥) → (command_of run.words ≡ Some Cold → ⊥) → (command_of run.words ≡ Some Recover → ⊥) → AsksApart run.words → ⊥
  apart trio cold recover (inl asks) = trio asks
  apart trio cold recover (inr (inl asks)) = cold asks
  apart trio cold recover (inr (inr asks)) = recover asks

  -- what was asked of neither disk is seen as it was
  leaves : LeavesAll run.stage → StaysCold beside → LeavesBoth (on_journal run beside).stage
  leaves all journal =
      record { disk = ap (λ disk. run.stage.shows disk) all.disk; journal = ap (λ disk. beside.shows disk) journal.0; world = journal.1 }

  -- memory was wanting before it was known what was asked for
  early : LeavesAll run.stage → IsUntouched run.source → IsUntouched run.stage.sink → StaysThree beside → StaysCold beside → Which (command_of run.words) → WordsEnd Memory run beside
  early all source same three journal (ForThree asks) =
      OfTrio asks (trio-early (on_three run beside) (record { disk = all.disk; world = three }) source same) all.world journal
  early all source same three journal (ForCold asks) = OfCold asks (cold-early (on_journal run beside) (leaves all journal) source same) all.world three
  early all source same three journal (ForRecover asks) =
      OfRecover asks source (recover-early (on_journal run beside).stage (leaves all journal) same) all.world three
  early all source same three journal (ForNone trio cold recover) =
      let E = Counting (fault_count run.source) (fault_count run.stage.disk) (Ends run) in
      let L : List ℕ → Type 0 = Standing (fault_count run.source) (fault_count run.stage.disk) (WordsLack run) in
      let other = apart trio cold recover in
      OfOther other (lacked E L run.stage.sink (other-lacks run other all source, untouched-stood run.source source, untouched-on run.stage.disk all.disk) same) three journal

  pub early-end : LeavesAll run.stage → IsUntouched run.source → IsUntouched run.stage.sink → StaysThree beside → StaysCold beside → WordsEnd Memory run beside
  early-end all source same three journal = early all source same three journal (which (command_of run.words))

module _ {S K D J : Type 0} (run : Around S K D) (beside : Beside J) (status : Status8) where
  pub other-ended : WordsEnd status run beside → AsksOther run.words → Ended (fault_count run.source) (fault_count run.stage.disk) (Ends run) (WordsLack run) run.stage.sink status
  other-ended (OfOther elsewhere ended three journal) other = ended
  other-ended (OfTrio asks one two journal) other = absurd (other (inl asks))
  other-ended (OfCold asks one two three) other = absurd (other (inr (inl asks)))
  other-ended (OfRecover asks source one two three) other = absurd (other (inr (inr asks)))

  pub trio-served : WordsEnd status run beside → AsksTrio run.words → TrioServed status (on_three run beside)
  trio-served (OfOther other ended three journal) asks = absurd (other (inl asks))
  trio-served (OfTrio asked one two journal) asks = one
  trio-served (OfCold asked one two three) asks = let differ : Some Cold ≡ Some Trio = sym asked ∙ asks in absurd cc
  trio-served (OfRecover asked source one two three) asks = let differ : Some Recover ≡ Some Trio = sym asked ∙ asks in absurd cc

  pub cold-served : WordsEnd status run beside → AsksCold run.words → ColdServed status (on_journal run beside)
  cold-served (OfOther other ended three journal) asks = absurd (other (inr (inl asks)))
  cold-served (OfTrio asked one two journal) asks = let differ : Some Trio ≡ Some Cold = sym asked ∙ asks in absurd cc
  cold-served (OfCold asked one two three) asks = one
  cold-served (OfRecover asked source one two three) asks = let differ : Some Recover ≡ Some Cold = sym asked ∙ asks in absurd cc

  pub recovered : WordsEnd status run beside → AsksRecover run.words → RecoversBy (on_journal run beside).stage status
  recovered (OfOther other ended three journal) asks = absurd (other (inr (inr asks)))
  recovered (OfTrio asked one two journal) asks = let differ : Some Trio ≡ Some Recover = sym asked ∙ asks in absurd cc
  recovered (OfCold asked one two three) asks = let differ : Some Cold ≡ Some Recover = sym asked ∙ asks in absurd cc
  recovered (OfRecover asked source one two three) asks = one

  pub source-stays : WordsEnd status run beside → AsksRecover run.words → run.source.new ≡ run.source.old
  source-stays (OfOther other ended three journal) asks = absurd (other (inr (inr asks)))
  source-stays (OfTrio asked one two journal) asks = let differ : Some Trio ≡ Some Recover = sym asked ∙ asks in absurd cc
  source-stays (OfCold asked one two three) asks = let differ : Some Cold ≡ Some Recover = sym asked ∙ asks in absurd cc
  source-stays (OfRecover asked source one two three) asks = source

  pub other-ends : WordsEnd status run beside → AsksOther run.words → EndsBy status run
  other-ends end other = whole.ends-by run status (other-ended end other)

  pub any-rises : WordsEnd status run beside → (AsksJournal run.words → ⊥) → RisesBy status (fault_count run.source) (fault_count run.stage.sink) (fault_count run.stage.disk)
  any-rises (OfOther other ended three journal) alone = whole.rises-by run status ended
  any-rises (OfTrio asks one two journal) alone = one.faults
  any-rises (OfCold asks one two three) alone = absurd (alone (inl asks))
  any-rises (OfRecover asks source one two three) alone = absurd (alone (inr asks))

  pub trio-stays : WordsEnd status run beside → (AsksTrio run.words → ⊥) → StaysThree beside
  trio-stays (OfOther other ended three journal) elsewhere = three
  trio-stays (OfTrio asks one two journal) elsewhere = absurd (elsewhere asks)
  trio-stays (OfCold asks one two three) elsewhere = three
  trio-stays (OfRecover asks source one two three) elsewhere = three

  pub cold-stays : WordsEnd status run beside → (AsksJournal run.words → ⊥) → StaysCold beside
  cold-stays (OfOther other ended three journal) elsewhere = journal
  cold-stays (OfTrio asks one two journal) elsewhere = journal
  cold-stays (OfCold asks one two three) elsewhere = absurd (elsewhere (inl asks))
  cold-stays (OfRecover asks source one two three) elsewhere = absurd (elsewhere (inr asks))

  pub world-stays : WordsEnd status run beside → AsksApart run.words → StaysTwo run
  world-stays (OfOther other ended three journal) asks = absurd (other asks)
  world-stays (OfTrio asked one two journal) asks = two
  world-stays (OfCold asked one two three) asks = two
  world-stays (OfRecover asked source one two three) asks = two
