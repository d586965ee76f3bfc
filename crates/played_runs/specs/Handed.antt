-- Words of public clauses: what is asked of the begin and the event of a world, which are handed to whoever plays lines.
use Rattle.std.specs.Prelude.{◌≡◌, ℕ, List, None, Result, IfOk, IfErr, OnOk, OnErr}
use Rattle.std.specs.Fn.{Shared}
use denote.Ref.{Bor, MutBor}
use Rattle.disk_model.specs.Seen.{DiskSeen}
use Rattle.plain_service.specs.Setups.{Setup}
use Rattle.cluster_clients.specs.Answers.{RisesAtFault}
use Rattle.cluster_clients.specs.declared.answer.EventAnswer.{EventAnswer}
use Rattle.played_runs.specs.Games.{Begun, DoesEvent, EventBroken, Game, HasState, LeavesOpening, RisesInEvent}
use Rattle.played_runs.specs.Views.{HoldsNone}

module _ {P L S W D : Type 0} (game : Game P L S W) (seen : D → DiskSeen) where
  -- a line can begin this world over this disk
  pub record CanOpen (opening : L) (disk : D) (world : W) : Type 0 where
    pub spelled : (raw : List ℕ) × game.Spells opening raw
    pub begins : (setup : Setup) × (places : ℕ) × game.Begins opening setup places
    pub empty : world ≡ game.empty
    pub unarmed : (seen disk).tally.armed ≡ None

  -- a line began it, or the world is as it was
  pub record Opened (opening : L) (held left : D) (old new : W) (result : Result Unit EventAnswer) : Type 0 where
    pub ok : (setup : Setup) (places : ℕ) → game.Begins opening setup places → HoldsNone (seen held).files
        → OnOk result ((Begun game) setup places (seen held).files (seen left) new)
    pub same : OnErr result (new ≡ old)
    pub leaves : (setup : Setup) (places : ℕ) → game.Begins opening setup places → LeavesOpening setup (seen held) (seen left) result
    pub cause : RisesAtFault (seen held).faults (seen left).faults result

  -- a line can be done behind the first one
  pub record CanDo (next : L) (disk : D) (world : W) : Type 0 where
    pub spelled : (raw : List ℕ) × game.Spells next raw
    pub follows : game.Follows (game.now world) next
    pub state : (HasState game) world (seen disk).tally.armed

  -- it was done, with these lines, or broke off
  pub record Happened (next : L) (held left : D) (old new : W) (result : Result (List (List ℕ)) EventAnswer) : Type 0 where
    pub ok : IfOk result (λ lines. (DoesEvent game) next lines old new (seen held) (seen left))
    pub broken : IfErr result (λ answer. (EventBroken game) answer next old new (seen held) (seen left))
    pub cause : RisesInEvent (seen held).faults (seen left).faults result

  -- a call with a line, a disk and a world, which may change the two, and what it gives and leaves
  abbrev pub Calls : (E : Type 0) (T : Type 0) → Type 1
  Calls E T = Shared E (Bor L × (MutBor D × (MutBor W × Unit {0}))) (T × (MutBor D × (MutBor W × Unit {0})))

  -- what is handed in begins the world by each line that can begin it
  pub record BeginsBy {B : Type 0} (calls : Calls B (Result Unit EventAnswer)) (begin : B) : Type 0 where
    pub can : (line : Bor L) (disk : MutBor D) (world : MutBor W)
        → CanOpen line.now disk.now world.now → calls.pre begin (line, (disk, (world, tt)))
    pub does : (line : Bor L) (disk : MutBor D) (world : MutBor W) (result : Result Unit EventAnswer) (left : MutBor D) (after : MutBor W)
        → calls.post begin (line, (disk, (world, tt))) (result, (left, (after, tt)))
        → Opened line.now disk.now left.now world.now after.now result

  -- and does each line that can be done
  pub record DoesLines {E : Type 0} (calls : Calls E (Result (List (List ℕ)) EventAnswer)) (event : E) : Type 0 where
    pub can : (line : Bor L) (disk : MutBor D) (world : MutBor W)
        → CanDo line.now disk.now world.now → calls.pre event (line, (disk, (world, tt)))
    pub does : (line : Bor L) (disk : MutBor D) (world : MutBor W) (result : Result (List (List ℕ)) EventAnswer) (left : MutBor D) (after : MutBor W)
        → calls.post event (line, (disk, (world, tt))) (result, (left, (after, tt)))
        → Happened line.now disk.now left.now world.now after.now result
