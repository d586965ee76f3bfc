-- The time in force behind a line; and the entries that it commits, which are of the time in force as they were accepted.
use Rattle.std.proofs.Common.{◌≡◌, ℕ, ℤ, inl, inr, Option, Some, List, [], ◌∷◌, ◌++◌, length, refl, sym, ◌∙◌, subst}
use Rattle.std.specs.List.{AllByRecursion}
use Rattle.disk_model.specs.Counts.{Counters}
use Rattle.disk_model.specs.Disk.{Files}
use Rattle.script_lines.specs.declared.line.Line.{Line}
use Rattle.script_lines.specs.declared.line.Line.TheVariants as line
use Rattle.plain_service.specs.Setups.{Setup}
use Rattle.cluster_facts.specs.Types.{Entry}
use Rattle.cluster_facts.specs.Service.{Plain}
use Rattle.cluster_facts.specs.World.{World}
use Rattle.cluster_events.specs.Lines.{Told, Refused, Stood, Listed, Shown}
use Rattle.cluster_events.specs.Outcomes.{Outcome}
use Rattle.cluster_events.specs.Servers.{State}
use Rattle.cluster_events.specs.Cores.{IsCored}
use Rattle.cluster_events.specs.Saying.{entry_in, entries_told}
use Rattle.cluster_events.specs.Serving.{IsSteady}
use Rattle.cluster_events.proofs.Promised.{gathered-without, gathered-handed}
use Rattle.cluster_events.proofs.Walking.{Kind, Times, Others, IsShow, IsByKind}
use Rattle.cluster_events.proofs.Carrying.{IsTold}
use Rattle.cluster_rounds.specs.Timely.{IsTimely}
use Rattle.cluster_rounds.proofs.UnaskedSteps.{timely-both, waits-before, waits-same}
use Rattle.service_laws.specs.PlainOf.{plain_of}
use Rattle.played_runs.specs.Games.{Game}
use Rattle.played_runs.specs.Kinds.{InTime, time_by, kind_by}
use Rattle.played_runs.specs.Laws.{IsGame}
use Rattle.played_runs.specs.Promises.{OfAllLines, CommitsInTime}
use Rattle.played_runs.specs.Steps.{time_behind}
use Rattle.played_runs.proofs.PlayLaws.{each-played, played-says}

-- the time in force behind a line
pub time-by : (now : ℤ) (next : Option Line) → time_by now (kind_by next) ≡ time_behind now next
time-by now (Some (line.Time later)) = refl
time-by now _ = refl

-- an event that leaves the hand, and commits nothing
in_time-quiet : (kind : Kind) (old new : World) (told : List Told) → new.now ≡ time_by old.now kind → new.core.hand ≡ old.core.hand → entries_told told ≡ [] → InTime kind old new told
in_time-quiet kind old new told now hand none = record {
  now = now;
  entries = subst (λ (lines : List (ℕ × Entry)). AllByRecursion (λ (line : ℕ × Entry). IsTimely old line.1) lines) (sym none) tt;
  waits = waits-same old new.core.hand (sym hand);
}

in_time-both : (one two three : World) (first second : List Told) → InTime Others one two first → InTime Others two three second → InTime Others one three (second ++ first)
in_time-both one two three first second before after = record {
  now = after.now ∙ before.now;
  entries = timely-both one two first second before.now before.waits before.entries after.entries;
  waits = waits-before one two three.core.hand before.now before.waits after.waits;
}

pub in_time-told : (plain : Plain) → IsTold plain (InTime Others)
in_time-told plain = record {
  same = λ world. in_time-quiet Others world world [] refl refl refl;
  both = in_time-both;
  ignored = λ world place why. in_time-quiet Others world world _ refl refl refl;
  answer = λ world client number reply. in_time-quiet Others world _ _ refl refl refl;
  pushed = λ world client key item. in_time-quiet Others world _ _ refl refl refl;
  reply = λ world client number call reply sound kept place stands. in_time-quiet Others world _ _ refl refl refl;
  item = λ world client key item found sound here next place stands. in_time-quiet Others world _ _ refl refl refl;
}

pub in_time-cored : IsCored (InTime Others)
in_time-cored = record {
  taken = λ world past entry at. record { now = refl; entries = tt; waits = inl at };
  applied = λ world past entry. record { now = refl; entries = (inr refl, tt); waits = tt };
  confirmed = λ world past entry. record { now = refl; entries = tt; waits = tt };
  answered = λ world past entry. record { now = refl; entries = tt; waits = tt };
  over = λ world past hand. record { now = refl; entries = tt; waits = tt };
}

show-none : (line : Told) → IsShow line → entries_told (line ∷ []) ≡ []
show-none (Refused text standing) shows = refl
show-none (Stood server role) shows = refl
show-none (Listed name count) shows = refl
show-none (Shown text) shows = refl
show-none _ shows = elim shows [ ]

pub in_time-by-kind : (plain : Plain) → IsByKind plain InTime
in_time-by-kind plain = record {
  time = λ now world sound after. in_time-quiet (Times now) world _ [] refl refl refl;
  declined = λ client asked status world sound is. in_time-quiet _ world world _ refl refl refl;
  asked = λ client asked world sound is. in_time-quiet _ world _ _ refl refl refl;
  refused = λ client status world sound is. in_time-quiet _ world world _ refl refl refl;
  handed = λ client callbacks after world sound is hands.
      in_time-quiet _ world _ _ refl refl (gathered-handed entry_in client (length (world.agents client).handed) callbacks (λ number callback. refl));
  injected = λ bytes front why world sound. in_time-quiet Others world _ _ refl refl refl;
  shows = λ world line shows. in_time-quiet Others world world (line ∷ []) refl refl (show-none line shows);
  printed = λ old new told goes. record {
    now = goes.now;
    entries = subst (λ lines. AllByRecursion (λ (line : ℕ × Entry). IsTimely old line.1) lines) (sym (gathered-without entry_in (λ place why. refl) told)) goes.entries;
    waits = goes.waits;
  };
}

module _ {P L S W : Type 0} (game : Game P L S W) (is_game : IsGame game) where
  -- the time in force behind a line
  pub line-now : (setup : Setup) (held : Option Files) (before : Counters) (next : L) (state : State P) (outcome : Outcome (State P)) (after : Counters) → IsSteady (plain_of setup) game.kit.Good state → game.Step setup held before next state outcome after → outcome.state.world.now ≡ time_behind state.world.now (game.shared next)
  line-now setup held before next state outcome after steady done =
      (is_game.done setup held before next state outcome after steady done).in_time.now ∙ time-by state.world.now (game.shared next)

  pub commits-in-time : (held : Option Files) → (OfAllLines game) held CommitsInTime
  commits-in-time held =
      each-played game is_game held (λ setup. CommitsInTime) (λ setup places first lines state told before next outcome after run done. let goes = (is_game.done setup held before.1 next state outcome after (played-says game is_game setup places held first run).0 done).in_time in (goes.entries, goes.waits))
