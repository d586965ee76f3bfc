-- The lines of a large run can be played.
use Rattle.std.proofs.Common.{ℕ, ◌^◌, ◌<◌, ◌/◌, ◌%◌, ◌==◌, Bool, true, false, cond, List, [], ◌∷◌, ◌++◌, refl}
use Rattle.std.specs.Prelude.{codes}
use Rattle.script_lines.specs.declared.line.Line.{Line}
use Rattle.script_lines.specs.declared.line.Line.TheVariants.{Settle}
use Rattle.script_lines.specs.declared.line.Server.{Server}
use Rattle.script_lines.specs.declared.line.Server.TheVariants.{A, B}
use Rattle.script_language.specs.Printing.{server_text}
use Rattle.load_lines.specs.Lines.{alarm_sent, closing_lines, failing, failure_of, first_lines, record_written, sent, settling, turn_lines}
use Rattle.load_lines.proofs.Fixed.{IsSpelled, crash-spelled, log_init-spelled, log_open-spelled, ntf_init-spelled, restart-spelled, servers-spelled, settle-spelled}
use Rattle.load_lines.proofs.Turns.{alarm-spelled, alarm_raw, record-spelled, record_raw}
use Rattle.played_runs.specs.Games.{Game}
use Rattle.played_runs.specs.Passing.{CanPass}
use Rattle.load_runs.specs.Handed.{PlaysLoads}

module _ {P S W : Type 0} (game : Game P Line S W) (plays : PlaysLoads game) where
  can-both : (one two : List Line) → (CanPass game) one → (CanPass game) two → (CanPass game) (one ++ two)
  can-both [] two first second = second
  can-both (line ∷ one) two first second = (first.0, first.1, can-both one two first.2 second)

  can-settle : (CanPass game) (Settle ∷ [])
  can-settle = ((codes "settle", plays.spelled _ _ settle-spelled), λ now. plays.follows now _ refl, tt)

  pub can-first : (CanPass game) first_lines
  can-first = (
    (codes "log 1 init A.2.1", plays.spelled _ _ log_init-spelled),
    λ now. plays.follows now _ refl,
    (
      (codes "log 1 open system", plays.spelled _ _ log_open-spelled),
      λ now. plays.follows now _ refl,
      ((codes "ntf 2 init A.1.1", plays.spelled _ _ ntf_init-spelled), λ now. plays.follows now _ refl, can-settle),
    ),
  )

  pub can-closing : (CanPass game) closing_lines
  can-closing = (
    (codes "settle", plays.spelled _ _ settle-spelled),
    λ now. plays.follows now _ refl,
    ((codes "servers", plays.spelled _ _ servers-spelled), λ now. plays.follows now _ refl, tt),
  )

  can-fail : (server : Server) → IsSpelled server → (CanPass game) (failure_of server)
  can-fail server spelled = (
    (codes "crash " ++ server_text server, plays.spelled _ _ (crash-spelled server spelled)),
    λ now. plays.follows now _ refl,
    ((codes "restart " ++ server_text server, plays.spelled _ _ (restart-spelled server spelled)), λ now. plays.follows now _ refl, can-settle),
  )

  pub can-turn : (turn number : ℕ) → turn < 2 ^ 64 → number < 65536 → (CanPass game) (turn_lines turn number)
  can-turn turn number few small =
      let first : (tenth : Bool) → (CanPass game) (cond tenth (alarm_sent number) (record_written turn number) ∷ []) = elim [
        | true ↦ ((alarm_raw number, plays.spelled _ _ (alarm-spelled number small)), λ now. plays.follows now _ refl, tt)
        | false ↦ ((record_raw turn number, plays.spelled _ _ (record-spelled turn number few small)), λ now. plays.follows now _ refl, tt)
      ] in
      let second : (sixteenth : Bool) → (CanPass game) (cond sixteenth (Settle ∷ []) []) = elim [
        | true ↦ can-settle
        | false ↦ tt
      ] in
      let odd : (test : Bool) → (CanPass game) (cond test (failure_of A) (failure_of B)) = elim [
        | true ↦ can-fail A tt
        | false ↦ can-fail B tt
      ] in
      let test = turn / 1000 % 2 == 1 in
      let third : (thousandth : Bool) → (CanPass game) (cond thousandth (cond test (failure_of A) (failure_of B)) []) = elim [
        | true ↦ odd test
        | false ↦ tt
      ] in
      can-both ((sent turn number ∷ []) ++ settling turn) (failing turn) (can-both (sent turn number ∷ []) (settling turn) (first (turn % 10 == 0)) (second (turn % 16 == 0))) (third (turn % 1000 == 0))
