-- The whole text, line after line.
use Rattle.std.proofs.Common.{◌≡◌, ℕ, zero, suc, ◌^◌, ◌/◌, ◌%◌, ◌<◌, Bool, true, false, cond, not, ◌==◌, List, [], ◌∷◌, ◌++◌, length, drop, Option, Some, None, refl, sym, subst, arith, append-nil, append_assoc}
use Rattle.std.specs.Prelude.{ℤ, pos, codes}
use Rattle.std.proofs.lemmas.Bool.{not-true, and_parts}
use Rattle.ais_values.specs.declared.kind.Which.TheVariants as service
use Rattle.stream_config.specs.declared.attrs.StreamName.TheVariants as stream
use Rattle.calls.specs.declared.call.Ask.TheVariants.{Start, Plain}
use Rattle.calls.specs.declared.call.Call.TheVariants.{LogOpen}
use Rattle.script_lines.specs.declared.line.Line.{Line}
use Rattle.script_lines.specs.declared.line.Line.TheVariants.{Cluster, Crash, Log, Ntf, Restart, Settle, Servers}
use Rattle.script_lines.specs.declared.line.Server.{Server}
use Rattle.script_lines.specs.declared.line.Server.TheVariants.{A, B}
use Rattle.script_grammar.proofs.Rules.{one_line}
use Rattle.script_language.specs.Lines.{Spells}
use Rattle.script_language.specs.Printing.{server_text}
use Rattle.script_language.specs.Scripts.{AreInOrder, IsScriptOf, SpellAll, misplaced, raw_lines, time_after}
use Rattle.script_language.specs.Scripts.SpellAll.{done, spelled}
use Rattle.script_language.specs.Values.{version_of}
use Rattle.script_language.proofs.Judging.{spelling_rule}
use Rattle.load_script.specs.Numbers.{number_in, state_at}
use Rattle.load_script.specs.Texts.{alarm_line, closing_text, failure_behind, load_text, opening_text, record_line, sent_line, settle_behind, turn_text, turns_text}
use Rattle.load_lines.specs.Lines.{alarm_sent, closing_lines, failing, failure_of, load_lines, no_options, opening_lines, record_written, sent, settling, turn_lines, turns_lines}
use Rattle.load_lines.proofs.Fixed.{IsSpelled, cluster-spelled, crash-spelled, log_init-spelled, log_open-spelled, ntf_init-spelled, restart-spelled, servers-spelled, settle-spelled}
use Rattle.load_lines.proofs.Turns.{alarm-ended, alarm-spelled, alarm_raw, record-ended, record-spelled, record_raw}

-- What text gives which lines.

-- the text is just these lines, whatever stands behind it
abbrev Gives : List Line → List ℕ → Type 0
Gives lines text = (more : List Line) (rest : List ℕ) → SpellAll more (raw_lines rest) → SpellAll (lines ++ more) (raw_lines (text ++ rest))

gives-nothing : Gives [] []
gives-nothing = λ more rest behind. behind

gives-both : (one two : List Line) (first second : List ℕ) → Gives one first → Gives two second → Gives (one ++ two) (first ++ second)
gives-both one two first second given then =
    λ more rest behind.
    let all : SpellAll (one ++ (two ++ more)) (raw_lines (first ++ (second ++ rest))) = given (two ++ more) (second ++ rest) (then more rest behind) in
    let texts = subst (λ text. SpellAll (one ++ (two ++ more)) (raw_lines text)) (sym (append_assoc first second rest)) all in
    subst (λ lines. SpellAll lines (raw_lines ((first ++ second) ++ rest))) (sym (append_assoc one two more)) texts

-- a line and the line feed behind it
first-raw : (raw rest : List ℕ) → one_line raw ≡ true → raw_lines ((raw ++ 10 ∷ []) ++ rest) ≡ raw ∷ raw_lines rest
first-raw [] rest clean = refl
first-raw (byte ∷ raw) rest clean =
    let parts = and_parts (not (byte == 10)) (one_line raw) clean in
    rw (not-true (byte == 10) parts.0, first-raw raw rest parts.1) refl

gives-line : (one : Line) (raw : List ℕ) → Spells one raw → Gives (one ∷ []) (raw ++ 10 ∷ [])
gives-line one raw spells =
    λ more rest behind. subst (SpellAll (one ∷ more)) (sym (first-raw raw rest (spelling_rule.clean raw one spells))) (spelled spells behind)

-- The parts of the script.

gives-settle : Gives (Settle ∷ []) (codes "settle\n")
gives-settle = gives-line Settle (codes "settle") settle-spelled

gives-opening : Gives opening_lines opening_text
unfolding opening_text
gives-opening =
    let cluster = Cluster (pos 1704067200000000000) 2 256 no_options no_options no_options in
    let log_init = Log 1 (Start service.Log (version_of 65 2 1)) in
    let log_open = Log 1 (Plain (LogOpen stream.System None)) in
    let ntf_init = Ntf 2 (Start service.Ntf (version_of 65 1 1)) in
    gives-both (cluster ∷ []) (log_init ∷ log_open ∷ ntf_init ∷ Settle ∷ []) (codes "cluster start=1704067200000000000 queue=2 callbacks=256\n") (codes "log 1 init A.2.1\nlog 1 open system\nntf 2 init A.1.1\nsettle\n")
    (gives-line cluster (codes "cluster start=1704067200000000000 queue=2 callbacks=256") cluster-spelled)
    (gives-both (log_init ∷ []) (log_open ∷ ntf_init ∷ Settle ∷ []) (codes "log 1 init A.2.1\n") (codes "log 1 open system\nntf 2 init A.1.1\nsettle\n") (gives-line log_init (codes "log 1 init A.2.1") log_init-spelled)
    (gives-both (log_open ∷ []) (ntf_init ∷ Settle ∷ []) (codes "log 1 open system\n") (codes "ntf 2 init A.1.1\nsettle\n") (gives-line log_open (codes "log 1 open system") log_open-spelled)
    (gives-both (ntf_init ∷ []) (Settle ∷ []) (codes "ntf 2 init A.1.1\n") (codes "settle\n") (gives-line ntf_init (codes "ntf 2 init A.1.1") ntf_init-spelled) gives-settle)))

gives-closing : Gives closing_lines closing_text
unfolding closing_text
gives-closing = gives-both (Settle ∷ []) (Servers ∷ []) (codes "settle\n") (codes "servers\n") gives-settle (gives-line Servers (codes "servers") servers-spelled)

gives-sent : (turn number : ℕ) → turn < 2 ^ 64 → number < 65536 → Gives (sent turn number ∷ []) (sent_line turn number)
gives-sent turn number few small =
    let at : (tenth : Bool) → Gives (cond tenth (alarm_sent number) (record_written turn number) ∷ []) (cond tenth (alarm_line number) (record_line turn number)) = elim [
      | true ↦ subst (λ text. Gives (alarm_sent number ∷ []) text) (alarm-ended number) (gives-line (alarm_sent number) (alarm_raw number) (alarm-spelled number small))
      | false ↦ subst (λ text. Gives (record_written turn number ∷ []) text) (record-ended turn number) (gives-line (record_written turn number) (record_raw turn number) (record-spelled turn number few small))
    ] in
    at (turn % 10 == 0)

gives-settling : (turn : ℕ) → Gives (settling turn) (settle_behind turn)
gives-settling turn =
    let at : (sixteenth : Bool) → Gives (cond sixteenth (Settle ∷ []) []) (cond sixteenth (codes "settle\n") []) = elim [
      | true ↦ gives-settle
      | false ↦ gives-nothing
    ] in
    at (turn % 16 == 0)

gives-failure : (server : Server) → IsSpelled server → Gives (failure_of server) ((codes "crash " ++ server_text server) ++ 10 ∷ [] ++ ((codes "restart " ++ server_text server) ++ 10 ∷ [] ++ codes "settle\n"))
gives-failure server named =
    gives-both (Crash server ∷ []) (Restart server ∷ Settle ∷ []) ((codes "crash " ++ server_text server) ++ 10 ∷ []) ((codes "restart " ++ server_text server) ++ 10 ∷ [] ++ codes "settle\n") (gives-line (Crash server) (codes "crash " ++ server_text server) (crash-spelled server named))
    (gives-both (Restart server ∷ []) (Settle ∷ []) ((codes "restart " ++ server_text server) ++ 10 ∷ []) (codes "settle\n") (gives-line (Restart server) (codes "restart " ++ server_text server) (restart-spelled server named)) gives-settle)

gives-failing : (turn : ℕ) → Gives (failing turn) (failure_behind turn)
gives-failing turn =
    let odd : (test : Bool) → Gives (cond test (failure_of A) (failure_of B)) (cond test (codes "crash a\nrestart a\nsettle\n") (codes "crash b\nrestart b\nsettle\n")) = elim [
      | true ↦ gives-failure A tt
      | false ↦ gives-failure B tt
    ] in
    let test = turn / 1000 % 2 == 1 in
    let at : (thousandth : Bool) → Gives (cond thousandth (cond test (failure_of A) (failure_of B)) []) (cond thousandth (cond test (codes "crash a\nrestart a\nsettle\n") (codes "crash b\nrestart b\nsettle\n")) []) = elim [
      | true ↦ odd test
      | false ↦ gives-nothing
    ] in
    at (turn % 1000 == 0)

gives-turn : (turn number : ℕ) → turn < 2 ^ 64 → number < 65536 → Gives (turn_lines turn number) (turn_text turn number)
gives-turn turn number few small =
    gives-both ((sent turn number ∷ []) ++ settling turn) (failing turn) (sent_line turn number ++ settle_behind turn) (failure_behind turn)
    (gives-both (sent turn number ∷ []) (settling turn) (sent_line turn number) (settle_behind turn) (gives-sent turn number few small) (gives-settling turn))
    (gives-failing turn)

-- a number has 15 bits
state-low : (seed turns : ℕ) → state_at seed turns < 2147483648
state-low seed zero = omega arith
state-low seed (suc turns) = omega arith

pub number-low : (seed turns : ℕ) → number_in (state_at seed turns) < 65536
number-low seed turns = let low = state-low seed turns in omega arith

gives-turns : (seed turns : ℕ) → turns < 2 ^ 64 → Gives (turns_lines seed turns) (turns_text seed turns)
gives-turns seed zero few = gives-nothing
gives-turns seed (suc turns) few =
    let number = number_in (state_at seed (suc turns)) in
    gives-both (turns_lines seed turns) (turn_lines (suc turns) number) (turns_text seed turns) (turn_text (suc turns) number) (gives-turns seed turns (omega arith)) (gives-turn (suc turns) number few (number-low seed (suc turns)))

gives-load : (count seed : ℕ) → count < 2 ^ 64 → Gives (load_lines count seed) (load_text count seed)
gives-load count seed few =
    gives-both (opening_lines ++ turns_lines seed count) closing_lines (opening_text ++ turns_text seed count) closing_text
    (gives-both opening_lines (turns_lines seed count) opening_text (turns_text seed count) gives-opening (gives-turns seed count few))
    gives-closing

-- The order of the lines.

-- each can stand behind the cluster line, and leaves the time
abbrev Keeps : ℤ → List Line → Type 0
Keeps now [] = Unit {0}
Keeps now (one ∷ lines) = (misplaced (Some now) one ≡ None) × (time_after (Some now) one ≡ Some now) × Keeps now lines

keeps-both : (now : ℤ) (one two : List Line) → Keeps now one → Keeps now two → Keeps now (one ++ two)
keeps-both now [] two first second = second
keeps-both now (line ∷ one) two first second = (first.0, first.1, keeps-both now one two first.2 second)

keeps-turns : (now : ℤ) (seed turns : ℕ) → Keeps now (turns_lines seed turns)
keeps-turns now seed zero = tt
keeps-turns now seed (suc turns) =
    let turn = suc turns in
    let number = number_in (state_at seed turn) in
    let first : (tenth : Bool) → Keeps now (cond tenth (alarm_sent number) (record_written turn number) ∷ []) = elim [
      | true ↦ (refl, refl, tt)
      | false ↦ (refl, refl, tt)
    ] in
    let second : (sixteenth : Bool) → Keeps now (cond sixteenth (Settle ∷ []) []) = elim [
      | true ↦ (refl, refl, tt)
      | false ↦ tt
    ] in
    let odd : (test : Bool) → Keeps now (cond test (failure_of A) (failure_of B)) = elim [
      | true ↦ (refl, refl, (refl, refl, (refl, refl, tt)))
      | false ↦ (refl, refl, (refl, refl, (refl, refl, tt)))
    ] in
    let test = turn / 1000 % 2 == 1 in
    let third : (thousandth : Bool) → Keeps now (cond thousandth (cond test (failure_of A) (failure_of B)) []) = elim [
      | true ↦ odd test
      | false ↦ tt
    ] in
    let both = keeps-both now (sent turn number ∷ []) (settling turn) (first (turn % 10 == 0)) (second (turn % 16 == 0)) in
    keeps-both now (turns_lines seed turns) (turn_lines turn number) (keeps-turns now seed turns) (keeps-both now ((sent turn number ∷ []) ++ settling turn) (failing turn) both (third (turn % 1000 == 0)))

in-order : (now : ℤ) (lines : List Line) → Keeps now lines → AreInOrder (Some now) lines
in-order now [] keeps = tt
in-order now (one ∷ lines) keeps =
    let O : Option ℤ → Type 0 = λ time. AreInOrder time lines in
    (keeps.0, subst O (sym keeps.1) (in-order now lines keeps.2))

-- what stands behind the cluster line
abbrev behind_cluster : (count seed : ℕ) → List Line
behind_cluster count seed = drop 1 opening_lines ++ turns_lines seed count ++ closing_lines

keeps-behind : (now : ℤ) (count seed : ℕ) → Keeps now (behind_cluster count seed)
keeps-behind now count seed =
    keeps-both now (drop 1 opening_lines ++ turns_lines seed count) closing_lines
    (keeps-both now (drop 1 opening_lines) (turns_lines seed count) (refl, refl, (refl, refl, (refl, refl, (refl, refl, tt)))) (keeps-turns now seed count))
    (refl, refl, (refl, refl, tt))

some-lines : (one : Line) (lines : List Line) → 0 < length (one ∷ lines)
some-lines one lines = omega arith

pub load-script : (count seed : ℕ) → count < 2 ^ 64 → IsScriptOf (load_lines count seed) (load_text count seed)
load-script count seed few =
    let all = gives-load count seed few [] [] done in
    let texts = subst (λ text. SpellAll (load_lines count seed ++ []) (raw_lines text)) (append-nil (load_text count seed)) all in
    record {
      spelled = subst (λ lines. SpellAll lines (raw_lines (load_text count seed))) (append-nil (load_lines count seed)) texts;
      ordered = (refl, in-order (pos 1704067200000000000) (behind_cluster count seed) (keeps-behind (pos 1704067200000000000) count seed));
      begun = some-lines (Cluster (pos 1704067200000000000) 2 256 no_options no_options no_options) (behind_cluster count seed);
    }
