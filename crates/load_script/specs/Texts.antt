-- Words of public clauses: the script of a large run, as text.
use Rattle.std.specs.Prelude.{ℕ, zero, suc, ◌/◌, ◌%◌, ◌==◌, if◌then◌else◌, List, [], ◌++◌, codes}
use Rattle.std.specs.Fmt.{decimal}
use Rattle.load_script.specs.Numbers.{number_in, state_at}

-- a cluster with two clients, of which one writes to a stream and the other sends alarms
unfoldable pub opening_text : List ℕ
opening_text =
    codes "cluster start=1704067200000000000 queue=2 callbacks=256\nlog 1 init A.2.1\nlog 1 open system\nntf 2 init A.1.1\nsettle\n"

unfoldable pub closing_text : List ℕ
closing_text = codes "settle\nservers\n"

abbrev pub alarm_line : (number : ℕ) → List ℕ
alarm_line number =
    codes "ntf 2 send alarm type=0x4001 obj=\"g\" by=\"g\" class=0.0.0 time=" ++ (decimal number
    ++ (codes " text=\"t\" cause=0 sev=" ++ (decimal (number % 6) ++ codes "\n")))

abbrev pub record_line : (turn number : ℕ) → List ℕ
record_line turn number =
    codes "log 1 write system inv=" ++ (decimal turn ++ (codes " flags=0 gen sev=" ++ (decimal (number % 7)
    ++ (codes " class=0.0.0 user=\"g\" body=\"" ++ (decimal number ++ codes "\"\n")))))

-- each tenth turn sends an alarm, the others write a record
abbrev pub sent_line : (turn number : ℕ) → List ℕ
sent_line turn number = if turn % 10 == 0 then alarm_line number else record_line turn number

-- each sixteenth settles
abbrev pub settle_behind : (turn : ℕ) → List ℕ
settle_behind turn = if turn % 16 == 0 then codes "settle\n" else []

-- behind each thousandth a server fails and comes back, the first one and the second in turn
abbrev pub failure_behind : (turn : ℕ) → List ℕ
failure_behind turn =
    if turn % 1000 == 0
    then (if turn / 1000 % 2 == 1 then codes "crash a\nrestart a\nsettle\n" else codes "crash b\nrestart b\nsettle\n")
    else []

abbrev pub turn_text : (turn number : ℕ) → List ℕ
turn_text turn number = sent_line turn number ++ settle_behind turn ++ failure_behind turn

-- so many turns, the first one with number 1, each with the number that its state gives
abbrev pub turns_text : (seed turns : ℕ) → List ℕ
turns_text seed zero = []
turns_text seed (suc turns) = turns_text seed turns ++ turn_text (suc turns) (number_in (state_at seed (suc turns)))

-- the whole script
abbrev pub load_text : (count seed : ℕ) → List ℕ
load_text count seed = opening_text ++ turns_text seed count ++ closing_text
