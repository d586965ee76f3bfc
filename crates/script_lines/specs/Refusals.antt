-- Words of public clauses: the reasons for which a line is refused, as they are printed.
use Rattle.std.specs.Prelude.{ℕ, List, codes}
use Rattle.script_lines.specs.declared.answer.ScriptWhy.{ScriptWhy}
use Rattle.script_lines.specs.declared.answer.ScriptWhy.TheVariants.{Grammar, Cluster, Time}

abbrev pub why_word : ScriptWhy → List ℕ
why_word Grammar = codes "grammar"
why_word Cluster = codes "cluster"
why_word Time = codes "time"
