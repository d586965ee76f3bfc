-- Words of public clauses: the line that tells which words are known.
use Rattle.std.specs.Prelude.{ℕ, List, ◌++◌, codes}

unfoldable pub usage_line : List ℕ
usage_line =
    codes "usage: aisrun run, check, expr KIND TEXT, gen COUNT SEED, load COUNT SEED, cold, recover, "
    ++ codes "scan KIND TEXT SIZE, find KIND TEXT SIZE TOKEN WORD or trio\n"
