use Rattle.std.proofs.Common.{◌≡◌, ℕ, List, true, map, subst}
use Rattle.std.specs.Prelude.{IfErr, string_bytes}
use Rattle.clap.specs.Words.{App, kind_of, takes}
use Rattle.clap.specs.declared.error.kind.ErrorKind.TheVariants.{OutOfMemory}
use Rattle.command_line.proofs.parse.Goals as goal

pub returns-clause-refused : goal.returns-clause-refused
returns-clause-refused c =
    let words : List (List ℕ) = map (λ word. string_bytes word) c.args.words.now in
    subst (λ (app : App). IfErr c.try_get_matches_from.result (λ error. takes app words ≡ true → kind_of error ≡ OutOfMemory)) c.in_ok-command.ensures c.try_get_matches_from.ensures.passes
