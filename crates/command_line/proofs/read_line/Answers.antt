use Rattle.std.proofs.Common.{◌≡◌, ℕ, List, Option, true, false, map, sym, ◌∙◌, subst}
use Rattle.std.specs.Prelude.{IfOk, option_map, string_bytes}
use Rattle.std.specs.List.{list_any}
use Rattle.clap.specs.Words.{found_of, rows_of}
use Rattle.clap.proofs.WalkLemmas.{list_any-map}
use Rattle.command_line.specs.Lines.{is_dashed}
use Rattle.command_line.proofs.LineLaws.{dashed-line, matched-line, refused-line}
use Rattle.command_line.proofs.read_line.Goals as goal

pub returns-then-has_dashed : goal.returns-then-has_dashed
returns-then-has_dashed c =
    let words : List (List ℕ) = map (λ word. string_bytes word) c.args.words.now in
    let some : list_any is_dashed words ≡ true = sym (list_any-map is_dashed (λ word. string_bytes word) c.args.words.now) ∙ sym c.has_dashed.ensures ∙ c.if-has_dashed.true in
    dashed-line words some

pub returns-in-Ok : goal.returns-in-Ok
returns-in-Ok c =
    let words : List (List ℕ) = map (λ word. string_bytes word) c.args.words.now in
    let none : list_any is_dashed words ≡ false = sym (list_any-map is_dashed (λ word. string_bytes word) c.args.words.now) ∙ sym c.has_dashed.ensures ∙ c.if-has_dashed.false in
    let line = matched-line words (rows_of (found_of c.in-Ok.matches)) none c.in-Ok.ensures.rows c.in-Ok.ensures.faultless in
    subst (λ (one : Option (List (List ℕ))). IfOk c.gather-found.result (λ found. option_map (λ list. map (λ word. word.now) list.items) found ≡ one)) line c.gather-found.ensures

pub returns : goal.returns
returns c =
    let words : List (List ℕ) = map (λ word. string_bytes word) c.args.words.now in
    let none : list_any is_dashed words ≡ false = sym (list_any-map is_dashed (λ word. string_bytes word) c.args.words.now) ∙ sym c.has_dashed.ensures ∙ c.if-has_dashed.false in
    refused-line words none (λ takes. c.in_default.not-OutOfMemory (c.kind.ensures ∙ c.in-Err.ensures.refused takes))
