use Rattle.std.proofs.Common.{◌≡◌, ℕ, false, List, Bor, map, ap, sym, subst, ◌∙◌}
use Rattle.std.specs.Prelude.{string_bytes}
use Rattle.std.specs.List.{list_any}
use Rattle.command_line.specs.Lines.{is_dashed}
use Rattle.commands.specs.Commands.{command_of}
use Rattle.commands.proofs.DashLaws.{plain-line, read-line, unread-line}
use Rattle.commands.proofs.command.command_of.Goals as goal

pub returns-in-Ok-None : goal.returns-in-Ok-None
returns-in-Ok-None c =
    unread-line (map (λ word. string_bytes word) c.args.words.now) (rw c.in-Ok-None.field-0-is at c.in-Ok-None.ensures)

pub returns-in-Ok-Some : goal.returns-in-Ok-Some
returns-in-Ok-Some c =
    let words : List (List ℕ) = map (λ word. string_bytes word) c.args.words.now in
    let line : List (List ℕ) = map (λ word. word.now) c.in-Ok-Some.line.items in
    let read = read-line words line (rw c.in-Ok-Some.field-0-is at c.in-Ok-Some.ensures) in
    c.command_in.ensures ∙ ap (λ (list : List (Bor (List ℕ))). command_of (map (λ word. word.now) list)) c.as_slice.ensures.value ∙ ap command_of read

pub command_in-requires : goal.command_in-requires
command_in-requires c =
    let words : List (List ℕ) = map (λ word. string_bytes word) c.args.words.now in
    let line : List (List ℕ) = map (λ word. word.now) c.in-Ok-Some.line.items in
    let plain = plain-line words line (rw c.in-Ok-Some.field-0-is at c.in-Ok-Some.ensures) in
    subst (λ (list : List (Bor (List ℕ))). list_any is_dashed (map (λ word. word.now) list) ≡ false) (sym c.as_slice.ensures.value) plain
