-- That reading is exact: the own lines of three servers.
use Rattle.std.proofs.Common.{◌≡◌, ℕ, List, [], ◌∷◌, ◌++◌, Option, Some, None, refl, sym, subst, ◌∙◌, append-nil}
use Rattle.std.specs.Prelude.{codes}
use Rattle.script_grammar.specs.Reading.{whole}
use Rattle.script_grammar.proofs.Rules.Beginning.{Ends, Begins}
use Rattle.script_grammar.proofs.Rules.{Beginning, Rule, TableRule, LineRule, known_rule, part_rule, no_form_rule, form_rule, line_rule, anything}
use Rattle.script_language.specs.Values.{IsCount}
use Rattle.script_language.proofs.ValueRules.{count_rule}
use Rattle.trio_lines.specs.declared.line.TrioServer.TheVariants.{A, B, C}
use Rattle.trio_lines.specs.declared.line.TrioLine.{TrioLine}
use Rattle.trio_lines.specs.declared.line.TrioLine.TheVariants.{Crash, Arm, Restart, Mirror, Ack}
use Rattle.trio_lines.specs.Lines.{trio_server_forms, IsTrioServer, IsArmC, IsMirrorAt, IsAckAt, own_forms, SpellsOwn}
use Rattle.trio_lines.specs.LineReading.{trio_server_readers, trio_server_at, arm_c_at, mirror_at, ack_at, own_readers, own_line_at}

abbrev pub trio_server_starts : List Beginning
trio_server_starts = Begins (codes "a") ∷ Begins (codes "b") ∷ Begins (codes "c") ∷ []

trio_server_table : TableRule trio_server_readers trio_server_forms (Ends ∷ []) trio_server_starts
trio_server_table =
    form_rule (codes "a") (known_rule A) (
    form_rule (codes "b") (known_rule B) (
    form_rule (codes "c") (known_rule C) no_form_rule refl) refl) refl

pub trio_server_rule : Rule trio_server_at IsTrioServer (Ends ∷ []) trio_server_starts
unfolding trio_server_at IsTrioServer
trio_server_rule =
    trio_server_table.rule

pub arm_c_rule : Rule arm_c_at IsArmC (Ends ∷ []) anything
unfolding arm_c_at IsArmC
arm_c_rule =
    part_rule count_rule (λ k.
    known_rule (Arm k)) refl

pub mirror_rule : Rule mirror_at IsMirrorAt (Ends ∷ []) trio_server_starts
unfolding mirror_at IsMirrorAt
mirror_rule =
    part_rule trio_server_rule (λ server.
    known_rule (Mirror server)) refl

pub ack_rule : Rule ack_at IsAckAt (Ends ∷ []) trio_server_starts
unfolding ack_at IsAckAt
ack_rule =
    part_rule trio_server_rule (λ server.
    known_rule (Ack server)) refl

abbrev pub own_starts : List Beginning
own_starts = Begins (codes "crash c") ∷ Begins (codes "arm c ") ∷ Begins (codes "restart c") ∷ Begins (codes "mirror ") ∷ Begins (codes "ack ") ∷ []

own_table : TableRule own_readers own_forms (Ends ∷ []) own_starts
own_table =
    form_rule (codes "crash c") (known_rule Crash) (
    form_rule (codes "arm c ") arm_c_rule (
    form_rule (codes "restart c") (known_rule Restart) (
    form_rule (codes "mirror ") mirror_rule (
    form_rule (codes "ack ") ack_rule no_form_rule refl) refl) refl) refl) refl

pub own_rule : LineRule own_line_at SpellsOwn own_starts
unfolding own_line_at SpellsOwn
own_rule = line_rule own_table.rule

arm_whole : LineRule (whole arm_c_at) IsArmC anything
arm_whole = line_rule arm_c_rule

-- a count alone arms the third server
pub arm_read : (k : ℕ) (bytes : List ℕ) → IsCount k bytes → whole arm_c_at bytes ≡ Some (Arm k)
unfolding IsArmC
arm_read k bytes count = arm_whole.complete bytes (Arm k) (k, bytes, [], sym (append-nil bytes), count, (refl, refl))

-- and nothing else does
pub arm_unread : (bytes : List ℕ) → ((k : ℕ) → IsCount k bytes → ⊥) → whole arm_c_at bytes ≡ None
unfolding IsArmC
arm_unread bytes none =
    let at : (o : Option TrioLine) → whole arm_c_at bytes ≡ o → o ≡ None = elim [
      | None ↦ λ was. refl
      | Some line ↦ λ was.
          let spelled = arm_whole.sound bytes line was in
          let same : spelled.1 ≡ bytes = sym (append-nil spelled.1) ∙ subst (λ rest. spelled.1 ++ rest ≡ bytes) spelled.5.1 (sym spelled.3) in
          absurd (none spelled.0 (subst (IsCount spelled.0) same spelled.4))
    ] in
    at (whole arm_c_at bytes) refl
