-- The automaton accepts exactly the expressions.
use Rattle.std.proofs.Common.{◌≡◌, ℕ, ◌+◌, ◌-◌, ◌*◌, ◌<◌, ◌∷◌, [], ◌++◌, List, true, false, not, cond, ◌&&◌, nat_eq, nat_lt, inl, inr, Option, Some, None, Ok, Err, is_some, is_none, Result, slice_index, refl, sym, ap, subst, ◌∙◌, append_assoc, append-nil, arith}
use Rattle.std.specs.Bool.{Decides}
use Rattle.std.specs.Fmt.{decimal}
use Rattle.std.specs.List.{list_all}
use Rattle.std.proofs.lemmas.Bool.{cond_both, cond-true, cond-false, and_parts, and_from, and_left, and_right, ltb-true, cases_Bool, not-true}
use Rattle.std.proofs.lemmas.Bool.Decides.{nat_tests}
use Rattle.format_expr.specs.declared.check.Stand.{Stand}
use Rattle.format_expr.specs.declared.check.Stand.TheVariants.{Between, At, Class, Width}
use Rattle.format_expr.specs.declared.fault.ExprWhy.{ExprWhy}
use Rattle.format_expr.specs.declared.fault.ExprWhy.TheVariants.{UnknownToken}
use Rattle.format_expr.specs.declared.token.Token.{Token}
use Rattle.format_expr.specs.declared.token.Part.{Part}
use Rattle.format_expr.specs.declared.piece.Piece.{Piece}
use Rattle.format_expr.specs.declared.piece.Piece.TheVariants.{Plain, Field}
use Rattle.ais_values.specs.declared.kind.StreamKind.{StreamKind}
use Rattle.format_expr.specs.Tokens.{letters}
use Rattle.format_expr.specs.Language.{is_plain, is_digit, is_class_of, width_digits, is_width, takes_digit, token_spelling, spelling, begins_with, begins_plain, is_empty, are_pieces, IsExpression}
use Rattle.format_expr.specs.Scan.{plain_step, field_step, width_step, step_of, end_of, after, run, may_end, is_expression}
use Rattle.format_expr.proofs.TokenLaws.{row_of, part_with-letters}
use Rattle.format_expr.proofs.Steps.{after_ok, plain_ok, plain_on, class_ok, class_on, field_ok, width_ok, width_of, digits_more, past_width, behind_width, run_width}
use Rattle.ais_values.proofs.Basics.{none_from}

-- one more plain byte at the front of pieces
cons_plain : ℕ → List Piece → List Piece
cons_plain byte [] = Plain (byte ∷ []) ∷ []
cons_plain byte (Plain text ∷ pieces) = Plain (byte ∷ text) ∷ pieces
cons_plain byte (Field token ∷ pieces) = Plain (byte ∷ []) ∷ Field token ∷ pieces

spelling-cons_plain : (byte : ℕ) (pieces : List Piece) → spelling (cons_plain byte pieces) ≡ byte ∷ spelling pieces
unfolding cons_plain
spelling-cons_plain byte [] = refl
spelling-cons_plain byte (Plain text ∷ pieces) = refl
spelling-cons_plain byte (Field token ∷ pieces) = refl

are_pieces-cons_plain : (kind : StreamKind) (byte : ℕ) (pieces : List Piece) → is_plain byte ≡ true → are_pieces kind pieces ≡ true → are_pieces kind (cons_plain byte pieces) ≡ true
unfolding cons_plain
are_pieces-cons_plain kind byte [] plain valid = grind arith
are_pieces-cons_plain kind byte (Plain text ∷ pieces) plain valid = grind arith
are_pieces-cons_plain kind byte (Field token ∷ pieces) plain valid = grind arith

-- a plain byte before an expression
plain_before : (kind : StreamKind) (byte : ℕ) (bytes : List ℕ) → is_plain byte ≡ true → IsExpression kind bytes → IsExpression kind (byte ∷ bytes)
plain_before kind byte bytes plain (pieces, spells) = (
  cons_plain byte pieces,
  record {
    valid = are_pieces-cons_plain kind byte pieces plain spells.valid;
    spelled = ap (λ rest. byte ∷ rest) spells.spelled ∙ sym (spelling-cons_plain byte pieces);
  },
)

-- a token before an expression that does not go on with a digit of its width
token_before : (kind : StreamKind) (token : Token) (bytes : List ℕ) → is_class_of kind (slice_index (letters token.part) 0) ≡ true → is_width token.width ≡ true → (takes_digit token.width && begins_with is_digit bytes) ≡ false → IsExpression kind bytes → IsExpression kind (token_spelling token ++ bytes)
token_before kind token bytes own width apart (pieces, spells) =
    let clear : (takes_digit token.width && begins_with is_digit (spelling pieces)) ≡ false =
    ap (λ rest. takes_digit token.width && begins_with is_digit rest) (sym spells.spelled) ∙ apart in (
      Field token ∷ pieces,
      record {
        valid = and_from _ _ (and_from _ _ (and_from _ _ own width) (ap not clear)) spells.valid;
        spelled = ap (λ rest. token_spelling token ++ rest) spells.spelled;
      },
    )

-- what the bytes behind such a stand make of the text so far
Completes : StreamKind → Stand → List ℕ → Type 0
Completes kind Between bytes = IsExpression kind bytes
Completes kind At bytes = IsExpression kind (64 ∷ bytes)
Completes kind (Class class) bytes = is_class_of kind class ≡ true → IsExpression kind (64 ∷ class ∷ bytes)
Completes kind (Width width) bytes =
    width < 100 → (part : Part) → is_class_of kind (slice_index (letters part) 0) ≡ true → IsExpression kind (64 ∷ letters part ++ width_digits (width_of width) ++ bytes)

-- the bytes are accepted from the stand on
pub record IsAccepted (kind : StreamKind) (stand : Stand) (bytes : List ℕ) : Type 0 where
  pub last : Stand
  pub reached : run kind stand bytes ≡ Ok last
  pub ends : end_of last ≡ None

abbrev Sound : StreamKind → Stand → List ℕ → Type 0
Sound kind stand bytes = IsAccepted kind stand bytes → Completes kind stand bytes

-- the first step, and that the rest is accepted behind it
step_accepted : (kind : StreamKind) (stand : Stand) (byte : ℕ) (bytes : List ℕ) → IsAccepted kind stand (byte ∷ bytes) → (next : Stand) × (step_of kind stand byte ≡ Ok next) × IsAccepted kind next bytes
step_accepted kind stand byte bytes a =
    let step = after_ok (step_of kind stand byte) (λ next. run kind next bytes) a.last a.reached in
    (step.0, step.1, record { last = a.last; reached = step.2; ends = a.ends })

-- a byte between pieces, where the rest is sound
between_sound : (kind : StreamKind) (byte : ℕ) (bytes : List ℕ) (next : Stand) → Sound kind At bytes → Sound kind Between bytes → plain_step byte ≡ Ok next → IsAccepted kind next bytes → IsExpression kind (byte ∷ bytes)
unfolding Completes
between_sound kind byte bytes next at between step a =
    elim (plain_ok byte next step) [
      | inl lone ↦ subst (λ b. IsExpression kind (b ∷ bytes)) (sym lone.0) (at (subst (λ s. IsAccepted kind s bytes) lone.1 a))
      | inr plain ↦ plain_before kind byte bytes plain.0 (between (subst (λ s. IsAccepted kind s bytes) plain.1 a))
    ]

-- a width that may be over: no digit follows, or it has three
width_over : (kind : StreamKind) (width : ℕ) (part : Part) (bytes : List ℕ) → width < 100 → begins_with is_digit bytes ≡ false → is_class_of kind (slice_index (letters part) 0) ≡ true → IsExpression kind bytes → IsExpression kind (64 ∷ letters part ++ width_digits (width_of width) ++ bytes)
width_over kind width part bytes low apart own rest =
    let fits : is_width (width_of width) ≡ true = cond_both (nat_eq width 0) None (Some width) (λ w. is_width w ≡ true) (λ _. refl) (λ some. grind (arith, nat_tests)) in
    token_before kind (record { part = part; width = width_of width }) bytes own fits (and_right (takes_digit (width_of width)) _ apart) rest

-- one more digit of a width, where the rest is sound
digit_sound : (kind : StreamKind) (width byte : ℕ) (bytes : List ℕ) (next : Stand) → ((v : ℕ) → Sound kind (Width v) bytes) → Sound kind Between bytes → is_digit byte ≡ true → width_step width (byte - 48) ≡ Ok next → IsAccepted kind next bytes → (part : Part) → is_class_of kind (slice_index (letters part) 0) ≡ true → IsExpression kind (64 ∷ letters part ++ width_digits (width_of width) ++ byte ∷ bytes)
unfolding Completes
digit_sound kind width byte bytes next more between digit step a part own =
    let longer = width_ok width (byte - 48) next step in
    let small : byte - 48 < 10 = grind (arith, nat_tests) in
    let back : 48 + (byte - 48) ≡ byte = grind (arith, nat_tests) in
    let value = width * 10 + (byte - 48) in
    let written : width_digits (width_of width) ++ byte ∷ [] ≡ decimal value =
    ap (λ b. width_digits (width_of width) ++ b ∷ []) (sym back) ∙ digits_more width (byte - 48) small longer.some longer.low in
    let some : nat_eq value 0 ≡ false = let above = longer.some in grind (arith, nat_tests) in
    let is : width_digits (width_of value) ≡ decimal value = ap width_digits (cond-false (nat_eq value 0) None (Some value) some) in
    let whole : 64 ∷ letters part ++ width_digits (width_of value) ++ bytes ≡ 64 ∷ letters part ++ width_digits (width_of width) ++ byte ∷ bytes =
    ap (λ ds. 64 ∷ letters part ++ ds ++ bytes) (is ∙ sym written)
    ∙ ap (λ ds. ds ++ bytes) (sym (append_assoc (64 ∷ letters part) (width_digits (width_of width)) (byte ∷ [])))
    ∙ append_assoc (64 ∷ letters part ++ width_digits (width_of width)) (byte ∷ []) bytes in
    subst (IsExpression kind) whole
    (elim (cases_Bool (nat_lt value 100)) [
      | inl short ↦
          more value (subst (λ s. IsAccepted kind s bytes) (longer.next_is ∙ cond-true (nat_lt value 100) (Width value) Between short) a) (ltb-true value 100 short) part own
      | inr long ↦
          let fits : is_width (width_of value) ≡ true = ap is_width (cond-false (nat_eq value 0) None (Some value) some) ∙ grind (arith, nat_tests) in
          let full : takes_digit (width_of value) ≡ false = ap takes_digit (cond-false (nat_eq value 0) None (Some value) some) ∙ long in
          token_before kind (record { part = part; width = width_of value }) bytes own fits (and_left _ (begins_with is_digit bytes) full)
          (between (subst (λ s. IsAccepted kind s bytes) (longer.next_is ∙ cond-false (nat_lt value 100) (Width value) Between long) a))
    ])

-- the end of a text is no place behind `@` or behind a class letter
lone_end : (kind : StreamKind) (stand : Stand) → IsAccepted kind stand [] → end_of stand ≡ None
lone_end kind stand a = let same : stand ≡ a.last = cc (a.reached) in ap end_of same ∙ a.ends

-- what is accepted is an expression, with what is read before it
sound : (kind : StreamKind) (bytes : List ℕ) (stand : Stand) → IsAccepted kind stand bytes → Completes kind stand bytes
unfolding Completes
sound kind [] Between a = ([], record { valid = refl; spelled = refl })
sound kind [] At a = absurd (let e = lone_end kind At a in cc)
sound kind [] (Class class) a = absurd (let e = lone_end kind (Class class) a in cc)
sound kind [] (Width width) a = λ low part own. width_over kind width part [] low refl own ([], record { valid = refl; spelled = refl })
sound kind (byte ∷ bytes) Between a =
    let step = step_accepted kind Between byte bytes a in
    between_sound kind byte bytes step.0 (sound kind bytes At) (sound kind bytes Between) step.1 step.2
sound kind (byte ∷ bytes) At a =
    let step = step_accepted kind At byte bytes a in
    let letter = class_ok kind byte step.0 step.1 in
    sound kind bytes (Class byte) (subst (λ s. IsAccepted kind s bytes) letter.1 step.2) letter.0
sound kind (byte ∷ bytes) (Class class) a = λ own.
    let step = step_accepted kind (Class class) byte bytes a in
    let known = field_ok class byte step.0 step.1 in
    let two = part_with-letters class byte known.0 known.1 in
    subst (λ ls. IsExpression kind (64 ∷ ls ++ bytes)) two
    (subst (λ ls. IsExpression kind (64 ∷ ls ++ bytes)) (append-nil (letters known.0))
    (sound kind bytes (Width 0) (subst (λ s. IsAccepted kind s bytes) known.2 step.2) (omega arith) known.0
    (ap (λ ls. is_class_of kind (slice_index ls 0)) two ∙ own)))
sound kind (byte ∷ bytes) (Width width) a = λ low part own.
    let step = step_accepted kind (Width width) byte bytes a in
    elim (cases_Bool (is_digit byte)) [
      | inl digit ↦
          digit_sound kind width byte bytes step.0 (λ v. sound kind bytes (Width v)) (sound kind bytes Between) digit
          (sym (cond-true (is_digit byte) (width_step width (byte - 48)) (plain_step byte) digit) ∙ step.1) step.2 part own
      | inr other ↦
          width_over kind width part (byte ∷ bytes) low other own
          (between_sound kind byte bytes step.0 (sound kind bytes At) (sound kind bytes Between) (sym (past_width kind width byte other) ∙ step.1) step.2)
    ]

pub accepted_is_expression : (kind : StreamKind) (text : List ℕ) → IsAccepted kind Between text → IsExpression kind text
unfolding Completes
accepted_is_expression kind text = sound kind text Between

-- a run over two lists goes on from where the first left it
pub run-append : (kind : StreamKind) (one other : List ℕ) (stand : Stand) → run kind stand (one ++ other) ≡ after (run kind stand one) (λ next. run kind next other)
run-append kind [] other stand = refl
run-append kind (byte ∷ one) other stand =
    elim (step_of kind stand byte) as (λ r. after r (λ next. run kind next (one ++ other)) ≡ after (after r (λ next. run kind next one)) (λ next. run kind next other)) [
      | Ok next ↦ run-append kind one other next
      | Err why ↦ refl
    ]

run_plain : (kind : StreamKind) (text rest : List ℕ) → list_all is_plain text ≡ true → run kind Between (text ++ rest) ≡ run kind Between rest
run_plain kind [] rest e = refl
run_plain kind (byte ∷ text) rest e =
    let parts = and_parts (is_plain byte) (list_all is_plain text) e in
    ap (λ r. after r (λ next. run kind next (text ++ rest))) (plain_on byte parts.0) ∙ run_plain kind text rest parts.1

-- an `@` and two letters of the kind lead behind the letters
run_letters : (kind : StreamKind) (part : Part) (rest : List ℕ) → is_class_of kind (slice_index (letters part) 0) ≡ true → run kind Between (64 ∷ letters part ++ rest) ≡ run kind (Width 0) rest
run_letters kind part rest own =
    let found = row_of part in
    let class = found.0 in
    let field = found.1 in
    let is = found.2 in
    let own_class : is_class_of kind class ≡ true = ap (λ ls. is_class_of kind (slice_index ls 0)) (sym is.written) ∙ own in
    let known : field_step class field ≡ Ok (Width 0) = ap (λ o. cond (is_some o) (Ok (Width 0)) (Err UnknownToken)) is.found in
    ap (λ ls. run kind Between (64 ∷ ls ++ rest)) is.written
    ∙ ap (λ r. after r (λ next. run kind next (field ∷ rest))) (class_on kind class own_class)
    ∙ ap (λ r. after r (λ next. run kind next rest)) known

-- behind a width that is over, what follows is read as between pieces
over_accepted : (kind : StreamKind) (width : ℕ) (rest : List ℕ) → begins_with is_digit rest ≡ false → IsAccepted kind Between rest → IsAccepted kind (Width width) rest
over_accepted kind width [] apart a = record { last = Width width; reached = refl; ends = refl }
over_accepted kind width (byte ∷ rest) apart a =
    record {
      last = a.last;
      reached = ap (λ r. after r (λ next. run kind next rest)) (past_width kind width byte apart) ∙ a.reached;
      ends = a.ends;
    }

behind_accepted : (kind : StreamKind) (width : Option ℕ) (rest : List ℕ) → (takes_digit width && begins_with is_digit rest) ≡ false → IsAccepted kind Between rest → IsAccepted kind (behind_width width) rest
behind_accepted kind None rest apart a = over_accepted kind 0 rest apart a
behind_accepted kind (Some width) rest apart a =
    cond_both (nat_lt width 100) (Width width) Between (λ s. IsAccepted kind s rest)
    (λ short. over_accepted kind width rest (ap (λ b. b && begins_with is_digit rest) (sym short) ∙ apart) a)
    (λ long. a)

-- pieces are accepted
complete : (kind : StreamKind) (pieces : List Piece) → are_pieces kind pieces ≡ true → IsAccepted kind Between (spelling pieces)
complete kind [] valid = record { last = Between; reached = refl; ends = refl }
complete kind (Plain text ∷ pieces) valid =
    let parts = and_parts (not (is_empty text) && list_all is_plain text && not (begins_plain pieces)) (are_pieces kind pieces) valid in
    let front = and_parts (not (is_empty text) && list_all is_plain text) (not (begins_plain pieces)) parts.0 in
    let plain = and_parts (not (is_empty text)) (list_all is_plain text) front.0 in
    let rest = complete kind pieces parts.1 in
    record { last = rest.last; reached = run_plain kind text (spelling pieces) plain.1 ∙ rest.reached; ends = rest.ends }
complete kind (Field token ∷ pieces) valid =
    let parts = and_parts (is_class_of kind (slice_index (letters token.part) 0) && is_width token.width && not (takes_digit token.width && begins_with is_digit (spelling pieces))) (are_pieces kind pieces) valid in
    let front = and_parts (is_class_of kind (slice_index (letters token.part) 0) && is_width token.width) (not (takes_digit token.width && begins_with is_digit (spelling pieces))) parts.0 in
    let own = and_parts (is_class_of kind (slice_index (letters token.part) 0)) (is_width token.width) front.0 in
    let rest = behind_accepted kind token.width (spelling pieces) (not-true _ front.1) (complete kind pieces parts.1) in
    record {
      last = rest.last;
      reached = ap (run kind Between) (append_assoc (64 ∷ letters token.part) (width_digits token.width) (spelling pieces))
          ∙ run_letters kind token.part (width_digits token.width ++ spelling pieces) own.0
          ∙ run_width kind token.width (spelling pieces) own.1 ∙ rest.reached;
      ends = rest.ends;
    }

pub expression_is_accepted : (kind : StreamKind) (text : List ℕ) → IsExpression kind text → IsAccepted kind Between text
expression_is_accepted kind text (pieces, spells) =
    subst (IsAccepted kind Between) (sym spells.spelled) (complete kind pieces spells.valid)

accepted_from : (kind : StreamKind) (text : List ℕ) (end : Result Stand ExprWhy) → run kind Between text ≡ end → may_end end ≡ true → IsAccepted kind Between text
accepted_from kind text (Ok stand) at ends = record { last = stand; reached = at; ends = none_from (end_of stand) ends }
accepted_from kind text (Err why) at ends = cc

may_end-from : (kind : StreamKind) (text : List ℕ) → IsAccepted kind Between text → may_end (run kind Between text) ≡ true
may_end-from kind text is = ap may_end is.reached ∙ ap is_none is.ends

-- the test passes exactly where the text is an expression
pub decides_expression : (kind : StreamKind) (text : List ℕ) → Decides (is_expression kind text) (IsExpression kind text)
unfolding is_expression
decides_expression kind text = (
  λ ends. accepted_is_expression kind text (accepted_from kind text (run kind Between text) refl ends),
  λ is. may_end-from kind text (expression_is_accepted kind text is),
)
