-- Where the automaton stops is where no expression goes on, and the reasons are those of the language.
use Rattle.std.proofs.Common.{◌≡◌, ℕ, ◌+◌, ◌-◌, ◌*◌, ◌<◌, ◌≤◌, ◌∷◌, [], ◌++◌, List, length, take, drop, true, false, not, cond, ◌&&◌, ◌||◌, nat_eq, nat_lt, ◌⊎◌, inl, inr, Option, Some, None, Result, Ok, Err, IsOk, ◌↔◌, is_some, get_or, refl, sym, ap, subst, ◌∙◌, append_assoc, append-nil, arith}
use Rattle.std.specs.Result.{result_err}
use Rattle.std.specs.Fmt.{decimal}
use Rattle.std.specs.List.{slice_get}
use Rattle.std.proofs.lemmas.Bool.{cond_both, cond-true, cond-false, and_parts, or_right, eqb-true, eq-eqb, ltb-true, lt-ltb, cases_Bool, cases_lt, not-true, both_ways}
use Rattle.std.proofs.lemmas.Bool.Decides.{nat_tests}
use Rattle.std.proofs.lemmas.Fmt.{decimal_digit}
use Rattle.std.proofs.lemmas.List.{take_more, take-take, take_all, take-append-drop}
use Rattle.std.proofs.lemmas.Option.{slice_get-get_or, slice_get_past}
use Rattle.format_expr.specs.declared.check.Stand.{Stand}
use Rattle.format_expr.specs.declared.check.Stand.TheVariants.{Between, At, Class, Width}
use Rattle.format_expr.specs.declared.fault.ExprWhy.{ExprWhy}
use Rattle.format_expr.specs.declared.fault.ExprWhy.TheVariants.{UnknownToken, WrongClass, BadWidth, LoneAt, ControlByte, TooLong}
use Rattle.format_expr.specs.declared.fault.ExprFault.{ExprFault}
use Rattle.format_expr.specs.declared.fault.ExprAnswer.{ExprAnswer}
use Rattle.format_expr.specs.declared.fault.ExprAnswer.TheVariants.{Bad}
use Rattle.format_expr.specs.declared.token.Token.{Token}
use Rattle.format_expr.specs.declared.token.Part.{Part}
use Rattle.ais_values.specs.declared.kind.StreamKind.{StreamKind}
use Rattle.ais_values.specs.declared.kind.StreamKind.TheVariants.{Alarm, Notification, System, Application}
use Rattle.format_expr.specs.Tokens.{letters, shown_parts, part_with}
use Rattle.format_expr.specs.Language.{is_plain, is_digit, is_class, is_class_of, width_digits, is_width, takes_digit, token_spelling, IsExpression}
use Rattle.format_expr.specs.Faults.{Begins, EndsIn, is_next, IsNoField, spoils, StopsFor, HasFault, IsFault}
use Rattle.format_expr.specs.Scan.{plain_step, class_step, field_step, width_step, step_of, end_of, why_at, after, run, StopsAt}
use Rattle.format_expr.proofs.TokenLaws.{row_of, part_with-letters, no_field, none_found}
use Rattle.format_expr.proofs.Steps.{after_ok, plain_ok, plain_err, class_ok, field_ok, width_ok, width_of, digits_more, past_width, behind_width, run_width}
use Rattle.format_expr.proofs.LanguageLaws.{IsAccepted, accepted_is_expression, expression_is_accepted, run-append}

-- an `@` that is read stands before a class letter
no_class_at : (kind : StreamKind) → is_class_of kind 64 ≡ false
no_class_at Alarm = refl
no_class_at Notification = refl
no_class_at System = refl
no_class_at Application = refl

step_at : (kind : StreamKind) (stand next : Stand) → step_of kind stand 64 ≡ Ok next → next ≡ At
step_at kind Between next e = cc
step_at kind At next e = absurd (both_ways (is_class_of kind 64) (no_class_at kind) (class_ok kind 64 next e).0)
step_at kind (Class class) next e =
    let known = field_ok class 64 next e in
    let found = row_of known.0 in
    let is = found.2 in
    let two = part_with-letters class 64 known.0 known.1 in
    let same : found.1 ≡ 64 = let both = sym is.written ∙ two in cc in
    absurd (both_ways (nat_eq found.1 64) is.field_is (eq-eqb found.1 64 same))
step_at kind (Width width) next e = cc

-- a run over two lists in its two parts
pub run_parts : (kind : StreamKind) (stand : Stand) (one other : List ℕ) (last : Stand) → run kind stand (one ++ other) ≡ Ok last → (middle : Stand) × (run kind stand one ≡ Ok middle) × (run kind middle other ≡ Ok last)
run_parts kind stand one other last e =
    after_ok (run kind stand one) (λ next. run kind next other) last (sym (run-append kind one other stand) ∙ e)

-- where a run stands by the end of what it read
after_at : (kind : StreamKind) (before : List ℕ) (stand last : Stand) → run kind stand (before ++ 64 ∷ []) ≡ Ok last → last ≡ At
after_at kind before stand last e =
    let parts = run_parts kind stand before (64 ∷ []) last e in
    let step = after_ok (step_of kind parts.0 64) (λ next. run kind next []) last parts.2 in
    let same : step.0 ≡ last = cc (step.2) in
    sym same ∙ step_at kind parts.0 step.0 step.1

after_class : (kind : StreamKind) (before : List ℕ) (class : ℕ) (stand last : Stand) → run kind stand (before ++ 64 ∷ class ∷ []) ≡ Ok last → last ≡ Class class
after_class kind before class stand last e =
    let split : before ++ 64 ∷ class ∷ [] ≡ (before ++ 64 ∷ []) ++ class ∷ [] = sym (append_assoc before (64 ∷ []) (class ∷ [])) in
    let parts = run_parts kind stand (before ++ 64 ∷ []) (class ∷ []) last (ap (run kind stand) (sym split) ∙ e) in
    let at = after_at kind before stand parts.0 parts.1 in
    let step = after_ok (step_of kind parts.0 class) (λ next. run kind next []) last parts.2 in
    let same : step.0 ≡ last = cc (step.2) in
    sym same ∙ (class_ok kind class step.0 (ap (λ s. step_of kind s class) (sym at) ∙ step.1)).1

-- the value of a width, 0 where there is none
abbrev value_of : Option ℕ → ℕ
value_of None = 0
value_of (Some width) = width

run_short : (kind : StreamKind) (width : Option ℕ) (last : Stand) → takes_digit width ≡ true → run kind (Width 0) (width_digits width) ≡ Ok last → last ≡ Width (value_of width)
run_short kind None last short e = cc
run_short kind (Some width) last short e =
    elim (cases_Bool (nat_eq width 0)) [
      | inl none ↦
          let zero = eqb-true width 0 none in
          let digits : decimal width ≡ 48 ∷ [] = ap decimal zero ∙ decimal_digit 0 (omega arith) in
          absurd (let bad = ap (run kind (Width 0)) (sym digits) ∙ e in cc)
      | inr some ↦
          let fits : is_width (Some width) ≡ true = grind (arith, nat_tests) in
          let read = run_width kind (Some width) [] fits in
          let whole = ap (run kind (Width 0)) (append-nil (decimal width)) in
          let behind = cond-true (nat_lt width 100) (Width width) Between short in
          let same : Ok (behind_width (Some width)) ≡ Ok last = sym read ∙ whole ∙ e in
          let is : behind_width (Some width) ≡ last = cc (same) in
          sym is ∙ behind
    ]

after_token : (kind : StreamKind) (before : List ℕ) (token : Token) (stand last : Stand) → takes_digit token.width ≡ true → run kind stand (before ++ token_spelling token) ≡ Ok last → last ≡ Width (value_of token.width)
after_token kind before token stand last short e =
    let found = row_of token.part in
    let class = found.0 in
    let field = found.1 in
    let is = found.2 in
    let split : before ++ token_spelling token ≡ (before ++ 64 ∷ class ∷ []) ++ field ∷ width_digits token.width =
    ap (λ ls. before ++ (64 ∷ ls ++ width_digits token.width)) is.written ∙ sym (append_assoc before (64 ∷ class ∷ []) (field ∷ width_digits token.width)) in
    let parts = run_parts kind stand (before ++ 64 ∷ class ∷ []) (field ∷ width_digits token.width) last (ap (run kind stand) (sym split) ∙ e) in
    let at = after_class kind before class stand parts.0 parts.1 in
    let known : field_step class field ≡ Ok (Width 0) = ap (λ o. cond (is_some o) (Ok (Width 0)) (Err UnknownToken)) is.found in
    let step = after_ok (step_of kind parts.0 field) (λ next. run kind next (width_digits token.width)) last parts.2 in
    let begin : step.0 ≡ Width 0 = let same = sym known ∙ ap (λ s. step_of kind s field) (sym at) ∙ step.1 in cc in
    run_short kind token.width last short (ap (λ s. run kind s (width_digits token.width)) (sym begin) ∙ step.2)

-- a class of the kind is a class
class_is : (kind : StreamKind) (letter : ℕ) → is_class_of kind letter ≡ true → is_class letter ≡ true
class_is kind letter e = grind (arith, nat_tests)

not_class : (kind : StreamKind) (letter : ℕ) → is_class letter ≡ false → is_class_of kind letter ≡ false
not_class kind letter e =
    elim (cases_Bool (is_class_of kind letter)) [
      | inl own ↦ absurd (both_ways (is_class letter) e (class_is kind letter own))
      | inr other ↦ other
    ]

-- a digit that spoils a width is one
spoils_digit : (width : Option ℕ) (byte : ℕ) → spoils width byte ≡ true → is_digit byte ≡ true
spoils_digit None byte e = let zero = eqb-true byte 48 e in grind (arith, nat_tests)
spoils_digit (Some width) byte e = (and_parts (is_digit byte) (nat_lt 255 (width * 10 + (byte - 48))) e).0

spoils_step : (width : Option ℕ) (byte : ℕ) → spoils width byte ≡ true → width_step (value_of width) (byte - 48) ≡ Err BadWidth
spoils_step None byte e =
    let zero = eqb-true byte 48 e in
    ap (λ b. width_step 0 (b - 48)) zero
spoils_step (Some width) byte e =
    let over = (and_parts (is_digit byte) (nat_lt 255 (width * 10 + (byte - 48))) e).1 in
    cond-true ((nat_eq width 0 && nat_eq (byte - 48) 0) || nat_lt 255 (width * 10 + (byte - 48))) (Err BadWidth)
    (cond (nat_lt (width * 10 + (byte - 48)) 100) (Ok (Width (width * 10 + (byte - 48)))) (Ok Between))
    (or_right (nat_eq width 0 && nat_eq (byte - 48) 0) _ over)

-- a stand at which a text may end does not go on with a byte that is not printable
control_stops : (kind : StreamKind) (stand : Stand) (byte : ℕ) → end_of stand ≡ None → (nat_lt byte 32 || nat_lt 126 byte) ≡ true → result_err (step_of kind stand byte) ≡ Some ControlByte
control_stops kind stand byte ends control =
    let lone : nat_eq byte 64 ≡ false = grind (arith, nat_tests) in
    let bad : is_plain byte ≡ false = grind (arith, nat_tests) in
    let none : is_digit byte ≡ false = grind (arith, nat_tests) in
    let plain : plain_step byte ≡ Err ControlByte = cond-false (nat_eq byte 64) (Ok At) (cond (is_plain byte) (Ok Between) (Err ControlByte)) lone
    ∙ cond-false (is_plain byte) (Ok Between) (Err ControlByte) bad in
    elim stand as (λ s. end_of s ≡ None → result_err (step_of kind s byte) ≡ Some ControlByte) [
      | Between ↦ λ _. ap result_err plain
      | At ↦ λ e. absurd cc
      | Class class ↦ λ e. absurd cc
      | Width width ↦ λ _. ap result_err (past_width kind width byte none ∙ plain)
    ] ends

-- the reason that the language gives is the automaton's
pub reason_stops : (kind : StreamKind) (front : List ℕ) (next : Option ℕ) (why : ExprWhy) (stand : Stand) → run kind Between front ≡ Ok stand → StopsFor kind front next why → why_at kind stand next ≡ Some why
reason_stops kind front next LoneAt stand reached ((before, is), none) =
    let at = after_at kind before Between stand (ap (run kind Between) (sym is) ∙ reached) in
    ap (λ s. why_at kind s next) at ∙ elim next as (λ n. not (is_next is_class n) ≡ true → why_at kind At n ≡ Some LoneAt) [
      | None ↦ λ _. refl
      | Some byte ↦ λ e. let other : is_class byte ≡ false = not-true (is_class byte) e in
          ap result_err (cond-false (is_class_of kind byte) (Ok (Class byte)) (cond (is_class byte) (Err WrongClass) (Err LoneAt)) (not_class kind byte other)
          ∙ cond-false (is_class byte) (Err WrongClass) (Err LoneAt) other)
    ] none
reason_stops kind front next WrongClass stand reached ((before, is), some, other) =
    let at = after_at kind before Between stand (ap (run kind Between) (sym is) ∙ reached) in
    ap (λ s. why_at kind s next) at ∙ elim next as (λ n. is_next is_class n ≡ true → not (is_next (is_class_of kind) n) ≡ true → why_at kind At n ≡ Some WrongClass) [
      | None ↦ λ e f. absurd cc
      | Some byte ↦ λ e f.
          ap result_err (cond-false (is_class_of kind byte) (Ok (Class byte)) (cond (is_class byte) (Err WrongClass) (Err LoneAt)) (not-true (is_class_of kind byte) f)
          ∙ cond-true (is_class byte) (Err WrongClass) (Err LoneAt) e)
    ] some other
reason_stops kind front next UnknownToken stand reached (class, (before, is), none) =
    let at = after_class kind before class Between stand (ap (run kind Between) (sym is) ∙ reached) in
    ap (λ s. why_at kind s next) at ∙ elim next as (λ n. IsNoField class n → why_at kind (Class class) n ≡ Some UnknownToken) [
      | None ↦ λ _. refl
      | Some byte ↦ λ e. ap result_err (cond-false (is_some (part_with class byte)) (Ok (Width 0)) (Err UnknownToken) (none_found class byte e))
    ] none
reason_stops kind front next BadWidth stand reached (token, (before, is), short, bad) =
    let at = after_token kind before token Between stand short (ap (run kind Between) (sym is) ∙ reached) in
    ap (λ s. why_at kind s next) at ∙ elim next as (λ n. is_next (spoils token.width) n ≡ true → why_at kind (Width (value_of token.width)) n ≡ Some BadWidth) [
      | None ↦ λ e. absurd cc
      | Some byte ↦ λ e. ap result_err (cond-true (is_digit byte) (width_step (value_of token.width) (byte - 48)) (plain_step byte) (spoils_digit token.width byte e)
          ∙ spoils_step token.width byte e)
    ] bad
reason_stops kind front next ControlByte stand reached (whole, bad) =
    let accepted = expression_is_accepted kind front whole in
    let same : accepted.last ≡ stand = let both = sym accepted.reached ∙ reached in cc in
    let ends : end_of stand ≡ None = ap end_of (sym same) ∙ accepted.ends in
    elim next as (λ n. is_next (λ byte. nat_lt byte 32 || nat_lt 126 byte) n ≡ true → why_at kind stand n ≡ Some ControlByte) [
      | None ↦ λ e. absurd cc
      | Some byte ↦ λ e. control_stops kind stand byte ends e
    ] bad
reason_stops kind front next TooLong stand reached never = absurd never

-- what stands at the end of what was read
Stood : StreamKind → List ℕ → Stand → Type 0
Stood kind front Between = Unit {0}
Stood kind front At = EndsIn (64 ∷ []) front
Stood kind front (Class class) = EndsIn (64 ∷ class ∷ []) front × (is_class_of kind class ≡ true)
Stood kind front (Width width) = (width < 100) × ((part : Part) × EndsIn (64 ∷ letters part ++ width_digits (width_of width)) front)

stood_plain : (kind : StreamKind) (front : List ℕ) (byte : ℕ) (next : Stand) → plain_step byte ≡ Ok next → Stood kind (front ++ byte ∷ []) next
unfolding Stood
stood_plain kind front byte next e =
    elim (plain_ok byte next e) [
      | inl at ↦ subst (Stood kind (front ++ byte ∷ [])) (sym at.1) (front, ap (λ b. front ++ b ∷ []) at.0)
      | inr plain ↦ subst (Stood kind (front ++ byte ∷ [])) (sym plain.1) tt
    ]

-- the next digit of a width
stood_digit : (kind : StreamKind) (front before : List ℕ) (part : Part) (width byte : ℕ) (next : Stand) → front ≡ before ++ (64 ∷ letters part ++ width_digits (width_of width)) → is_digit byte ≡ true → width_step width (byte - 48) ≡ Ok next → Stood kind (front ++ byte ∷ []) next
unfolding Stood
stood_digit kind front before part width byte next is digit step =
    let longer = width_ok width (byte - 48) next step in
    let small : byte - 48 < 10 = grind (arith, nat_tests) in
    let back : 48 + (byte - 48) ≡ byte = grind (arith, nat_tests) in
    let value = width * 10 + (byte - 48) in
    let written : width_digits (width_of width) ++ byte ∷ [] ≡ decimal value =
    ap (λ b. width_digits (width_of width) ++ b ∷ []) (sym back) ∙ digits_more width (byte - 48) small longer.some longer.low in
    let some : nat_eq value 0 ≡ false = let above = longer.some in grind (arith, nat_tests) in
    let value_is : width_digits (width_of value) ≡ decimal value = ap width_digits (cond-false (nat_eq value 0) None (Some value) some) in
    let whole : front ++ byte ∷ [] ≡ before ++ (64 ∷ letters part ++ width_digits (width_of value)) =
    ap (λ f. f ++ byte ∷ []) is
    ∙ append_assoc before (64 ∷ letters part ++ width_digits (width_of width)) (byte ∷ [])
    ∙ ap (λ ds. before ++ ds) (append_assoc (64 ∷ letters part) (width_digits (width_of width)) (byte ∷ []))
    ∙ ap (λ ds. before ++ (64 ∷ letters part ++ ds)) (written ∙ sym value_is) in
    elim (cases_Bool (nat_lt value 100)) [
      | inl short ↦ subst (Stood kind (front ++ byte ∷ [])) (sym (longer.next_is ∙ cond-true (nat_lt value 100) (Width value) Between short)) (ltb-true value 100 short, (part, (before, whole)))
      | inr long ↦ subst (Stood kind (front ++ byte ∷ [])) (sym (longer.next_is ∙ cond-false (nat_lt value 100) (Width value) Between long)) tt
    ]

stood_step : (kind : StreamKind) (front : List ℕ) (stand next : Stand) (byte : ℕ) → Stood kind front stand → step_of kind stand byte ≡ Ok next → Stood kind (front ++ byte ∷ []) next
unfolding Stood
stood_step kind front Between next byte s e = stood_plain kind front byte next e
stood_step kind front At next byte (before, is) e =
    let own = class_ok kind byte next e in
    subst (Stood kind (front ++ byte ∷ [])) (sym own.1) ((before, ap (λ f. f ++ byte ∷ []) is ∙ append_assoc before (64 ∷ []) (byte ∷ [])), own.0)
stood_step kind front (Class class) next byte ((before, is), own) e =
    let known = field_ok class byte next e in
    let two = part_with-letters class byte known.0 known.1 in
    subst (Stood kind (front ++ byte ∷ [])) (sym known.2) (
      omega arith,
      (
        known.0,
        (
          before,
          ap (λ f. f ++ byte ∷ []) is ∙ append_assoc before (64 ∷ class ∷ []) (byte ∷ [])
              ∙ ap (λ ls. before ++ (64 ∷ ls)) (sym (append-nil (letters known.0) ∙ two)),
        ),
      ),
    )
stood_step kind front (Width width) next byte (low, (part, (before, is))) e =
    elim (cases_Bool (is_digit byte)) [
      | inl digit ↦ stood_digit kind front before part width byte next is digit (sym (cond-true (is_digit byte) (width_step width (byte - 48)) (plain_step byte) digit) ∙ e)
      | inr other ↦ stood_plain kind front byte next (sym (past_width kind width byte other) ∙ e)
    ]

stood_run : (kind : StreamKind) (bytes front : List ℕ) (stand last : Stand) → Stood kind front stand → run kind stand bytes ≡ Ok last → Stood kind (front ++ bytes) last
stood_run kind [] front stand last s e =
    let same : stand ≡ last = cc (e) in
    subst (λ f. Stood kind f last) (sym (append-nil front)) (subst (Stood kind front) same s)
stood_run kind (byte ∷ bytes) front stand last s e =
    let step = after_ok (step_of kind stand byte) (λ next. run kind next bytes) last e in
    subst (λ f. Stood kind f last) (append_assoc front (byte ∷ []) bytes)
    (stood_run kind bytes (front ++ byte ∷ []) step.0 last (stood_step kind front stand step.0 byte s step.1) step.2)

stood : (kind : StreamKind) (front : List ℕ) (stand : Stand) → run kind Between front ≡ Ok stand → Stood kind front stand
unfolding Stood
stood kind front stand e = stood_run kind front [] Between stand tt e

class_cases : (letter : ℕ) → is_class letter ≡ true → (letter ≡ 67) ⊎ ((letter ≡ 78) ⊎ (letter ≡ 83))
class_cases letter e = grind (arith, nat_tests)

-- each class has a field with which a token ends
class_completed : (kind : StreamKind) (class : ℕ) → is_class class ≡ true → (rest : List ℕ) × IsAccepted kind (Class class) rest
unfolding part_with shown_parts
class_completed kind class e =
    elim (class_cases class e) [
      | inl c ↦ subst (λ l. (rest : List ℕ) × IsAccepted kind (Class l) rest) (sym c) (114 ∷ [], record { last = Width 0; reached = refl; ends = refl })
      | inr (inl n) ↦ subst (λ l. (rest : List ℕ) × IsAccepted kind (Class l) rest) (sym n) (105 ∷ [], record { last = Width 0; reached = refl; ends = refl })
      | inr (inr s) ↦ subst (λ l. (rest : List ℕ) × IsAccepted kind (Class l) rest) (sym s) (108 ∷ [], record { last = Width 0; reached = refl; ends = refl })
    ]

-- each stand that is reached can still come to an expression
completed : (kind : StreamKind) (front : List ℕ) (stand : Stand) → Stood kind front stand → (rest : List ℕ) × IsAccepted kind stand rest
unfolding Stood part_with shown_parts
completed kind front Between s = ([], record { last = Between; reached = refl; ends = refl })
completed kind front At s = (67 ∷ 114 ∷ [], record { last = Width 0; reached = refl; ends = refl })
completed kind front (Width width) s = ([], record { last = Width width; reached = refl; ends = refl })
completed kind front (Class class) s = class_completed kind class (class_is kind class s.1)

-- so some expression begins with what was read
pub run_begins : (kind : StreamKind) (front : List ℕ) (stand : Stand) → run kind Between front ≡ Ok stand → Begins kind front
run_begins kind front stand e =
    let rest = completed kind front stand (stood kind front stand e) in (
      rest.0,
      accepted_is_expression kind (front ++ rest.0) (record {
        last = rest.1.last;
        reached = run-append kind front rest.0 Between ∙ ap (λ r. after r (λ next. run kind next rest.0)) e ∙ rest.1.reached;
        ends = rest.1.ends;
      }),
    )

-- and what some expression begins with is read
pub begins_run : (kind : StreamKind) (front : List ℕ) → Begins kind front → (stand : Stand) × (run kind Between front ≡ Ok stand)
begins_run kind front (rest, whole) =
    let accepted = expression_is_accepted kind (front ++ rest) whole in
    let parts = run_parts kind Between front rest accepted.last accepted.reached in
    (parts.0, parts.1)

-- a list up to a place inside it, and the element there
pub split_next : (text : List ℕ) (place : ℕ) → place < length text → (byte : ℕ) × (slice_get text place ≡ Some byte) × (take (place + 1) text ≡ take place text ++ byte ∷ [])
split_next text place inside =
    (get_or text place 0, slice_get-get_or text place 0 inside, take_more text place 0 inside)

-- why a class letter is refused
class_err : (kind : StreamKind) (byte : ℕ) (why : ExprWhy) → result_err (class_step kind byte) ≡ Some why → ((why ≡ WrongClass) × (is_class byte ≡ true) × (is_class_of kind byte ≡ false)) ⊎ ((why ≡ LoneAt) × (is_class byte ≡ false))
class_err kind byte why =
    cond_both (is_class_of kind byte) (Ok (Class byte)) (cond (is_class byte) (Err WrongClass) (Err LoneAt))
    (λ r. result_err r ≡ Some why → ((why ≡ WrongClass) × (is_class byte ≡ true) × (is_class_of kind byte ≡ false)) ⊎ ((why ≡ LoneAt) × (is_class byte ≡ false)))
    (λ own e. absurd cc)
    (λ other. cond_both (is_class byte) (Err WrongClass) (Err LoneAt)
    (λ r. result_err r ≡ Some why → ((why ≡ WrongClass) × (is_class byte ≡ true) × (is_class_of kind byte ≡ false)) ⊎ ((why ≡ LoneAt) × (is_class byte ≡ false)))
    (λ wrong e. inl (cc, wrong, other))
    (λ lone e. inr (cc, lone)))

-- why a field letter is refused
field_err : (class byte : ℕ) (why : ExprWhy) → result_err (field_step class byte) ≡ Some why → (why ≡ UnknownToken) × (is_some (part_with class byte) ≡ false)
field_err class byte why =
    cond_both (is_some (part_with class byte)) (Ok (Width 0)) (Err UnknownToken)
    (λ r. result_err r ≡ Some why → (why ≡ UnknownToken) × (is_some (part_with class byte) ≡ false))
    (λ known e. absurd cc)
    (λ other e. (cc, other))

-- why a digit of a width is refused
width_err : (width byte : ℕ) (why : ExprWhy) → is_digit byte ≡ true → result_err (width_step width (byte - 48)) ≡ Some why → (why ≡ BadWidth) × (spoils (width_of width) byte ≡ true)
width_err width byte why digit =
    cond_both ((nat_eq width 0 && nat_eq (byte - 48) 0) || nat_lt 255 (width * 10 + (byte - 48))) (Err BadWidth) (cond (nat_lt (width * 10 + (byte - 48)) 100) (Ok (Width (width * 10 + (byte - 48)))) (Ok Between))
    (λ r. result_err r ≡ Some why → (why ≡ BadWidth) × (spoils (width_of width) byte ≡ true))
    (λ bad e. (cc, spoiled bad))
    (λ fits. cond_both (nat_lt (width * 10 + (byte - 48)) 100) (Ok (Width (width * 10 + (byte - 48)))) (Ok Between)
    (λ r. result_err r ≡ Some why → (why ≡ BadWidth) × (spoils (width_of width) byte ≡ true))
    (λ short e. absurd cc) (λ long e. absurd cc))
  where
    spoiled : ((nat_eq width 0 && nat_eq (byte - 48) 0) || nat_lt 255 (width * 10 + (byte - 48))) ≡ true → spoils (width_of width) byte ≡ true
    spoiled bad = cond_both (nat_eq width 0) None (Some width) (λ w. spoils w byte ≡ true) (λ none. grind (arith, nat_tests)) (λ some. grind (arith, nat_tests))

-- why a text goes on nowhere from a stand, in the words of the language
stand_reason : (kind : StreamKind) (front : List ℕ) (next : Option ℕ) (why : ExprWhy) (stand : Stand) → run kind Between front ≡ Ok stand → Stood kind front stand → why_at kind stand next ≡ Some why → StopsFor kind front next why
unfolding Stood
stand_reason kind front None why Between reached s e = absurd cc
stand_reason kind front (Some byte) why Between reached s e =
    let bad = plain_err byte why e in
    subst (StopsFor kind front (Some byte)) (sym bad.0) (accepted_is_expression kind front (record { last = Between; reached = reached; ends = refl }), bad.1)
stand_reason kind front None why At reached s e =
    let is : LoneAt ≡ why = cc (e) in
    subst (StopsFor kind front None) is (s, refl)
stand_reason kind front (Some byte) why At reached s e =
    elim (class_err kind byte why e) [
      | inl wrong ↦ subst (StopsFor kind front (Some byte)) (sym wrong.0) (s, wrong.1, ap not wrong.2)
      | inr lone ↦ subst (StopsFor kind front (Some byte)) (sym lone.0) (s, ap not lone.1)
    ]
stand_reason kind front None why (Class class) reached s e =
    let is : UnknownToken ≡ why = cc (e) in
    subst (StopsFor kind front None) is (class, s.0, tt)
stand_reason kind front (Some byte) why (Class class) reached s e =
    let bad = field_err class byte why e in
    subst (StopsFor kind front (Some byte)) (sym bad.0) (class, s.0, no_field class byte bad.1)
stand_reason kind front None why (Width width) reached s e = absurd cc
stand_reason kind front (Some byte) why (Width width) reached s e =
    elim (cases_Bool (is_digit byte)) [
      | inl digit ↦
          let bad = width_err width byte why digit (ap result_err (sym (cond-true (is_digit byte) (width_step width (byte - 48)) (plain_step byte) digit)) ∙ e) in
          let short : takes_digit (width_of width) ≡ true = cond_both (nat_eq width 0) None (Some width) (λ w. takes_digit w ≡ true) (λ _. refl) (λ _. lt-ltb width 100 s.0) in
          subst (StopsFor kind front (Some byte)) (sym bad.0) (record { part = s.1.0; width = width_of width }, s.1.1, short, bad.1)
      | inr other ↦
          let bad = plain_err byte why (ap result_err (sym (past_width kind width byte other)) ∙ e) in
          subst (StopsFor kind front (Some byte)) (sym bad.0) (accepted_is_expression kind front (record { last = Width width; reached = reached; ends = refl }), bad.1)
    ]

-- a run does not go past a place where it stops
pub run_past : (kind : StreamKind) (text : List ℕ) (place further : ℕ) (why : ExprWhy) (last : Stand) → StopsAt kind text place why → further ≤ length text → run kind Between (take further text) ≡ Ok last → further ≤ place
run_past kind text place further why last stops inside reached =
    elim (cases_lt place further) [
      | inr le ↦ le
      | inl lt ↦
          let next = split_next text place (omega arith) in
          let front : take (place + 1) (take further text) ≡ take place text ++ next.0 ∷ [] = take-take (place + 1) further text (omega arith) ∙ next.2 in
          let whole : take further text ≡ (take place text ++ next.0 ∷ []) ++ drop (place + 1) (take further text) =
          sym (take-append-drop (place + 1) (take further text)) ∙ ap (λ f. f ++ drop (place + 1) (take further text)) front in
          let parts = run_parts kind Between (take place text ++ next.0 ∷ []) (drop (place + 1) (take further text)) last (ap (run kind Between) (sym whole) ∙ reached) in
          absurd (no_step kind text place why parts.0 stops next.0 next.1 parts.1)
    ]
  where
    no_step : (kind : StreamKind) (text : List ℕ) (place : ℕ) (why : ExprWhy) (last : Stand) → (stops : StopsAt kind text place why) → (byte : ℕ) → slice_get text place ≡ Some byte → run kind Between (take place text ++ byte ∷ []) ≡ Ok last → ⊥
    no_step kind text place why last stops byte at reached =
        let parts = run_parts kind Between (take place text) (byte ∷ []) last reached in
        let step = after_ok (step_of kind parts.0 byte) (λ next. run kind next []) last parts.2 in
        let same : stops.stand ≡ parts.0 = let both = sym stops.reached ∙ parts.1 in cc in
        let stopped : why_at kind parts.0 (Some byte) ≡ Some why = ap (λ s. why_at kind s (Some byte)) (sym same) ∙ ap (why_at kind stops.stand) (sym at) ∙ stops.stopped in
        let went : why_at kind parts.0 (Some byte) ≡ None = ap result_err step.1 in
        cc

-- where the automaton stops, the language has its reason
pub stops_stands : (kind : StreamKind) (text : List ℕ) (place : ℕ) (why : ExprWhy) → StopsAt kind text place why → HasFault kind text place why
stops_stands kind text place why stops =
    record {
      inside = stops.inside;
      begins = run_begins kind (take place text) stops.stand stops.reached;
      longest = λ more begins.
          let further = begins_run kind (take (place + 1) text) begins in
          let past = run_past kind text place (place + 1) why further.0 stops (omega arith) further.1 in
          absurd (omega arith);
      reason = stand_reason kind (take place text) (slice_get text place) why stops.stand stops.reached (stood kind (take place text) stops.stand stops.reached) stops.stopped;
    }

-- and the other way round
pub stands_stops : (kind : StreamKind) (text : List ℕ) (place : ℕ) (why : ExprWhy) → HasFault kind text place why → StopsAt kind text place why
stands_stops kind text place why stands =
    let reached = begins_run kind (take place text) stands.begins in
    record {
      stand = reached.0;
      inside = stands.inside;
      reached = reached.1;
      stopped = reason_stops kind (take place text) (slice_get text place) why reached.0 reached.1 stands.reason;
    }

-- at one place there is one reason
one_why : (kind : StreamKind) (text : List ℕ) (place other : ℕ) (why reason : ExprWhy) → place ≡ other → StopsAt kind text place why → StopsAt kind text other reason → why ≡ reason
one_why kind text place other why reason same one two =
    let reached : run kind Between (take place text) ≡ Ok two.stand = ap (λ p. run kind Between (take p text)) same ∙ two.reached in
    let stand : one.stand ≡ two.stand = let both = sym one.reached ∙ reached in cc in
    let stopped : why_at kind one.stand (slice_get text place) ≡ Some reason =
    ap (λ s. why_at kind s (slice_get text place)) stand ∙ ap (λ p. why_at kind two.stand (slice_get text p)) same ∙ two.stopped in
    let both : Some why ≡ Some reason = sym one.stopped ∙ stopped in
    cc

-- and there is one place
one_place : (kind : StreamKind) (text : List ℕ) (place other : ℕ) (why reason : ExprWhy) → StopsAt kind text place why → StopsAt kind text other reason → place ≡ other
one_place kind text place other why reason one two =
    let up = run_past kind text other place reason one.stand two one.inside one.reached in
    let down = run_past kind text place other why two.stand one two.inside two.reached in
    omega arith

-- a text with such a stop is no expression
stop_refuses : (kind : StreamKind) (text : List ℕ) (place : ℕ) (why : ExprWhy) → StopsAt kind text place why → IsExpression kind text → ⊥
stop_refuses kind text place why stops whole =
    let accepted = expression_is_accepted kind text whole in
    let all : take (length text) text ≡ text = take_all (length text) text (omega arith) in
    let past = run_past kind text place (length text) why accepted.last stops (omega arith) (ap (run kind Between) all ∙ accepted.reached) in
    let inside = stops.inside in
    let ends : place ≡ length text = omega arith in
    let front : take place text ≡ text = take_all place text (omega arith) in
    let none : slice_get text place ≡ None = slice_get_past text place (omega arith) in
    let same : stops.stand ≡ accepted.last = let both = sym stops.reached ∙ ap (run kind Between) front ∙ accepted.reached in cc in
    let stopped : end_of accepted.last ≡ Some why = ap end_of (sym same) ∙ ap (why_at kind stops.stand) (sym none) ∙ stops.stopped in
    let accepts = accepted.ends in
    cc

-- what a test of a text answers
pub record IsChecked {T : Type 0} (kind : StreamKind) (text : List ℕ) (result : Result T ExprFault) : Type 0 where
  pub ok : IsOk result ↔ (IsExpression kind text × (length text ≤ 1024))
  pub refused : (fault : ExprFault) → (result ≡ Err fault) ↔ IsFault kind text fault

-- it stops inside the first bytes, or at the end of a text that is not too long
pub checked_stop : {T : Type 0} (kind : StreamKind) (text : List ℕ) (found : ExprFault) → StopsAt kind text found.place found.why → (length text ≤ 1024) ⊎ (found.place < 1024) → IsChecked {T = T} kind text (Err found)
checked_stop {T} kind text found stops early =
    let answer : Result T ExprFault = Err found in
    record {
      ok = (λ h. absurd cc, λ h. absurd (stop_refuses kind text found.place found.why stops h.0));
      refused = λ fault. (
        λ e. let same : found ≡ fault = cc in subst (IsFault kind text) same (inl (stops_stands kind text found.place found.why stops, early)),
        λ is. elim is [
          | inl stands ↦
              let other = stands_stops kind text fault.place fault.why stands.0 in
              let place = one_place kind text found.place fault.place found.why fault.why stops other in
              let why = one_why kind text found.place fault.place found.why fault.why place stops other in
              ap Err (same_fault found fault place why)
          | inr long ↦
              let late = long.3 found.place found.why (stops_stands kind text found.place found.why stops) in
              let more = long.2 in
              elim early [ inl short ↦ absurd (omega arith) | inr small ↦ absurd (omega arith) ]
        ],
      );
    }
  where
    same_fault : (a b : ExprFault) → a.place ≡ b.place → a.why ≡ b.why → a ≡ b
    same_fault a b place why = rw (place, why)

-- it does not stop inside the first bytes of a text that is too long
pub checked_long : {T : Type 0} (kind : StreamKind) (text : List ℕ) (stand : Stand) → run kind Between (take 1024 text) ≡ Ok stand → 1024 < length text → IsChecked {T = T} kind text (Err (record { place = 1024; why = TooLong }))
checked_long {T} kind text stand reached more =
    record {
      ok = (λ h. absurd cc, λ h. absurd (let low = h.1 in omega arith));
      refused = λ fault. (
        λ e. let same : too_long ≡ fault = cc in
            subst (IsFault kind text) same
            (inr (refl, refl, more, λ place why stands. run_past kind text place 1024 why stand (stands_stops kind text place why stands) (omega arith) reached)),
        λ is. elim is [
          | inl stands ↦
              let past = run_past kind text fault.place 1024 fault.why stand (stands_stops kind text fault.place fault.why stands.0) (omega arith) reached in
              elim stands.1 [ inl short ↦ absurd (omega arith) | inr small ↦ absurd (omega arith) ]
          | inr long ↦ ap Err (sym (is_too_long fault long.0 long.1))
        ],
      );
    }
  where
    too_long : ExprFault
    too_long = record { place = 1024; why = TooLong }

    is_too_long : (fault : ExprFault) → fault.why ≡ TooLong → fault.place ≡ 1024 → fault ≡ record { place = 1024; why = TooLong }
    is_too_long fault why place = rw (why, place)

-- it comes to the end of a text that is not too long, and may end there
pub checked_ok : {T : Type 0} (kind : StreamKind) (text : List ℕ) (stand : Stand) (value : T) → run kind Between text ≡ Ok stand → end_of stand ≡ None → length text ≤ 1024 → IsChecked kind text (Ok value)
checked_ok {T} kind text stand value reached ends low =
    let accepted : IsAccepted kind Between text = record { last = stand; reached = reached; ends = ends } in
    let whole = accepted_is_expression kind text accepted in
    record {
      ok = (λ h. (whole, low), λ h. refl);
      refused = λ fault. (
        λ e. absurd cc,
        λ is. elim is [
          | inl stands ↦ absurd (stop_refuses kind text fault.place fault.why (stands_stops kind text fault.place fault.why stands.0) whole)
          | inr long ↦ absurd (let more = long.2 in omega arith)
        ],
      );
    }

-- one more step of a run
pub run_more : (kind : StreamKind) (text : List ℕ) (place : ℕ) (stand next : Stand) → place < length text → run kind Between (take place text) ≡ Ok stand → Ok next ≡ step_of kind stand (get_or text place 0) → run kind Between (take (place + 1) text) ≡ Ok next
run_more kind text place stand next inside reached step =
    ap (run kind Between) (take_more text place 0 inside)
    ∙ run-append kind (take place text) (get_or text place 0 ∷ []) Between
    ∙ ap (λ r. after r (λ s. run kind s (get_or text place 0 ∷ []))) reached
    ∙ ap (λ r. after r (λ s. run kind s [])) (sym step)

-- the front that was read
pub run_front : (kind : StreamKind) (text : List ℕ) (place most : ℕ) (result : Result Stand ExprWhy) → (place ≡ length text) ⊎ (place ≡ most) → place ≤ most → run kind Between (take place text) ≡ result → run kind Between (take most text) ≡ result
run_front kind text place most result (inl all) le e =
    ap (run kind Between) (take_all most text (omega arith) ∙ sym (take_all place text (omega arith))) ∙ e
run_front kind text place most result (inr same) le e = ap (λ p. run kind Between (take p text)) (sym same) ∙ e

-- it comes to the end of a text that is not too long, and may not end there
pub stops_at_end : (kind : StreamKind) (text : List ℕ) (stand : Stand) (why : ExprWhy) → length text ≤ 1024 → run kind Between (take 1024 text) ≡ Ok stand → end_of stand ≡ Some why → StopsAt kind text (length text) why
stops_at_end kind text stand why low reached ends =
    record {
      stand = stand;
      inside = omega arith;
      reached = ap (run kind Between) (take_all (length text) text (omega arith) ∙ sym (take_all 1024 text low)) ∙ reached;
      stopped = ap (why_at kind stand) (slice_get_past text (length text) (omega arith)) ∙ ends;
    }

-- a fault that is handed on is the fault that was found
pub hand_on : {T S : Type 0} (found fault : ExprFault) (one : Result S ExprFault) (other : Result T ExprAnswer) {P : Type 0} → one ≡ Err found → other ≡ Err (Bad found) → (one ≡ Err fault) ↔ P → (other ≡ Err (Bad fault)) ↔ P
hand_on found fault one other is handed both =
    (λ e. both.0 (let same : found ≡ fault = cc in is ∙ ap Err same), λ p. let found_is = both.1 p in cc)

-- and where none was found there is none
pub no_fault : {S P : Type 0} (one : Result S ExprFault) (value : S) (fault : ExprFault) → one ≡ Ok value → (one ≡ Err fault) ↔ P → P → ⊥
no_fault one value fault is both p = let bad = both.1 p in cc
