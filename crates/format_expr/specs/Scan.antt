-- Words of bodies, and of definitions above this crate: the automaton that reads expressions, where it stands after each byte, and why it stops.
use Rattle.std.specs.Prelude.{◌≡◌, ℕ, ◌+◌, ◌-◌, ◌*◌, ◌≤◌, ◌∷◌, [], List, length, take, ◌&&◌, ◌||◌, ◌==◌, nat_lt, if◌then◌else◌, Option, Some, None, Result, Ok}
use Rattle.std.specs.Prelude.{Err, Bool, false, is_some, is_none, slice_get}
use Rattle.std.specs.Result.{result_err}
use Rattle.format_expr.specs.declared.check.Stand.{Stand}
use Rattle.format_expr.specs.declared.check.Stand.TheVariants.{Between, At, Class, Width}
use Rattle.format_expr.specs.declared.fault.ExprWhy.{ExprWhy}
use Rattle.format_expr.specs.declared.fault.ExprWhy.TheVariants.{UnknownToken, WrongClass, BadWidth, LoneAt, ControlByte}
use Rattle.ais_values.specs.declared.kind.StreamKind.{StreamKind}
use Rattle.format_expr.specs.Tokens.{part_with}
use Rattle.format_expr.specs.Language.{is_plain, is_digit, is_class, is_class_of}

-- between pieces, or in a plain one
abbrev pub plain_step : ℕ → Result Stand ExprWhy
plain_step byte = if byte == 64 then Ok At else (if is_plain byte then Ok Between else Err ControlByte)

-- behind `@`
abbrev pub class_step : StreamKind → ℕ → Result Stand ExprWhy
class_step kind byte =
    if is_class_of kind byte then Ok (Class byte) else (if is_class byte then Err WrongClass else Err LoneAt)

-- behind a class letter
abbrev pub field_step : ℕ → ℕ → Result Stand ExprWhy
field_step class byte = if is_some (part_with class byte) then Ok (Width 0) else Err UnknownToken

-- one more digit of a width, which is 0 before its first
abbrev pub width_step : ℕ → ℕ → Result Stand ExprWhy
width_step width digit =
    if (width == 0 && digit == 0) || nat_lt 255 (width * 10 + digit) then Err BadWidth
    else (if nat_lt (width * 10 + digit) 100 then Ok (Width (width * 10 + digit)) else Ok Between)

abbrev pub step_of : StreamKind → Stand → ℕ → Result Stand ExprWhy
step_of kind Between byte = plain_step byte
step_of kind At byte = class_step kind byte
step_of kind (Class class) byte = field_step class byte
step_of kind (Width width) byte = if is_digit byte then width_step width (byte - 48) else plain_step byte

-- why a text may not end there
abbrev pub end_of : Stand → Option ExprWhy
end_of Between = None
end_of At = Some LoneAt
end_of (Class class) = Some UnknownToken
end_of (Width width) = None

-- why the automaton stops, at the next byte or at the end
abbrev pub why_at : StreamKind → Stand → Option ℕ → Option ExprWhy
why_at kind stand None = end_of stand
why_at kind stand (Some byte) = result_err (step_of kind stand byte)

abbrev pub after : {A B E : Type 0} → Result A E → (A → Result B E) → Result B E
after (Ok value) next = next value
after (Err error) next = Err error

-- where it stands after these bytes
abbrev pub run : StreamKind → Stand → List ℕ → Result Stand ExprWhy
run kind stand [] = Ok stand
run kind stand (byte ∷ bytes) = after (step_of kind stand byte) (λ next. run kind next bytes)

-- it comes to the place, and stops there for this reason
pub record StopsAt (kind : StreamKind) (text : List ℕ) (place : ℕ) (why : ExprWhy) : Type 0 where
  pub stand : Stand
  pub inside : place ≤ length text
  pub reached : run kind Between (take place text) ≡ Ok stand
  pub stopped : why_at kind stand (slice_get text place) ≡ Some why

-- whether a text may end where the reading stands
abbrev pub may_end : Result Stand ExprWhy → Bool
may_end (Ok stand) = is_none (end_of stand)
may_end (Err why) = false

-- a test that computes of whether a text is an expression of the kind
unfoldable pub is_expression : StreamKind → List ℕ → Bool
is_expression kind text = may_end (run kind Between text)
