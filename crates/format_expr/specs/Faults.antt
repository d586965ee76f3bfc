-- Words of public clauses: where and why a text is no expression; the place is the length of its longest front with which some expression begins.
use Rattle.std.specs.Prelude.{◌≡◌, ℕ, ◌+◌, ◌-◌, ◌*◌, ◌<◌, ◌≤◌, ◌∷◌, [], ◌++◌, ◌⊎◌, List, length, take, Bool, not, false, ◌&&◌, ◌||◌, ◌==◌, nat_lt, codes}
use Rattle.std.specs.Prelude.{Option, Some, None, IsTrue, slice_get}
use Rattle.format_expr.specs.declared.token.Part.{Part}
use Rattle.format_expr.specs.declared.token.Token.{Token}
use Rattle.format_expr.specs.declared.fault.ExprWhy.{ExprWhy}
use Rattle.format_expr.specs.declared.fault.ExprWhy.TheVariants.{UnknownToken, WrongClass, BadWidth, LoneAt, ControlByte, TooLong}
use Rattle.format_expr.specs.declared.fault.ExprFault.{ExprFault}
use Rattle.ais_values.specs.declared.kind.StreamKind.{StreamKind}
use Rattle.format_expr.specs.Tokens.{letters}
use Rattle.format_expr.specs.Language.{IsExpression, is_class, is_class_of, is_digit, takes_digit, token_spelling}

-- some expression of the kind begins with these bytes
abbrev pub Begins : StreamKind → List ℕ → Type 0
Begins kind front = (rest : List ℕ) × IsExpression kind (front ++ rest)

abbrev pub EndsIn : List ℕ → List ℕ → Type 0
EndsIn end front = (before : List ℕ) × (front ≡ before ++ end)

-- there is a next byte, and it passes
abbrev pub is_next : (ℕ → Bool) → Option ℕ → Bool
is_next test None = false
is_next test (Some byte) = test byte

-- there is no next byte, or no token of the class has it as its field letter
abbrev pub IsNoField : ℕ → Option ℕ → Type 0
IsNoField class None = Unit {0}
IsNoField class (Some field) = (part : Part) → letters part ≡ class ∷ field ∷ [] → ⊥

-- a digit that makes no width of this one: a zero at its front, or one with which it passes 255
abbrev pub spoils : Option ℕ → ℕ → Bool
spoils None byte = byte == 48
spoils (Some width) byte = is_digit byte && nat_lt 255 (width * 10 + (byte - 48))

-- why no expression goes on behind the front with the next byte, or ends there
abbrev pub StopsFor : StreamKind → List ℕ → Option ℕ → ExprWhy → Type 0
StopsFor kind front next LoneAt = EndsIn (codes "@") front × IsTrue (not (is_next is_class next))
StopsFor kind front next WrongClass =
    EndsIn (codes "@") front × IsTrue (is_next is_class next) × IsTrue (not (is_next (is_class_of kind) next))
StopsFor kind front next UnknownToken = (class : ℕ) × EndsIn (64 ∷ class ∷ []) front × IsNoField class next
StopsFor kind front next BadWidth =
    (token : Token) × EndsIn (token_spelling token) front × IsTrue (takes_digit token.width) × IsTrue (is_next (spoils token.width) next)
StopsFor kind front next ControlByte =
    IsExpression kind front × IsTrue (is_next (λ byte. nat_lt byte 32 || nat_lt 126 byte) next)
StopsFor kind front next TooLong = ⊥

-- a reason stands at a place of the text
pub record HasFault (kind : StreamKind) (text : List ℕ) (place : ℕ) (why : ExprWhy) : Type 0 where
  pub inside : place ≤ length text
  pub begins : Begins kind (take place text)
  pub longest : place < length text → Begins kind (take (place + 1) text) → ⊥
  pub reason : StopsFor kind (take place text) (slice_get text place) why

-- the fault of a text: the reason at its place; but of a text of more than 1,024 bytes only a reason below 1,024, and else its length
abbrev pub IsFault : StreamKind → List ℕ → ExprFault → Type 0
IsFault kind text fault =
    (HasFault kind text fault.place fault.why × ((length text ≤ 1024) ⊎ (fault.place < 1024)))
    ⊎ ((fault.why ≡ TooLong) × (fault.place ≡ 1024) × (1024 < length text)
    × ((place : ℕ) (why : ExprWhy) → HasFault kind text place why → 1024 ≤ place))

-- the word of a reason
abbrev pub word_of : ExprWhy → List ℕ
word_of UnknownToken = codes "UnknownToken"
word_of WrongClass = codes "WrongClass"
word_of BadWidth = codes "BadWidth"
word_of LoneAt = codes "LoneAt"
word_of ControlByte = codes "ControlByte"
word_of TooLong = codes "TooLong"
