-- Which words ask for what.
use Rattle.std.proofs.Common.{◌≡◌, ℕ, inl, inr, List, Option, Some, None, refl, sym, ◌∙◌}
use Rattle.commands.specs.declared.command.Command.{Command}
use Rattle.commands.specs.declared.command.Command.TheVariants.{Run, Check, Cold, Recover, Trio, Expr, Gen, Load, Scan}
use Rattle.commands.specs.Commands.{command_of}
use Rattle.aisrun.specs.Colds.{AsksApart}

once : (words : List (List ℕ)) (one other : Command) → command_of words ≡ Some one → command_of words ≡ Some other → one ≡ other
once words one other first second = let same : Some one ≡ Some other = sym first ∙ second in cc

-- words of another command
pub others : (words : List (List ℕ)) (one : Command) → (one ≡ Trio → ⊥) → (one ≡ Cold → ⊥) → (one ≡ Recover → ⊥) → command_of words ≡ Some one → AsksApart words → ⊥
others words one trio cold recover is (inl asks) = trio (once words one Trio is asks)
others words one trio cold recover is (inr (inl asks)) = cold (once words one Cold is asks)
others words one trio cold recover is (inr (inr asks)) = recover (once words one Recover is asks)

-- or of none
pub unknown : (words : List (List ℕ)) → command_of words ≡ None → AsksApart words → ⊥
unknown words is (inl asks) = let differ : None ≡ Some Trio = sym is ∙ asks in absurd cc
unknown words is (inr (inl asks)) = let differ : None ≡ Some Cold = sym is ∙ asks in absurd cc
unknown words is (inr (inr asks)) = let differ : None ≡ Some Recover = sym is ∙ asks in absurd cc

-- the world that a command is for, if it is for one apart
pub data Which (asked : Option Command) : Type 0 where
  ForThree : asked ≡ Some Trio → Which asked
  ForCold : asked ≡ Some Cold → Which asked
  ForRecover : asked ≡ Some Recover → Which asked
  ForNone : (asked ≡ Some Trio → ⊥) → (asked ≡ Some Cold → ⊥) → (asked ≡ Some Recover → ⊥) → Which asked

pub which : (asked : Option Command) → Which asked
which None = ForNone (λ e. cc) (λ e. cc) (λ e. cc)
which (Some Run) = ForNone (λ e. cc) (λ e. cc) (λ e. cc)
which (Some Check) = ForNone (λ e. cc) (λ e. cc) (λ e. cc)
which (Some Cold) = ForCold refl
which (Some Recover) = ForRecover refl
which (Some Trio) = ForThree refl
which (Some (Expr kind)) = ForNone (λ e. cc) (λ e. cc) (λ e. cc)
which (Some (Gen count seed)) = ForNone (λ e. cc) (λ e. cc) (λ e. cc)
which (Some (Load count seed)) = ForNone (λ e. cc) (λ e. cc) (λ e. cc)
which (Some (Scan query)) = ForNone (λ e. cc) (λ e. cc) (λ e. cc)
