-- What a list of answers says of the walk: which answers it has, and at which of the walk's exits each is told.
use Rattle.std.specs.Prelude.{◌≡◌, List, [], ◌∷◌, ◌++◌}
use Rattle.records.specs.Format.Encode.{each}
use Rattle.records.specs.Format.Syntax.{Goal, Bet, Event}
use Rattle.records.specs.Gate.Reply.{gives}
use Rattle.answers.specs.Form.Answer.{QuerySolution, solution_bytes, solution}
use Rattle.answers.specs.Form.Answers.{Written}
use Rattle.answers.specs.Form.Continued.{answer_exits}

-- each answer is that of q at the exit with the bets in the same place
abbrev pub ToldAt : Goal → List (List Bet) → List QuerySolution → Type 0
ToldAt q [] [] = Unit {0}
ToldAt q [] (x ∷ xs) = ⊥
ToldAt q (s ∷ ss) [] = ⊥
ToldAt q (s ∷ ss) (x ∷ xs) = (solution q s ≡ gives x) × ToldAt q ss xs

-- what is written of a walk: the bytes of its answers, told at its exits one after another from the first on, and at all of them unless 8 or 10 refused
-- something
pub record ToldAnswers (q : Goal) (walk : List Event) (w : Written) : Type 0 where
  pub found : List QuerySolution
  pub exits : List (List Bet)
  pub later : List (List Bet)
  pub bytes_are : w.bytes ≡ each solution_bytes found
  pub exits_are : answer_exits q walk ≡ exits ++ later
  pub told : ToldAt q exits found
  pub all_told : (w.number ≡ 8 → ⊥) → (w.number ≡ 10 → ⊥) → later ≡ []
