-- A list of answers as its bytes, and what is said of it: it is right, and it is whole (SPECIFICATION 9.12).
use Rattle.std.specs.Prelude.{◌≡◌, List, ℕ}
use Rattle.records.specs.Format.Syntax.{Goal}
use Rattle.records.specs.Format.Encode.{each}
use Rattle.records.specs.Format.Formed.{All, Counted, BindingFormed, BetFormed}
use Rattle.records.specs.Gate.RecordRules.{goal_variables}
use Rattle.terms.specs.Theory.Substitution.{Substitution, and_then, as_substitution}
use Rattle.terms.specs.Body.Body.{substitute_goal}
use Rattle.answers.specs.EveryAnswer.{reply}
use Rattle.answers.specs.Form.Answer.{QuerySolution, solution_bytes}
use Rattle.answers.specs.Form.ServiceLaws.{kept_answers}
use Rattle.meaning.specs.Says.Any.{Any}
use Rattle.meaning.specs.Solutions.General.{AsGeneral}

-- the counts, numbers and arities of an answer fit their bytes
abbrev pub SolutionFormed : QuerySolution → Type 0
SolutionFormed x = Counted BindingFormed x.values × Counted BetFormed x.used

-- the bytes are those of these answers, one behind the other; they are those of no other list (`one_reading`)
pub record AnswersRead (b : List ℕ) (xs : List QuerySolution) : Type 0 where
  pub bytes : b ≡ each solution_bytes xs
  pub formed : All SolutionFormed xs

-- the bytes that the answers service keeps, lent these records, n steps and this output, are those of the answers
abbrev pub KeptAre : (program query : List ℕ) → ℕ → (out : List ℕ) → List QuerySolution → Type 0
KeptAre program query n out xs = AnswersRead (kept_answers (reply program query n out)) xs

-- `Said` is what the rules say: `Holds P` or `Follows cs`
module _ (Said : Goal → Type 0) (q : Goal) where
  -- right: the query holds under the answer's values, however the variables that stay free are filled
  abbrev pub RightAnswer : QuerySolution → Type 0
  RightAnswer x = (ρ : Substitution) → Said (substitute_goal (and_then (as_substitution x.values) ρ) q)

  -- whole: for each substitution under which the query holds, one of the answers is at least as general at the query's variables
  abbrev pub WholeList : List QuerySolution → Type 0
  WholeList xs = (θ : Substitution) → Said (substitute_goal θ q) → Any (λ x. AsGeneral (goal_variables q) θ (as_substitution x.values)) xs
