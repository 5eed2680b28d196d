-- The answer at an exit whose bets are well formed is well formed: its counts, numbers and arities fit their bytes.
use Rattle.std.specs.Prelude.{◌≡◌, List, [], ◌∷◌, ℕ, ◌≤◌, ◌<◌, length}
use Rattle.std.proofs.Common.{sym, subst, arith, length-append}
use Rattle.records.specs.Format.Encode.{goal_bytes}
use Rattle.records.specs.Format.Formed.{All, Counted, GoalFormed, BindingFormed, BetFormed}
use Rattle.records.specs.Format.Syntax.{Goal, var, Bet, unifier, or, by}
use Rattle.records.specs.Gate.Reply.{gives}
use Rattle.terms.specs.Theory.FormedLaws.{apply_formed}
use Rattle.answers.specs.Form.Answer.{query_variables, used_of, QuerySolution, solution}
use Rattle.answers.specs.Form.AnswerLaws.{solution_given}
use Rattle.answers.specs.Writing.MarkedLaws.{all_append, variables_formed, variables_few}
use Rattle.answers.specs.Writing.SolvedLaws.{pairs_length}
use Rattle.answers.specs.Writing.Values.{value_pairs}
use Rattle.meaning.specs.Answers.Reading.{SolutionFormed}
use Rattle.meaning.proofs.ListLaws.{values_are}

-- what was used is among the bets,
used_formed : (s : List Bet) → All BetFormed s → All BetFormed (used_of s)
used_formed [] h = tt
used_formed (unifier σ ∷ s) h = used_formed s h.1
used_formed (or n ∷ s) h = all_append BetFormed (used_of s) (or n ∷ []) (used_formed s h.1) (tt, tt)
used_formed (by g ∷ s) h = all_append BetFormed (used_of s) (by g ∷ []) (used_formed s h.1) (h.0, tt)

used_few : (s : List Bet) → length (used_of s) ≤ length s
used_few [] = omega arith
used_few (unifier σ ∷ s) = let k = used_few s in omega arith
used_few (or n ∷ s) = let k = used_few s in omega (arith, length-append (used_of s) (or n ∷ []))
used_few (by g ∷ s) = let k = used_few s in omega (arith, length-append (used_of s) (by g ∷ []))

-- and values are terms under them
pairs_formed : (s : List Bet) (vs : List ℕ) → All BetFormed s → All (λ v. v < 65536) vs → All BindingFormed (value_pairs s vs)
pairs_formed s [] h k = tt
pairs_formed s (v ∷ vs) h (l, k) = ((l, apply_formed s (var v) h l), pairs_formed s vs h k)

-- an answer at an exit whose bets are well formed
pub solution_formed : (q : Goal) (s : List Bet) (x : QuerySolution) → GoalFormed q → length (goal_bytes q) ≤ 32768 → Counted BetFormed s → solution q s ≡ gives x
    → SolutionFormed x
solution_formed q s x f l (few, h) e =
    let vs = query_variables q in
    let short : length (value_pairs s vs) < 65536 = omega (arith, pairs_length s vs, variables_few q) in (
      subst (Counted BindingFormed) (sym (values_are q s x e)) (short, pairs_formed s vs h (variables_formed q f)),
      subst (Counted BetFormed) (solution_given q s x e).1 (omega (arith, used_few s), used_formed s h),
    )
