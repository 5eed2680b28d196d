-- What stands at a position: some bytes from there to an end, or two things one after the other; and the head of a tree.
use Rattle.std.specs.Prelude.{ℕ, ◌+◌, ◌≡◌, List, ◌++◌, length, drop, Option, Some}
use Rattle.records.specs.Format.Syntax.{Term, Goal, Ancestor, Bet, arity}
use Rattle.records.specs.Format.Syntax.Term.{var, app}
use Rattle.records.specs.Format.Syntax.Goal.{truth, failure, equal, conj, disj, atom}
use Rattle.records.specs.Format.Syntax.Ancestor.{called, in_conj, in_disj}
use Rattle.records.specs.Format.Syntax.Bet.{unifier, or, by}
use Rattle.records.specs.Format.Encode.{tag}
use Rattle.records.specs.declared.heads.TermHead.{TermHead}
use Rattle.records.specs.declared.heads.TermHead.TheVariants.{Variable, Symbol}
use Rattle.records.specs.declared.heads.GoalHead.{GoalHead}
use Rattle.records.specs.declared.heads.GoalHead.TheVariants.{Truth, Failure, Equal, Conj, Disj, Atom}
use Rattle.records.specs.declared.heads.AncestorHead.{AncestorHead}
use Rattle.records.specs.declared.heads.AncestorHead.TheVariants.{Called, InConj, InDisj}
use Rattle.records.specs.declared.heads.BetHead.{BetHead}
use Rattle.records.specs.declared.heads.BetHead.TheVariants.{Unifier, Or, By}

-- the bytes x stand at `at` of s and end at e
pub record Stands (s : List ℕ) (at : ℕ) (x : List ℕ) (e : ℕ) : Type 0 where
  pub end : e ≡ at + length x
  pub bytes : drop at s ≡ x ++ drop e s

-- the head of a tree
abbrev pub head_of_term : Term → Option TermHead
head_of_term (var v) = Some (Variable v)
head_of_term (app f ts) = Some (Symbol f (arity ts))

abbrev pub head_of_goal : Goal → Option GoalHead
head_of_goal truth = Some Truth
head_of_goal failure = Some Failure
head_of_goal (equal t u) = Some Equal
head_of_goal (conj a b) = Some Conj
head_of_goal (disj a b) = Some Disj
head_of_goal (atom p ts) = Some (Atom p (arity ts))

abbrev pub head_of_ancestor : Ancestor → Option AncestorHead
head_of_ancestor (called p ts) = Some (Called p (arity ts))
head_of_ancestor (in_conj h a b) = Some (InConj (tag h))
head_of_ancestor (in_disj h a b) = Some (InDisj (tag h))

abbrev pub head_of_bet : Bet → Option BetHead
head_of_bet (unifier bs) = Some (Unifier (length bs))
head_of_bet (or h) = Some (Or (tag h))
head_of_bet (by g) = Some By

-- two things one after the other, behind a head of its own bytes
pub record Both (s : List ℕ) (at : ℕ) (x y : List ℕ) (e : ℕ) : Type 0 where
  pub one : Stands s at x (at + length x)
  pub other : Stands s (at + length x) y e
