-- Well-formedness: which trees the layout can write. Numbers fit two bytes, arities are at most 16, counts fit two bytes, a clause has at most 64 variables.
use Rattle.std.specs.Prelude.{List, [], ◌∷◌, ℕ, ◌<◌, ◌≤◌, length}
use Rattle.records.specs.Format.Syntax.{Term, Terms, Goal, Ancestor, Binding, Bet, Event, Definition, Clause, arity}
use Rattle.records.specs.Format.Syntax.Term.{var, app}
use Rattle.records.specs.Format.Syntax.Terms.{nil, cons}
use Rattle.records.specs.Format.Syntax.Goal.{truth, failure, equal, conj, disj, atom}
use Rattle.records.specs.Format.Syntax.Ancestor.{called, in_conj, in_disj}
use Rattle.records.specs.Format.Syntax.Binding.{bind}
use Rattle.records.specs.Format.Syntax.Bet.{unifier, or, by}
use Rattle.records.specs.Format.Syntax.Event.{event}
use Rattle.records.specs.Format.Syntax.Definition.{definition}
use Rattle.records.specs.Format.Syntax.Clause.{clause}

abbrev mutual
  pub TermFormed : Term → Type 0
  TermFormed (var v) = v < 65536
  TermFormed (app f ts) = (f < 65536) × (arity ts ≤ 16) × TermsFormed ts

  pub TermsFormed : Terms → Type 0
  TermsFormed nil = Unit {0}
  TermsFormed (cons t ts) = TermFormed t × TermsFormed ts

abbrev pub AtomFormed : ℕ → Terms → Type 0
AtomFormed p ts = (p < 65536) × (arity ts ≤ 16) × TermsFormed ts

abbrev pub GoalFormed : Goal → Type 0
GoalFormed truth = Unit {0}
GoalFormed failure = Unit {0}
GoalFormed (equal t u) = TermFormed t × TermFormed u
GoalFormed (conj a b) = GoalFormed a × GoalFormed b
GoalFormed (disj a b) = GoalFormed a × GoalFormed b
GoalFormed (atom p ts) = AtomFormed p ts

-- each part of a list
abbrev pub All : {A : Type 0} → (A → Type 0) → List A → Type 0
All Φ [] = Unit {0}
All Φ (x ∷ l) = Φ x × All Φ l

-- a list whose count fits two bytes
abbrev pub Counted : {A : Type 0} → (A → Type 0) → List A → Type 0
Counted Φ l = (length l < 65536) × All Φ l

abbrev pub AncestorFormed : Ancestor → Type 0
AncestorFormed (called p ts) = AtomFormed p ts
AncestorFormed (in_conj h a b) = GoalFormed a × GoalFormed b
AncestorFormed (in_disj h a b) = GoalFormed a × GoalFormed b

abbrev pub BindingFormed : Binding → Type 0
BindingFormed (bind v t) = (v < 65536) × TermFormed t

abbrev pub BetFormed : Bet → Type 0
BetFormed (unifier bs) = Counted BindingFormed bs
BetFormed (or h) = Unit {0}
BetFormed (by g) = GoalFormed g

abbrev pub EventFormed : Event → Type 0
EventFormed (event p g u s) = GoalFormed g × Counted AncestorFormed u × Counted BetFormed s

abbrev pub DefinitionFormed : Definition → Type 0
DefinitionFormed (definition p n l g) = (p < 65536) × (n ≤ 16) × (l < 256) × GoalFormed g

abbrev pub ClauseFormed : Clause → Type 0
ClauseFormed (clause p v ts g) = (p < 65536) × (arity ts ≤ 16) × (v ≤ 64) × TermsFormed ts × GoalFormed g
