-- Call of an equality, and fail of one read back: the same step to other ports.
use Rattle.std.specs.Prelude.{◌≡◌, false, List, ◌∷◌, ℕ}
use Rattle.records.specs.Format.Syntax.{Term, equal, Ancestor, Bet, unifier, Port, event}
use Rattle.records.specs.Gate.Gate.{tree, read_event}
use Rattle.terms.specs.Theory.Outcome.{unified_under}
use Rattle.stepper.specs.Rules.Machine.{StepOutcome}
use Rattle.stepper.specs.Rules.Rules.{by_unifier, limited_by}
use Rattle.stepper.specs.Services.Services.{record_limit}
use Rattle.stepper.specs.Plans.View.{event_view}
use Rattle.stepper.specs.declared.view.View.{View}

-- an equality goes to one port if its terms have no unifier, else to another with the unifier put on S
unfoldable pub settled_equality : (clash_port found_port : Port) → Term → Term → List Ancestor → List Bet → StepOutcome
unfolding limited_by by_unifier
settled_equality p q l r u s = limited_by record_limit false (by_unifier (unified_under s l r) (event p (equal l r) u s) (λ m. event q (equal l r) u (unifier m ∷ s)))

-- an accepted event whose goal is an equality, and its view
pub record EqualityViewed (s : List ℕ) (v : View) : Type 0 where
  pub port : Port
  pub left : Term
  pub right : Term
  pub ancestors : List Ancestor
  pub bets : List Bet
  pub reads : read_event s ≡ tree (event port (equal left right) ancestors bets)
  pub same : v ≡ event_view (event port (equal left right) ancestors bets)
