-- Call of an atom, and fail of one read back: the same step to other ports.
use Rattle.std.specs.Prelude.{◌≡◌, false, List, ◌∷◌, ℕ}
use Rattle.records.specs.Format.Syntax.{Terms, atom, Ancestor, called, Bet, Port, event, Definition}
use Rattle.records.specs.Gate.Gate.{tree, read_program, read_event}
use Rattle.terms.specs.Body.Body.{body}
use Rattle.terms.specs.declared.variables.Frame.{Frame}
use Rattle.stepper.specs.Rules.Machine.{StepOutcome}
use Rattle.stepper.specs.Rules.Rules.{by_body, limited_by}
use Rattle.stepper.specs.Services.Services.{record_limit}
use Rattle.stepper.specs.Plans.View.{event_view}
use Rattle.stepper.specs.declared.view.View.{View}

-- an atom stays, with another port, if it has no definition, else its body is reached under it
unfoldable pub settled_atom : List Definition → (undefined_port defined_port : Port) → ℕ → Terms → List Ancestor → List Bet → StepOutcome
unfolding limited_by by_body
settled_atom P p q k ts u s = limited_by record_limit false (by_body (body P k ts u s) (event p (atom k ts) u s) (λ g. event q g (called k ts ∷ u) s))

-- an accepted program
pub record ProgramRead (program : List ℕ) : Type 0 where
  pub definitions : List Definition
  pub reads : read_program program ≡ tree definitions

-- an accepted event whose goal is an atom, and its view
pub record AtomViewed (s : List ℕ) (v : View) : Type 0 where
  pub port : Port
  pub predicate : ℕ
  pub terms : Terms
  pub ancestors : List Ancestor
  pub bets : List Bet
  pub reads : read_event s ≡ tree (event port (atom predicate terms) ancestors bets)
  pub same : v ≡ event_view (event port (atom predicate terms) ancestors bets)

-- the frame of that atom
abbrev pub goal_frame : View → Frame
goal_frame v = record {
  goal = v.goal.from;
  ancestors = v.ancestors.from;
  depth = v.ancestors.count;
  bets = v.bets.from;
  height = v.bets.count;
}
