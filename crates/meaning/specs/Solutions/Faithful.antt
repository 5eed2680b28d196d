-- What the theorems ask of a machine: its unifiers are the most general ones and its bodies are made from the program's definitions (`Faithful`); and, for
-- `reached_whole` alone, locals are new: none of the numbers that a body gets for its locals stands in the event that calls its atom (`New`).
use Rattle.std.specs.Prelude.{◌≡◌, List, ℕ}
use Rattle.std.proofs.Math.Option.{none}
use Rattle.records.specs.Format.Syntax.{Term, Terms, Goal, Ancestor, Bet, Definition, arity}
use Rattle.records.specs.Gate.RecordRules.{terms_variables}
use Rattle.terms.specs.Theory.Outcome.{Meant}
use Rattle.terms.specs.Body.Body.{ancestors_variables, bets_variables, definition_of, undefined, defined}
use Rattle.terms.specs.Body.BodyLaws.{MadeFrom}
use Rattle.terms.specs.Body.BetVariablesLaws.{Below}
use Rattle.stepper.specs.Rules.Machine.{Machine}

-- the numbers from m on stand nowhere in the event that calls an atom with the arguments ts: not in its goal, its ancestors or its bets
pub record NewFrom (m : ℕ) (ts : Terms) (u : List Ancestor) (s : List Bet) : Type 0 where
  pub arguments : Below m (terms_variables ts)
  pub ancestors : Below m (ancestors_variables u)
  pub bets : Below m (bets_variables s)

module _ (P : List Definition) (M : Machine) where
  pub record Faithful : Type 0 where
    pub unifies : (s : List Bet) (l r : Term) → Meant s l r (M.unify s l r)
    pub made : (p : ℕ) (ts : Terms) (u : List Ancestor) (s : List Bet) (g : Goal) → M.body p ts u s ≡ defined g → (m : ℕ) × MadeFrom P p ts m g
    pub missing : (p : ℕ) (ts : Terms) (u : List Ancestor) (s : List Bet) → M.body p ts u s ≡ undefined → definition_of P p (arity ts) ≡ none

  -- locals are new: those of each body are numbered from a number on that is new at its call
  pub record New (f : Faithful) : Type 0 where
    pub new : (p : ℕ) (ts : Terms) (u : List Ancestor) (s : List Bet) (g : Goal) (e : M.body p ts u s ≡ defined g) → NewFrom (f.made p ts u s g e).0 ts u s
