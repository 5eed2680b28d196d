-- Events that records can hold: well formed and by the record rules (questions 3 and 4). And what a machine must keep, so that steps lead
-- from such events to such events.
use Rattle.std.specs.Prelude.{◌≡◌, true, List, ℕ, ◌<◌, length}
use Rattle.records.specs.Format.Syntax.{Term, Terms, Goal, Ancestor, Binding, Bet, unifier, Event, event}
use Rattle.records.specs.Format.Formed.{TermFormed, AtomFormed, GoalFormed, All, AncestorFormed, BetFormed, EventFormed}
use Rattle.records.specs.Gate.RecordRules.{bet_rules, event_rules}
use Rattle.terms.specs.Theory.Outcome.{unified}
use Rattle.terms.specs.Body.Body.{defined}
use Rattle.stepper.specs.Rules.Machine.{Machine, Admits, LimitLaws}

-- an event that passes questions 3 and 4
abbrev pub EventSound : Event → Type 0
EventSound e = EventFormed e × (event_rules e ≡ true)

-- a bet that does
abbrev pub BetSound : Bet → Type 0
BetSound b = BetFormed b × (bet_rules b ≡ true)

-- an event whose parts do, whatever the heights of its stacks
abbrev pub PartsSound : Event → Type 0
PartsSound (event p g u s) = GoalFormed g × All AncestorFormed u × All BetSound s

-- the counts of the stacks fit two bytes
abbrev pub CountsFit : Event → Type 0
CountsFit (event p g u s) = (length u < 65536) × (length s < 65536)

-- what a machine must keep
pub record LawfulMachine (M : Machine) : Type 0 where
  -- the unifier of well-formed terms under well-formed bets is well formed and by the record rules
  pub unifier_sound : (s : List Bet) (l r : Term) (m : List Binding) → All BetSound s → TermFormed l → TermFormed r
      → M.unify s l r ≡ unified m → BetSound (unifier m)
  -- the body of a well-formed atom is well formed
  pub body_formed : (p : ℕ) (ts : Terms) (u : List Ancestor) (s : List Bet) (g : Goal) → AtomFormed p ts → All AncestorFormed u → All BetSound s
      → M.body p ts u s ≡ defined g → GoalFormed g
  -- an event of sound parts that is admitted is sound
  pub admitted_sound : (e : Event) → PartsSound e → Admits M e → EventSound e
  pub limits : LimitLaws M
