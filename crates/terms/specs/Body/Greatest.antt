-- The greatest variable of an event, and the part that it is in (SPECIFICATION 4): of bets, goal and ancestors the first that holds it.
-- Choices: which variable is the greatest of all is said first, and then who holds it, so nothing here tells how it is searched for. Parts are taken in
-- the order in which they are asked; their variables together stand in the order of `event_variables`, above which is m.
use Rattle.std.specs.Prelude.{cond, List, ◌++◌, ℕ, zero, suc, Option, Some, None}
use Rattle.records.specs.Format.Syntax.{Goal, Ancestor, Bet}
use Rattle.records.specs.Gate.RecordRules.{goal_variables, member}
use Rattle.records.specs.Ends.Above.{above}
use Rattle.terms.specs.Body.Body.{ancestors_variables, bets_variables}
use Rattle.terms.specs.declared.greatest.Greatest.{Greatest}
use Rattle.terms.specs.declared.greatest.Part.{Part}
use Rattle.terms.specs.declared.greatest.Part.TheVariants.{Bets as InBets, Goal as InGoal, Ancestors as InAncestors}

abbrev pub in_part : Part → ℕ → Option Greatest
in_part p v = Some (record { part = p; variable = v })

-- n is one above the greatest of all, or 0: bets and then goal are asked whether they hold it; if neither does, the ancestors do (`held_first`)
abbrev pub first_holding : ℕ → List ℕ → List ℕ → Option Greatest
first_holding zero bets goal = None
first_holding (suc v) bets goal = cond (member v bets) (in_part InBets v) (cond (member v goal) (in_part InGoal v) (in_part InAncestors v))

-- of the variables of bets, goal and ancestors the greatest, in the first of the three that holds it
unfoldable pub greatest_of : List ℕ → List ℕ → List ℕ → Option Greatest
greatest_of bets goal ancestors = first_holding (above (goal ++ (ancestors ++ bets))) bets goal

-- of an event's goal, ancestors and bets
abbrev pub greatest_variable : Goal → List Ancestor → List Bet → Option Greatest
greatest_variable g ancestors bets = greatest_of (bets_variables bets) (goal_variables g) (ancestors_variables ancestors)

-- the first number above it, 0 where there is none
abbrev pub next_after : Option Greatest → ℕ
next_after None = 0
next_after (Some g) = suc g.variable
