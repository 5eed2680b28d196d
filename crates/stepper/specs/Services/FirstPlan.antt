-- The plan of a query's first event.
use Rattle.std.specs.Prelude.{ℕ}
use Rattle.records.specs.Writing.Plan.{nothing}
use Rattle.records.specs.declared.plan.Lead.TheVariants.{Bare}
use Rattle.records.specs.declared.plan.Stack.{Stack}
use Rattle.records.specs.declared.plan.Plan.{Plan}

-- a stack with nothing on it
abbrev pub no_items : Stack
no_items = record { count = 0; top = nothing; rest = record { from = 0; to = 0 } }

-- call of a query's goal, which ends at `end`, with two empty stacks
abbrev pub first_plan : (end : ℕ) → Plan
first_plan end = record { port = 1; goal = record { lead = Bare; range = record { from = 3; to = end } }; ancestors = no_items; bets = no_items }
