-- An answer as code writes it: its values are within the limit, its parts are measured, and it fits.
use Rattle.std.specs.Prelude.{◌≡◌, List, ℕ, ◌≤◌, length}
use Rattle.std.proofs.Math.Option.{some}
use Rattle.records.specs.Format.Syntax.{Bet}
use Rattle.answers.specs.Form.Answer.{values_of, used_of, QuerySolution, solution_bytes}
use Rattle.answers.specs.Writing.Values.{value_pairs}
use Rattle.answers.specs.Writing.Used.{used_size}
use Rattle.answers.specs.declared.used.UsedSize.{UsedSize}

-- the answer, where all values are within the limit
abbrev pub solution_of : List ℕ → List Bet → QuerySolution
solution_of vs s = record { values = value_pairs s vs; used = used_of s }

pub record SolutionFits (vs : List ℕ) (s : List Bet) (u : UsedSize) (room : ℕ) : Type 0 where
  pub within : values_of s vs ≡ some (value_pairs s vs)
  pub measured : u ≡ used_size (used_of s)
  pub room_left : length (solution_bytes (solution_of vs s)) ≤ room
