-- The values of variables as code works them out: how long they are as pairs, and the pairs that are written.
use Rattle.std.specs.Prelude.{◌≡◌, List, [], ◌∷◌, ℕ, ◌+◌, ◌≤◌, length, Some, None}
use Rattle.std.proofs.Math.Option.{Option, none, some}
use Rattle.records.specs.Format.Syntax.{Binding, bind, Bet}
use Rattle.records.specs.Format.Encode.{each, binding_bytes}
use Rattle.terms.specs.Theory.Outcome.{value}
use Rattle.terms.specs.Values.Entries.{under}
use Rattle.terms.specs.Values.Sized.{Sized}
use Rattle.answers.specs.Form.Answer.{values_of}

-- how long the pairs are, if all values are within the limit
abbrev pub pairs_sized : Option (List Binding) → Sized
pairs_sized none = None
pairs_sized (some l) = Some (length (each binding_bytes l))

-- a variable with what the bets make of it
abbrev pub value_pair : List Bet → ℕ → Binding
value_pair s v = bind v (under s v)

abbrev pub value_pairs : List Bet → List ℕ → List Binding
value_pairs s [] = []
value_pairs s (v ∷ l) = value_pair s v ∷ value_pairs s l

-- the value of v is within the limit, and its pair fits an output of so many bytes at a place
pub record ValuePairFits (s : List Bet) (v at room : ℕ) : Type 0 where
  pub within : value s v ≡ some (under s v)
  pub room_left : at + length (binding_bytes (value_pair s v)) ≤ room

-- the same of all
pub record ValuePairsFit (s : List Bet) (vs : List ℕ) (at room : ℕ) : Type 0 where
  pub within : values_of s vs ≡ some (value_pairs s vs)
  pub room_left : at + length (each binding_bytes (value_pairs s vs)) ≤ room
