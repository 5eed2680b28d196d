-- Laws of the bytes of an equation: how many they are, and how they are written.
use Rattle.std.specs.Prelude.{◌≡◌, List, [], ◌∷◌, ℕ, ◌+◌, length}
use Rattle.std.proofs.Common.{arith}
use Rattle.records.specs.Format.Syntax.Term.{var}
use Rattle.records.specs.Format.Encode.{term_bytes}
use Rattle.records.specs.Writing.Patched.{Put}
use Rattle.records.specs.Writing.PatchedLaws.{put_then}
use Rattle.canonical.specs.Writing.Equation.{equation}

-- an equation is its two kind bytes, its variable and its term, one after the other
pub equation_length : (x : ℕ) (t : List ℕ) → length (equation x t) ≡ 5 + length t
unfolding equation
equation_length x t = omega arith

pub equation_put : {before one two after t : List ℕ} {at m n end : ℕ} (x : ℕ) → Put before at (0x13 ∷ (0x12 ∷ [])) one m
    → Put one m (term_bytes (var x)) two n → Put two n t after end → Put before at (equation x t) after end
unfolding equation
equation_put x p q v = put_then p (put_then q v)
