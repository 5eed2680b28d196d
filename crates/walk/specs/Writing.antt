-- What was printed: the bytes that calls of the C library took, one call after the other. No logic here sees a call, so these words are a reading of the
-- code and no theorem about an output: `Output` holds of every text for whoever cites `handed` (see `docs/DECISIONS.md`).
use Rattle.std.specs.Prelude.{◌≡◌, Bool, true, false, List, [], ◌++◌, ℕ}

-- a call was handed these bytes, and answered whether it took all; shut, to show where the bytes went
pub Handed : List ℕ → (all : Bool) → Type 0
Handed bytes all = Unit {0}

-- to be cited by the proof of the one function that makes the call
pub handed : (bytes : List ℕ) (all : Bool) → Handed bytes all
unfolding Handed
handed bytes all = tt

pub data Printed : List ℕ → Type 0 where
  nothing : Printed []
  and_then : {bytes : List ℕ} (more : List ℕ) → Printed bytes → Handed more true → Printed (bytes ++ more)

-- a text was printed whole, or up to the first bytes that a call did not take
pub data Output (text : List ℕ) : (whole : Bool) → Type 0 where
  all_of : Printed text → Output text true
  up_to : {bytes : List ℕ} (part later : List ℕ) → Printed bytes → Handed part false → text ≡ bytes ++ (part ++ later) → Output text false
