-- The slices that the code makes of an input.
use Rattle.std.specs.Prelude.{◌≡◌, List, ℕ, ◌≤◌, length, take, drop}
use Rattle.std.proofs.Common.{arith}
use Rattle.walk_text.specs.Input.{taken}
use Rattle.walk_text.specs.InputLaws.{taken_length, taken_front}
use Rattle.walk_text.specs.Text.{text, printed}

pub taken_within : (s : List ℕ) {n : ℕ} → n ≡ length (taken s) → n ≤ length s
taken_within s is = omega (arith, is, taken_length s)

-- the slices that the code makes of an input are those of its text
pub printed_slices : (s : List ℕ) {n : ℕ} → n ≡ length (taken s) → text (take n s) (taken (drop n s)) ≡ printed s
unfolding printed
printed_slices s is = rw (taken_front s is, is)
