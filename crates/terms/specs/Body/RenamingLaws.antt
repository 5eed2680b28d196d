-- Laws of renaming: what the one writer leaves of it.
use Rattle.std.specs.Prelude.{◌≡◌, refl, List, [], ◌∷◌, ◌++◌, ℕ, ◌+◌, ◌-◌, ◌≤◌, length, take, drop, Some, None}
use Rattle.std.proofs.Common.{arith}
use Rattle.records.specs.Format.Syntax.Terms.{nil}
use Rattle.records.specs.Writing.Patched.{Put}
use Rattle.records.specs.Writing.PatchedLaws.{put_tail}
use Rattle.records.specs.Ends.Traversal.{Traversal}
use Rattle.terms.specs.Body.Body.{numbered}
use Rattle.terms.specs.Body.Arguments.{ArgumentTable, term_places}
use Rattle.terms.specs.Body.Renaming.{renamed}
use Rattle.terms.specs.Values.NodeBytes.{traversal_bytes}
use Rattle.terms.specs.Values.Fitted.{Fitted}
use Rattle.terms.specs.Values.FittedLaws.{tail_length}
use Rattle.terms.specs.Values.Sized.{Sized}

-- without arguments
pub no_places : (0 ∷ []) ≡ term_places 0 nil
unfolding term_places
no_places = refl

abbrev pub no_arguments : (s : List ℕ) → ArgumentTable s 0 (0 ∷ [])
no_arguments s = record { listed = record { terms = nil; many = refl; at = 0; places = no_places }; end = 0; stands = record { end = refl; bytes = refl } }

-- renamed by the one writer, into the part of an output from a place on that has room for it
module _ (m : ℕ) (w : Traversal) (before : List ℕ) (at : ℕ) (h : at + length (renamed m w) ≤ length before) {tail : List ℕ} {r : Sized} (f : Fitted (take (length before - at) (drop at before)) (traversal_bytes (numbered nil m) w) tail r) where
  pub renamed_within : {n : ℕ} → r ≡ Some n → at + n ≤ length before
  unfolding renamed
  renamed_within e = omega (arith, h, (f.fits e).0.place)

  pub renamed_put : {n : ℕ} → r ≡ Some n → Put before at (renamed m w) (take at before ++ (tail ++ drop (length before - at) (drop at before))) (at + n)
  unfolding renamed
  renamed_put e = put_tail (f.fits e).0

  pub renamed_never : r ≡ None → ⊥
  unfolding renamed
  renamed_never e = absurd (omega (arith, h, tail_length before at, f.large e))
