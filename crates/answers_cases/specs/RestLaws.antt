-- Laws of the bytes that are as they were lent, along a loop over bytes: one more, the first that is not, and all.
use Rattle.std.specs.Prelude.{◌≡◌, true, false, List, ℕ, suc, ◌+◌, ◌<◌, ◌≤◌, eqb, length, drop, get_or}
use Rattle.std.proofs.Common.{add-one, arith, drop_of_length-le}
use Rattle.std.proofs.Math.Seq.{drop-cons}
use Rattle.answers_cases.specs.Rest.{as_lent}

module _ (bytes : List ℕ) (i : ℕ) where
  lent_next : i < length bytes → eqb (get_or bytes i 0) 0xA5 ≡ true → as_lent (drop i bytes) ≡ suc (as_lent (drop (i + 1) bytes))
  lent_next h e = let q : as_lent (drop i bytes) ≡ 1 + as_lent (drop (i + 1) bytes) = rw (add-one i, drop-cons bytes i 0 h, e) in omega (arith, q)

  lent_first : i < length bytes → eqb (get_or bytes i 0) 0xA5 ≡ false → as_lent (drop i bytes) ≡ 0
  lent_first h e = rw (drop-cons bytes i 0 h, e)

  lent_none : length bytes ≤ i → as_lent (drop i bytes) ≡ 0
  lent_none h = rw (drop_of_length-le bytes h)

  module _ {whole : ℕ} (inv : i + as_lent (drop i bytes) ≡ whole) where
    pub lent_turn : i < length bytes → eqb (get_or bytes i 0) 0xA5 ≡ true → i + 1 + as_lent (drop (i + 1) bytes) ≡ whole
    lent_turn h e = omega (arith, lent_next h e, inv)

    pub lent_stops : i < length bytes → eqb (get_or bytes i 0) 0xA5 ≡ false → i ≡ whole
    lent_stops h e = omega (arith, lent_first h e, inv)

    pub lent_done : length bytes ≤ i → i ≡ whole
    lent_done h = omega (arith, lent_none h, inv)
