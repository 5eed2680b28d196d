-- Laws of the digest: by one byte, along a loop over bytes, and of one part after another.
use Rattle.std.specs.Prelude.{◌≡◌, ℕ, ◌+◌, ◌<◌, ◌≤◌, List, ◌++◌, length, drop, ◌≢◌, slice_index}
use Rattle.std.proofs.Common.{sym, ◌∙◌, add-one, ne_eqb, drop_of_length-le, drop-cons}
use Rattle.std.proofs.lemmas.List.Sums.{fold-append}
use Rattle.case_io.specs.declared.digest.Digest.{Digest}
use Rattle.case_io.specs.Digest.{line_ends, digest_more, digest_from}

module _ (b : ℕ) where
  pub line_ends_one : b ≡ 0x0A → 1 ≡ line_ends b
  line_ends_one h = rw h

  pub line_ends_none : (b ≢ 0x0A) → 0 ≡ line_ends b
  line_ends_none h = rw (ne_eqb b 0x0A h)

digest_next : (bytes : List ℕ) (i : ℕ) (d : Digest) → i < length bytes
    → digest_from d (drop i bytes) ≡ digest_from (digest_more d (slice_index bytes i)) (drop (i + 1) bytes)
digest_next bytes i d h = rw (add-one i, drop-cons bytes i 0 h)

-- along a loop over bytes: one byte more, and all
module _ (bytes : List ℕ) (i : ℕ) (d : Digest) {whole : Digest} where
  pub digest_turn : {e : Digest} → i < length bytes → e ≡ digest_more d (slice_index bytes i) → digest_from d (drop i bytes) ≡ whole
      → digest_from e (drop (i + 1) bytes) ≡ whole
  digest_turn h q inv = rw q (sym (digest_next bytes i d h) ∙ inv)

  pub digest_done : length bytes ≤ i → digest_from d (drop i bytes) ≡ whole → d ≡ whole
  digest_done h inv = rw (drop_of_length-le bytes h) at inv

pub digest_append : (d : Digest) (a b : List ℕ) → digest_from d (a ++ b) ≡ digest_from (digest_from d a) b
digest_append d a b = fold-append digest_more d a b
