-- Cases by ordinal, run one after another.
use Rattle.std.specs.Prelude.{ℕ, zero, suc, ◌+◌, Option, None, Some, is_some, true, false, ⊤, ◌⊎◌, ◌≡◌}
use Rattle.std.proofs.Common.{inl, inr}
use Rattle.std.proofs.lemmas.Bool.{false≢true, true≢false}

-- from an ordinal on, at most so many cases: one that is not there is the last
unfoldable pub RunFrom : (ℕ → Option ⊤ → Type 0) → ℕ → ℕ → Type 0
RunFrom ran i zero = ⊤
RunFrom ran i (suc n) = ran i None ⊎ (ran i (Some tt) × RunFrom ran (i + 1) n)

pub run_ends : (ran : ℕ → Option ⊤ → Type 0) (i n : ℕ) {x : Option ⊤} → is_some x ≡ false → ran i x → RunFrom ran i (suc n)
unfolding RunFrom
run_ends ran i n {x = None} e h = inl h
run_ends ran i n {x = Some _} e h = absurd (true≢false e)

pub run_more : (ran : ℕ → Option ⊤ → Type 0) (i n : ℕ) {x : Option ⊤} → is_some x ≡ true → ran i x → RunFrom ran (i + 1) n → RunFrom ran i (suc n)
unfolding RunFrom
run_more ran i n {x = None} e h rest = absurd (false≢true e)
run_more ran i n {x = Some _} e h rest = inr (h, rest)

pub run_none : (ran : ℕ → Option ⊤ → Type 0) (i : ℕ) → RunFrom ran i zero
unfolding RunFrom
run_none ran i = tt
