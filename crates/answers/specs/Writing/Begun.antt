-- The first event of 'Q, fail' as code writes it.
use Rattle.std.specs.Prelude.{List, [], ◌∷◌, ℕ}

-- what stands before Q's bytes in the event: call, and a conjunction
abbrev pub opening_bytes : List ℕ
opening_bytes = 0x01 ∷ 0x13 ∷ []

-- and behind them: fail, and the counts of two empty stacks
abbrev pub closing_bytes : List ℕ
closing_bytes = 0x11 ∷ 0 ∷ 0 ∷ 0 ∷ 0 ∷ []
