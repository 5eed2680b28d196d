-- The bytes at the front of a list that are as they were lent.
use Rattle.std.specs.Prelude.{List, ℕ, eqb}
use Rattle.std.specs.List.{prefix_len}

-- how many there are, up to the first that is not
abbrev pub as_lent : List ℕ → ℕ
as_lent bytes = prefix_len (λ b. eqb b 0xA5) bytes
