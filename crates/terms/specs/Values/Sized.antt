-- How many bytes were written, where they fit.
use Rattle.std.specs.Prelude.{ℕ, Option}

abbrev pub Sized : Type 0
Sized = Option ℕ
