-- An output on its way: of the bytes `whole`, which are to stand from a place on, all but `rest` are written.
use Rattle.std.specs.Prelude.{◌≡◌, List, ◌++◌, ℕ}
use Rattle.records.specs.Writing.Patched.{Put}

pub record PartlyPut (before : List ℕ) (at : ℕ) (whole after : List ℕ) (next : ℕ) (rest : List ℕ) : Type 0 where
  pub done : List ℕ
  pub put : Put before at done after next
  pub split : whole ≡ done ++ rest
