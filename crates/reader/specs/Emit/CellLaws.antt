-- What code puts together for a cell is what the cell makes of an emission.
use Rattle.std.specs.Prelude.{◌≡◌, refl, [], ◌∷◌, ℕ}
use Rattle.records.specs.Format.Encode.{word}
use Rattle.reader.specs.Emit.Cells.{Emission, emission, cell, emit_cell, primary}
use Rattle.reader.specs.Emit.Emits.{with_bytes, with_symbol, with_clause, with_top, starting_kind}
use Rattle.reader.specs.declared.roles.Role.TheVariants.{Variable, Constant, Functor, GoalVariable, GoalConstant, GoalFunctor, Truth, Failure, Head, HeadFunctor, Fact, Rule}

module _ (a x : ℕ) where
  pub variable_cell : (y : Emission) → with_bytes (0x01 ∷ word x) y ≡ emit_cell (cell Variable a x) y
  variable_cell (emission l o n ks bs c s q v) = refl

  pub goal_variable_cell : (y : Emission) → primary (with_bytes (0x01 ∷ word x) y) ≡ emit_cell (cell GoalVariable a x) y
  goal_variable_cell (emission l o n ks bs c s q v) = refl

  pub constant_cell : (y : Emission) → with_symbol 0x02 a 0 y ≡ emit_cell (cell Constant a x) y
  constant_cell (emission l o n ks bs c s q v) = refl

  pub functor_cell : (y : Emission) → with_top (with_symbol 0x02 a) y ≡ emit_cell (cell Functor a x) y
  functor_cell (emission l o n ks bs c s q v) = refl

  pub goal_constant_cell : (y : Emission) → primary (with_symbol (starting_kind y) a 0 y) ≡ emit_cell (cell GoalConstant a x) y
  goal_constant_cell (emission l o n ks bs c s q v) = refl

  pub goal_functor_cell : (y : Emission) → primary (with_top (with_symbol (starting_kind y) a) y) ≡ emit_cell (cell GoalFunctor a x) y
  goal_functor_cell (emission l o n ks bs c s q v) = refl

  pub truth_cell : (y : Emission) → primary (with_bytes (0x10 ∷ []) y) ≡ emit_cell (cell Truth a x) y
  truth_cell (emission l o n ks bs c s q v) = refl

  pub failure_cell : (y : Emission) → primary (with_bytes (0x11 ∷ []) y) ≡ emit_cell (cell Failure a x) y
  failure_cell (emission l o n ks bs c s q v) = refl

  pub head_cell : (y : Emission) → with_clause a 0 y ≡ emit_cell (cell Head a x) y
  head_cell (emission l o n ks bs c s q v) = refl

  pub head_functor_cell : (y : Emission) → with_top (with_clause a) y ≡ emit_cell (cell HeadFunctor a x) y
  head_functor_cell (emission l o n ks bs c s q v) = refl

  pub fact_cell : (y : Emission) → emit_cell (cell Rule a x) (with_bytes (0x10 ∷ []) y) ≡ emit_cell (cell Fact a x) y
  fact_cell (emission l o n ks bs c s q v) = refl
