-- Laws of roles: by its sort an item is told to be a variable, an end of a clause, or neither.
use Rattle.std.specs.Prelude.{◌≡◌, refl, cond}
use Rattle.reader.specs.Emit.Cells.{by_sort}
use Rattle.reader.specs.Items.Roles.{variable_role, end_role}
use Rattle.reader.specs.declared.roles.Role.{Role}
use Rattle.reader.specs.declared.roles.Role.TheVariants.{Variable, Constant, Functor, GoalVariable, GoalConstant, GoalFunctor, Truth, Failure, Head, HeadFunctor, Shut, Next, And, Or, Equal, Open, Close, Neck, Fact, Rule}

-- variables and ends of clauses are told apart
pub by_role : {A : Type 0} (r : Role) (v e o : A) → by_sort r o v e o ≡ cond (variable_role r) v (cond (end_role r) e o)
by_role Variable v e o = refl
by_role Constant v e o = refl
by_role Functor v e o = refl
by_role GoalVariable v e o = refl
by_role GoalConstant v e o = refl
by_role GoalFunctor v e o = refl
by_role Truth v e o = refl
by_role Failure v e o = refl
by_role Head v e o = refl
by_role HeadFunctor v e o = refl
by_role Shut v e o = refl
by_role Next v e o = refl
by_role And v e o = refl
by_role Or v e o = refl
by_role Equal v e o = refl
by_role Open v e o = refl
by_role Close v e o = refl
by_role Neck v e o = refl
by_role Fact v e o = refl
by_role Rule v e o = refl
