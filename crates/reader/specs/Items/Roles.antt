-- What is told of a role: whether it has a name, is a variable, ends a clause.
use Rattle.std.specs.Prelude.{Bool, true, false}
use Rattle.reader.specs.declared.roles.Role.{Role}
use Rattle.reader.specs.declared.roles.Role.TheVariants.{Variable, Constant, Functor, GoalVariable, GoalConstant, GoalFunctor, Head, HeadFunctor, Fact, Rule}

abbrev pub name_role : Role → Bool
name_role Constant = true
name_role Functor = true
name_role GoalConstant = true
name_role GoalFunctor = true
name_role Head = true
name_role HeadFunctor = true
name_role _ = false

abbrev pub variable_role : Role → Bool
variable_role Variable = true
variable_role GoalVariable = true
variable_role _ = false

abbrev pub end_role : Role → Bool
end_role Fact = true
end_role Rule = true
end_role _ = false
