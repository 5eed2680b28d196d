-- `pairs_top`: what is passed is gathered, and the others stand from pos on.
use Prim.Native.Nat.{◌-◌}
use Rattle.records.specs.Format.Encode.{binding_bytes}
use Rattle.records.specs.Format.Formed.{BindingFormed}
use Rattle.terms.specs.Body.Body.{pair_variables}
use Rattle.terms.specs.Body.TopLaws.{Gathered}
use Rattle.terms.proofs.variables.pairs_top.Given as goal

abbrev pub invariant-loop : goal.invariant-loop
invariant-loop l = Gathered binding_bytes BindingFormed pair_variables l.event l.at l.n l.pos (l.n - l.counter) l.top
