-- `stack_top`: what is passed is gathered, and the others stand from pos on.
use Prim.Native.Nat.{◌-◌}
use Rattle.terms.specs.Body.Tops.{member_bytes, MemberFormed, member_variables}
use Rattle.terms.specs.Body.TopLaws.{Gathered}
use Rattle.terms.proofs.variables.stack_top.Given as goal

abbrev pub invariant-loop : goal.invariant-loop
invariant-loop l = Gathered (member_bytes l.stack) (MemberFormed l.stack) (member_variables l.stack) l.event l.at l.n l.pos (l.n - l.counter) l.top
