use Rattle.std.specs.Prelude.{Some, None}
use mathlib.Core.Path.{ap, ◌∙◌}
use native.Mathlib.Omega.{arith}
use Rattle.records.specs.declared.heads.TermHead.TheVariants.{Variable, Symbol}
use Rattle.records.proofs.TraversalArms.{term_arm}
use Rattle.records.specs.Ends.StepsLaws.{on_bound}
use Rattle.records.specs.Ends.HeadRoomLaws.{term_room}
use Rattle.records.proofs.traverse.next_term.Goals as goal

pub returns-in_err-v : goal.returns-in_err-v
returns-in_err-v c = c.from_residual.ensures ∙ term_arm _ _ _ _ c.requires.terms_nonzero c.term_head.ensures None c.in_err-v.was

pub overflow_add-result : goal.overflow_add-result
overflow_add-result c = omega (arith, term_room _ _ c.type_inv.s c.term_head.ensures (Some (Variable _)) (c.in_ok-v.was ∙ ap Some c.in-Variable.is))

pub overflow_add-result-in-Symbol : goal.overflow_add-result-in-Symbol
overflow_add-result-in-Symbol c = omega (arith, term_room _ _ c.type_inv.s c.term_head.ensures (Some (Symbol _ _)) (c.in_ok-v.was ∙ ap Some c.in-Symbol.is))

pub overflow_add-result-in-Symbol-2 : goal.overflow_add-result-in-Symbol-2
overflow_add-result-in-Symbol-2 c = omega (arith, term_room _ _ c.type_inv.s c.term_head.ensures (Some (Symbol _ _)) (c.in_ok-v.was ∙ ap Some c.in-Symbol.is), on_bound _ c.type_inv.s _ _ _ c.requires.on)

pub returns-in-Variable : goal.returns-in-Variable
returns-in-Variable c = term_arm _ _ _ _ c.requires.terms_nonzero c.term_head.ensures (Some (Variable _)) (c.in_ok-v.was ∙ ap Some c.in-Variable.is)

pub returns-in-Symbol : goal.returns-in-Symbol
returns-in-Symbol c = term_arm _ _ _ _ c.requires.terms_nonzero c.term_head.ensures (Some (Symbol _ _)) (c.in_ok-v.was ∙ ap Some c.in-Symbol.is)
