use native.Mathlib.Omega.{arith}
use mathlib.Core.List.{[]}
use Rattle.reader.specs.Emit.TurnsLaws.{turns_then}
use Rattle.reader.proofs.emit.open_bracket.Goals as goal

pub reopened-outer-requires : goal.reopened-outer-requires
reopened-outer-requires c = omega (arith, c.whole-inner.ensures.0, c.requires.goals_in_bounds)

pub primary-requires : goal.primary-requires
primary-requires c = let w = c.whole-inner.ensures.1 [] [] in let r = c.reopened-outer.ensures [] [] in omega (arith, w.keeps, w.lower, r.lower, c.requires.at_in_bounds)

pub returns : goal.returns
returns c = λ a x counts. turns_then (turns_then (c.whole-inner.ensures.1 counts _) (c.reopened-outer.ensures _ counts)) (c.primary.ensures counts _)
