use native.Mathlib.Omega.{arith}
use mathlib.Core.List.{[]}
use Rattle.reader.specs.Emit.TurnsLaws.{turns_as, turns_then, turns_kind}
use Rattle.reader.specs.Emit.CellLaws.{goal_functor_cell}
use Rattle.reader.specs.Emit.Emits.{with_symbol, with_top}
use Rattle.reader.proofs.emit.goal_functor.Goals as goal

pub primary-requires : goal.primary-requires
primary-requires c = let p = c.emit_functor-symbol.ensures [] in omega (arith, p.keeps, p.lower, c.requires.at_in_bounds)

pub returns : goal.returns
returns c = let a = c.args.name in λ x brackets. turns_as (goal_functor_cell a x) (turns_then (turns_kind (λ k. with_top (with_symbol k a)) c.starting_kind.ensures (c.emit_functor-symbol.ensures brackets)) (c.primary.ensures _ brackets))
