use mathlib.Core.Path.{refl}
use Rattle.reader.specs.Emit.TurnsLaws.{turns_as, turns_then, turns_kind}
use Rattle.reader.specs.Emit.CellLaws.{goal_constant_cell}
use Rattle.reader.specs.Emit.Emits.{with_symbol}
use Rattle.reader.proofs.emit.goal_constant.Goals as goal

pub returns : goal.returns
returns c = let a = c.args.name in λ x counts brackets. turns_as (goal_constant_cell a x) (turns_then (turns_kind (λ k. with_symbol k a 0) c.starting_kind.ensures (c.emit_symbol-symbol.ensures.2 0 refl counts brackets)) (c.primary.ensures counts brackets))
