use mathlib.Core.Path.{◌∙◌}
use Rattle.reader.specs.Emit.TurnsLaws.{turns_top}
use Rattle.reader.proofs.emit.emit_functor.Goals as goal

pub emit_symbol-requires : goal.emit_symbol-requires
emit_symbol-requires c = rw c.one_fewer.ensures c.requires.at_in_bounds

pub returns : goal.returns
returns c = let p = c.emit_symbol.ensures in λ brackets. turns_top c.one_fewer.ensures p.0 p.1 (λ k i. p.2 k (c.top_count-count.ensures ∙ i) _ brackets)
