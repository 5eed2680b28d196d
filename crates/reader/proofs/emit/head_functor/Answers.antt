use mathlib.Core.Path.{◌∙◌}
use Rattle.reader.specs.Emit.TurnsLaws.{turns_top}
use Rattle.reader.proofs.emit.head_functor.Goals as goal

pub emit_head-requires : goal.emit_head-requires
emit_head-requires c = rw c.one_fewer.ensures c.requires.at_in_bounds

pub returns : goal.returns
returns c = let p = c.emit_head.ensures in λ brackets. turns_top c.one_fewer.ensures p.0 p.1 (λ k i. p.2 k (c.top_count-count.ensures ∙ i) _ brackets)
