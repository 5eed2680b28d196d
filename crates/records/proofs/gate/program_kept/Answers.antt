use mathlib.Core.Path.{◌∙◌}
use Rattle.records.specs.Gate.CountedEndsLaws.{program_falls, program_rising, definitions_ends}
use Rattle.records.proofs.gate.program_kept.Goals as goal

pub counted_kept-requires : goal.counted_kept-requires
counted_kept-requires c = definitions_ends _ c.requires

pub returns-else-program_rises : goal.returns-else-program_rises
returns-else-program_rises c = c.if-program_rises.false ∙ program_falls _ c.program_rises.ensures c.if-program_rises.false

pub returns-then-program_rises : goal.returns-then-program_rises
returns-then-program_rises c = program_rising _ c.program_rises.ensures c.if-program_rises.true c.counted_kept.ensures
