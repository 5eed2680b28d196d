use mathlib.Core.Path.{◌∙◌}
use Rattle.records.specs.Gate.CountedEndsLaws.{program_row, definitions_found, definitions_lost}
use Rattle.records.proofs.gate.program_rises.Goals as goal

pub ranks_rise-requires : goal.ranks_rise-requires
ranks_rise-requires c = definitions_found _ c.word_at.ensures c.requires c.in-Some.is

pub returns-in-Some : goal.returns-in-Some
returns-in-Some c = c.ranks_rise.ensures ∙ program_row _ c.word_at.ensures c.in-Some.is

pub returns-in-None : goal.returns-in-None
returns-in-None c = definitions_lost _ c.word_at.ensures c.requires c.in-None.is
