-- `put_record`: the head, the count and the definitions, one after the other.
use native.Mathlib.Omega.{arith}
use Rattle.records.specs.Writing.PatchedLaws.{put_length}
use Rattle.canonical.specs.Writing.ReplyLaws.{program_measured, put_program}
use Rattle.canonical.proofs.program.put_record.Goals as goal

pub put_definitions-requires : goal.put_definitions-requires
put_definitions-requires c = let m = program_measured _ c.requires.survey_value in
    let head = c.put_record_head-count_at.ensures in
    let count = c.put_word-first.ensures in
    record { remaining = c.requires.remaining; s_value = m.fit; s_in_bounds = omega (arith, m.sizes, c.requires.size_bound, head.place, put_length head, count.place, put_length count) }

pub returns : goal.returns
returns c = put_program (program_measured _ c.requires.survey_value) c.put_record_head-count_at.ensures c.put_word-first.ensures c.put_definitions.ensures
