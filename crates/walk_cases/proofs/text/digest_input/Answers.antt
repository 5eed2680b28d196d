-- What is taken for the program is the front of the input, and the rest follows it.
use Rattle.std.proofs.Common.{ap, ◌∙◌}
use Rattle.case_io.specs.Digest.{digest_of}
use Rattle.walk_cases.specs.TakenLaws.{printed_slices}
use Rattle.walk_cases.proofs.text.digest_input.Goals as goal

pub returns-clause-digest_value : goal.returns-clause-digest_value
returns-clause-digest_value c =
    rw (c.split_at.ensures.front, c.split_at.ensures.back) at c.digest_query.ensures.digest_value
    ∙ ap digest_of (printed_slices _ c.taken_length.ensures.value)
