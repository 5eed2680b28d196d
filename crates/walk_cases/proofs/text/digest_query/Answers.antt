-- What is taken for the query is the front of the rest.
use Rattle.walk_text.specs.InputLaws.{taken_front}
use Rattle.walk_cases.proofs.text.digest_query.Goals as goal

pub returns-clause-digest_value : goal.returns-clause-digest_value
returns-clause-digest_value c = rw (taken_front _ c.taken_length-n.ensures.value) at c.digest_text.ensures.digest_value
