-- `linked_answer` links the pairs, which are few.
use native.Mathlib.Omega.{arith}
use Rattle.terms.specs.Values.ListingLaws.{pairs_few}
use Rattle.answers.proofs.answer.linked_answer.Goals as goal

pub link_pairs-requires : goal.link_pairs-requires
link_pairs-requires c = omega (arith, pairs_few c.requires.pairs_listed.0.row c.requires.pairs_listed.1, c.requires.event_len_bound.0)

pub answer_by-requires : goal.answer_by-requires
answer_by-requires c = record { pairs_of = (c.requires.pairs_listed.0, record { listed = c.requires.pairs_listed.1; linked = c.link_pairs.ensures }); event_len_bound = c.requires.event_len_bound; all = c.requires.all; variables_len_bound = c.requires.variables_len_bound }

pub returns : goal.returns
returns c = λ p l. c.answer_by.ensures p (record { listed = l; linked = c.link_pairs.ensures })
