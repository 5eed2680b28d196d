-- `put_answer` lists the pairs, and goes on by their number.
use Rattle.std.proofs.Common.{refl, sym, length-take-le}
use Rattle.terms.specs.Values.EntryLaws.{listed_taken}
use Rattle.terms.specs.Values.LinksLaws.{linked_none}
use Rattle.answers.proofs.answer.put_answer.Goals as goal

pub slice_bounds-listed-end : goal.slice_bounds-listed-end
slice_bounds-listed-end c = (c.list_bets-k.ensures c.requires.ruled_bets).table.held

pub slice_bounds-listed-end-2 : goal.slice_bounds-listed-end-2
slice_bounds-listed-end-2 c = sym (length-take-le _ _ (c.list_bets-k.ensures c.requires.ruled_bets).table.held)

pub answer_by-requires : goal.answer_by-requires
answer_by-requires c =
    record { pairs_of = (c.requires.ruled_bets, record { listed = listed_taken (c.list_bets-k.ensures c.requires.ruled_bets); linked = linked_none refl }); event_len_bound = (c.requires.event_len_bound, c.requires.buffers.limit); all = c.requires.all; variables_len_bound = c.requires.variables_len_bound }

pub returns-then-k-variables : goal.returns-then-k-variables
returns-then-k-variables c = λ p. c.answer_by.ensures p (record { listed = listed_taken (c.list_bets-k.ensures p); linked = linked_none refl })

pub linked_answer-requires : goal.linked_answer-requires
linked_answer-requires c =
    record { pairs_listed = (c.requires.ruled_bets, listed_taken (c.list_bets-k.ensures c.requires.ruled_bets)); event_len_bound = (c.requires.event_len_bound, c.requires.buffers.limit); all = c.requires.all; variables_len_bound = c.requires.variables_len_bound }

pub returns : goal.returns
returns c = λ p. c.linked_answer.ensures p (listed_taken (c.list_bets-k.ensures p))
