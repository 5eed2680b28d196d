-- `apply_bets` lists the pairs of the bets and writes the term under them.
use Rattle.std.proofs.Common.{sym, length-take-le}
use Rattle.terms.specs.Values.EntryLaws.{listed_taken}
use Rattle.terms.proofs.apply.apply_bets.Goals as goal

pub slice_bounds-listed-end : goal.slice_bounds-listed-end
slice_bounds-listed-end c = (c.list_bets-k.ensures c.requires.ruled_bets).table.held

pub slice_bounds-listed-end-2 : goal.slice_bounds-listed-end-2
slice_bounds-listed-end-2 c = sym (length-take-le _ _ (c.list_bets-k.ensures c.requires.ruled_bets).table.held)

pub listed_value-requires : goal.listed_value-requires
listed_value-requires c = record { pairs_listed = (_, listed_taken (c.list_bets-k.ensures c.requires.ruled_bets)); by_index = c.requires.by_index; out_len = c.requires.buffers.limit }

pub returns : goal.returns
returns c = λ p to q. c.listed_value.ensures _ (listed_taken (c.list_bets-k.ensures p)) to q
