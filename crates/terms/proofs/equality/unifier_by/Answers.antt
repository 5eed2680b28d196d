use Rattle.terms.specs.Unifier.EqualityLaws.{value_length, one_value, left_large, left_within}
use Rattle.terms.specs.Classes.LayLaws.{part_length}
use Rattle.std.proofs.Common.{sym, length-take-le}
use Rattle.terms.specs.Values.EntryLaws.{listed_taken}
use borrow.Author.Rules.{rules}
use Rattle.terms.proofs.equality.unifier_by.Goals as goal

pub slice_bounds-entries-end : goal.slice_bounds-entries-end
slice_bounds-entries-end c = (c.list_bets-k.ensures c.requires.equality_under.0).table.held

pub slice_bounds-entries-end-2 : goal.slice_bounds-entries-end-2
slice_bounds-entries-end-2 c = sym (length-take-le _ _ (c.list_bets-k.ensures c.requires.equality_under.0).table.held)

pub listed_value-requires : goal.listed_value-requires
listed_value-requires c = record { pairs_listed = (_, listed_taken (c.list_bets-k.ensures c.requires.equality_under.0)); by_index = (_, c.requires.equality_under.1); out_len = search rules }

pub returns-in_default : goal.returns-in_default
returns-in_default c = λ p s t. left_large s.term t.term (c.listed_value.ensures _ (listed_taken (c.list_bets-k.ensures p)) _ s) c.in_default.is

pub slice_bounds-a-end : goal.slice_bounds-a-end
slice_bounds-a-end c = value_length c.requires.equality_under.1.term (c.listed_value.ensures _ (listed_taken (c.list_bets-k.ensures c.requires.equality_under.0)) _ c.requires.equality_under.1) c.in-Some.is

pub slice_bounds-unifier_with-end : goal.slice_bounds-unifier_with-end
slice_bounds-unifier_with-end c =
    sym (part_length _ _ (value_length c.requires.equality_under.1.term (c.listed_value.ensures _ (listed_taken (c.list_bets-k.ensures c.requires.equality_under.0)) _ c.requires.equality_under.1) c.in-Some.is))

pub unifier_with-requires : goal.unifier_with-requires
unifier_with-requires c = let l = listed_taken (c.list_bets-k.ensures c.requires.equality_under.0) in
    record { pairs_listed = (_, l); term_at = c.requires.equality_under.2; one_value = one_value c.requires.equality_under.1.term (c.listed_value.ensures _ l _ c.requires.equality_under.1) c.in-Some.is l.formed c.requires.equality_under.1.formed }

pub returns : goal.returns
returns c = λ p s t.
    let l = listed_taken (c.list_bets-k.ensures p) in
    let a = c.listed_value.ensures _ l _ s in
    let m = c.in-Some.is in
    left_within s.term t.term a m (c.unifier_with.ensures _ l (one_value s.term a m l.formed s.formed) t)
