use Rattle.terms.specs.Unifier.EqualityLaws.{value_length, one_value, right_large, right_within}
use Rattle.terms.specs.Classes.LayLaws.{part_length}
use mathlib.Core.Path.{sym}
use Rattle.terms.proofs.equality.unifier_with.Goals as goal

pub returns-in_default : goal.returns-in_default
returns-in_default c = λ bets l v t. right_large v.value.term t.term (c.listed_value.ensures bets l _ t) c.in_default.is

pub slice_bounds-b-end : goal.slice_bounds-b-end
slice_bounds-b-end c = value_length c.requires.term_at.term (c.listed_value.ensures _ c.requires.pairs_listed.1 _ c.requires.term_at) c.in-Some.is

pub slice_bounds-write_unifier-end : goal.slice_bounds-write_unifier-end
slice_bounds-write_unifier-end c =
    sym (part_length _ _ (value_length c.requires.term_at.term (c.listed_value.ensures _ c.requires.pairs_listed.1 _ c.requires.term_at) c.in-Some.is))

pub write_unifier-requires : goal.write_unifier-requires
write_unifier-requires c =
    (c.requires.one_value, one_value c.requires.term_at.term (c.listed_value.ensures _ c.requires.pairs_listed.1 _ c.requires.term_at) c.in-Some.is c.requires.pairs_listed.1.formed c.requires.term_at.formed)

pub returns : goal.returns
returns c = λ bets l v t.
    let s = c.listed_value.ensures bets l _ t in
    let m = c.in-Some.is in
    let b = one_value t.term s m l.formed t.formed in
    right_within v.value.term t.term s m (c.write_unifier.ensures.each v.value.term b.value.term v.value.formed b.value.formed v.value.same b.value.same)
