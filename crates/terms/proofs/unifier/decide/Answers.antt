-- `decide` closes the classes of two terms and measures their unifier.
use Rattle.terms.specs.Unifier.UnifierAnswerLaws.{decidable_table, decidable_inside, decides_none, decided_classes, decides_found}
use borrow.Author.Tests.{not-true, not-false}
use Rattle.std.proofs.Common.{ap}
use Rattle.std.proofs.Common.{not}
use Rattle.terms.proofs.unifier.decide.Goals as goal

pub solve-requires-clause-table : goal.solve-requires-clause-table
solve-requires-clause-table c = decidable_table c.requires

pub solve-requires-clause-rep_len : goal.solve-requires-clause-rep_len
solve-requires-clause-rep_len c = (c.requires.rep_long, (decidable_inside c.requires).0, (decidable_inside c.requires).1)

pub returns-then-not-solve : goal.returns-then-not-solve
returns-then-not-solve c =
    decides_none _ _ _ _ _ c.solve.ensures (not-true _ (ap not c.if-not-solve.true))

pub unifier_length-requires : goal.unifier_length-requires
unifier_length-requires c =
    decided_classes _ _ _ _ _ c.solve.ensures c.requires (not-false _ (ap not c.if-not-solve.false))

pub returns : goal.returns
returns c =
    decides_found _ _ _ _ _ c.solve.ensures (not-false _ (ap not c.if-not-solve.false)) _ c.unifier_length.ensures
