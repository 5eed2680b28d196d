-- `find_value` goes along the pairs; the pairs to look through fall.
use Rattle.records.specs.Format.Syntax.Term.{var}
use Rattle.terms.specs.Theory.Substitution.{apply}
use Rattle.terms.specs.Values.Pairs.{Tabled}
use Rattle.terms.specs.Values.ReplacingLaws.{Following}
use Rattle.terms.proofs.substitute.find_value.Given as goal

abbrev pub invariant-loop-k : goal.invariant-loop-k
invariant-loop-k l = (p : Tabled l.pairs) → Following l.pairs (apply p.bets (var l.v)) l.n l.x

abbrev pub decreases-loop-k : goal.decreases-loop-k
decreases-loop-k l = l.n
