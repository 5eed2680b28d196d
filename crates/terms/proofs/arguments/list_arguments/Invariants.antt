-- `list_arguments`: the entries so far, with the places of the arguments to come, are the places of all.
use mathlib.Core.Path.{◌≡◌}
use lib.ListN.{length}
use Rattle.terms.specs.Body.Arguments.{ArgumentsAt, term_places}
use Rattle.terms.specs.Body.ArgumentLaws.{ArgumentsListing}
use Rattle.terms.proofs.arguments.list_arguments.Given as goal

abbrev pub invariant-loop-i : goal.invariant-loop-i
invariant-loop-i l = ((a : ArgumentsAt l.event (record { at = l.initial.pos; arity = l.k })) → ArgumentsListing l.event (term_places l.initial.pos a.terms) l.k l.table l.pos l.i) × (length l.table ≡ length l.initial.table)
