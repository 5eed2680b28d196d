-- The text up to what is left was printed; the measure is the number of pages that are left.
use Rattle.walk_text.specs.Rest.{pages_left}
use Rattle.walk.specs.WritingLaws.{Printing}
use Rattle.walk.proofs.output.print_text.Given as goal

abbrev pub invariant-loop-page : goal.invariant-loop-page
invariant-loop-page l = Printing l.program l.query l.rest

abbrev pub decreases-loop-page : goal.decreases-loop-page
decreases-loop-page l = pages_left l.rest
