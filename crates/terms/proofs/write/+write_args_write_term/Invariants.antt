use Rattle.std.proofs.Common.{◌+◌, ◌*◌}
use Rattle.terms.specs.Classes.Nodes.{at}
use Rattle.terms.proofs.write.+write_args_write_term.Given as goal

abbrev pub decreases-write_args : goal.decreases-write_args
decreases-write_args l = 2 * l.left + 1

abbrev pub decreases-write_term : goal.decreases-write_term
decreases-write_term l = 2 * at l.classes.now.size.now l.r
