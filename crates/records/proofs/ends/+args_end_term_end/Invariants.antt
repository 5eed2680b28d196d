use Rattle.std.specs.Prelude.{IfSome}
use Rattle.std.proofs.Common.{◌≡◌, ◌+◌, ◌-◌, ◌*◌, ◌≤◌, length}
use Rattle.records.specs.Ends.Traversal.{end_at}
use Rattle.records.specs.Ends.EndLaws.{onward}
use Rattle.records.proofs.ends.+args_end_term_end.Given as goal

abbrev pub decreases-args_end : goal.decreases-args_end
decreases-args_end l = 2 * (length l.s.now - l.at) + 1

abbrev pub invariant-args_end-loop : goal.invariant-args_end-loop
invariant-args_end-loop l = (end_at l.s l.at l.k 0 ≡ onward l.end (λ e. end_at l.s e (l.k - l.counter) 0)) × IfSome l.end (λ e. l.at ≤ e)

abbrev pub decreases-term_end : goal.decreases-term_end
decreases-term_end l = 2 * (length l.s.now - l.at)
