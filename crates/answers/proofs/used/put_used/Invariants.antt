use mathlib.Core.Path.{◌≡◌}
use Prim.Native.Nat.{◌-◌, ◌≤◌}
use lib.ListN.{length}
use Rattle.records.specs.Format.Encode.{each, bet_bytes}
use Rattle.terms.specs.Standing.Frames.{BetsAt}
use Rattle.answers.specs.Form.Answer.{used_of}
use Rattle.answers.specs.Writing.UsedLaws.{WrittenSoFar}
use Rattle.answers.proofs.used.put_used.Given as goal

abbrev pub invariant-loop : goal.invariant-loop
invariant-loop l =
    ((b : BetsAt l.event l.at l.n) → length (each bet_bytes (used_of b.items)) ≤ l.to → WrittenSoFar l.event b.items l.pos (l.n - l.counter) l.initial.out l.to l.out l.from)
    × (l.from ≤ l.to) × (length l.out ≡ length l.initial.out)
