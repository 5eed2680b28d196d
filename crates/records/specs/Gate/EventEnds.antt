-- An event at positions: where its port ends, where its bets start, and the verdict by these.
use Rattle.std.specs.Prelude.{ℕ, List, Option, Some, None, Err}
use Rattle.records.specs.Format.Items.{read_port}
use Rattle.records.specs.Ends.Traversal.{end_of, end_at}
use Rattle.records.specs.Ends.EndLaws.{onward}
use Rattle.records.specs.declared.questions.Fault.TheVariants.{Grammar}
use Rattle.records.specs.Gate.Gate.{Verdict}
use Rattle.records.specs.declared.ends.Item.TheVariants.{Ancestor, Bet}
use Rattle.records.specs.Gate.GateEnds.{judged_at}
use Rattle.records.specs.Gate.CountedEnds.{counted_end, counted_kept}

-- an event: a port, a goal, ancestors, and then its bets
unfoldable pub port_end : List ℕ → ℕ → Option ℕ
port_end = end_of read_port

-- where the bets start, with their count
unfoldable pub bets_place : List ℕ → Option ℕ
bets_place s = onward (port_end s 3) (λ g. onward (end_at s g 0 1) (λ e. counted_end Ancestor s e))

-- the answer of an event whose bets start at b
abbrev pub bets_judged : List ℕ → ℕ → Option ℕ → Verdict
bets_judged s b (Some e) = judged_at s e (counted_kept Bet s b)
bets_judged s b None = Err Grammar

unfoldable pub bets_verdict : List ℕ → ℕ → Verdict
bets_verdict s b = bets_judged s b (counted_end Bet s b)
