-- What the counter's code holds and answers, as the counts and the reply of the definitions.
use Rattle.std.specs.Prelude.{ℕ, eqb, Result, Ok, Err}
use Rattle.records.specs.Gate.Question.{refusal_number}
use Rattle.records.specs.declared.questions.Refusal.{Refusal}
use Rattle.records.specs.Format.Heads.{pick}
use Rattle.stepper.specs.Services.Counts.{Counts, CountReply, one_more}
use Rattle.stepper.specs.declared.counts.PortCounts.{PortCounts}

-- the counts that a struct of four holds
abbrev pub counts_of : PortCounts → Counts
counts_of c = record { calls = c.calls; exits = c.exits; fails = c.fails; redos = c.redos }

-- a number with the counts afterwards
abbrev pub counts_reply : ℕ → PortCounts → CountReply
counts_reply n c = record { number = n; counts = counts_of c }

-- code tells the counts afterwards, or the question that refuses, and then all stay
abbrev pub reply_of : PortCounts → Result PortCounts Refusal → CountReply
reply_of c (Ok next) = counts_reply 0 next
reply_of c (Err r) = counts_reply (refusal_number r) c

-- one more at the port of this number, 1 to 4
unfoldable pub with_port : PortCounts → ℕ → PortCounts
with_port c n =
    pick (eqb n 1) (record { calls = one_more c.calls; exits = c.exits; fails = c.fails; redos = c.redos })
    (pick (eqb n 2) (record { calls = c.calls; exits = one_more c.exits; fails = c.fails; redos = c.redos })
    (pick (eqb n 3) (record { calls = c.calls; exits = c.exits; fails = one_more c.fails; redos = c.redos })
    (record { calls = c.calls; exits = c.exits; fails = c.fails; redos = one_more c.redos })))
