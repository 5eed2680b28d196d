-- Laws of the counter: counts of four bytes stay counts of four bytes.
use Rattle.std.specs.Prelude.{◌≡◌, refl, Bool, true, false, cond, List, ℕ, suc, ◌≤◌, ltb}
use Rattle.std.proofs.Common.{arith, ltb-true}
use Rattle.records.specs.Format.Syntax.{call, exit, fail, redo, Event, event}
use Rattle.records.specs.Gate.Question.{question_number}
use Rattle.records.specs.Gate.Gate.{read_event}
use Rattle.records.specs.Gate.Reply.{Answer, refused, gives, through}
use Rattle.records.specs.Gate.Door.{event_door}
use Rattle.stepper.specs.Services.Counts.{Counts, CountReply, one_more, with_event, count_record}

-- every count is at most 4,294,967,295
pub record Within (c : Counts) : Type 0 where
  pub calls : c.calls ≤ 4294967295
  pub exits : c.exits ≤ 4294967295
  pub fails : c.fails ≤ 4294967295
  pub redos : c.redos ≤ 4294967295

one_more_within : (n : ℕ) → n ≤ 4294967295 → one_more n ≤ 4294967295
unfolding one_more
one_more_within n h = go (ltb n 4294967295) refl
  where
    go : (b : Bool) → ltb n 4294967295 ≡ b → cond b (suc n) n ≤ 4294967295
    go true k = let l = ltb-true n 4294967295 k in omega arith
    go false k = h

with_event_within : (c : Counts) (e : Event) → Within c → Within (with_event c e)
unfolding with_event
with_event_within c (event call g u s) h = record { calls = one_more_within _ h.calls; exits = h.exits; fails = h.fails; redos = h.redos }
with_event_within c (event exit g u s) h = record { calls = h.calls; exits = one_more_within _ h.exits; fails = h.fails; redos = h.redos }
with_event_within c (event fail g u s) h = record { calls = h.calls; exits = h.exits; fails = one_more_within _ h.fails; redos = h.redos }
with_event_within c (event redo g u s) h = record { calls = h.calls; exits = h.exits; fails = h.fails; redos = one_more_within _ h.redos }

pub count_within : (s : List ℕ) (c : Counts) → Within c → Within (count_record s c).counts
unfolding count_record through
count_within s c h = go (event_door (read_event s))
  where
    go : (a : Answer Event)
        → Within (through {R = CountReply} (λ q. record { number = question_number q; counts = c }) a (λ e. record { number = 0; counts = with_event c e })).counts
    go (refused q) = h
    go (gives e) = with_event_within c e h
