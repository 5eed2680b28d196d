-- Laws of the counter's code: one more at an event's port is the event added, and a refused event changes no count.
use Rattle.std.specs.Prelude.{◌≡◌, refl, List, ℕ, Result, Ok, Err}
use Rattle.std.proofs.Common.{ap, sym, ◌∙◌}
use borrow.Author.Tests.{ne_eqb}
use Rattle.records.specs.Format.Syntax.{call, exit, fail, redo, Event, event}
use Rattle.records.specs.Gate.Gate.{read_event}
use Rattle.records.specs.Gate.Reply.{through, told}
use Rattle.records.specs.Gate.Question.{refusal_number}
use Rattle.records.specs.Gate.OutcomeLaws.{told_refuses, refusal_same}
use Rattle.records.specs.Gate.Door.{event_door}
use Rattle.stepper.specs.Services.PassedLaws.{event_passes}
use Rattle.records.specs.Gate.Gate.Reading.{tree}
use Rattle.records.specs.Ends.Places.{event_places}
use Rattle.records.specs.declared.places.Places.{Places}
use Rattle.stepper.specs.Services.Counts.{one_more, with_event, count_record}
use Rattle.stepper.specs.Services.PortCounts.{counts_of, counts_reply, reply_of, with_port}
use Rattle.records.specs.declared.questions.Refusal.{Refusal}
use Rattle.stepper.specs.declared.counts.PortCounts.{PortCounts}

-- for code that has one more of a count
module _ (c : PortCounts) (n : ℕ) {m : ℕ} where
  pub one_called : n ≡ 1 → m ≡ one_more c.calls → record { calls = m; exits = c.exits; fails = c.fails; redos = c.redos } ≡ with_port c n
  unfolding with_port
  one_called h e = rw (e, h)

  pub one_exited : n ≡ 2 → m ≡ one_more c.exits → record { calls = c.calls; exits = m; fails = c.fails; redos = c.redos } ≡ with_port c n
  unfolding with_port
  one_exited h e = rw (e, h)

  pub one_failed : n ≡ 3 → m ≡ one_more c.fails → record { calls = c.calls; exits = c.exits; fails = m; redos = c.redos } ≡ with_port c n
  unfolding with_port
  one_failed h e = rw (e, h)

  pub one_redone : (n ≡ 1 → ⊥) → (n ≡ 2 → ⊥) → (n ≡ 3 → ⊥) → m ≡ one_more c.redos → record { calls = c.calls; exits = c.exits; fails = c.fails; redos = m } ≡ with_port c n
  unfolding with_port
  one_redone p q r e = rw (e, ne_eqb n 1 p, ne_eqb n 2 q, ne_eqb n 3 r)

-- one more at the port where an event's record has it is the event added
pub event_added : (c : PortCounts) (e : Event) → counts_of (with_port c (event_places e).port) ≡ with_event (counts_of c) e
unfolding with_port with_event event_places
event_added c (event call g u s) = refl
event_added c (event exit g u s) = refl
event_added c (event fail g u s) = refl
event_added c (event redo g u s) = refl

-- by what the event's door tells
module _ (s : List ℕ) (c : PortCounts) {door : Result (Unit {0}) Refusal} (is : door ≡ told (event_door (read_event s))) where
  pub count_refused : {r : Refusal} → door ≡ Err r → reply_of c (Err r) ≡ count_record s (counts_of c)
  unfolding count_record through
  count_refused z =
      let w = told_refuses (event_door (read_event s)) is z in
      rw w.1 (ap (λ (k : ℕ). counts_reply k c) (ap refusal_number (sym w.2) ∙ refusal_same w.0))

  pub count_added : {u : Unit {0}} → door ≡ Ok u → {places : Places} {next : PortCounts} → ((e : Event) → read_event s ≡ tree e → places ≡ event_places e)
      → next ≡ with_port c places.port → reply_of c (Ok next) ≡ count_record s (counts_of c)
  unfolding count_record through event_door
  count_added z at added =
      let w = event_passes (read_event s) is z in
      rw (w.1, added, at w.0 w.1, event_added c w.0)
