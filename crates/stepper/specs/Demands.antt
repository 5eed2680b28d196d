-- The last page: demands 2 and 3 (SPECIFICATION 9.6, 9.7), of the desk's services on bytes, with its readers, its unifier and its bodies.
-- A `Program` is bytes that pass questions 1 to 4. A `Start` is a query for which the query service gave the first event with 0. A `Move` is a
-- direction and a lent buffer of any length and content. `served c q ms` is a list of steps ms under the program c from q's first event: the record
-- at which it ends, and how many steps forward and how many back were accepted; each step gets the record that the last accepted one gave.
-- `DemandsExample` has one of each.
use Rattle.std.specs.Prelude.{◌≡◌, ◌↔◌, ◌⊎◌, List, ℕ, ◌≤◌, length}
use Rattle.std.proofs.Math.Option.{none, some}
use Rattle.records.specs.Format.Syntax.{Term, Bet, Event}
use Rattle.records.specs.Format.Encode.{event_record}
use Rattle.records.specs.Gate.Question.{Question, question_number}
use Rattle.records.specs.Gate.Reply.{Reply}
use Rattle.records.specs.Format.HeadLaws.{Bytes}
use Rattle.records.specs.Gate.Gate.{tree, read_event}
use Rattle.terms.specs.Theory.Outcome.{Meant}
use Rattle.terms.specs.Theory.OutcomeLaws.{unified_meant}
use Rattle.stepper.specs.Rules.Machine.{gives}
use Rattle.stepper.specs.Rules.Listed.{Rule}
use Rattle.stepper.specs.Rules.Sources.{Source}
use Rattle.stepper.specs.Rules.Refusals.{Refusal, BackRefusal}
use Rattle.stepper.specs.Walks.Walk.{forward, back, net}
use Rattle.stepper.specs.Services.Services.{reply, step_record, serve, CameFrom, Move, forward_into, back_into, Program, rules_of, Start, start, served}
use Rattle.stepper.specs.Services.Desk.{layers}
use Rattle.stepper.specs.Services.DeskLaws.{lawful}
use Rattle.stepper.specs.Services.StepRecordLaws.{forward_accepted, forward_follows, forward_refused, back_accepted, back_follows, back_refused}
use Rattle.stepper.specs.Walks.ByteDemands.{undone, came_from, same_end}

-- the reply r of a step into the buffer `out`: where it is accepted, a rule leads to the event whose record it writes; where a rule leads to an event
-- whose record fits, it writes that; and its number is that of a question exactly where that question says no
pub record Prescribed (out : List ℕ) (r : Reply) (Leads : Event → Type 0) (No : Question → Type 0) : Type 0 where
  pub accepted : r.number ≡ 0 → (d : Event) × Leads d × (length (event_record d) ≤ 32768) × (r ≡ reply out (gives d))
  pub followed : (d : Event) → Leads d → length (event_record d) ≤ 32768 → r ≡ reply out (gives d)
  pub refused : (q : Question) → (r.number ≡ question_number q) ↔ No q

module _ (c : Program layers) where
  -- Demand 2. For every event record s and a buffer that passes question 5, a step forward is the one that the 21 rules prescribe,
  pub demand_2_forward : (s : List ℕ) → Bytes s → (e : Event) → read_event s ≡ tree e → (out : List ℕ) → 32768 ≤ length out
      → Prescribed out (step_record layers forward c.program s out) (λ d. Rule (rules_of c) e d) (Refusal (rules_of c) e)
  demand_2_forward s b e h out n = record {
    accepted = forward_accepted layers lawful c s b e h out n;
    followed = forward_follows layers lawful c s b e h out n;
    refused = forward_refused layers lawful c s b e h out n;
  }

  -- in which the unifier is the most general one where there is any, and none is found where there is none;
  pub demand_2_unifier : (s : List Bet) (l r : Term) → Meant s l r ((rules_of c).unify s l r)
  demand_2_unifier s l r = unified_meant s l r

  -- a step back is a rule read from right to left;
  pub demand_2_back : (s : List ℕ) → Bytes s → (e : Event) → read_event s ≡ tree e → (out : List ℕ) → 32768 ≤ length out
      → Prescribed out (step_record layers back c.program s out) (λ b. Source (rules_of c) b e) (BackRefusal (rules_of c) e)
  demand_2_back s b e h out n = record {
    accepted = back_accepted layers lawful c s b e h out n;
    followed = back_follows layers lawful c s b e h out n;
    refused = back_refused layers lawful c s b e h out n;
  }

  -- and from a reached event it gives the event that it came from, which every reached event has but a query's first.
  pub demand_2_undone : (q : Start layers) (ms : List Move) (a b r : List ℕ) → 32768 ≤ length b
      → serve layers c.program (forward_into a) (served c q ms).event ≡ some r
      → serve layers c.program (back_into b) r ≡ some (served c q ms).event
  demand_2_undone = undone layers lawful c

  pub demand_2_reached : (q : Start layers) (ms : List Move) (b : List ℕ) → 32768 ≤ length b
      → (((served c q ms).event ≡ start q) × (serve layers c.program (back_into b) (served c q ms).event ≡ none))
      ⊎ CameFrom layers c.program (served c q ms).event b
  demand_2_reached = came_from layers lawful c

  -- (That clauses become the canonical form which the rules work on is the last page of the crate `canonical`, `Demand`.)

  -- Demand 3. Take two lists of steps under one program, of any moves forward and back, accepted or refused, each from its query's first event.
  -- The events d and e at which they end are one event if and only if the queries are equal and so are the net numbers: accepted steps forward,
  -- less those back.
  pub demand_3 : (p q : Start layers) (ms ns : List Move)
      → (d : Event) × (e : Event)
      × (read_event (served c p ms).event ≡ tree d) × (read_event (served c q ns).event ≡ tree e)
      × ((d ≡ e) ↔ ((p.goal ≡ q.goal) × (net (served c p ms) ≡ net (served c q ns))))
  demand_3 = same_end layers lawful c
