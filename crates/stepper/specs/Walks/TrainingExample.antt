-- What training material says is not about nothing: the walk of the query true,fail under the program without definitions. Event 5 is a redo and event 2
-- its exit, event 6 a fail and event 1 its call, and event 7 is final. A list of steps with one back and a refused one ends at event 5 too.
use Rattle.std.specs.Prelude.{◌≡◌, ℕ, ◌+◌, ◌≤◌, length, replicate}
use Rattle.std.proofs.Math.Path.{refl, ap}
use Rattle.std.proofs.Common.{sym, ◌∙◌, arith, le-leb}
use mathlib.Core.List.{List, [], ◌∷◌, ◌++◌}
use Rattle.std.proofs.Math.Nat.{add-zero}
use Rattle.records.specs.Format.Syntax.{Goal, truth, failure, conj, first, Ancestor, in_conj, call, exit, fail, redo, Event, event, goal?}
use Rattle.records.specs.Format.Encode.{record_of}
use Rattle.records.specs.Format.Reader.{read}
use Rattle.records.specs.Format.Items.{read_goal}
use Rattle.records.specs.Gate.Gate.{tree, framed, of_version, read_record}
use Rattle.stepper.specs.Rules.Machine.{answer?}
use Rattle.stepper.specs.Rules.Rules.{first_event, step, accepted, attempt}
use Rattle.stepper.specs.Walks.Walk.{walk, Reach}
use Rattle.stepper.specs.Walks.Reached.{steps, Reached}
use Rattle.stepper.specs.Walks.Crossing.{ancestor_goal}
use Rattle.stepper.specs.Walks.ByteDemands.{served_read, reached_read, reached_served}
use Rattle.stepper.specs.Walks.DemandsExample.{program_example}
use Rattle.stepper.specs.Services.Services.{record_limit, first_record, Move, forward_into, back_into, rules_of, Start}
use Rattle.stepper.specs.Services.ServiceLaws.{lent}
use Rattle.stepper.specs.Services.Desk.{layers}
use Rattle.stepper.specs.Services.DeskLaws.{lawful}
use Rattle.stepper.specs.Training.{EndsAt, Earlier, every_fail_has_its_call, every_redo_has_its_exit, final_goal_is_query, bottom_ancestor_is_query}

-- true,fail, and true's ancestors in it
abbrev pub redone_goal : Goal
redone_goal = conj truth failure

abbrev pub redone_ancestors : List Ancestor
redone_ancestors = in_conj first truth failure ∷ []

module _ (out : List ℕ) (room : 32768 ≤ length out) where
  -- the query, 00 04 01 13 10 11
  pub redone_start : Start layers
  unfolding first_record first_event record_limit record_of read_record framed of_version read read_goal
  redone_start = record {
    query = 0x00 ∷ 0x04 ∷ 0x01 ∷ 0x13 ∷ 0x10 ∷ 0x11 ∷ [];
    bytes = omega arith;
    buffer = out;
    goal = redone_goal;
    reads = refl;
    done = rw (le-leb 32768 (length out) room);
  }

  -- n steps forward
  abbrev forwards_of : ℕ → List Move
  forwards_of n = replicate n (forward_into out)

  ends : (n : ℕ) (e : Event) → Reached (rules_of program_example) redone_goal n e → EndsAt program_example redone_start (forwards_of n) e
  unfolding redone_start
  ends n e h =
      let all = reached_served layers lawful program_example redone_start n e h out room in
      reached_read layers lawful program_example redone_start (forwards_of n) n e (ap (λ t. n + t.backs) all ∙ add-zero n ∙ ap (λ t. t.forwards) (sym all)) h

  -- the walk, by evaluation
  pub event_1 : EndsAt program_example redone_start (forwards_of 1) (event call truth redone_ancestors [])
  unfolding program_example Reach first_event step accepted record_limit record_of
  event_1 = ends 1 _ (_, refl, refl)

  pub event_2 : EndsAt program_example redone_start (forwards_of 2) (event exit truth redone_ancestors [])
  unfolding program_example Reach first_event step accepted record_limit record_of
  event_2 = ends 2 _ (_, (_, refl, refl), refl)

  pub event_5 : EndsAt program_example redone_start (forwards_of 5) (event redo truth redone_ancestors [])
  unfolding program_example Reach first_event step accepted record_limit record_of goal?
  event_5 = ends 5 _ (_, (_, (_, (_, (_, refl, refl), refl), refl), refl), refl)

  reached_6 : Reached (rules_of program_example) redone_goal 6 (event fail truth redone_ancestors [])
  unfolding program_example Reach first_event step accepted record_limit record_of goal?
  reached_6 = (_, (_, (_, (_, (_, (_, refl, refl), refl), refl), refl), refl), refl)

  pub event_6 : EndsAt program_example redone_start (forwards_of 6) (event fail truth redone_ancestors [])
  event_6 = ends 6 _ reached_6

  pub event_7 : EndsAt program_example redone_start (forwards_of 7) (event fail redone_goal [] [])
  unfolding program_example Reach first_event step accepted record_limit record_of goal?
  event_7 = ends 7 _ (_, (_, (_, (_, (_, (_, (_, refl, refl), refl), refl), refl), refl), refl), refl)

  -- and what is said of it
  pub exit_of_5 : Earlier program_example redone_start (forwards_of 5) (event exit truth redone_ancestors [])
  exit_of_5 = every_redo_has_its_exit program_example redone_start (forwards_of 5) truth redone_ancestors [] event_5

  pub call_of_6 : Earlier program_example redone_start (forwards_of 6) (event call truth redone_ancestors [])
  call_of_6 = every_fail_has_its_call program_example redone_start (forwards_of 6) truth redone_ancestors [] event_6

  pub goal_of_7 : redone_goal ≡ redone_start.goal
  goal_of_7 = final_goal_is_query program_example redone_start (forwards_of 7) fail redone_goal [] [] event_7 tt

  pub bottom_of_6 : (w : List Ancestor) × (a : Ancestor) × (redone_ancestors ≡ w ++ (a ∷ [])) × (ancestor_goal a ≡ redone_start.goal)
  unfolding redone_start
  bottom_of_6 =
      let all = reached_served layers lawful program_example redone_start 6 _ reached_6 out room in
      bottom_ancestor_is_query program_example redone_start (forwards_of 6) fail truth redone_ancestors [] event_6 (rw all (omega arith)) (λ z. z)

  -- six steps forward, one back, and one that is refused, since its output is too short
  abbrev there_and_back : List Move
  there_and_back = forwards_of 6 ++ (back_into out ∷ forward_into [] ∷ [])

  tallied : steps (rules_of program_example) lent redone_goal there_and_back ≡ record { event = event redo truth redone_ancestors []; forwards = 6; backs = 1 }
  unfolding program_example walk attempt first_event accepted record_limit record_of goal? answer?
  tallied = rw (le-leb 32768 (length out) room)

  pub back_at_5 : EndsAt program_example redone_start there_and_back (event redo truth redone_ancestors [])
  unfolding redone_start
  back_at_5 = served_read layers lawful program_example redone_start there_and_back ∙ ap (λ t. tree t.event) tallied

  pub exit_there : Earlier program_example redone_start there_and_back (event exit truth redone_ancestors [])
  exit_there = every_redo_has_its_exit program_example redone_start there_and_back truth redone_ancestors [] back_at_5
