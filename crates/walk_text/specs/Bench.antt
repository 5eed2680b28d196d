-- The bench sheet's proved lines (SPECIFICATION 11.1 to 11.12) as one table, in the sheet's order: each is computed from the definitions that the services'
-- contracts cite. `out` is any buffer that passes question 5.
use Rattle.std.specs.Prelude.{◌≡◌, List, [], ◌∷◌, ◌++◌, ℕ, ◌≤◌, length, drop}
use Rattle.std.proofs.Math.Decide.{ℕ_discrete, dec_lt}
use Rattle.std.proofs.Common.{le-leb}
use Rattle.records.specs.Format.Syntax.{Term, var, app, nil, cons, Goal, truth, equal, conj, disj, atom, first, second, in_conj, in_disj, called, bind, unifier, or, by, exit, fail, redo, Event, event, goal?, definition}
use Rattle.records.specs.Format.Encode.{record_of, event_record, program_record, clauses_record}
use Rattle.records.specs.Gate.RecordRules.{unifier_rules, event_rules, program_rules}
use Rattle.records.specs.Format.Reader.{read}
use Rattle.records.specs.Format.Items.{many, read_counted, read_goal, read_ancestor, read_binding, read_bet, read_definition, read_stacks, read_frame, read_event_bytes}
use Rattle.records.specs.Gate.Gate.{framed, of_version, read_record}
use Rattle.terms.specs.Theory.Substitution.{apply}
use Rattle.terms.specs.Theory.Unify.{unify}
use Rattle.terms.specs.Theory.Outcome.{value_under, unified_under}
use Rattle.terms.specs.Body.Body.{next_variable, definition_of, body}
use Rattle.stepper.specs.Rules.Rules.{first_event}
use Rattle.stepper.specs.Walks.Walk.{Direction, forward, back}
use Rattle.records.specs.Gate.Reply.{Reply}
use Rattle.stepper.specs.Services.Services.{first_record, step_record, record_limit}
use Rattle.stepper.specs.Run.RunService.{RunReply, run_record}
use Rattle.stepper.specs.Services.Desk.{layers}
use Rattle.canonical.specs.Form.Bench.{q_clauses, q_body, canonical_bytes, bench_bytes}

-- the bytes that a service writes, and those after them as they were
abbrev written : List ℕ → List ℕ → List ℕ
written bytes out = bytes ++ drop (length bytes) out

-- the desk's services, opened to all that they compute by
unfoldable pub step_of : Direction → List ℕ → List ℕ → List ℕ → Reply
unfolding step_record first_event record_limit read_record framed of_version read many read_goal read_ancestor read_binding read_bet read_definition read_counted read_stacks read_frame read_event_bytes event_rules program_rules unifier_rules record_of unified_under value_under apply unify body definition_of next_variable goal? ℕ_discrete dec_lt
step_of = step_record layers

unfoldable pub first_of : List ℕ → List ℕ → Reply
unfolding first_record step_of
first_of = first_record layers

unfoldable pub run_of : Direction → ℕ → List ℕ → List ℕ → List ℕ → RunReply
unfolding run_record step_of
run_of = run_record layers

-- a single step's reply that gives the event e, and a run's after n steps
abbrev gave : Event → List ℕ → Reply
gave e out = record { number = 0; output = written (event_record e) out }

abbrev ran : ℕ → ℕ → Event → List ℕ → RunReply
ran number n e out = record { number = number; taken = n; output = written (event_record e) out }

-- a step forward from a query's first event under the program of no definitions
abbrev stepped : Goal → List ℕ → Reply
stepped g out = step_of forward (program_record []) (event_record (first_event g)) out

-- constants a and b, and f of one term and of two
abbrev a : Term
a = app 1 nil

abbrev b : Term
b = app 2 nil

abbrev f₁ : Term → Term
f₁ t = app 3 (cons t nil)

abbrev f₂ : Term → Term → Term
f₂ t u = app 3 (cons t (cons u nil))

-- p(V), whose body is V=a;V=b, and the query p(V), V=b
abbrev X : Term
X = var 0

abbrev p : Goal
p = atom 7 (cons X nil)

abbrev B : Goal
B = disj (equal X a) (equal X b)

abbrev Q : Goal
Q = conj p (equal X b)

-- a run of n steps forward from that query's first event
abbrev run_of_Q : ℕ → List ℕ → RunReply
run_of_Q n out = run_of forward n (program_record (definition 7 1 0 B ∷ [])) (event_record (first_event Q)) out

module _ (out : List ℕ) (room : 32768 ≤ length out) where
  -- 11.1: the bytes of a query's first event
  pub first_bytes : first_of (0x00 ∷ 0x09 ∷ 0x01 ∷ 0x12 ∷ 0x01 ∷ 0x00 ∷ 0x00 ∷ 0x02 ∷ 0x00 ∷ 0x02 ∷ 0x00 ∷ []) out
      ≡ record {
        number = 0;
        output = written (0x00 ∷ 0x0E ∷ 0x01 ∷ 0x01 ∷ 0x12 ∷ 0x01 ∷ 0x00 ∷ 0x00 ∷ 0x02 ∷ 0x00 ∷ 0x02 ∷ 0x00 ∷ 0x00 ∷ 0x00 ∷ 0x00 ∷ 0x00 ∷ []) out;
      }
  unfolding first_of
  first_bytes = rw (le-leb 32768 (length out) room)

  -- 11.2: the bytes of the event after it
  pub next_bytes : step_of forward (0x00 ∷ 0x03 ∷ 0x01 ∷ 0x00 ∷ 0x00 ∷ [])
      (0x00 ∷ 0x0E ∷ 0x01 ∷ 0x01 ∷ 0x12 ∷ 0x01 ∷ 0x00 ∷ 0x00 ∷ 0x02 ∷ 0x00 ∷ 0x02 ∷ 0x00 ∷ 0x00 ∷ 0x00 ∷ 0x00 ∷ 0x00 ∷ []) out
      ≡ record {
        number = 0;
        output = written (0x00 ∷ 0x17 ∷ 0x01 ∷ 0x02 ∷ 0x12 ∷ 0x01 ∷ 0x00 ∷ 0x00 ∷ 0x02 ∷ 0x00 ∷ 0x02 ∷ 0x00 ∷ 0x00 ∷ 0x00 ∷ 0x00 ∷ 0x01
            ∷ 0x20 ∷ 0x00 ∷ 0x01 ∷ 0x00 ∷ 0x00 ∷ 0x02 ∷ 0x00 ∷ 0x02 ∷ 0x00 ∷ []) out;
      }
  unfolding step_of
  next_bytes = rw (le-leb 32768 (length out) room)

  -- 11.4: of p(V),V=b event 8 is the fail of V=b
  pub event_8 : run_of_Q 8 out
      ≡ ran 0 8 (event fail (equal X b) (in_conj second p (equal X b) ∷ []) (by B ∷ or first ∷ unifier (bind 0 a ∷ []) ∷ [])) out
  unfolding run_of
  event_8 = rw (le-leb 32768 (length out) room)

  -- 11.5: at event 12 V=a fails, and no bet is left
  pub event_12 : run_of_Q 12 out
      ≡ ran 0 12 (event fail (equal X a) (in_disj first (equal X a) (equal X b) ∷ called 7 (cons X nil) ∷ in_conj first p (equal X b) ∷ []) []) out
  unfolding run_of
  event_12 = rw (le-leb 32768 (length out) room)

  -- 11.3 and 11.6: 19 steps lead to the exit of the query with its four bets, and 6 refuses a twentieth
  pub event_19 : run_of_Q 20 out ≡ ran 6 19 (event exit Q [] (unifier [] ∷ by B ∷ or second ∷ unifier (bind 0 b ∷ []) ∷ [])) out
  unfolding run_of
  event_19 = rw (le-leb 32768 (length out) room)

  -- 11.7: a variable and a term around it
  pub variable_inside : stepped (equal (var 0) (f₁ (var 0))) out ≡ gave (event fail (equal (var 0) (f₁ (var 0))) [] []) out
  unfolding step_of
  variable_inside = rw (le-leb 32768 (length out) room)

  -- 11.8: of two variables the higher is bound
  pub lowest_stays : stepped (equal (var 3) (var 7)) out ≡ gave (event exit (equal (var 3) (var 7)) [] (unifier (bind 7 (var 3) ∷ []) ∷ [])) out
  unfolding step_of
  lowest_stays = rw (le-leb 32768 (length out) room)

  -- 11.9: two variables, each bound to a
  pub both_bound : stepped (equal (f₂ (var 0) (var 0)) (f₂ (var 1) a)) out
      ≡ gave (event exit (equal (f₂ (var 0) (var 0)) (f₂ (var 1) a)) [] (unifier (bind 0 a ∷ bind 1 a ∷ []) ∷ [])) out
  unfolding step_of
  both_bound = rw (le-leb 32768 (length out) room)

  -- 11.10: an atom without a definition
  pub undefined_fails : stepped (atom 7 nil) out ≡ gave (event fail (atom 7 nil) [] []) out
  unfolding step_of
  undefined_fails = rw (le-leb 32768 (length out) room)

  -- 11.11: redo of true, forward,
  pub redo_true : step_of forward (program_record []) (event_record (event redo truth [] [])) out ≡ gave (event fail truth [] []) out
  unfolding step_of
  redo_true = rw (le-leb 32768 (length out) room)

  -- and back
  pub redo_true_back : step_of back (program_record []) (event_record (event redo truth [] [])) out ≡ record { number = 7; output = out }
  unfolding step_of
  redo_true_back = rw (le-leb 32768 (length out) room)

  -- 11.12: the two clauses of q as one definition with one local
  pub clauses_joined : canonical_bytes (clauses_record q_clauses) out ≡ record { number = 0; output = written (program_record (definition 7 1 1 q_body ∷ [])) out }
  clauses_joined = bench_bytes out room
