-- The demands are not about nothing: the example program and query (SPECIFICATION 8.10), and a list of steps under them, by evaluation. The query service and the
-- step are lent any buffers that pass question 5, and there is one.
use Rattle.std.specs.Prelude.{◌≡◌, refl, List, [], ◌∷◌, ℕ, ◌≤◌, length, replicate}
use Rattle.std.proofs.Math.Decide.{ℕ_discrete}
use Rattle.std.proofs.Common.{arith}
use Rattle.std.proofs.lemmas.List.{length-replicate}
use borrow.Author.Tests.{le-leb}
use Rattle.records.specs.Format.Syntax.{var, app, nil, equal}
use Rattle.records.specs.Format.Encode.{record_of}
use Rattle.records.specs.Gate.RecordRules.{unifier_rules, event_rules, program_rules}
use Rattle.records.specs.Format.Reader.{read}
use Rattle.records.specs.Format.Items.{many, read_counted, read_goal, read_binding, read_bet, read_definition, read_stacks, read_frame, read_event_bytes}
use Rattle.records.specs.Gate.Gate.{framed, of_version, read_record}
use Rattle.terms.specs.Theory.Substitution.{apply}
use Rattle.terms.specs.Theory.Unify.{unify}
use Rattle.terms.specs.Theory.Outcome.{value_under, unified_under}
use Rattle.stepper.specs.Rules.Rules.{first_event}
use Rattle.stepper.specs.Walks.Walk.{walk}
use Rattle.stepper.specs.Services.Services.{record_limit, first_record, step_record, serve, forward_into, Program, Start, served}
use Rattle.stepper.specs.Services.Desk.{layers}

-- the program of no definitions, 00 03 01 00 00
unfoldable pub program_example : Program layers
unfolding read_record framed of_version many read_definition read_counted program_rules
program_example = record { program = 0x00 ∷ 0x03 ∷ 0x01 ∷ 0x00 ∷ 0x00 ∷ []; bytes = omega arith; definitions = []; reads = refl }

module _ (out : List ℕ) (room : 32768 ≤ length out) where
  -- the query V0=c, 00 09 01 12 01 00 00 02 00 02 00
  pub start_example : Start layers
  unfolding first_record first_event record_limit record_of read_record framed of_version read read_goal
  start_example = record {
    query = 0x00 ∷ 0x09 ∷ 0x01 ∷ 0x12 ∷ 0x01 ∷ 0x00 ∷ 0x00 ∷ 0x02 ∷ 0x00 ∷ 0x02 ∷ 0x00 ∷ [];
    bytes = omega arith;
    buffer = out;
    goal = equal (var 0) (app 2 nil);
    reads = refl;
    done = rw (le-leb 32768 (length out) room);
  }

  -- of two steps forward the first is accepted, and leads to the record of exit V0=c with one bet; the second is refused, since the walk ends there
  pub served_example : (a : List ℕ) → 32768 ≤ length a
      → served program_example start_example (forward_into a ∷ forward_into a ∷ [])
      ≡ record {
        event = 0x00 ∷ 0x17 ∷ 0x01 ∷ 0x02 ∷ 0x12 ∷ 0x01 ∷ 0x00 ∷ 0x00 ∷ 0x02 ∷ 0x00 ∷ 0x02 ∷ 0x00 ∷ 0x00 ∷ 0x00 ∷ 0x00 ∷ 0x01
            ∷ 0x20 ∷ 0x00 ∷ 0x01 ∷ 0x00 ∷ 0x00 ∷ 0x02 ∷ 0x00 ∷ 0x02 ∷ 0x00 ∷ [];
        forwards = 1;
        backs = 0;
      }
  unfolding program_example start_example walk serve step_record read_frame read_stacks read_event_bytes read_bet read_binding event_rules unifier_rules unified_under value_under apply unify ℕ_discrete
  served_example a k = rw (le-leb 32768 (length out) room, le-leb 32768 (length a) k)

-- a buffer that passes question 5
zeros : (n : ℕ) → n ≤ length (replicate {A = ℕ} n 0)
zeros n = omega (arith, length-replicate {A = ℕ} n 0)

pub start_closed : Start layers
start_closed = start_example (replicate 32768 0) (zeros 32768)
