-- `numbered_body` measures, refuses, and then writes.
use native.Mathlib.Omega.{arith}
use Rattle.terms.specs.Body.AnswerLaws.{written_answer, long_answer}
use Rattle.terms.specs.Body.TopLaws.{goal_on}
use Rattle.terms.specs.Body.BodyLengthLaws.{numbered_bytes}
use Rattle.terms.specs.Values.FittedLaws.{fitted_put}
use Rattle.terms.specs.Values.ReplacingLaws.{replaces_numbers, linked_numbers}
use Rattle.terms.proofs.body.numbered_body.Goals as goal

pub body_length-n-requires : goal.body_length-n-requires
body_length-n-requires c = record { goal_at = c.requires.goal_at; term_table = c.requires.arguments_of.listed; room_bound = omega arith }

pub returns-then-out-n : goal.returns-then-out-n
returns-then-out-n c = λ g a. long_answer _ (c.body_length-n.ensures g a.listed _) c.if-out-n.true

pub put_nodes-requires : goal.put_nodes-requires
put_nodes-requires c = record { replaces = (_, replaces_numbers c.requires.arguments_of c.requires.next_bound); linked = linked_numbers; on = goal_on c.requires.goal_at }

pub returns : goal.returns
returns c = λ g a.
    let long = c.body_length-n.ensures g a.listed c.args.by.next in
    let left = c.if-out-n.false in
    let w = rw (numbered_bytes g a.listed.terms _) at (c.put_nodes.ensures _ (replaces_numbers a c.requires.next_bound)) in
    written_answer _ long left (fitted_put w (omega (arith, left, long)))
