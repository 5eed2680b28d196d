-- `body_with` puts question 9, makes the table of the arguments, and then the body.
use native.Mathlib.Omega.{arith}
use Rattle.terms.specs.Body.AnswerLaws.{atom_arguments, atom_few, atom_table, atom_room, first_new_small, body_too_many, body_answered}
use Rattle.terms.specs.Body.ArgumentLaws.{arguments_cut}
use Rattle.terms.proofs.body.body_with.Goals as goal

pub next_variable-m-requires : goal.next_variable-m-requires
next_variable-m-requires c = c.requires.terms_value.0.frame

pub locals_beyond-requires : goal.locals_beyond-requires
locals_beyond-requires c =
    omega (arith, c.requires.goal_at.1, first_new_small c.requires.terms_value.0 (c.next_variable-m.ensures c.requires.terms_value.0.frame))

pub returns-then-locals_beyond : goal.returns-then-locals_beyond
returns-then-locals_beyond c = λ g a q. body_too_many a (c.next_variable-m.ensures a.frame) _ c.locals_beyond.ensures _ g.item c.if-locals_beyond.true

pub overflow_add-args : goal.overflow_add-args
overflow_add-args c = omega (arith, atom_room c.requires.terms_value.0)

pub list_arguments-requires : goal.list_arguments-requires
list_arguments-requires c = record { arguments_at = atom_arguments c.requires.terms_value.0 c.requires.terms_value.1; arity_in_bounds = omega (arith, atom_few c.requires.terms_value.0 c.requires.terms_value.1) }

pub numbered_body-requires : goal.numbered_body-requires
numbered_body-requires c = record { goal_at = c.requires.goal_at.0; arguments_of = arguments_cut (atom_table c.requires.terms_value.0 c.requires.terms_value.1 c.list_arguments.ensures); next_bound = first_new_small c.requires.terms_value.0 (c.next_variable-m.ensures c.requires.terms_value.0.frame) }

pub returns : goal.returns
returns c = λ g a q.
    body_answered a (c.next_variable-m.ensures a.frame) _ c.locals_beyond.ensures g q c.if-locals_beyond.false
    c.list_arguments.ensures (λ h x. c.numbered_body.ensures h (arguments_cut x))
