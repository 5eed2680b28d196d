-- `atom_body` finds the definition, and then the body by it.
use Rattle.std.specs.Prelude.{Some}
use mathlib.Core.Path.{ap, ◌∙◌}
use Rattle.terms.specs.Body.AnswerLaws.{atom_is, atom_inner, atom_head, body_undefined, place_goal, body_defined}
use Rattle.terms.proofs.body.atom_body.Goals as goal

pub returns-in_default : goal.returns-in_default
returns-in_default c = λ d a. absurd (c.in_default.not-Some _ (atom_is a c.goal_head.ensures))

pub returns-in_default-head : goal.returns-in_default-head
returns-in_default-head c = λ d a. absurd (c.in_default-head.not-Atom _ _ (atom_inner a c.goal_head.ensures c.in-Some.is))

pub body_with-requires : goal.body_with-requires
body_with-requires c = record { goal_at = place_goal c.requires.atom_at c.requires.program_at c.goal_head.ensures (c.in-Some.is ∙ ap Some c.in-Atom.is) (c.find_definition.ensures c.requires.program_at) c.in-Some-find_definition.is; terms_value = (c.requires.atom_at, (atom_head c.requires.atom_at c.goal_head.ensures (c.in-Some.is ∙ ap Some c.in-Atom.is)).1) }

pub returns-in-None : goal.returns-in-None
returns-in-None c = λ d a. body_undefined a d c.goal_head.ensures (c.in-Some.is ∙ ap Some c.in-Atom.is) _ (c.find_definition.ensures d) c.in-None.is

pub returns-in-Some-find_definition : goal.returns-in-Some-find_definition
returns-in-Some-find_definition c = λ d a. body_defined a d c.goal_head.ensures (c.in-Some.is ∙ ap Some c.in-Atom.is) (c.find_definition.ensures d) c.in-Some-find_definition.is c.body_with.ensures
