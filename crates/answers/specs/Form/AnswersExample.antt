-- Lists of answers, by evaluation: p(V) :- V=a ; V=b., whose query p(V) has two answers; r :- true ; r., whose exits deeper down are none; a variable that
-- no bet binds.
use Rattle.std.specs.Prelude.{◌≡◌, refl, List, [], ◌∷◌, ◌++◌, ℕ}
use Rattle.std.proofs.Math.Decide.{ℕ_discrete, dec_lt}
use Rattle.records.specs.Format.Syntax.{var, app, nil, cons, Goal, truth, equal, disj, atom, Definition, definition, goal?, event?}
use Rattle.records.specs.Format.Encode.{record_of, goal_bytes}
use Rattle.records.specs.Gate.Question.{question_number}
use Rattle.records.specs.Gate.Reply.{on_yes, through}
use Rattle.terms.specs.Theory.Substitution.{apply}
use Rattle.terms.specs.Theory.Unify.{unify}
use Rattle.terms.specs.Theory.Outcome.{value_under, unified_under}
use Rattle.terms.specs.Body.Body.{next_variable, definition_of, body}
use Rattle.stepper.specs.Rules.Rules.{first_event}
use Rattle.stepper.specs.Run.Run.{run, stop_number}
use Rattle.stepper.specs.Services.Services.{machine, record_limit}
use Rattle.stepper.specs.Services.Desk.{layers}
use Rattle.answers.specs.Form.Answer.{query_variables, values_of, solution_for, solution_into}
use Rattle.answers.specs.Form.Answers.{Written, exit_bets, events, events_number, settled, from_event, written, answers_from, answers}

-- p(V) :- V=a ; V=b.  r :- true ; r.
abbrev body_p : Goal
body_p = disj (equal (var 0) (app 1 nil)) (equal (var 0) (app 2 nil))

abbrev body_r : Goal
body_r = disj truth (atom 2 nil)

abbrev rules : List Definition
rules = definition 1 1 0 body_p ∷ definition 2 0 0 body_r ∷ []

-- the desk's list for a query within so many steps and so much room, opened to all that it computes by
unfoldable pub listed_within : Goal → (n room : ℕ) → Written
unfolding answers_from written events events_number from_event settled exit_bets solution_into solution_for values_of query_variables run stop_number through on_yes question_number first_event record_limit record_of unified_under value_under apply unify body definition_of next_variable goal? event? ℕ_discrete dec_lt
listed_within q n room = answers (machine layers rules) q n room

abbrev p_V : Goal
p_V = atom 1 (cons (var 0) nil)

-- V is a, by the first half of the body; and b, by the second
abbrev pub first_light : List ℕ
first_light = 0x00 ∷ 0x01 ∷ 0x00 ∷ 0x00 ∷ 0x02 ∷ 0x00 ∷ 0x01 ∷ 0x00 ∷ 0x00 ∷ 0x02 ∷ 0x21 ∷ 0x01 ∷ 0x22 ∷ goal_bytes body_p

abbrev pub second_light : List ℕ
second_light = 0x00 ∷ 0x01 ∷ 0x00 ∷ 0x00 ∷ 0x02 ∷ 0x00 ∷ 0x02 ∷ 0x00 ∷ 0x00 ∷ 0x02 ∷ 0x21 ∷ 0x02 ∷ 0x22 ∷ goal_bytes body_p

-- the walk fails after 25 steps, and a step more says that the list is whole
pub p_whole : listed_within p_V 26 64 ≡ record { bytes = first_light ++ second_light; taken = 25; number = 6 }
unfolding listed_within
p_whole = refl

pub at_the_fail : listed_within p_V 25 64 ≡ record { bytes = first_light ++ second_light; taken = 25; number = 0 }
unfolding listed_within
at_the_fail = refl

-- one step before an exit, at it, and none at all
pub before_exit : listed_within p_V 5 64 ≡ record { bytes = []; taken = 5; number = 0 }
unfolding listed_within
before_exit = refl

pub at_exit : listed_within p_V 6 64 ≡ record { bytes = first_light; taken = 6; number = 0 }
unfolding listed_within
at_exit = refl

pub no_steps : listed_within p_V 0 64 ≡ record { bytes = []; taken = 0; number = 0 }
unfolding listed_within
no_steps = refl

-- room to the last byte, and a byte less: the first answer is kept, and the step to the second exit is made
pub to_the_byte : listed_within p_V 26 60 ≡ record { bytes = first_light ++ second_light; taken = 25; number = 6 }
unfolding listed_within
to_the_byte = refl

pub byte_short : listed_within p_V 26 59 ≡ record { bytes = first_light; taken = 16; number = 10 }
unfolding listed_within
byte_short = refl

-- r exits after 6 steps and after 20. The exit of the r inside it, after 18, has three ancestors and is no answer. There is no variable.
abbrev pub first_r : List ℕ
first_r = 0x00 ∷ 0x00 ∷ 0x00 ∷ 0x02 ∷ 0x21 ∷ 0x01 ∷ 0x22 ∷ goal_bytes body_r

abbrev pub second_r : List ℕ
second_r = 0x00 ∷ 0x00 ∷ 0x00 ∷ 0x04 ∷ 0x21 ∷ 0x01 ∷ 0x22 ∷ goal_bytes body_r ++ (0x21 ∷ 0x02 ∷ 0x22 ∷ goal_bytes body_r)

pub deeper : listed_within (atom 2 nil) 19 64 ≡ record { bytes = first_r; taken = 19; number = 0 }
unfolding listed_within
deeper = refl

pub again : listed_within (atom 2 nil) 20 64 ≡ record { bytes = first_r ++ second_r; taken = 20; number = 0 }
unfolding listed_within
again = refl

-- V3=V3 binds nothing, and its variable is paired with itself
pub unbound : listed_within (equal (var 3) (var 3)) 8 64 ≡ record { bytes = 0x00 ∷ 0x01 ∷ 0x00 ∷ 0x03 ∷ 0x01 ∷ 0x00 ∷ 0x03 ∷ 0x00 ∷ 0x00 ∷ []; taken = 7; number = 6 }
unfolding listed_within
unbound = refl
