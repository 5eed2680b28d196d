-- The body of an atom in bytes: what stands where the code looks for it, what it writes, and what its answer means.
use Rattle.std.specs.Prelude.{◌≡◌, List, [], cond, ℕ, leb, length, Option, Some, None, Result, Ok, Err}
use Rattle.records.specs.Format.Syntax.{Terms, Goal}
use Rattle.records.specs.Format.Syntax.Goal.{atom}
use Rattle.records.specs.Format.Encode.{goal_bytes}
use Rattle.records.specs.Gate.Question.{locals, fits}
use Rattle.records.specs.Gate.Reply.{Answer, refused, gives, on_yes, reply_with}
use Rattle.terms.specs.Body.Body.{Body, too_many, undefined, defined, numbered, substitute_goal, locals_beyond}
use Rattle.terms.specs.Standing.Frames.{FrameAt}
use Rattle.terms.specs.declared.variables.Frame.{Frame}
use Rattle.records.specs.declared.questions.Refusal.{Refusal}
use Rattle.records.specs.declared.questions.Refusal.TheVariants.{Locals, Fits}
use Rattle.terms.specs.declared.body.BodyRefusal.{BodyRefusal}
use Rattle.terms.specs.declared.body.BodyRefusal.TheVariants.{TooMany, TooLong}

-- a frame whose goal is an atom
pub record AtomAt (s : List ℕ) (f : Frame) : Type 0 where
  pub frame : FrameAt s f
  pub predicate : ℕ
  pub terms : Terms
  pub atom : frame.goal.item ≡ atom predicate terms

-- a definition's goal with its variables become these arguments and the new variables from m on
unfoldable pub numbered_goal : Terms → ℕ → Goal → Goal
numbered_goal ts m g = substitute_goal (numbered ts m) g

-- the body by a definition's locals and goal
unfoldable pub body_with : ℕ → Goal → Terms → ℕ → Body
body_with l g ts m = cond (locals_beyond m l) too_many (defined (substitute_goal (numbered ts m) g))

-- how many bytes a body has, none where there is no definition, or what refuses it
abbrev pub BodyAnswer : Type 0
BodyAnswer = Result (Option ℕ) BodyRefusal

abbrev pub of_length : ℕ → BodyAnswer
of_length n = Ok (Some n)

-- the answer for a body, where the output has so many bytes
abbrev pub body_answer : ℕ → Body → BodyAnswer
body_answer room too_many = Err TooMany
body_answer room undefined = Ok None
body_answer room (defined g) = cond (leb (length (goal_bytes g)) room) (of_length (length (goal_bytes g))) (Err TooLong)

-- the number (SPECIFICATION 7.6) of the question that says no
abbrev pub body_refusal : BodyRefusal → ℕ
body_refusal TooMany = 9
body_refusal TooLong = 10

-- the question by the name that all services have for it
abbrev pub as_refusal : BodyRefusal → Refusal
as_refusal TooMany = Locals
as_refusal TooLong = Fits

-- what is written for a body into an output of so many bytes: questions 9 and 10, and then its bytes; of no body there are none
unfoldable pub body_given : (room : ℕ) → Body → Answer (List ℕ)
unfolding on_yes
body_given room too_many = refused locals
body_given room undefined = gives []
body_given room (defined g) = on_yes fits (leb (length (goal_bytes g)) room) (gives (goal_bytes g))

-- the answer and the output afterwards are the body's
pub record BodyAnswered (before after : List ℕ) (b : Body) (r : BodyAnswer) : Type 0 where
  pub is : r ≡ body_answer (length before) b
  pub output_is : after ≡ (reply_with (λ x. x) before (body_given (length before) b)).output
