-- Laws of what code tells of an answer: its number, and what a service passes on.
use Rattle.std.specs.Prelude.{◌≡◌, ℕ, ◌+◌, Option, Some, None, Result, Ok, Err, ok_or}
use Rattle.std.proofs.Math.Path.{refl, ap}
use Rattle.std.proofs.Common.{◌∙◌, sym, arith}
use Rattle.records.specs.Format.Never.{never}
use Rattle.records.specs.Gate.Question.{Asked, Question, framing, version, grammar, rules, of_program, of_event, output, possible, matches, values, locals, fits, allowed, characters, syntax, space, asked_number, question_number, fault, fault_number, refusal, refusal_number}
use Rattle.records.specs.Gate.Reply.{Answer, refused, gives, answer_number, told, outcome_number}
use Rattle.records.specs.declared.questions.Fault.{Fault}
use Rattle.records.specs.declared.questions.Fault.TheVariants.{Framing, Version, Grammar, Rules}
use Rattle.records.specs.declared.questions.Refusal.{Refusal}
use Rattle.records.specs.declared.questions.Refusal.TheVariants.{Program, Event, Output, Possible, Matches, Values, Locals, Fits, Characters, Syntax, Space, Allowed}

-- a value that `ok_or` lets through, and the error that it gives
pub chosen_some : {T E : Type 0} {o : Option T} (e : E) {r : Result T E} {x : T} → r ≡ ok_or o e → r ≡ Ok x → o ≡ Some x
chosen_some {o = Some y} e is q = cc
chosen_some {o = None} e is q = never cc

pub chosen_none : {T E : Type 0} {o : Option T} (e : E) {y : E} {r : Result T E} → r ≡ ok_or o e → r ≡ Err y → (o ≡ None) × (e ≡ y)
chosen_none {o = Some y} e is q = never cc
chosen_none {o = None} e is q = (refl, cc)

-- the code's word for a question has its number
fault_same : (a : Asked) → fault_number (fault a) ≡ asked_number a
fault_same framing = refl
fault_same version = refl
fault_same grammar = refl
fault_same rules = refl

pub refusal_same : (q : Question) → refusal_number (refusal q) ≡ question_number q
unfolding question_number
refusal_same (of_program a) = fault_same a
refusal_same (of_event a) = ap (λ (n : ℕ). 10 + n) (fault_same a)
refusal_same output = refl
refusal_same possible = refl
refusal_same matches = refl
refusal_same values = refl
refusal_same locals = refl
refusal_same fits = refl
refusal_same allowed = refl
refusal_same characters = refl
refusal_same syntax = refl
refusal_same space = refl

module _ {A : Type 0} (a : Answer A) where
  -- the number of what is told is the answer's
  pub told_number : {r : Result (Unit {0}) Refusal} → r ≡ told a → outcome_number r ≡ answer_number a
  unfolding told answer_number
  told_number is = ap outcome_number is ∙ go a
    where
      go : (b : Answer A) → outcome_number (told b) ≡ answer_number b
      go (refused q) = refusal_same q
      go (gives x) = refl

  -- what refuses, and what is given
  pub told_refuses : {r : Result (Unit {0}) Refusal} {e : Refusal} → r ≡ told a → r ≡ Err e → (q : Question) × (a ≡ refused q) × (refusal q ≡ e)
  unfolding told
  told_refuses is z = go a (sym is ∙ z)
    where
      go : {e : Refusal} (b : Answer A) → told b ≡ Err e → (q : Question) × (b ≡ refused q) × (refusal q ≡ e)
      go (refused q) h = (q, refl, cc)
      go (gives x) h = never cc

  pub told_gives : {r : Result (Unit {0}) Refusal} {u : Unit {0}} → r ≡ told a → r ≡ Ok u → (x : A) × (a ≡ gives x)
  unfolding told
  told_gives is z = go a (sym is ∙ z)
    where
      go : {u : Unit {0}} (b : Answer A) → told b ≡ Ok u → (x : A) × (b ≡ gives x)
      go (refused q) h = never cc
      go (gives x) h = (x, refl)

  -- for what goes by the answer's number: that of the question that refuses, and 0
  pub told_refusal : {r : Result (Unit {0}) Refusal} {e : Refusal} → r ≡ told a → r ≡ Err e → refusal_number e ≡ answer_number a
  told_refusal is z = sym (ap outcome_number z) ∙ told_number is

  pub told_zero : {r : Result (Unit {0}) Refusal} {u : Unit {0}} → r ≡ told a → r ≡ Ok u → 0 ≡ answer_number a
  told_zero is z = sym (ap outcome_number z) ∙ told_number is

-- no question has the number 0
fault_positive : (f : Fault) → fault_number f ≡ 0 → ⊥
fault_positive Framing h = omega (arith, h)
fault_positive Version h = omega (arith, h)
fault_positive Grammar h = omega (arith, h)
fault_positive Rules h = omega (arith, h)

pub refusal_positive : (r : Refusal) → refusal_number r ≡ 0 → ⊥
refusal_positive (Program f) h = fault_positive f h
refusal_positive (Event f) h = omega (arith, h)
refusal_positive Output h = omega (arith, h)
refusal_positive Possible h = omega (arith, h)
refusal_positive Matches h = omega (arith, h)
refusal_positive Values h = omega (arith, h)
refusal_positive Locals h = omega (arith, h)
refusal_positive Fits h = omega (arith, h)
refusal_positive Characters h = omega (arith, h)
refusal_positive Syntax h = omega (arith, h)
refusal_positive Space h = omega (arith, h)
refusal_positive Allowed h = omega (arith, h)
