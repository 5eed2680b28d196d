-- Laws of answers and replies: numbers name questions, 0 says that something was given, and a refusal leaves the output untouched.
use Rattle.std.specs.Prelude.{◌≡◌, Bool, true, false, cond, ◌↔◌, List, ℕ, ◌≤◌, eqb, length}
use Rattle.std.proofs.Math.Path.{refl, sym, ap}
use Rattle.std.proofs.Common.{◌∙◌, arith, length-take-le}
use Rattle.std.proofs.Math.Nat.{zero-add}
use Rattle.std.proofs.Math.Seq.{length_front}
use Rattle.records.specs.Format.Never.{never}
use Rattle.records.specs.Gate.Question.{Question, of_program, of_event, output, possible, matches, values, locals, fits, allowed, characters, syntax, space, framing, version, grammar, rules, question_number}
use Rattle.records.specs.Writing.Patched.{Put}
use Rattle.records.specs.Writing.PatchedLaws.{put_front, patched_front}
use Rattle.records.specs.Gate.Receipt.{Receipt}
use Rattle.records.specs.Gate.Reply.{Answer, refused, gives, on_yes, through, answer_number, reply_with, Replied, answer_length, Receipted}

-- the question that has a number (where none has it, this is of no account)
question_of : ℕ → Question
question_of n =
    cond (eqb n 1) (of_program framing) (cond (eqb n 2) (of_program version) (cond (eqb n 3) (of_program grammar) (cond (eqb n 4) (of_program rules)
    (cond (eqb n 11) (of_event framing) (cond (eqb n 12) (of_event version) (cond (eqb n 13) (of_event grammar) (cond (eqb n 14) (of_event rules)
    (cond (eqb n 5) output (cond (eqb n 6) possible (cond (eqb n 7) matches (cond (eqb n 8) values (cond (eqb n 9) locals
    (cond (eqb n 10) fits (cond (eqb n 20) characters (cond (eqb n 21) syntax (cond (eqb n 22) space allowed))))))))))))))))

question_of_number : (q : Question) → question_of (question_number q) ≡ q
unfolding question_number question_of
question_of_number (of_program framing) = refl
question_of_number (of_program version) = refl
question_of_number (of_program grammar) = refl
question_of_number (of_program rules) = refl
question_of_number (of_event framing) = refl
question_of_number (of_event version) = refl
question_of_number (of_event grammar) = refl
question_of_number (of_event rules) = refl
question_of_number output = refl
question_of_number possible = refl
question_of_number matches = refl
question_of_number values = refl
question_of_number locals = refl
question_of_number fits = refl
question_of_number allowed = refl
question_of_number characters = refl
question_of_number syntax = refl
question_of_number space = refl

-- what is given is one thing, and a refusal gives nothing
pub gives_injective : {A : Type 0} {x y : A} → gives x ≡ gives y → x ≡ y
gives_injective {A} {x} {y} e = cc

pub refused_not_gives : {A : Type 0} {q : Question} {x : A} → refused q ≡ gives x → ⊥
refused_not_gives e = never cc

-- no two questions have one number
pub number_injective : (p q : Question) → question_number p ≡ question_number q → p ≡ q
number_injective p q h = sym (question_of_number p) ∙ ap question_of h ∙ question_of_number q

-- no question has the number 0
pub number_positive : (q : Question) → question_number q ≡ 0 → ⊥
unfolding question_number
number_positive (of_program framing) h = omega (arith, h)
number_positive (of_program version) h = omega (arith, h)
number_positive (of_program grammar) h = omega (arith, h)
number_positive (of_program rules) h = omega (arith, h)
number_positive (of_event a) h = omega (arith, h)
number_positive output h = omega (arith, h)
number_positive possible h = omega (arith, h)
number_positive matches h = omega (arith, h)
number_positive values h = omega (arith, h)
number_positive locals h = omega (arith, h)
number_positive fits h = omega (arith, h)
number_positive allowed h = omega (arith, h)
number_positive characters h = omega (arith, h)
number_positive syntax h = omega (arith, h)
number_positive space h = omega (arith, h)

-- a number other than 0 is that of the question that refuses
pub record RefusedBy {A : Type 0} (a : Answer A) (n : ℕ) : Type 0 where
  pub question : Question
  pub refuses : a ≡ refused question
  pub number_is : n ≡ question_number question

pub number_refuses : {A : Type 0} (a : Answer A) {n : ℕ} → n ≡ answer_number a → (n ≡ 0 → ⊥) → RefusedBy a n
unfolding answer_number
number_refuses (refused q) e z = record { question = q; refuses = refl; number_is = e }
number_refuses (gives a) e z = absurd (z e)

-- 0 says that something was given
pub number_gives : {A : Type 0} (a : Answer A) {n : ℕ} → n ≡ answer_number a → n ≡ 0 → (x : A) × (a ≡ gives x)
unfolding answer_number
number_gives (refused q) e z = absurd (number_positive q (sym e ∙ z))
number_gives (gives a) e z = (a, refl)

-- a question that was passed
pub yes_gives : {A : Type 0} (q : Question) (b : Bool) (next : Answer A) {x : A} → on_yes q b next ≡ gives x → (b ≡ true) × (next ≡ gives x)
unfolding on_yes
yes_gives q true next e = (refl, e)
yes_gives q false next e = never cc

-- what is given came through an answer that gave
pub through_gives : {A B : Type 0} (a : Answer A) (next : A → Answer B) {y : B} → through refused a next ≡ gives y → (x : A) × (a ≡ gives x) × (next x ≡ gives y)
unfolding through
through_gives (refused q) next e = never cc
through_gives (gives a) next e = (a, refl, e)

-- what is made of what is given has its number
pub through_number : {A B : Type 0} (a : Answer A) (f : A → B) → answer_number a ≡ answer_number (through refused a (λ x. gives (f x)))
unfolding through answer_number
through_number (refused q) f = refl
through_number (gives x) f = refl

module _ {A : Type 0} (bytes : A → List ℕ) (out : List ℕ) where
  pub reply_number : (a : Answer A) → (reply_with bytes out a).number ≡ answer_number a
  unfolding reply_with answer_number
  reply_number (refused q) = refl
  reply_number (gives x) = refl

  -- a reply's number is that of the question that refuses
  pub reply_refuses : (a : Answer A) (q : Question) → ((reply_with bytes out a).number ≡ question_number q) ↔ (a ≡ refused q)
  unfolding reply_with
  reply_refuses (refused p) q = (λ h. ap refused (number_injective p q h), λ h. ap (λ a. (reply_with bytes out a).number) h)
  reply_refuses (gives x) q = (λ h. absurd (number_positive q (sym h)), λ h. ap (λ a. (reply_with bytes out a).number) h)

  -- a service is done exactly where it gives something
  pub reply_gives : (a : Answer A) → (reply_with bytes out a).number ≡ 0 → (x : A) × (a ≡ gives x)
  reply_gives a h = number_gives a {n = 0} (sym h ∙ reply_number a) refl

  -- a refusal leaves the output untouched
  pub reply_untouched : (a : Answer A) → ((reply_with bytes out a).number ≡ 0 → ⊥) → (reply_with bytes out a).output ≡ out
  unfolding reply_with
  reply_untouched (refused q) h = refl
  reply_untouched (gives x) h = absurd (h refl)

  -- the output keeps its length where what is written fits it
  pub reply_length : (a : Answer A) → ((x : A) → a ≡ gives x → length (bytes x) ≤ length out) → length (reply_with bytes out a).output ≡ length out
  unfolding reply_with
  reply_length (refused q) h = refl
  reply_length (gives x) h = length_front out (bytes x) (length (bytes x)) (sym (length-take-le (length (bytes x)) out (h x refl)))

  -- what is given stands at the start of the output
  pub reply_put : (x : A) {after : List ℕ} → length (bytes x) ≤ length out → after ≡ (reply_with bytes out (gives x)).output
      → Put out 0 (bytes x) after (length (bytes x))
  unfolding reply_with
  reply_put x h e = record { place = sym (zero-add _); output = e ∙ sym (patched_front out (bytes x) h) }

  -- code that refuses, and code that writes what is given
  pub replied_refused : {a : Answer A} {q : Question} {n : ℕ} → a ≡ refused q → n ≡ question_number q → Replied (reply_with bytes out a) n out
  unfolding reply_with
  replied_refused e i = rw e (record { number_is = i; output_is = refl })

  pub replied_given : {a : Answer A} {x : A} {after : List ℕ} {n : ℕ} → a ≡ gives x → Put out 0 (bytes x) after n → length (bytes x) ≤ length out → Replied (reply_with bytes out a) 0 after
  unfolding reply_with
  replied_given e p h = rw e (record { number_is = refl; output_is = put_front p h })

  pub receipted_refused : {a : Answer A} {q : Question} {n : ℕ} → a ≡ refused q → n ≡ question_number q → Receipted bytes a out (record { number = n; length = 0 }) out
  unfolding reply_with answer_number answer_length
  receipted_refused e i = rw e (record { number_is = i; length_is = refl; output_is = refl })

  pub receipted_given : {a : Answer A} {x : A} {after : List ℕ} {n : ℕ} → a ≡ gives x → Put out 0 (bytes x) after n → length (bytes x) ≤ length out
      → Receipted bytes a out (record { number = 0; length = n }) after
  unfolding reply_with answer_number answer_length
  receipted_given e p h = rw e (record { number_is = refl; length_is = p.place ∙ zero-add _; output_is = put_front p h })

  -- a receipt for the bytes of what is given
  pub receipted_bytes : (a : Answer A) {receipt : Receipt} {after : List ℕ} → Receipted (λ b. b) (through refused a (λ x. gives (bytes x))) out receipt after
      → Receipted bytes a out receipt after
  unfolding through reply_with answer_number answer_length
  receipted_bytes (refused q) w = record { number_is = w.number_is; length_is = w.length_is; output_is = w.output_is }
  receipted_bytes (gives x) w = record { number_is = w.number_is; length_is = w.length_is; output_is = w.output_is }
