-- What a service works out, and what it leaves (SPECIFICATION 7.8): the question that refuses, or what is given; then a number, and the output afterwards.
use Rattle.std.specs.Prelude.{◌≡◌, Bool, true, false, List, ◌++◌, ℕ, length, drop, Result, Ok, Err}
use Rattle.records.specs.Gate.Question.{Question, question_number, refusal, refusal_number}
use Rattle.records.specs.declared.questions.Refusal.{Refusal}
use Rattle.records.specs.Gate.Receipt.{Receipt}

pub data Answer (A : Type 0) : Type 0 where
  refused : Question → Answer A
  gives : A → Answer A
  deriving Discrete as Answer-discrete

-- the question q is put: on yes, what follows
unfoldable pub on_yes : {A : Type 0} → Question → Bool → Answer A → Answer A
on_yes q true next = next
on_yes q false next = refused q

-- a refusal ends the matter, and what is given goes on
unfoldable pub through : {A R : Type 0} → (Question → R) → Answer A → (A → R) → R
through stop (refused q) next = stop q
through stop (gives a) next = next a

-- 0 is done; a refusal has its question's number
unfoldable pub answer_number : {A : Type 0} → Answer A → ℕ
unfolding question_number
answer_number (refused q) = question_number q
answer_number (gives a) = 0

-- what code tells of an answer: done, or the question that refuses
unfoldable pub told : {A : Type 0} → Answer A → Result (Unit {0}) Refusal
told (refused q) = Err (refusal q)
told (gives a) = Ok tt

-- the number of what code tells
abbrev pub outcome_number : {T : Type 0} → Result T Refusal → ℕ
outcome_number (Ok x) = 0
outcome_number (Err r) = refusal_number r

-- a service's number, and its output afterwards
pub record Reply : Type 0 where
  pub number : ℕ
  pub output : List ℕ

-- a refusal leaves the output untouched, and what is written the bytes after it
unfoldable pub reply_with : {A : Type 0} → (A → List ℕ) → List ℕ → Answer A → Reply
unfolding question_number
reply_with bytes out (refused q) = record { number = question_number q; output = out }
reply_with bytes out (gives a) = record { number = 0; output = bytes a ++ drop (length (bytes a)) out }

-- the number that code gives, and the output that it leaves, are the reply's
pub record Replied (r : Reply) (number : ℕ) (after : List ℕ) : Type 0 where
  pub number_is : number ≡ r.number
  pub output_is : after ≡ r.output

-- how long what is written is; a refusal writes nothing
unfoldable pub answer_length : {A : Type 0} → (A → List ℕ) → Answer A → ℕ
answer_length bytes (refused q) = 0
answer_length bytes (gives a) = length (bytes a)

-- the same where the code tells how many bytes it wrote
pub record Receipted {A : Type 0} (bytes : A → List ℕ) (a : Answer A) (before : List ℕ) (receipt : Receipt) (after : List ℕ) : Type 0 where
  pub number_is : receipt.number ≡ answer_number a
  pub length_is : receipt.length ≡ answer_length bytes a
  pub output_is : after ≡ (reply_with bytes before a).output
