-- What is told of writing: a number, and how many bytes were written.
use Rattle.std.specs.Prelude.{ℕ, Result, Ok, Err}
use Rattle.records.specs.Gate.Question.{refusal_number}
use Rattle.records.specs.declared.questions.Refusal.{Refusal}

pub record Receipt : Type 0 where
  pub number : ℕ
  pub length : ℕ

-- code tells the length, or the question that refuses
abbrev pub receipt_of : Result ℕ Refusal → Receipt
receipt_of (Ok n) = record { number = 0; length = n }
receipt_of (Err r) = record { number = refusal_number r; length = 0 }
