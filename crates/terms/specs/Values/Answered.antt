-- Question 8 in code: the answer of the functions that compute S(T) and S(v) into a buffer.
use Rattle.std.specs.Prelude.{◌≡◌, refl, List, [], ◌∷◌, ℕ, ◌*◌, ◌/◌, ◌≤◌, ◌<◌, ◌%◌, length, get_or, Some, None}
use Rattle.std.proofs.Math.Option.{Option, none, some}
use Rattle.records.specs.Format.Syntax.{Term, Bet}
use Rattle.records.specs.Format.Syntax.Term.{var}
use Rattle.records.specs.Format.Encode.{term_bytes}
use Rattle.records.specs.Ends.Stands.{Stands}
use Rattle.terms.specs.Theory.Substitution.{apply}
use Rattle.terms.specs.Theory.Outcome.{value_limit, value_under}
use Rattle.terms.specs.Values.Applied.{TermAt}
use Rattle.terms.specs.declared.pairs.ListedPair.{ListedPair}
use Rattle.terms.specs.Values.Sized.{Sized}

-- the answer for a value; there is none where it is beyond the limit
abbrev pub sized : Option Term → Sized
sized none = None
sized (some t) = Some (length (term_bytes t))

-- the number (SPECIFICATION 7.6) for an answer: question 8 says no, else 0
abbrev pub value_refusal : Sized → ℕ
value_refusal (Some n) = 0
value_refusal None = 8

-- the answer is that for the value, and the value's bytes stand at the start of the buffer
pub record Answered (bets : List Bet) (t : Term) (out : List ℕ) (r : Sized) : Type 0 where
  pub is : r ≡ sized (value_under bets t)
  pub written : value_under bets t ≡ some (apply bets t) → Stands out 0 (term_bytes (apply bets t)) (length (term_bytes (apply bets t)))

-- the table has an entry for every 5 bytes of the event, and the output is as long as the limit
pub record Buffers (event : List ℕ) (listed : List ListedPair) (out : List ℕ) : Type 0 where
  pub entries : length event ≤ 5 * length listed
  pub limit : length out ≡ value_limit

-- a variable in three bytes
abbrev pub variable_at : {b : List ℕ} (v : ℕ) → v < 65536 → b ≡ v / 256 % 256 ∷ v % 256 ∷ [] → TermAt (1 ∷ get_or b 0 0 ∷ get_or b 1 0 ∷ []) 0 3
variable_at {b} v h e = record { term = var v; formed = h; stands = record { end = refl; bytes = rw e refl } }
