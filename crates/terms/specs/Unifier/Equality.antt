-- The answer for an equality under a bet stack, and the bytes of its unifier.
use Rattle.std.specs.Prelude.{◌≡◌, List, [], cond, ◌&&◌, ℕ, ◌≤◌, leb, length, Some, None, Ok, Err, Option, Result}
use Rattle.records.specs.Format.Syntax.{Term, Binding}
use Rattle.records.specs.Format.Encode.{term_bytes, binding_bytes, counted}
use Rattle.records.specs.Format.Formed.{TermFormed}
use Rattle.records.specs.Gate.Question.{values, fits}
use Rattle.records.specs.Gate.Reply.{Answer, refused, gives, on_yes, reply_with}
use Rattle.terms.specs.Theory.Unify.{unify}
use Rattle.records.specs.declared.put.Range.{Range}
use Rattle.terms.specs.Theory.Outcome.{value_limit, Unified, too_large, clash, unified, as_unified, unified_under}
use Rattle.terms.specs.Standing.BetRow.{RuledBets}
use Rattle.terms.specs.Values.Applied.{TermAt}
use Rattle.terms.specs.Classes.Laid.{IsValue}
use Rattle.terms.specs.declared.equality.UnifierRefusal.{UnifierRefusal}
use Rattle.records.specs.declared.questions.Refusal.{Refusal}
use Rattle.records.specs.declared.questions.Refusal.TheVariants.{Values, Fits}
use Rattle.terms.specs.declared.equality.UnifierRefusal.TheVariants.{TooLarge, TooLong}

-- the count and pairs of a unifier as bytes
abbrev pub unifier_bytes : List Binding → List ℕ
unifier_bytes σ = counted binding_bytes σ

-- how many bytes the unifier has, none where there is none, or the question that refuses
abbrev pub UnifierAnswer : Type 0
UnifierAnswer = Result (Option ℕ) UnifierRefusal

-- the answer for a unifier of so many bytes, where the output has so many
abbrev pub length_answer : (room size : ℕ) → UnifierAnswer
length_answer room size = cond (leb size 32768) (cond (leb size room) (Ok (Some size)) (Err TooLong)) (Err TooLong)

-- the answer for an outcome
abbrev pub unifier_answer : ℕ → Unified → UnifierAnswer
unifier_answer room too_large = Err TooLarge
unifier_answer room clash = Ok None
unifier_answer room (unified σ) = length_answer room (length (unifier_bytes σ))

-- the number (SPECIFICATION 7.6) of the question that says no: 8 or 10
abbrev pub unifier_refusal : UnifierRefusal → ℕ
unifier_refusal TooLarge = 8
unifier_refusal TooLong = 10

-- the question by the name that all services have for it
abbrev pub as_refusal : UnifierRefusal → Refusal
as_refusal TooLarge = Values
as_refusal TooLong = Fits

-- what is written for an outcome into an output of so many bytes: questions 8 and 10, and then the unifier's bytes; of no unifier there are none
unfoldable pub unifier_given : (room : ℕ) → Unified → Answer (List ℕ)
unfolding on_yes
unifier_given room too_large = refused values
unifier_given room clash = gives []
unifier_given room (unified σ) = on_yes fits (leb (length (unifier_bytes σ)) 32768 && leb (length (unifier_bytes σ)) room) (gives (unifier_bytes σ))

-- the answer and the output afterwards are the outcome's
pub record UnifierAnswered (before after : List ℕ) (u : Unified) (r : UnifierAnswer) : Type 0 where
  pub is : r ≡ unifier_answer (length before) u
  pub output_is : after ≡ (reply_with (λ x. x) before (unifier_given (length before) u)).output

-- a value within question 8's limit
pub record OneValue (a : List ℕ) : Type 0 where
  pub value : IsValue a
  pub short : length a ≤ value_limit

-- the answer for whatever terms the values are
pub record ValuesAnswered (a b before after : List ℕ) (r : UnifierAnswer) : Type 0 where
  pub each : (s t : Term) → TermFormed s → TermFormed t → a ≡ term_bytes s → b ≡ term_bytes t → UnifierAnswered before after (as_unified (unify s t)) r

-- n bets and two terms stand in an event: an equality and the bets that it is under
abbrev pub EqualityUnder : List ℕ → ℕ → ℕ → Range → Range → Type 0
EqualityUnder s at n left right = RuledBets s at n × TermAt s left.from left.to × TermAt s right.from right.to

-- the answer for the values that these bets give the two terms
abbrev pub UnifierUnder : List ℕ → ℕ → ℕ → Range → Range → List ℕ → List ℕ → UnifierAnswer → Type 0
UnifierUnder s at n left right before after r = (p : RuledBets s at n) (x : TermAt s left.from left.to) (y : TermAt s right.from right.to)
    → UnifierAnswered before after (unified_under p.row.items x.term y.term) r
