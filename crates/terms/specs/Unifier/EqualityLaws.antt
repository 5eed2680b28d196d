-- Laws of the answer for an equality: from what the tables of two values hold, and from two values to the terms under a bet stack.
use Rattle.std.specs.Prelude.{◌≡◌, List, ℕ, ◌≤◌, ◌<◌, take, Some, None, Ok, Err}
use Rattle.std.proofs.Math.Path.{refl, ap}
use Rattle.std.proofs.Common.{sym, arith, length-take}
use Rattle.std.proofs.Math.Option.{none, some}
use Rattle.std.proofs.Math.Numerals.{unary_clauses}
use Rattle.std.proofs.Math.ListN.{length}
use borrow.Author.Tests.{le-leb, lt-leb}
use Rattle.records.specs.Format.Syntax.{Term, Bet}
use Rattle.records.specs.Format.Encode.{term_bytes}
use Rattle.records.specs.Format.Formed.{All, TermFormed, BetFormed}
use Rattle.records.specs.Gate.Reply.{on_yes, reply_with}
use Rattle.records.specs.Writing.PatchedLaws.{put_front}
use Rattle.records.specs.Ends.Range.{cut, size}
use Rattle.records.specs.Ends.StandsLaws.{stands_cut, stands_within}
use Rattle.terms.specs.Theory.Substitution.{apply}
use Rattle.terms.specs.Theory.SubstitutionLaws.{term_length_least}
use Rattle.terms.specs.Theory.FormedLaws.{apply_formed}
use Rattle.terms.specs.Theory.Unify.{unify}
use Rattle.terms.specs.Theory.Outcome.{value_under, as_unified, outcome_of, unified_under}
use Rattle.terms.specs.Classes.Nodes.{Nodes}
use Rattle.terms.specs.Unifier.UnifierAnswer.{UnifierHeld, UnifierFits, UnifierPut}
use Rattle.terms.specs.Unifier.UnificationLaws.{exact_length, unifier_fits}
use Rattle.terms.specs.Values.Answered as applied
use Rattle.terms.specs.Values.AnsweredLaws.{answered_fits, answered_large}
use Rattle.terms.specs.Unifier.Equality.{unifier_bytes, unifier_given, UnifierAnswered, OneValue}
use Rattle.terms.specs.declared.unifier.UnifierFound.{UnifierFound}
use Rattle.terms.specs.Values.Sized.{Sized}
use Rattle.terms.specs.Unifier.Equality.{UnifierAnswer}
use Rattle.terms.specs.declared.equality.UnifierRefusal.TheVariants.{TooLarge, TooLong}

abbrev given_of : ℕ → UnifierAnswer
given_of n = Ok (Some n)

pub clashed : (s t : Term) {before : List ℕ} → unify s t ≡ none → UnifierAnswered before before (as_unified (unify s t)) (Ok None)
unfolding unifier_given reply_with
clashed s t h = rw h (record { is = refl; output_is = refl })

module _ {n : Nodes} {rep size : List ℕ} {o : UnifierFound} {s t : Term} (w : UnifierHeld n rep size o s t) {before : List ℕ} where
  -- too long for a record, and for the output
  pub beyond_record : 32768 < o.length → UnifierAnswered before before (as_unified (unify s t)) (Err TooLong)
  unfolding unifier_given on_yes reply_with
  beyond_record k =
      let l : 32768 < length (unifier_bytes w.σ) = omega (arith, w.length_is) in
      let b = lt-leb (length (unifier_bytes w.σ)) 32768 l in
      rw w.is (record { is = rw b; output_is = rw b })

  pub beyond_output : o.length ≤ 32768 → length before < o.length → UnifierAnswered before before (as_unified (unify s t)) (Err TooLong)
  unfolding unifier_given on_yes reply_with
  beyond_output j k =
      let l = exact_length w (omega arith) in
      let a = le-leb (length (unifier_bytes w.σ)) 32768 (omega arith) in
      let b = lt-leb (length (unifier_bytes w.σ)) (length before) (omega arith) in
      rw w.is (record { is = rw (a, b); output_is = rw (a, b) })

  -- one that fits
  pub has_room : o.length ≤ 32768 → o.length ≤ length before → UnifierFits n rep size o.nodes before 0
  has_room j k = unifier_fits w before 0 j (omega arith)

  pub written : {after : List ℕ} {end : ℕ} → o.length ≤ 32768 → o.length ≤ length before
      → UnifierPut n rep size o.nodes before 0 after end → UnifierAnswered before after (as_unified (unify s t)) (Ok (Some o.length))
  unfolding unifier_given on_yes reply_with
  written j k p =
      let l = exact_length w (omega arith) in
      let a = le-leb (length (unifier_bytes w.σ)) 32768 (omega arith) in
      let b = le-leb (length (unifier_bytes w.σ)) (length before) (omega arith) in
      rw w.is (record { is = rw (a, b) (ap given_of (sym l)); output_is = rw (a, b) (put_front (p.each w.σ w.holds) (omega arith)) })

-- what the value of a term is as bytes: question 8 says yes to it
module _ {bets : List Bet} (s : Term) {a : List ℕ} {r : Sized} {k : ℕ} (h : applied.Answered bets s a r) (e : r ≡ Some k) where
  pub value_length : k ≤ length a
  value_length = (stands_within (answered_fits h e).1 (omega (arith, term_length_least (apply bets s)))).1

  pub value_bytes : take k a ≡ term_bytes (apply bets s)
  unfolding cut size
  value_bytes = simp unary_clauses at (stands_cut (answered_fits h e).1)

  abbrev pub one_value : All BetFormed bets → TermFormed s → OneValue (take k a)
  one_value f g = record {
    value = record { term = apply bets s; formed = apply_formed bets s f g; same = value_bytes };
    short = omega (arith, length-take k a, (answered_fits h e).2);
  }

-- the answer for the value of the one term and then of the other
module _ {bets : List Bet} {before : List ℕ} where
  pub left_large : (s t : Term) {a : List ℕ} {r : Sized} → applied.Answered bets s a r → r ≡ None → UnifierAnswered before before (unified_under bets s t) (Err TooLarge)
  unfolding unified_under unifier_given reply_with
  left_large s t h e = rw (answered_large h e) (record { is = refl; output_is = refl })

  pub right_large : (s t : Term) {b : List ℕ} {r : Sized} → applied.Answered bets t b r → r ≡ None
      → UnifierAnswered before before (outcome_of (some s) (value_under bets t)) (Err TooLarge)
  unfolding unifier_given reply_with
  right_large s t h e = rw (answered_large h e) (record { is = refl; output_is = refl })

  pub right_within : (s t : Term) {after b : List ℕ} {r : Sized} {m : ℕ} {x : UnifierAnswer} → applied.Answered bets t b r → r ≡ Some m
      → UnifierAnswered before after (as_unified (unify s (apply bets t))) x → UnifierAnswered before after (outcome_of (some s) (value_under bets t)) x
  right_within s t h e w = rw (answered_fits h e).0 w

  pub left_within : (s t : Term) {after a : List ℕ} {r : Sized} {k : ℕ} {x : UnifierAnswer} → applied.Answered bets s a r → r ≡ Some k
      → UnifierAnswered before after (outcome_of (some (apply bets s)) (value_under bets t)) x → UnifierAnswered before after (unified_under bets s t) x
  unfolding unified_under
  left_within s t h e w = rw (answered_fits h e).0 w
