-- Laws of the values under a bet stack and of the unifier of two of them: what each outcome means, and that a unifier found is a proper bet.
use Rattle.std.specs.Prelude.{◌≡◌, refl, List, Bool, true, false, ◌≤◌, ◌<◌, leb}
use Rattle.std.proofs.Common.{ap, arith, le-leb, leb-true, leb-false}
use Rattle.std.proofs.Math.Option.{Option, none, some}
use Rattle.std.proofs.lemmas.Bool.{lt-leb}
use Rattle.records.specs.Format.Syntax.{Term, Binding, Bet}
use Rattle.records.specs.Format.Syntax.Bet.{unifier}
use Rattle.records.specs.Format.Formed.{TermFormed, All, BetFormed}
use Rattle.records.specs.Gate.RecordRules.{bet_rules}
use Rattle.terms.specs.Theory.Substitution.{as_substitution, apply, term_length}
use Rattle.terms.specs.Theory.FormedLaws.{apply_formed}
use Rattle.terms.specs.Theory.Mgu.{Correct}
use Rattle.terms.specs.Theory.MguLaws.{unique}
use Rattle.terms.specs.Theory.Unify.{unify}
use Rattle.terms.specs.Theory.UnifyLaws.{unify_correct, is_unify, unify_rules}
use Rattle.terms.specs.Theory.UnifyFormedLaws.{unify_formed, unify_length}
use Rattle.terms.specs.Theory.Outcome.{ValuesWithin, Meant, value_limit, value_under, Unified, too_large, clash, unified, as_unified, outcome_of, unified_under}

-- a value within the limit, and one beyond it
pub value_within : (bets : List Bet) (t : Term) → term_length (apply bets t) ≤ value_limit → value_under bets t ≡ some (apply bets t)
unfolding value_under
value_within bets t h = rw (le-leb (term_length (apply bets t)) value_limit h)

pub value_beyond : (bets : List Bet) (t : Term) → value_limit < term_length (apply bets t) → value_under bets t ≡ none
unfolding value_under
value_beyond bets t h = rw (lt-leb (term_length (apply bets t)) value_limit h)

-- the two cases of a value
pub data Valued (bets : List Bet) (t : Term) : Type 0 where
  within : term_length (apply bets t) ≤ value_limit → value_under bets t ≡ some (apply bets t) → Valued bets t
  beyond : value_limit < term_length (apply bets t) → value_under bets t ≡ none → Valued bets t

pub valued : (bets : List Bet) (t : Term) → Valued bets t
valued bets t = go (leb (term_length (apply bets t)) value_limit) refl
  where
    go : (b : Bool) → leb (term_length (apply bets t)) value_limit ≡ b → Valued bets t
    go true e = let h = leb-true (term_length (apply bets t)) value_limit e in within h (value_within bets t h)
    go false e = let h = leb-false (term_length (apply bets t)) value_limit e in beyond h (value_beyond bets t h)

-- both values within the limit: the outcome is that of `unify`
pub unified_within : (bets : List Bet) (s t : Term) → ValuesWithin bets s t
    → unified_under bets s t ≡ as_unified (unify (apply bets s) (apply bets t))
unfolding unified_under
unified_within bets s t h = rw (value_within bets s h.0, value_within bets t h.1)

-- a value beyond the limit
pub left_too_large : (bets : List Bet) (s t : Term) → value_limit < term_length (apply bets s) → unified_under bets s t ≡ too_large
unfolding unified_under
left_too_large bets s t h = rw (value_beyond bets s h)

pub right_too_large : (bets : List Bet) (s t : Term) → value_limit < term_length (apply bets t) → unified_under bets s t ≡ too_large
unfolding unified_under
right_too_large bets s t h = rw (value_beyond bets t h) (go (value_under bets s))
  where
    go : (o : Option Term) → outcome_of o none ≡ too_large
    go none = refl
    go (some u) = refl

outcome_meant : (bets : List Bet) (s t : Term) → ValuesWithin bets s t
    → (r : Option (List Binding)) → Correct (apply bets s) (apply bets t) r → Meant bets s t (as_unified r)
outcome_meant bets s t h none c = (h, c)
outcome_meant bets s t h (some σ) c = (h, c)

-- the outcome means what it says
pub unified_meant : (bets : List Bet) (s t : Term) → Meant bets s t (unified_under bets s t)
unified_meant bets s t = go (valued bets s) (valued bets t)
  where
    go : Valued bets s → Valued bets t → Meant bets s t (unified_under bets s t)
    go (beyond h e) v = rw (left_too_large bets s t h) (λ p. let z = p.0 in omega arith)
    go (within h e) (beyond k f) = rw (right_too_large bets s t k) (λ p. let z = p.1 in omega arith)
    go (within h e) (within k f) =
        rw (unified_within bets s t (h, k))
        (outcome_meant bets s t (h, k) (unify (apply bets s) (apply bets t)) (unify_correct (apply bets s) (apply bets t)))

-- there is one right outcome
pub is_unified : (bets : List Bet) (s t : Term) (o : Unified) → Meant bets s t o → unified_under bets s t ≡ o
is_unified bets s t o m = go (unified_under bets s t) (unified_meant bets s t) o m
  where
    go : (p : Unified) → Meant bets s t p → (q : Unified) → Meant bets s t q → p ≡ q
    go too_large h too_large k = refl
    go too_large h clash k = absurd (h k.0)
    go too_large h (unified σ) k = absurd (h k.0)
    go clash h too_large k = absurd (k h.0)
    go clash h clash k = refl
    go clash h (unified σ) k = absurd (h.1 (as_substitution σ) k.1.unifies)
    go (unified σ) h too_large k = absurd (k h.0)
    go (unified σ) h clash k = absurd (k.1 (as_substitution σ) h.1.unifies)
    go (unified σ) h (unified τ) k = ap unified (unique σ τ h.1 k.1)

-- A unifier found under a bet stack is a bet that the records take in: well formed, and its pairs keep the rules.
module _ (bets : List Bet) (s t : Term) (σ : List Binding) (found : unified_under bets s t ≡ unified σ) where
  found_within : ValuesWithin bets s t × Correct (apply bets s) (apply bets t) (some σ)
  found_within = rw found at (unified_meant bets s t)

  -- it is `unify`'s answer for the two values
  pub unified_unify : unify (apply bets s) (apply bets t) ≡ some σ
  unified_unify = is_unify (apply bets s) (apply bets t) (some σ) found_within.1

  pub unified_rules : bet_rules (unifier σ) ≡ true
  unified_rules = unify_rules (apply bets s) (apply bets t) σ unified_unify

  pub unified_formed : All BetFormed bets → TermFormed s → TermFormed t → BetFormed (unifier σ)
  unified_formed b h k =
      let l = unify_length (apply bets s) (apply bets t) σ unified_unify in
      let w = found_within.0 in
      (omega arith, unify_formed (apply bets s) (apply bets t) σ unified_unify (apply_formed bets s b h) (apply_formed bets t b k))
