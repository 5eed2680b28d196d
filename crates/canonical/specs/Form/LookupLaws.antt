-- What the calculus finds in a canonical form: the definition of a predicate is made from that predicate's clauses alone, in their order; without
-- clauses there is none, and with clauses exactly one. So clauses of other predicates, before or after, change nothing.
use Rattle.std.specs.Prelude.{◌≡◌, refl, Bool, true, false, not, cond, List, [], ◌∷◌, ◌++◌, ℕ, suc, ◌+◌, ◌*◌, ◌≤◌, ◌<◌, eqb, ltb}
use Rattle.std.proofs.Common.{sym, ap, ◌∙◌, append-nil, arith, eqb-true, ltb-false, le-ltb}
use Rattle.std.proofs.Math.Option.{Option, some}
use Rattle.std.proofs.lemmas.Bool.{not-true}
use Rattle.records.specs.Format.Syntax.{Definition, Clause}
use Rattle.records.specs.Format.Syntax.Definition.{definition}
use Rattle.records.specs.Format.Formed.{All}
use Rattle.records.specs.Gate.RecordRules.{rising_from, rising, keys}
use Rattle.records.specs.Gate.RecordRulesLaws.{and_both}
use Rattle.terms.specs.Body.Body.{defines, definition_of}
use Rattle.canonical.specs.Form.Canonical.{Predicate, predicate, predicate_of, same_predicate, predicates, clauses_of, defined_by, if_any, definitions, canonical}
use Rattle.canonical.specs.Form.PredicateLaws.{ArityFits, same_equal, Rising, predicates_rise, listed, unlisted_none, clauses_of_append}

-- the definition that the clauses of p of arity n make
abbrev pub own_definition : List Clause → ℕ → ℕ → Option Definition
own_definition cs p n = defined_by (predicate p n) (clauses_of (predicate p n) cs)

-- it is found among the definitions of predicates that list p of arity n, or of any if it has no clauses
own_found : (l : List Predicate) (cs : List Clause) (p n : ℕ) → (listed (predicate p n) l ≡ false → clauses_of (predicate p n) cs ≡ [])
    → definition_of (definitions l cs) p n ≡ own_definition cs p n
unfolding definition_of
own_found [] cs p n h = sym (ap (defined_by (predicate p n)) (h refl))
own_found (predicate q m ∷ l) cs p n h =
    go (same_predicate (predicate p n) (predicate q m)) refl (clauses_of (predicate q m) cs) refl (own_found l cs p n)
  where
    go : (b : Bool) → same_predicate (predicate p n) (predicate q m) ≡ b → (gs : List Clause) → clauses_of (predicate q m) cs ≡ gs
        → ((listed (predicate p n) l ≡ false → clauses_of (predicate p n) cs ≡ []) → definition_of (definitions l cs) p n ≡ own_definition cs p n)
        → definition_of (if_any (defined_by (predicate q m) gs) (definitions l cs)) p n ≡ own_definition cs p n
    go true e [] f later = later (λ z. ap (λ x. clauses_of x cs) (same_equal (predicate p n) (predicate q m) e) ∙ f)
    go true e (c ∷ gs) f later =
        rw e (sym (ap (λ x. defined_by x (clauses_of x cs)) (same_equal (predicate p n) (predicate q m) e) ∙ ap (defined_by (predicate q m)) f))
    go false e [] f later = later (λ z. h (rw e z))
    go false e (c ∷ gs) f later = rw e (later (λ z. h (rw e z)))

-- the definition found in a canonical form is the one that the predicate's own clauses make, and there is none without clauses
pub canonical_of : (cs : List Clause) (p n : ℕ) → definition_of (canonical cs) p n ≡ own_definition cs p n
unfolding canonical
canonical_of cs p n = own_found (predicates cs) cs p n (unlisted_none (predicate p n) cs)

-- it depends on the predicate's own clauses only, in their order
pub canonical_own : (cs ds : List Clause) (p n : ℕ) → clauses_of (predicate p n) cs ≡ clauses_of (predicate p n) ds
    → definition_of (canonical cs) p n ≡ definition_of (canonical ds) p n
canonical_own cs ds p n e = canonical_of cs p n ∙ ap (defined_by (predicate p n)) e ∙ sym (canonical_of ds p n)

-- in two clause lists, one after the other, a predicate with clauses in one only has its definition in that one's canonical form
pub canonical_first : (cs ds : List Clause) (p n : ℕ) → clauses_of (predicate p n) ds ≡ []
    → definition_of (canonical (cs ++ ds)) p n ≡ definition_of (canonical cs) p n
canonical_first cs ds p n e =
    canonical_own (cs ++ ds) cs p n
    (clauses_of_append (predicate p n) cs ds ∙ ap (λ (l : List Clause). clauses_of (predicate p n) cs ++ l) e ∙ append-nil (clauses_of (predicate p n) cs))

pub canonical_second : (cs ds : List Clause) (p n : ℕ) → clauses_of (predicate p n) cs ≡ []
    → definition_of (canonical (cs ++ ds)) p n ≡ definition_of (canonical ds) p n
canonical_second cs ds p n e =
    canonical_own (cs ++ ds) ds p n
    (clauses_of_append (predicate p n) cs ds ∙ ap (λ (l : List Clause). l ++ clauses_of (predicate p n) ds) e)

-- the definitions of rising predicates rise
definitions_rise : (from low : ℕ) (l : List Predicate) (cs : List Clause) → low ≤ from → Rising from l
    → rising_from low (keys (definitions l cs)) ≡ true
definitions_rise from low [] cs b r = refl
definitions_rise from low (predicate p n ∷ l) cs b r =
    go (clauses_of (predicate p n) cs) (definitions_rise (suc (p * 256 + n)) low l cs (omega (arith, r.0)) r.1)
    (definitions_rise (suc (p * 256 + n)) (suc (p * 256 + n)) l cs (omega arith) r.1)
  where
    go : (gs : List Clause) → rising_from low (keys (definitions l cs)) ≡ true → rising_from (suc (p * 256 + n)) (keys (definitions l cs)) ≡ true
        → rising_from low (keys (if_any (defined_by (predicate p n) gs) (definitions l cs))) ≡ true
    go [] i j = i
    go (c ∷ gs) i j = rw (le-ltb (p * 256 + n) low (omega (arith, r.0))) j

pub canonical_rises : (cs : List Clause) → All (λ c. ArityFits (predicate_of c)) cs → rising (keys (canonical cs)) ≡ true
unfolding canonical
canonical_rises cs h = definitions_rise 0 0 (predicates cs) cs (omega arith) (predicates_rise cs h)

-- all definitions of p of arity n
abbrev pub definitions_of : List Definition → ℕ → ℕ → List Definition
definitions_of [] p n = []
definitions_of (d ∷ ds) p n = cond (defines p n d) (d ∷ definitions_of ds p n) (definitions_of ds p n)

-- where keys rise there is at most one, the one found
none_above : (low : ℕ) (ds : List Definition) (p n : ℕ) → rising_from low (keys ds) ≡ true → p * 256 + n < low → definitions_of ds p n ≡ []
none_above low [] p n h b = refl
none_above low (definition q m k g ∷ ds) p n h b =
    let w = and_both (not (ltb (q * 256 + m) low)) (rising_from (suc (q * 256 + m)) (keys ds)) h in
    let z = ltb-false (q * 256 + m) low (not-true (ltb (q * 256 + m) low) w.0) in
    go (defines p n (definition q m k g)) refl z (none_above (suc (q * 256 + m)) ds p n w.1 (omega arith))
  where
    go : (b : Bool) → defines p n (definition q m k g) ≡ b → low ≤ q * 256 + m → definitions_of ds p n ≡ []
        → cond b (definition q m k g ∷ definitions_of ds p n) (definitions_of ds p n) ≡ []
    go true e z i =
        let y = and_both (eqb p q) (eqb n m) e in
        absurd (omega (arith, eqb-true p q y.0, eqb-true n m y.1))
    go false e z i = i

at_most_one : (low : ℕ) (ds : List Definition) (p n : ℕ) → rising_from low (keys ds) ≡ true → definitions_of ds p n ≡ if_any (definition_of ds p n) []
unfolding definition_of
at_most_one low [] p n h = refl
at_most_one low (definition q m k g ∷ ds) p n h =
    let w = and_both (not (ltb (q * 256 + m) low)) (rising_from (suc (q * 256 + m)) (keys ds)) h in
    go (defines p n (definition q m k g)) refl (none_above (suc (q * 256 + m)) ds p n w.1) (at_most_one (suc (q * 256 + m)) ds p n w.1)
  where
    go : (b : Bool) → defines p n (definition q m k g) ≡ b → (p * 256 + n < suc (q * 256 + m) → definitions_of ds p n ≡ [])
        → definitions_of ds p n ≡ if_any (definition_of ds p n) []
        → cond b (definition q m k g ∷ definitions_of ds p n) (definitions_of ds p n)
        ≡ if_any (cond b (some (definition q m k g)) (definition_of ds p n)) []
    go true e j i =
        let y = and_both (eqb p q) (eqb n m) e in
        ap (λ (l : List Definition). definition q m k g ∷ l) (j (omega (arith, eqb-true p q y.0, eqb-true n m y.1)))
    go false e j i = i

-- a predicate without clauses has no definition, and one with clauses exactly one
pub canonical_one : (cs : List Clause) → All (λ c. ArityFits (predicate_of c)) cs → (p n : ℕ)
    → definitions_of (canonical cs) p n ≡ if_any (own_definition cs p n) []
canonical_one cs h p n =
    at_most_one 0 (canonical cs) p n (canonical_rises cs h) ∙ ap (λ (o : Option Definition). if_any o []) (canonical_of cs p n)
