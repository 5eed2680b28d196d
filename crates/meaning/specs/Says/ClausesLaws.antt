-- The canonical form says what the clauses say (SPECIFICATION 9.12). What has to do with branches is shown for any bodies, so that it serves both ways.
use Rattle.std.specs.Prelude.{◌≡◌, refl, ◌⊎◌, ◌↔◌, Bool, true, false, ◌&&◌, cond, List, [], ◌∷◌, ℕ, suc, ◌+◌, eqb}
use Rattle.std.proofs.Common.{sym, ◌∙◌, ap, ap₂, subst, inl, inr, zero-add, add-zero, arith, eqb-true, eq-eqb}
use Rattle.records.specs.Format.Never.{never}
use Rattle.records.specs.Format.Syntax.{var, Terms, nil, cons, Goal, equal, atom, Clause, clause, arity}
use Rattle.records.specs.Gate.RecordRulesLaws.{and_both}
use Rattle.terms.specs.Theory.Substitution.{Substitution, substitute, substitute_all}
use Rattle.terms.specs.Theory.SubstitutionLaws.{substitute_twice, substitute_all_agree, arity_substitute}
use Rattle.terms.specs.Body.Body.{substitute_goal}
use Rattle.terms.specs.Body.GoalLaws.{substitute_goal_twice, substitute_goal_agree}
use Rattle.canonical.specs.Form.Canonical.{Predicate, predicate, predicate_of, same_predicate, clauses_of, numbered_from, branch_from, branch, variable_count, locals_of, branches, defined_by, canonical}
use Rattle.canonical.specs.Form.LookupLaws.{canonical_of}
use Rattle.meaning.specs.Says.Any.{Belongs}
use Rattle.meaning.specs.Says.Holds.{Derived, true_holds, equal_holds, both_hold, left_holds, right_holds, atom_holds, with_terms, DefinitionBody, ClauseBody, Holds, Follows}
use Rattle.meaning.specs.Says.HoldsLaws.{made_of, holds_same}
use Rattle.meaning.specs.Solutions.ExtendedLaws.{extended, extended_from}

-- the clauses of a predicate are those of the list that belong to it
module _ (x : Predicate) (c : Clause) where
  own_in : (cs : List Clause) → Belongs c (clauses_of x cs) → Belongs c cs × (same_predicate x (predicate_of c) ≡ true)
  own_in [] h = absurd h
  own_in (d ∷ cs) h = go (same_predicate x (predicate_of d)) refl (own_in cs) h
    where
      go : (b : Bool) → same_predicate x (predicate_of d) ≡ b → (Belongs c (clauses_of x cs) → Belongs c cs × (same_predicate x (predicate_of c) ≡ true))
          → Belongs c (cond b (d ∷ clauses_of x cs) (clauses_of x cs)) → Belongs c (d ∷ cs) × (same_predicate x (predicate_of c) ≡ true)
      go true e f (inl k) = (inl k, ap (λ y. same_predicate x (predicate_of y)) k ∙ e)
      go true e f (inr k) = let (i, s) = f k in (inr i, s)
      go false e f k = let (i, s) = f k in (inr i, s)

  in_own : same_predicate x (predicate_of c) ≡ true → (cs : List Clause) → Belongs c cs → Belongs c (clauses_of x cs)
  in_own s [] h = absurd h
  in_own s (d ∷ cs) h = go (same_predicate x (predicate_of d)) refl (in_own s cs) h
    where
      go : (b : Bool) → same_predicate x (predicate_of d) ≡ b → (Belongs c cs → Belongs c (clauses_of x cs)) → Belongs c (d ∷ cs)
          → Belongs c (cond b (d ∷ clauses_of x cs) (clauses_of x cs))
      go true e f (inl k) = inl k
      go true e f (inr k) = inr (f k)
      go false e f (inl k) = never (sym s ∙ ap (λ y. same_predicate x (predicate_of y)) k ∙ e)
      go false e f (inr k) = f k

-- θ from the variable k on: what becomes of a clause's variables that are numbered from k on
abbrev shifted : ℕ → Substitution → Substitution
shifted k θ i = θ (k + i)

-- θ makes the variables from x on what δ makes of the terms
abbrev Matched : Substitution → ℕ → Substitution → Terms → Type 0
Matched θ x δ nil = Unit {0}
Matched θ x δ (cons t ts) = (θ x ≡ substitute δ t) × Matched θ (suc x) δ ts

-- so where θ has arguments there, δ makes the terms these arguments, and the other way round
module _ (θ δ ε : Substitution) where
  matched_head : (x : ℕ) (hs ts : Terms) → arity hs ≡ arity ts → ((i : ℕ) → θ (x + i) ≡ with_terms ts ε i) → Matched θ x δ hs → substitute_all δ hs ≡ ts
  matched_head x nil nil a h m = refl
  matched_head x nil (cons t ts) a h m = absurd (omega (arith, a))
  matched_head x (cons t hs) nil a h m = absurd (omega (arith, a))
  matched_head x (cons s hs) (cons t ts) a h (here, rest) =
      let zero_more : x ≡ x + 0 = omega arith in
      let same : arity hs ≡ arity ts = omega (arith, a) in
      ap₂ cons (sym here ∙ ap θ zero_more ∙ h 0)
      (matched_head (suc x) hs ts same (λ i. let z : suc x + i ≡ x + suc i = omega arith in ap θ z ∙ h (suc i)) rest)

  head_matched : (x : ℕ) (hs : Terms) → ((i : ℕ) → θ (x + i) ≡ with_terms (substitute_all δ hs) ε i) → Matched θ x δ hs
  head_matched x nil h = tt
  head_matched x (cons s hs) h =
      let zero_more : x ≡ x + 0 = omega arith in
      (ap θ zero_more ∙ h 0, head_matched (suc x) hs (λ i. let z : suc x + i ≡ x + suc i = omega arith in ap θ z ∙ h (suc i)))

-- the arguments come first, then the locals
behind_terms : (ts : Terms) (ε : Substitution) (i : ℕ) → with_terms ts ε (arity ts + i) ≡ ε i
behind_terms nil ε i = ap ε (zero-add i)
behind_terms (cons t ts) ε i =
    let z : suc (arity ts) + i ≡ suc (arity ts + i) = omega arith in
    ap (with_terms (cons t ts) ε) z ∙ behind_terms ts ε i

module _ (Bodies : ℕ → Terms → Goal → Type 0) where
  -- The branch of a clause numbered from k on holds under θ exactly where θ has an instance of the head for its first variables, and the same instance of
  -- the goal holds.
  branch_parts : (θ : Substitution) (k x : ℕ) (hs : Terms) (g : Goal)
      → Derived Bodies (substitute_goal θ (branch_from x (numbered_from k) hs g)) ↔ (Matched θ x (shifted k θ) hs × Derived Bodies (substitute_goal (shifted k θ) g))
  branch_parts θ k x nil g = (
    (λ h. (tt, holds_same Bodies _ _ (substitute_goal_twice θ (numbered_from k) g) h)),
    (λ h. holds_same Bodies _ _ (sym (substitute_goal_twice θ (numbered_from k) g)) h.1),
  )
  branch_parts θ k x (cons t hs) g =
      let (there, back) = branch_parts θ k (suc x) hs g in (
        (λ h. let (a, b) = made_of Bodies _ h in let (m, d) = there b in ((made_of Bodies _ a ∙ substitute_twice θ (numbered_from k) t, m), d)),
        (λ h. both_hold (holds_same Bodies _ _ (ap (equal (θ x)) (h.0.0 ∙ sym (substitute_twice θ (numbered_from k) t))) equal_holds) (back (h.0.1, h.1))),
      )

  abbrev BranchHolds : Substitution → ℕ → Clause → Type 0
  BranchHolds θ k (clause p v hs g) = Matched θ 0 (shifted k θ) hs × Derived Bodies (substitute_goal (shifted k θ) g)

  branch_holds : (θ : Substitution) (k : ℕ) (c : Clause) → Derived Bodies (substitute_goal θ (branch k c)) ↔ BranchHolds θ k c
  branch_holds θ k (clause p v hs g) = branch_parts θ k 0 hs g

  -- Branches hold under θ where that of one of the clauses does, whose variables are numbered from some m on;
  branches_parts : (θ : Substitution) (k : ℕ) (c : Clause) (ds : List Clause) → Derived Bodies (substitute_goal θ (branches k c ds))
      → (e : Clause) × Belongs e (c ∷ ds) × ((m : ℕ) × BranchHolds θ m e)
  branches_parts θ k c [] h = (c, inl refl, (k, (branch_holds θ k c).0 h))
  branches_parts θ k c (d ∷ ds) h = either (made_of Bodies _ h) (branches_parts θ (k + variable_count c) d ds)
    where
      either : {B : Type 0} → Derived Bodies (substitute_goal θ (branch k c)) ⊎ B → (B → (e : Clause) × Belongs e (d ∷ ds) × ((m : ℕ) × BranchHolds θ m e))
          → (e : Clause) × Belongs e (c ∷ (d ∷ ds)) × ((m : ℕ) × BranchHolds θ m e)
      either (inl x) f = (c, inl refl, (k, (branch_holds θ k c).0 x))
      either (inr x) f = let (e, i, w) = f x in (e, inr i, w)

  -- and for each of the clauses there is such an m.
  branches_hold : (k : ℕ) (e c : Clause) (ds : List Clause) → Belongs e (c ∷ ds)
      → (o : ℕ) × ((θ : Substitution) → BranchHolds θ (k + o) e → Derived Bodies (substitute_goal θ (branches k c ds)))
  branches_hold k e c [] (inl z) = (0, λ θ w. (branch_holds θ k c).1 (subst (BranchHolds θ k) z (rw add-zero at w)))
  branches_hold k e c [] (inr x) = absurd x
  branches_hold k e c (d ∷ ds) (inl z) = (0, λ θ w. left_holds ((branch_holds θ k c).1 (subst (BranchHolds θ k) z (rw add-zero at w))))
  branches_hold k e c (d ∷ ds) (inr x) =
      let (o, f) = branches_hold (k + variable_count c) e d ds x in
      let same : k + (variable_count c + o) ≡ k + variable_count c + o = omega arith in
      (variable_count c + o, λ θ w. right_holds (f θ (subst (λ m. BranchHolds θ m e) same w)))

module _ (cs : List Clause) where
  -- a body by the canonical form: one of the clauses has a body too
  from_definition : (p : ℕ) (ts : Terms) (b : Goal) → DefinitionBody (canonical cs) p ts b → Follows cs b
      → (gs : List Clause) → clauses_of (predicate p (arity ts)) cs ≡ gs → Follows cs (atom p ts)
  from_definition p ts b m h [] own =
      let e = sym (canonical_of cs p (arity ts) ∙ ap (defined_by (predicate p (arity ts))) own) ∙ m.found in never cc
  from_definition p ts b m h (c ∷ ds) own =
      let e = sym (canonical_of cs p (arity ts) ∙ ap (defined_by (predicate p (arity ts))) own) ∙ m.found in
      let same : branches (arity ts) c ds ≡ m.goal = cc in
      let θ = with_terms ts m.terms in
      let (d, i, (k, w)) = branches_parts (ClauseBody cs) θ (arity ts) c ds (holds_same (ClauseBody cs) _ _ (sym (ap (substitute_goal θ) same ∙ m.is)) h) in
      by_clause d k (own_in (predicate p (arity ts)) d cs (subst (Belongs d) (sym own) i)) w
    where
      by_clause : (d : Clause) (k : ℕ) → Belongs d cs × (same_predicate (predicate p (arity ts)) (predicate_of d) ≡ true)
          → BranchHolds (ClauseBody cs) (with_terms ts m.terms) k d → Follows cs (atom p ts)
      by_clause (clause r v hs g) k (i, s) (matched, holds) =
          let (x, y) = and_both (eqb p r) (eqb (arity ts) (arity hs)) s in
          atom_holds (record {
            variables = v;
            head = hs;
            goal = g;
            stands = subst (λ z. Belongs (clause z v hs g) cs) (sym (eqb-true p r x)) i;
            terms = shifted k (with_terms ts m.terms);
            head_is = matched_head (with_terms ts m.terms) (shifted k (with_terms ts m.terms)) m.terms 0 hs ts (sym (eqb-true (arity ts) (arity hs) y))
                (λ j. ap (with_terms ts m.terms) (zero-add j)) matched;
            is = refl;
          }) holds

  pub holds_follows : (g : Goal) → Holds (canonical cs) g → Follows cs g
  holds_follows g true_holds = true_holds
  holds_follows g equal_holds = equal_holds
  holds_follows g (both_hold {a} {b} x y) = both_hold (holds_follows a x) (holds_follows b y)
  holds_follows g (left_holds {a} x) = left_holds (holds_follows a x)
  holds_follows g (right_holds {b = b} x) = right_holds (holds_follows b x)
  holds_follows g (atom_holds {p} {ts} {b} m x) = from_definition p ts b m (holds_follows b x) _ refl

  -- a body by a clause: the locals of the definition that are this clause's may become its terms
  from_clause : (p : ℕ) (ts : Terms) (b : Goal) (m : ClauseBody cs p ts b) → Holds (canonical cs) b
      → (gs : List Clause) → clauses_of (predicate p (arity ts)) cs ≡ gs → Belongs (clause p m.variables m.head m.goal) gs → Holds (canonical cs) (atom p ts)
  from_clause p ts b m h [] own i = absurd i
  from_clause p ts b m h (c ∷ ds) own i =
      let (o, holds) = branches_hold (DefinitionBody (canonical cs)) (arity ts) (clause p m.variables m.head m.goal) c ds i in
      let ε = extended o var m.terms in
      let θ = with_terms ts ε in
      let behind : (j : ℕ) → θ (arity ts + o + j) ≡ m.terms j =
      λ j. let z : arity ts + o + j ≡ arity ts + (o + j) = omega arith in ap θ z ∙ behind_terms ts ε (o + j) ∙ extended_from o var m.terms j in
      let own_terms = shifted (arity ts + o) θ in
      let head_is : substitute_all own_terms m.head ≡ ts = substitute_all_agree _ _ m.head (λ v i. behind v) ∙ m.head_is in
      let goal_is : substitute_goal own_terms m.goal ≡ b = substitute_goal_agree _ _ m.goal (λ v i. behind v) ∙ m.is in
      atom_holds (record {
        predicate = p;
        heads = arity ts;
        locals = locals_of (c ∷ ds);
        goal = branches (arity ts) c ds;
        found = canonical_of cs p (arity ts) ∙ ap (defined_by (predicate p (arity ts))) own;
        terms = ε;
        is = refl;
      })
      (holds θ (
        head_matched θ own_terms ε 0 m.head (λ j. ap θ (zero-add j) ∙ ap (λ y. with_terms y ε j) (sym head_is)),
        holds_same (DefinitionBody (canonical cs)) _ _ (sym goal_is) h,
      ))

  pub follows_holds : (g : Goal) → Follows cs g → Holds (canonical cs) g
  follows_holds g true_holds = true_holds
  follows_holds g equal_holds = equal_holds
  follows_holds g (both_hold {a} {b} x y) = both_hold (follows_holds a x) (follows_holds b y)
  follows_holds g (left_holds {a} x) = left_holds (follows_holds a x)
  follows_holds g (right_holds {b = b} x) = right_holds (follows_holds b x)
  follows_holds g (atom_holds {p} {ts} {b} m x) =
      from_clause p ts b m (follows_holds b x) _ refl (in_own (predicate p (arity ts)) (clause p m.variables m.head m.goal) own cs m.stands)
    where
      own : (eqb p p && eqb (arity ts) (arity m.head)) ≡ true
      own = rw (eq-eqb p p refl, eq-eqb (arity ts) (arity m.head) (ap arity (sym m.head_is) ∙ arity_substitute m.terms m.head))
