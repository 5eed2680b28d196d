-- The definitions that well-formed clauses make are well formed, and only the head's variables and the locals occur in them.
use Rattle.std.specs.Prelude.{◌≡◌, refl, Bool, true, List, [], ◌∷◌, ◌++◌, ℕ, suc, ◌+◌, ◌≤◌, ◌<◌, ltb, leb, length}
use Rattle.std.proofs.Common.{arith, lt-ltb, ltb-true, leb-true}
use Rattle.records.specs.Format.Syntax.{Term, Terms, Goal, Definition, Clause, arity}
use Rattle.records.specs.Format.Syntax.Term.{var, app}
use Rattle.records.specs.Format.Syntax.Terms.{nil, cons}
use Rattle.records.specs.Format.Syntax.Goal.{truth, failure, equal, conj, disj, atom}
use Rattle.records.specs.Format.Syntax.Clause.{clause}
use Rattle.records.specs.Format.Formed.{TermFormed, TermsFormed, GoalFormed, All, Counted, DefinitionFormed, ClauseFormed}
use Rattle.records.specs.Gate.RecordRules.{term_variables, terms_variables, goal_variables, every, member, numbers, exactly, definition_rules, program_rules, clause_rules, clauses_rules}
use Rattle.records.specs.Gate.RecordRulesLaws.{and_both, every_append}
use Rattle.terms.specs.Theory.Substitution.{substitute, substitute_all}
use Rattle.terms.specs.Theory.FormedLaws.{substitute_formed}
use Rattle.terms.specs.Theory.VariablesLaws.{occurs_among}
use Rattle.terms.specs.Theory.TestLaws.{all_among}
use Rattle.terms.specs.Body.Body.{substitute_goal}
use Rattle.terms.specs.Body.BodyLaws.{substitute_goal_formed}
use Rattle.canonical.specs.Form.Canonical.{Predicate, predicate, predicate_of, predicates, clauses_of, numbered_from, branch_from, locals_of, branches, defined_by, if_any, definitions, canonical}
use Rattle.canonical.specs.Writing.Service.{locals_fit}
use Rattle.canonical.specs.Form.PredicateLaws.{ArityFits, all_predicates, predicates_length, all_clauses_of}
use Rattle.canonical.specs.Form.LookupLaws.{canonical_rises}

-- each of a list of variables is below m
abbrev pub below : ℕ → List ℕ → Bool
below m l = every (λ x. ltb x m) l

-- variables below v, numbered from k on, are below m
module _ (k v m : ℕ) (room : k + v ≤ m) where
  mutual
    numbered_term_below : (t : Term) → below v (term_variables t) ≡ true → below m (term_variables (substitute (numbered_from k) t)) ≡ true
    numbered_term_below (var x) h =
        rw (lt-ltb (k + x) m (omega (arith, ltb-true x v (and_both (ltb x v) true h).0)))
    numbered_term_below (app f ts) h = numbered_terms_below ts h

    numbered_terms_below : (ts : Terms) → below v (terms_variables ts) ≡ true
        → below m (terms_variables (substitute_all (numbered_from k) ts)) ≡ true
    numbered_terms_below nil h = refl
    numbered_terms_below (cons t ts) h =
        let w = and_both (below v (term_variables t)) (below v (terms_variables ts)) (rw every_append at h) in
        rw (every_append, numbered_term_below t w.0, numbered_terms_below ts w.1)

  numbered_goal_below : (g : Goal) → below v (goal_variables g) ≡ true → below m (goal_variables (substitute_goal (numbered_from k) g)) ≡ true
  numbered_goal_below truth h = refl
  numbered_goal_below failure h = refl
  numbered_goal_below (equal t u) h =
      let w = and_both (below v (term_variables t)) (below v (term_variables u)) (rw every_append at h) in
      rw (every_append, numbered_term_below t w.0, numbered_term_below u w.1)
  numbered_goal_below (conj a b) h =
      let w = and_both (below v (goal_variables a)) (below v (goal_variables b)) (rw every_append at h) in
      rw (every_append, numbered_goal_below a w.0, numbered_goal_below b w.1)
  numbered_goal_below (disj a b) h =
      let w = and_both (below v (goal_variables a)) (below v (goal_variables b)) (rw every_append at h) in
      rw (every_append, numbered_goal_below a w.0, numbered_goal_below b w.1)
  numbered_goal_below (atom p ts) h = numbered_terms_below ts h

-- a well-formed goal with variables below m only
abbrev pub GoalBelow : ℕ → Goal → Type 0
GoalBelow m g = GoalFormed g × (below m (goal_variables g) ≡ true)

-- the parts of a clause: well formed, with variables below v
pub record ClauseParts (v : ℕ) (ts : Terms) (g : Goal) : Type 0 where
  pub terms : TermsFormed ts
  pub goal : GoalFormed g
  pub terms_below : below v (terms_variables ts) ≡ true
  pub goal_below : below v (goal_variables g) ≡ true

module _ (k v m : ℕ) (room : k + v ≤ m) (small : m ≤ 65536) where
  below_formed : (l : List ℕ) → below v l ≡ true → All (λ x. k + x < 65536) l
  below_formed [] h = tt
  below_formed (x ∷ l) h =
      let w = and_both (ltb x v) (below v l) h in
      (omega (arith, ltb-true x v w.0), below_formed l w.1)

  -- a branch whose head variables are numbered from x on
  branch_below : (x : ℕ) (ts : Terms) (g : Goal) → x + arity ts ≤ m → ClauseParts v ts g → GoalBelow m (branch_from x (numbered_from k) ts g)
  branch_below x nil g n c = (
    substitute_goal_formed (numbered_from k) g (all_among (λ i. k + i < 65536) (goal_variables g) (below_formed (goal_variables g) c.goal_below)) c.goal,
    numbered_goal_below k v m room g c.goal_below,
  )
  branch_below x (cons t ts) g n c =
      let w = and_both (below v (term_variables t)) (below v (terms_variables ts)) (rw every_append at c.terms_below) in
      let rest = branch_below (suc x) ts g (omega arith)
      (record { terms = c.terms.1; goal = c.goal; terms_below = w.1; goal_below = c.goal_below }) in
      let at : TermFormed (substitute (numbered_from k) t) =
      substitute_formed (numbered_from k) t
      (λ i o. all_among (λ j. k + j < 65536) (term_variables t) (below_formed (term_variables t) w.0) i (occurs_among i t o)) c.terms.0 in
      let under : below m (term_variables (substitute (numbered_from k) t) ++ goal_variables (branch_from (suc x) (numbered_from k) ts g)) ≡ true =
      rw (every_append, numbered_term_below k v m room t w.0, rest.1) in
      (((omega arith, at), rest.0), rw (lt-ltb x m (omega arith)) under)

-- what question 3 and question 4 say of a clause
abbrev pub ClauseKept : Clause → Type 0
ClauseKept c = ClauseFormed c × (clause_rules c ≡ true)

clause_parts : (p v : ℕ) (ts : Terms) (g : Goal) → ClauseKept (clause p v ts g) → ClauseParts v ts g
unfolding exactly
clause_parts p v ts g h =
    let w = and_both (below v (terms_variables ts ++ goal_variables g)) (every (λ i. member i (terms_variables ts ++ goal_variables g)) (numbers 0 v)) h.1 in
    let y = and_both (below v (terms_variables ts)) (below v (goal_variables g)) (rw every_append at w.0) in
    record { terms = h.0.3; goal = h.0.4; terms_below = y.0; goal_below = y.1 }

-- the branches of clauses of arity n, whose variables are numbered from k on
branches_below : (p n k m : ℕ) (c : Clause) (cs : List Clause) → n ≤ m → k + locals_of (c ∷ cs) ≤ m → m ≤ 65536
    → All (λ d. ClauseKept d × (predicate p n ≡ predicate_of d)) (c ∷ cs) → GoalBelow m (branches k c cs)
branches_below p n k m (clause q v ts g) [] low room small h =
    let e : n ≡ arity ts = (let z = h.0.1 in cc) in
    branch_below k v m (omega arith) small 0 ts g (omega arith) (clause_parts q v ts g h.0.0)
branches_below p n k m (clause q v ts g) (d ∷ cs) low room small h =
    let e : n ≡ arity ts = (let z = h.0.1 in cc) in
    let one = branch_below k v m (omega arith) small 0 ts g (omega arith) (clause_parts q v ts g h.0.0) in
    let rest = branches_below p n (k + v) m d cs low (omega arith) small h.1 in
    ((one.0, rest.0), rw (every_append, one.1, rest.1))

-- a definition that may be written
abbrev pub DefinitionKept : Definition → Type 0
DefinitionKept d = DefinitionFormed d × (definition_rules d ≡ true)

-- a predicate whose number fits two bytes and whose arity is at most 16
abbrev pub PredicateFormed : Predicate → Type 0
PredicateFormed (predicate p n) = (p < 65536) × (n ≤ 16)

definitions_kept : (l : List Predicate) (cs : List Clause) → All PredicateFormed l → All ClauseKept cs → every locals_fit (definitions l cs) ≡ true
    → All DefinitionKept (definitions l cs)
definitions_kept [] cs h k f = tt
definitions_kept (predicate p n ∷ l) cs h k f =
    go (clauses_of (predicate p n) cs) (all_clauses_of ClauseKept (predicate p n) cs k) f (definitions_kept l cs h.1 k)
  where
    go : (gs : List Clause) → All (λ d. ClauseKept d × (predicate p n ≡ predicate_of d)) gs
        → every locals_fit (if_any (defined_by (predicate p n) gs) (definitions l cs)) ≡ true
        → (every locals_fit (definitions l cs) ≡ true → All DefinitionKept (definitions l cs))
        → All DefinitionKept (if_any (defined_by (predicate p n) gs) (definitions l cs))
    go [] a f i = i f
    go (c ∷ gs) a f i =
        let w = and_both (leb (locals_of (c ∷ gs)) 255) (every locals_fit (definitions l cs)) f in
        let b : locals_of (c ∷ gs) ≤ 255 = leb-true (locals_of (c ∷ gs)) 255 w.0 in
        let r : n ≤ 16 = h.0.1 in
        let g = branches_below p n n (n + locals_of (c ∷ gs)) c gs (omega arith) (omega arith) (omega arith) a in
        (((h.0.0, h.0.1, omega arith, g.0), g.1), i w.1)

definitions_length : (l : List Predicate) (cs : List Clause) → length (definitions l cs) ≤ length l
definitions_length [] cs = omega arith
definitions_length (predicate p n ∷ l) cs = go (clauses_of (predicate p n) cs) (definitions_length l cs)
  where
    go : (gs : List Clause) → length (definitions l cs) ≤ length l
        → length (if_any (defined_by (predicate p n) gs) (definitions l cs)) ≤ suc (length l)
    go [] i = omega arith
    go (c ∷ gs) i = omega arith

-- clauses as their parts
all_kept : (cs : List Clause) → All ClauseFormed cs → every clause_rules cs ≡ true → All ClauseKept cs
all_kept [] h k = tt
all_kept (c ∷ cs) h k = let w = and_both (clause_rules c) (every clause_rules cs) k in ((h.0, w.0), all_kept cs h.1 w.1)

all_predicates_formed : (cs : List Clause) → All ClauseFormed cs → All (λ c. PredicateFormed (predicate_of c)) cs
all_predicates_formed [] h = tt
all_predicates_formed (clause p v ts g ∷ cs) h = ((h.0.0, h.0.1), all_predicates_formed cs h.1)

pub arities_fit : (cs : List Clause) → All ClauseFormed cs → All (λ c. ArityFits (predicate_of c)) cs
arities_fit [] h = tt
arities_fit (clause p v ts g ∷ cs) h = let n = h.0.1 in (omega arith, arities_fit cs h.1)

-- definitions by what each has
kept_formed : (ds : List Definition) → All DefinitionKept ds → All DefinitionFormed ds
kept_formed [] h = tt
kept_formed (d ∷ ds) h = (h.0.0, kept_formed ds h.1)

kept_rules : (ds : List Definition) → All DefinitionKept ds → every definition_rules ds ≡ true
kept_rules [] h = refl
kept_rules (d ∷ ds) h = rw h.0.1 (kept_rules ds h.1)

module _ (cs : List Clause) (formed : Counted ClauseFormed cs) (kept : clauses_rules cs ≡ true) (fit : every locals_fit (canonical cs) ≡ true) where
  canonical_kept : All DefinitionKept (canonical cs)
  unfolding canonical clauses_rules
  canonical_kept =
      definitions_kept (predicates cs) cs (all_predicates PredicateFormed cs (all_predicates_formed cs formed.1)) (all_kept cs formed.1 kept) fit

  -- the canonical form is a well-formed program
  pub canonical_formed : Counted DefinitionFormed (canonical cs)
  unfolding canonical
  canonical_formed = (
    omega (arith, definitions_length (predicates cs) cs, predicates_length cs, formed.0),
    kept_formed (canonical cs) canonical_kept,
  )

  -- that keeps the rules of question 4
  pub canonical_rules : program_rules (canonical cs) ≡ true
  unfolding program_rules
  canonical_rules = rw (canonical_rises cs (arities_fit cs formed.1), kept_rules (canonical cs) canonical_kept)
