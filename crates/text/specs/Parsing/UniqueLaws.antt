-- A list of tokens is that of one tree at most. Each law is stated with what follows the tree, so that no list is taken apart from the right.
use Rattle.std.specs.Prelude.{◌≤◌, ◌≡◌, refl, List, [], ◌∷◌}
use Rattle.std.proofs.Common.{sym, ap, ap₂, arith}
use Rattle.records.specs.Format.Never.{never}
use Rattle.text.specs.Grammar.{Token, TermTree, ArgumentTrees, GoalTree, ConjunctionTree, PrimaryTree, ClauseTree, term_then, arguments_then, goal_then, conjunction_then, primary_then, clause_then, clauses_tokens}
use Rattle.text.specs.Grammar.Token.{opening, closing, comma, semicolon, equals, neck, stop}
use Rattle.text.specs.Grammar.TermTree.{alone, applied}
use Rattle.text.specs.Grammar.ArgumentTrees.{last, more}
use Rattle.text.specs.Grammar.GoalTree.{only, either}
use Rattle.text.specs.Grammar.ConjunctionTree.{sole, both}
use Rattle.text.specs.Grammar.PrimaryTree.{equality, atomic, bracketed}
use Rattle.text.specs.Grammar.ClauseTree.{fact, implied}
use Rattle.text.specs.Parsing.Followers.{follower_rank}

-- what cannot follow, by its follower-rank
no_equals : {s : List Token} → follower_rank s ≤ 2 → (l : List Token) → equals ∷ l ≡ s → ⊥
no_equals h l e = omega (arith, ap follower_rank e)

no_comma : {s : List Token} → follower_rank s ≤ 1 → (l : List Token) → comma ∷ l ≡ s → ⊥
no_comma h l e = omega (arith, ap follower_rank e)

no_semicolon : {s : List Token} → follower_rank s ≤ 0 → (l : List Token) → semicolon ∷ l ≡ s → ⊥
no_semicolon h l e = omega (arith, ap follower_rank e)

mutual
  pub unique_term : (t u : TermTree) (r s : List Token) → term_then t r ≡ term_then u s → (t ≡ u) × (r ≡ s)
  unique_term (alone w) (alone v) r s e = (cc, cc)
  unique_term (alone w) (applied v us) r s e = never cc
  unique_term (applied w ts) (alone v) r s e = never cc
  unique_term (applied w ts) (applied v us) r s e =
      let d : w ≡ v = cc in
      let x = unique_arguments ts us r s (cc) in
      (ap₂ applied d x.0, x.1)

  pub unique_arguments : (t u : ArgumentTrees) (r s : List Token) → arguments_then t r ≡ arguments_then u s → (t ≡ u) × (r ≡ s)
  unique_arguments (last t) (last u) r s e = let x = unique_term t u (closing ∷ r) (closing ∷ s) e in (ap last x.0, cc x.1)
  unique_arguments (last t) (more u us) r s e =
      let x = unique_term t u (closing ∷ r) (comma ∷ arguments_then us s) e in
      never (cc x.1)
  unique_arguments (more t ts) (last u) r s e =
      let x = unique_term t u (comma ∷ arguments_then ts r) (closing ∷ s) e in
      never (cc x.1)
  unique_arguments (more t ts) (more u us) r s e =
      let x = unique_term t u (comma ∷ arguments_then ts r) (comma ∷ arguments_then us s) e in
      let y = unique_arguments ts us r s (cc x.1) in
      (ap₂ more x.0 y.0, y.1)

term_not_open : (t : TermTree) (r s : List Token) → term_then t r ≡ opening ∷ s → ⊥
term_not_open (alone w) r s e = never cc
term_not_open (applied w ts) r s e = never cc

mutual
  pub unique_goal : (g h : GoalTree) (r s : List Token) → follower_rank r ≤ 0 → follower_rank s ≤ 0 → goal_then g r ≡ goal_then h s → (g ≡ h) × (r ≡ s)
  unique_goal (only c) (only d) r s a b e = let x = unique_conjunction c d r s (omega arith) (omega arith) e in (ap only x.0, x.1)
  unique_goal (only c) (either d h) r s a b e = absurd (no_semicolon a _ (sym (unique_conjunction c d r (semicolon ∷ goal_then h s) (omega arith) (omega arith) e).1))
  unique_goal (either c g) (only d) r s a b e = absurd (no_semicolon b _ (unique_conjunction c d (semicolon ∷ goal_then g r) s (omega arith) (omega arith) e).1)
  unique_goal (either c g) (either d h) r s a b e =
      let x = unique_conjunction c d (semicolon ∷ goal_then g r) (semicolon ∷ goal_then h s) (omega arith) (omega arith) e in
      let y = unique_goal g h r s a b (cc x.1) in
      (ap₂ either x.0 y.0, y.1)

  pub unique_conjunction : (g h : ConjunctionTree) (r s : List Token) → follower_rank r ≤ 1 → follower_rank s ≤ 1 → conjunction_then g r ≡ conjunction_then h s → (g ≡ h) × (r ≡ s)
  unique_conjunction (sole p) (sole q) r s a b e = let x = unique_primary p q r s (omega arith) (omega arith) e in (ap sole x.0, x.1)
  unique_conjunction (sole p) (both q d) r s a b e = absurd (no_comma a _ (sym (unique_primary p q r (comma ∷ conjunction_then d s) (omega arith) (omega arith) e).1))
  unique_conjunction (both p c) (sole q) r s a b e = absurd (no_comma b _ (unique_primary p q (comma ∷ conjunction_then c r) s (omega arith) (omega arith) e).1)
  unique_conjunction (both p c) (both q d) r s a b e =
      let x = unique_primary p q (comma ∷ conjunction_then c r) (comma ∷ conjunction_then d s) (omega arith) (omega arith) e in
      let y = unique_conjunction c d r s a b (cc x.1) in
      (ap₂ both x.0 y.0, y.1)

  pub unique_primary : (p q : PrimaryTree) (r s : List Token) → follower_rank r ≤ 2 → follower_rank s ≤ 2 → primary_then p r ≡ primary_then q s → (p ≡ q) × (r ≡ s)
  unique_primary (equality t u) (equality v w) r s a b e =
      let x = unique_term t v (equals ∷ term_then u r) (equals ∷ term_then w s) e in
      let y = unique_term u w r s (cc x.1) in
      (ap₂ equality x.0 y.0, y.1)
  unique_primary (equality t u) (atomic v) r s a b e = absurd (no_equals b _ (unique_term t v (equals ∷ term_then u r) s e).1)
  unique_primary (equality t u) (bracketed h) r s a b e = absurd (term_not_open t (equals ∷ term_then u r) (goal_then h (closing ∷ s)) e)
  unique_primary (atomic t) (equality v w) r s a b e = absurd (no_equals a _ (sym (unique_term t v r (equals ∷ term_then w s) e).1))
  unique_primary (atomic t) (atomic v) r s a b e = let x = unique_term t v r s e in (ap atomic x.0, x.1)
  unique_primary (atomic t) (bracketed h) r s a b e = absurd (term_not_open t r (goal_then h (closing ∷ s)) e)
  unique_primary (bracketed g) (equality v w) r s a b e = absurd (term_not_open v (equals ∷ term_then w s) (goal_then g (closing ∷ r)) (sym e))
  unique_primary (bracketed g) (atomic v) r s a b e = absurd (term_not_open v s (goal_then g (closing ∷ r)) (sym e))
  unique_primary (bracketed g) (bracketed h) r s a b e =
      let x = unique_goal g h (closing ∷ r) (closing ∷ s) (omega arith) (omega arith) (cc) in
      (ap bracketed x.0, cc x.1)

unique_clause : (c d : ClauseTree) (r s : List Token) → clause_then c r ≡ clause_then d s → (c ≡ d) × (r ≡ s)
unique_clause (fact t) (fact u) r s e = let x = unique_term t u (stop ∷ r) (stop ∷ s) e in (ap fact x.0, cc x.1)
unique_clause (fact t) (implied u h) r s e =
    let x = unique_term t u (stop ∷ r) (neck ∷ goal_then h (stop ∷ s)) e in
    never (cc x.1)
unique_clause (implied t g) (fact u) r s e =
    let x = unique_term t u (neck ∷ goal_then g (stop ∷ r)) (stop ∷ s) e in
    never (cc x.1)
unique_clause (implied t g) (implied u h) r s e =
    let x = unique_term t u (neck ∷ goal_then g (stop ∷ r)) (neck ∷ goal_then h (stop ∷ s)) e in
    let y = unique_goal g h (stop ∷ r) (stop ∷ s) (omega arith) (omega arith) (cc x.1) in
    (ap₂ implied x.0 y.0, cc y.1)

term_not_none : (t : TermTree) (r : List Token) → term_then t r ≡ [] → ⊥
term_not_none (alone w) r e = never cc
term_not_none (applied w ts) r e = never cc

clause_not_none : (c : ClauseTree) (r : List Token) → clause_then c r ≡ [] → ⊥
clause_not_none (fact t) r e = term_not_none t (stop ∷ r) e
clause_not_none (implied t g) r e = term_not_none t (neck ∷ goal_then g (stop ∷ r)) e

-- one list of tokens, at most one tree
pub clauses_unique : (cs ds : List ClauseTree) → clauses_tokens cs ≡ clauses_tokens ds → cs ≡ ds
clauses_unique [] [] e = refl
clauses_unique [] (d ∷ ds) e = absurd (clause_not_none d (clauses_tokens ds) (sym e))
clauses_unique (c ∷ cs) [] e = absurd (clause_not_none c (clauses_tokens cs) e)
clauses_unique (c ∷ cs) (d ∷ ds) e =
    let x = unique_clause c d (clauses_tokens cs) (clauses_tokens ds) e in
    ap₂ ◌∷◌ x.0 (clauses_unique cs ds x.1)

pub goal_unique : (g h : GoalTree) → goal_then g [] ≡ goal_then h [] → g ≡ h
goal_unique g h e = (unique_goal g h [] [] (omega arith) (omega arith) e).0
