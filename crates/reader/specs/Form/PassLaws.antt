-- What a text within the limits is read as passes questions 1 to 4: its clause record says its clauses, and the record of a query behind it says the query's goal.
use Rattle.std.specs.Prelude.{◌≡◌, refl, Bool, true, false, cond, ◌&&◌, List, [], ◌∷◌, ◌++◌, ℕ, suc, ◌+◌, ◌≤◌, ◌<◌, leb, ltb, length}
use Rattle.std.proofs.Common.{sym, ap, ◌∙◌, arith, leb-true, ltb-true}
use Rattle.records.specs.Format.Syntax.{arity}
use Rattle.records.specs.Format.Syntax.Term.{var, app}
use Rattle.records.specs.Format.Syntax.Terms.{nil}
use Rattle.records.specs.Format.Syntax.Goal.{truth, failure, atom}
use Rattle.records.specs.Format.Encode.{clauses_record, query_record}
use Rattle.records.specs.Format.Formed.{TermFormed, TermsFormed, GoalFormed, ClauseFormed, All}
use Rattle.records.specs.Gate.Gate.{read_clauses, read_query}
use Rattle.records.specs.Gate.Gate.Reading.{tree}
use Rattle.records.specs.Gate.GateLaws.{clauses_read, query_read}
use Rattle.records.specs.Gate.RecordRules.{term_variables, terms_variables, goal_variables, every, clauses_rules}
use Rattle.records.specs.Gate.RecordRulesLaws.{and_both, every_append}
use Rattle.text.specs.Grammar.{Says, SaysGoal, TermTree, ArgumentTrees, GoalTree, ConjunctionTree, PrimaryTree, ClauseTree, is_variable, is_true, is_fail}
use Rattle.text.specs.Grammar.TermTree.{alone, applied}
use Rattle.text.specs.Grammar.ArgumentTrees.{last, more}
use Rattle.text.specs.Grammar.GoalTree.{only, either}
use Rattle.text.specs.Grammar.ConjunctionTree.{sole, both}
use Rattle.text.specs.Grammar.PrimaryTree.{equality, atomic, bracketed}
use Rattle.text.specs.Grammar.ClauseTree.{fact, implied}
use Rattle.reader.specs.Form.Meaning.{place, number_in, all_met, variables_of_term, variables_of_conjunction, variables_of_primary, term_of, terms_of, arguments_of, atom_of, goal_of, conjunction_of, primary_of, name_of, head_variables, clause_of, clauses_of, text_names, text_clauses, query_names, query_goal, query_variables}
use Rattle.reader.specs.Form.Service.{term_within, terms_within, goal_within, arities_within, variable_count, variables_within}
use Rattle.reader.specs.Form.NumbersLaws.{query_below, clause_below, clauses_kept}
use Rattle.reader.specs.Form.SizeLaws.{clauses_few, names_few, query_names_few}
use Rattle.reader.specs.Names.PlaceLaws.{place_within}

-- the numbers of the list are below 65,536
abbrev small : List ℕ → Type 0
small l = every (λ x. ltb x 65536) l ≡ true

-- both parts are so where the whole is
parted : (l k : List ℕ) → small (l ++ k) → small l × small k
parted l k h = and_both (every (λ x. ltb x 65536) l) (every (λ x. ltb x 65536) k) (sym (every_append (λ x. ltb x 65536) l k) ∙ h)

-- Well-formed: names few, no arity over 16, variables below 65,536.
module _ (ns : List (List ℕ)) (few : length ns ≤ 65535) where
  name_formed : (w : List ℕ) → place w ns < 65536
  name_formed w = omega (arith, place_within w ns)

  mutual
    term_formed : (vs : List (List ℕ)) (t : TermTree) → term_within (term_of ns vs t) ≡ true → small (term_variables (term_of ns vs t)) → TermFormed (term_of ns vs t)
    term_formed vs (alone w) a v = go (is_variable w) v
      where
        go : (b : Bool) → small (term_variables (cond b (var (number_in vs w)) (app (place w ns) nil))) → TermFormed (cond b (var (number_in vs w)) (app (place w ns) nil))
        go true v = ltb-true (number_in vs w) 65536 (and_both (ltb (number_in vs w) 65536) true v).0
        go false v = (name_formed w, omega arith, tt)
    term_formed vs (applied w ts) a v =
        let k = and_both (leb (arity (terms_of ns vs ts)) 16) (terms_within (terms_of ns vs ts)) a in
        (name_formed w, leb-true (arity (terms_of ns vs ts)) 16 k.0, arguments_formed vs ts k.1 v)

    arguments_formed : (vs : List (List ℕ)) (ts : ArgumentTrees) → terms_within (terms_of ns vs ts) ≡ true → small (terms_variables (terms_of ns vs ts)) → TermsFormed (terms_of ns vs ts)
    arguments_formed vs (last t) a v =
        (term_formed vs t (and_both (term_within (term_of ns vs t)) true a).0 (parted (term_variables (term_of ns vs t)) [] v).0, tt)
    arguments_formed vs (more t ts) a v =
        let vt = all_met vs (variables_of_term t) in
        let k = and_both (term_within (term_of ns vs t)) (terms_within (terms_of ns vt ts)) a in
        let l = parted (term_variables (term_of ns vs t)) (terms_variables (terms_of ns vt ts)) v in
        (term_formed vs t k.0 l.0, arguments_formed vt ts k.1 l.1)

  head_formed : (h : TermTree) → (leb (arity (arguments_of ns [] h)) 16 && terms_within (arguments_of ns [] h)) ≡ true → small (terms_variables (arguments_of ns [] h))
      → (arity (arguments_of ns [] h) ≤ 16) × TermsFormed (arguments_of ns [] h)
  head_formed (alone w) a v = (omega arith, tt)
  head_formed (applied w ts) a v =
      let k = and_both (leb (arity (terms_of ns [] ts)) 16) (terms_within (terms_of ns [] ts)) a in
      (leb-true (arity (terms_of ns [] ts)) 16 k.0, arguments_formed [] ts k.1 v)

  atom_formed : (vs : List (List ℕ)) (a : TermTree) → goal_within (atom_of ns vs a) ≡ true → small (goal_variables (atom_of ns vs a)) → GoalFormed (atom_of ns vs a)
  atom_formed vs (alone w) a v = go (is_true w) (is_fail w)
    where
      go : (x y : Bool) → GoalFormed (cond x truth (cond y failure (atom (place w ns) nil)))
      go true y = tt
      go false true = tt
      go false false = (name_formed w, omega arith, tt)
  atom_formed vs (applied w ts) a v = term_formed vs (applied w ts) a v

  mutual
    goal_formed : (vs : List (List ℕ)) (g : GoalTree) → goal_within (goal_of ns vs g) ≡ true → small (goal_variables (goal_of ns vs g)) → GoalFormed (goal_of ns vs g)
    goal_formed vs (only c) a v = conjunction_formed vs c a v
    goal_formed vs (either c g) a v =
        let vc = all_met vs (variables_of_conjunction c) in
        let k = and_both (goal_within (conjunction_of ns vs c)) (goal_within (goal_of ns vc g)) a in
        let l = parted (goal_variables (conjunction_of ns vs c)) (goal_variables (goal_of ns vc g)) v in
        (conjunction_formed vs c k.0 l.0, goal_formed vc g k.1 l.1)

    conjunction_formed : (vs : List (List ℕ)) (c : ConjunctionTree) → goal_within (conjunction_of ns vs c) ≡ true → small (goal_variables (conjunction_of ns vs c)) → GoalFormed (conjunction_of ns vs c)
    conjunction_formed vs (sole p) a v = primary_formed vs p a v
    conjunction_formed vs (both p c) a v =
        let vp = all_met vs (variables_of_primary p) in
        let k = and_both (goal_within (primary_of ns vs p)) (goal_within (conjunction_of ns vp c)) a in
        let l = parted (goal_variables (primary_of ns vs p)) (goal_variables (conjunction_of ns vp c)) v in
        (primary_formed vs p k.0 l.0, conjunction_formed vp c k.1 l.1)

    primary_formed : (vs : List (List ℕ)) (p : PrimaryTree) → goal_within (primary_of ns vs p) ≡ true → small (goal_variables (primary_of ns vs p)) → GoalFormed (primary_of ns vs p)
    primary_formed vs (equality t u) a v =
        let vt = all_met vs (variables_of_term t) in
        let k = and_both (term_within (term_of ns vs t)) (term_within (term_of ns vt u)) a in
        let l = parted (term_variables (term_of ns vs t)) (term_variables (term_of ns vt u)) v in
        (term_formed vs t k.0 l.0, term_formed vt u k.1 l.1)
    primary_formed vs (atomic x) a v = atom_formed vs x a v
    primary_formed vs (bracketed g) a v = goal_formed vs g a v

  clause_formed : (c : ClauseTree) → arities_within (clause_of ns c) ≡ true → variables_within (clause_of ns c) ≡ true → ClauseFormed (clause_of ns c)
  clause_formed (fact h) a v =
      let k = and_both (leb (arity (arguments_of ns [] h)) 16 && terms_within (arguments_of ns [] h)) true a in
      let n = leb-true (variable_count (clause_of ns (fact h))) 64 v in
      let f = head_formed h k.0 (parted (terms_variables (arguments_of ns [] h)) [] (clause_below ns (fact h) 65536 (omega arith))).0 in
      (name_formed (name_of h), f.0, n, f.1, tt)
  clause_formed (implied h g) a v =
      let vh = head_variables h in
      let k = and_both (leb (arity (arguments_of ns [] h)) 16 && terms_within (arguments_of ns [] h)) (goal_within (goal_of ns vh g)) a in
      let n = leb-true (variable_count (clause_of ns (implied h g))) 64 v in
      let l = parted (terms_variables (arguments_of ns [] h)) (goal_variables (goal_of ns vh g)) (clause_below ns (implied h g) 65536 (omega arith)) in
      let f = head_formed h k.0 l.0 in
      (name_formed (name_of h), f.0, n, f.1, goal_formed vh g k.1 l.1)

  clauses_formed : (cs : List ClauseTree) → every arities_within (clauses_of ns cs) ≡ true → every variables_within (clauses_of ns cs) ≡ true → All ClauseFormed (clauses_of ns cs)
  clauses_formed [] a v = tt
  clauses_formed (c ∷ cs) a v =
      let k = and_both (arities_within (clause_of ns c)) (every arities_within (clauses_of ns cs)) a in
      let l = and_both (variables_within (clause_of ns c)) (every variables_within (clauses_of ns cs)) v in
      (clause_formed c k.0 l.0, clauses_formed cs k.1 l.1)

-- as many clauses as trees
clauses_length : (ns : List (List ℕ)) (cs : List ClauseTree) → length (clauses_of ns cs) ≡ length cs
clauses_length ns [] = refl
clauses_length ns (c ∷ cs) = ap suc (clauses_length ns cs)

-- A text's clause record.
pub text_passes : (text : List ℕ) (cs : List ClauseTree) → Says text cs → length text ≤ 65535 → every arities_within (text_clauses cs) ≡ true → every variables_within (text_clauses cs) ≡ true
    → length (clauses_record (text_clauses cs)) ≤ 32768 → read_clauses (clauses_record (text_clauses cs)) ≡ tree (text_clauses cs)
unfolding text_clauses clauses_rules
text_passes text cs h n a v k =
    let ns = text_names cs in
    let m : length (clauses_of ns cs) < 65536 = omega (arith, clauses_length ns cs, clauses_few text cs h) in
    clauses_read (clauses_of ns cs) (m, clauses_formed ns (omega (arith, names_few text cs h)) cs a v) (clauses_kept ns cs) k

-- A query's record.
pub query_passes : (text query : List ℕ) (cs : List ClauseTree) (g : GoalTree) → Says text cs → SaysGoal query g → length text + length query ≤ 65535 → goal_within (query_goal cs g) ≡ true
    → length (query_variables g) ≤ 64 → length (query_record (query_goal cs g)) ≤ 32768 → read_query (query_record (query_goal cs g)) ≡ tree (query_goal cs g)
unfolding query_goal
query_passes text query cs g h q n a v k =
    let ns = query_names cs g in
    query_read (goal_of ns [] g) (goal_formed ns (omega (arith, query_names_few text query cs g h q)) [] g a (query_below ns g 65536 (omega arith))) k
