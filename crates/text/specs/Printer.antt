-- A plain printer: a blank behind each comma and around `:-`, `;` and `=`, none between a name and its bracket, and each clause on its line. Every function
-- `..-text x r` gives the bytes of x, and behind them r.
use Rattle.std.specs.Prelude.{ℕ, List, [], ◌∷◌, ◌++◌}
use Rattle.text.specs.Grammar.{TermTree, ArgumentTrees, GoalTree, ConjunctionTree, PrimaryTree, ClauseTree}
use Rattle.text.specs.Grammar.TermTree.{alone, applied}
use Rattle.text.specs.Grammar.ArgumentTrees.{last, more}
use Rattle.text.specs.Grammar.GoalTree.{only, either}
use Rattle.text.specs.Grammar.ConjunctionTree.{sole, both}
use Rattle.text.specs.Grammar.PrimaryTree.{equality, atomic, bracketed}
use Rattle.text.specs.Grammar.ClauseTree.{fact, implied}

abbrev mutual
  pub term_text : TermTree → List ℕ → List ℕ
  term_text (alone w) r = w ++ r
  term_text (applied w ts) r = w ++ (40 ∷ arguments_text ts r)

  pub arguments_text : ArgumentTrees → List ℕ → List ℕ
  arguments_text (last t) r = term_text t (41 ∷ r)
  arguments_text (more t ts) r = term_text t (44 ∷ 32 ∷ arguments_text ts r)

abbrev mutual
  pub goal_text : GoalTree → List ℕ → List ℕ
  goal_text (only c) r = conjunction_text c r
  goal_text (either c g) r = conjunction_text c (32 ∷ 59 ∷ 32 ∷ goal_text g r)

  pub conjunction_text : ConjunctionTree → List ℕ → List ℕ
  conjunction_text (sole p) r = primary_text p r
  conjunction_text (both p c) r = primary_text p (44 ∷ 32 ∷ conjunction_text c r)

  pub primary_text : PrimaryTree → List ℕ → List ℕ
  primary_text (equality t u) r = term_text t (32 ∷ 61 ∷ 32 ∷ term_text u r)
  primary_text (atomic t) r = term_text t r
  primary_text (bracketed g) r = 40 ∷ goal_text g (41 ∷ r)

abbrev pub clause_text : ClauseTree → List ℕ → List ℕ
clause_text (fact h) r = term_text h (46 ∷ 10 ∷ r)
clause_text (implied h g) r = term_text h (32 ∷ 58 ∷ 45 ∷ 32 ∷ goal_text g (46 ∷ 10 ∷ r))

abbrev pub printed : List ClauseTree → List ℕ
printed [] = []
printed (c ∷ cs) = clause_text c (printed cs)

abbrev pub printed_goal : GoalTree → List ℕ
printed_goal g = goal_text g []
