-- Every tree's tokens are accepted. Each law is stated with what follows the tree: reading the tree leads from one state to the next.
use Rattle.std.specs.Prelude.{ℕ, suc, ◌+◌, ◌≤◌, ◌≡◌, refl, Bool, true, List, [], ◌∷◌}
use Rattle.std.proofs.Common.{ap, ◌∙◌, add-one, arith}
use Rattle.records.specs.Format.Heads.{pick}
use Rattle.text.specs.Grammar.{Token, TermTree, ArgumentTrees, GoalTree, ConjunctionTree, PrimaryTree, ClauseTree, ProperTerm, ProperArguments, ProperAtom, ProperHead, ProperGoal, ProperConjunction, ProperPrimary, ProperClause, ProperClauses, term_then, arguments_then, goal_then, conjunction_then, primary_then, clause_then, clauses_tokens, is_name}
use Rattle.text.specs.Grammar.Token.{bare, functor, opening, closing, comma, semicolon, equals, neck, stop, wrong}
use Rattle.text.specs.Grammar.TermTree.{alone, applied}
use Rattle.text.specs.Grammar.ArgumentTrees.{last, more}
use Rattle.text.specs.Grammar.GoalTree.{only, either}
use Rattle.text.specs.Grammar.ConjunctionTree.{sole, both}
use Rattle.text.specs.Grammar.PrimaryTree.{equality, atomic, bracketed}
use Rattle.text.specs.Grammar.ClauseTree.{fact, implied}
use Rattle.text.specs.Parsing.Table.{kind, state, look, accepts, start, goal_start}
use Rattle.text.specs.Parsing.KindLaws.{by_name, by_word, head_kind}
use Rattle.text.specs.Parsing.Followers.{follower_rank}
use Rattle.text.specs.declared.tokens.Kind.{Kind}
use Rattle.text.specs.declared.tokens.Kind.TheVariants.{Name, Functor, Close, Equals, Wrong}
use Rattle.text.specs.declared.table.Place.{Place}
use Rattle.text.specs.declared.table.Place.TheVariants.{Head, Left as OfLeft, Right as OfRight}
use Rattle.text.specs.declared.table.Mode.TheVariants.{Goal, Left, Right, Done, Term, Rest, Headed}
use Rattle.text.specs.declared.table.State.{State}

-- one token of a known kind
takes : (s : State) (t : Token) (k : Kind) → kind t ≡ k → (ts : List Token) → accepts s (t ∷ ts) ≡ accepts (look s k) ts
unfolding accepts
takes s t k e ts = ap (λ (x : Kind). accepts (look s x) ts) e

applies : (s : State) (w : List ℕ) → is_name w ≡ true → (ts : List Token) → accepts s (functor w ∷ ts) ≡ accepts (look s Functor) ts
applies s w e ts = takes s (functor w) Functor (ap (λ (b : Bool). pick b Functor Wrong) e) ts

-- a term among arguments
mutual
  unfolding accepts

  term_on : (t : TermTree) → ProperTerm t → (p : Place) (k g : ℕ) (r : List Token) → accepts (state (Term p) (suc k) g) (term_then t r) ≡ accepts (state (Rest p) (suc k) g) r
  term_on (alone w) f p k g r = by_word (λ x. accepts (look (state (Term p) (suc k) g) x) r ≡ accepts (state (Rest p) (suc k) g) r) refl refl refl refl refl w f
  term_on (applied w ts) f p k g r = applies (state (Term p) (suc k) g) w f.0 (arguments_then ts r) ∙ rw (add-one (suc k)) (arguments_on ts f.1 p (suc k) g r)

  arguments_on : (ts : ArgumentTrees) → ProperArguments ts → (p : Place) (k g : ℕ) (r : List Token) → accepts (state (Term p) (suc k) g) (arguments_then ts r) ≡ accepts (look (state (Rest p) (suc k) g) Close) r
  arguments_on (last t) f p k g r = term_on t f p k g (closing ∷ r)
  arguments_on (more t ts) f p k g r = term_on t f.0 p k g (comma ∷ arguments_then ts r) ∙ arguments_on ts f.1 p k g r

-- the two sides of an equality, an atom, and a head
left_on : (t : TermTree) → ProperTerm t → (g : ℕ) (r : List Token) → accepts (state Goal 0 g) (term_then t (equals ∷ r)) ≡ accepts (state Right 0 g) r
unfolding accepts
left_on (alone w) f g r = by_word (λ x. accepts (look (look (state Goal 0 g) x) Equals) r ≡ accepts (state Right 0 g) r) refl refl refl refl refl w f
left_on (applied w ts) f g r = applies (state Goal 0 g) w f.0 (arguments_then ts (equals ∷ r)) ∙ arguments_on ts f.1 OfLeft 0 g (equals ∷ r)

right_on : (t : TermTree) → ProperTerm t → (g : ℕ) (r : List Token) → accepts (state Right 0 g) (term_then t r) ≡ accepts (state Done 0 g) r
unfolding accepts
right_on (alone w) f g r = by_word (λ x. accepts (look (state Right 0 g) x) r ≡ accepts (state Done 0 g) r) refl refl refl refl refl w f
right_on (applied w ts) f g r = applies (state Right 0 g) w f.0 (arguments_then ts r) ∙ arguments_on ts f.1 OfRight 0 g r

atom_on : (t : TermTree) → ProperAtom t → (g : ℕ) (r : List Token) → accepts (state Goal 0 g) (term_then t r) ≡ accepts (state Left 0 g) r
unfolding accepts
atom_on (alone w) f g r = by_name (λ x. accepts (look (state Goal 0 g) x) r ≡ accepts (state Left 0 g) r) refl refl refl w f
atom_on (applied w ts) f g r = applies (state Goal 0 g) w f.0 (arguments_then ts r) ∙ arguments_on ts f.1 OfLeft 0 g r

head_on : (t : TermTree) → ProperHead t → (r : List Token) → accepts start (term_then t r) ≡ accepts (state Headed 0 0) r
head_on (alone w) f r = takes start (bare w) Name (head_kind w f.0 f.1) r
head_on (applied w ts) f r = applies start w f.0 (arguments_then ts r) ∙ arguments_on ts f.1 Head 0 0 r

-- behind an atom as behind any primary, where no equals sign follows
follows : (r : List Token) → follower_rank r ≤ 2 → (g : ℕ) → accepts (state Left 0 g) r ≡ accepts (state Done 0 g) r
unfolding accepts
follows [] f g = refl
follows (bare w ∷ r) f g = absurd (omega arith)
follows (functor w ∷ r) f g = absurd (omega arith)
follows (opening ∷ r) f g = absurd (omega arith)
follows (closing ∷ r) f g = refl
follows (comma ∷ r) f g = refl
follows (semicolon ∷ r) f g = refl
follows (equals ∷ r) f g = absurd (omega arith)
follows (neck ∷ r) f g = absurd (omega arith)
follows (stop ∷ r) f g = refl
follows (wrong ∷ r) f g = absurd (omega arith)

mutual
  unfolding accepts

  goal_on : (x : GoalTree) → ProperGoal x → (g : ℕ) (r : List Token) → follower_rank r ≤ 2 → accepts (state Goal 0 g) (goal_then x r) ≡ accepts (state Done 0 g) r
  goal_on (only c) f g r h = conjunction_on c f g r h
  goal_on (either c x) f g r h = conjunction_on c f.0 g (semicolon ∷ goal_then x r) (omega arith) ∙ goal_on x f.1 g r h

  conjunction_on : (x : ConjunctionTree) → ProperConjunction x → (g : ℕ) (r : List Token) → follower_rank r ≤ 2 → accepts (state Goal 0 g) (conjunction_then x r) ≡ accepts (state Done 0 g) r
  conjunction_on (sole p) f g r h = primary_on p f g r h
  conjunction_on (both p c) f g r h = primary_on p f.0 g (comma ∷ conjunction_then c r) (omega arith) ∙ conjunction_on c f.1 g r h

  primary_on : (x : PrimaryTree) → ProperPrimary x → (g : ℕ) (r : List Token) → follower_rank r ≤ 2 → accepts (state Goal 0 g) (primary_then x r) ≡ accepts (state Done 0 g) r
  primary_on (equality t u) f g r h = left_on t f.0 g (term_then u r) ∙ right_on u f.1 g r
  primary_on (atomic a) f g r h = atom_on a f g r ∙ follows r h g
  primary_on (bracketed x) f g r h = goal_on x f (g + 1) (closing ∷ r) (omega arith) ∙ rw (add-one g)

clause_on : (c : ClauseTree) → ProperClause c → (r : List Token) → accepts start (clause_then c r) ≡ accepts start r
unfolding accepts
clause_on (fact h) f r = head_on h f (stop ∷ r)
clause_on (implied h g) f r = head_on h f.0 (neck ∷ goal_then g (stop ∷ r)) ∙ goal_on g f.1 0 (stop ∷ r) (omega arith)

pub clauses_complete : (cs : List ClauseTree) → ProperClauses cs → accepts start (clauses_tokens cs) ≡ true
unfolding accepts
clauses_complete [] f = refl
clauses_complete (c ∷ cs) f = clause_on c f.0 (clauses_tokens cs) ∙ clauses_complete cs f.1

pub goal_complete : (g : GoalTree) → ProperGoal g → accepts goal_start (goal_then g (stop ∷ [])) ≡ true
unfolding accepts
goal_complete g f = goal_on g f 0 (stop ∷ []) (omega arith)
