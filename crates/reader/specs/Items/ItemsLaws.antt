-- The items of a tree's tokens are the tree's items. Each law is stated with what follows the tree, as those by which its tokens are accepted are.
use Rattle.std.specs.Prelude.{ℕ, suc, ◌+◌, ◌≤◌, ◌≡◌, refl, Bool, true, false, cond, ◌||◌, ◌&&◌, List, [], ◌∷◌, leb}
use Rattle.std.proofs.Common.{ap, ◌∙◌, add-one, arith, leb-true, ne_eqb}
use Rattle.std.proofs.lemmas.Bool.{false≢true, lt-leb}
use Rattle.records.specs.Format.Heads.{pick}
use Rattle.records.specs.Gate.RecordRules.{every}
use Rattle.text.specs.Grammar.{Token, TermTree, ArgumentTrees, GoalTree, ConjunctionTree, PrimaryTree, ClauseTree, ProperTerm, ProperArguments, ProperAtom, ProperHead, ProperGoal, ProperConjunction, ProperPrimary, ProperClause, ProperClauses, term_then, arguments_then, goal_then, conjunction_then, primary_then, clause_then, clauses_tokens, upper, underscore, alphanumeric, is_name, is_variable, is_number, is_true, is_fail}
use Rattle.text.specs.Grammar.Token.{bare, functor, opening, closing, comma, semicolon, equals, neck, stop, wrong}
use Rattle.text.specs.Grammar.TermTree.{alone, applied}
use Rattle.text.specs.Grammar.ArgumentTrees.{last, more}
use Rattle.text.specs.Grammar.GoalTree.{only, either}
use Rattle.text.specs.Grammar.ConjunctionTree.{sole, both}
use Rattle.text.specs.Grammar.PrimaryTree.{equality, atomic, bracketed}
use Rattle.text.specs.Grammar.ClauseTree.{fact, implied}
use Rattle.text.specs.Parsing.Table.{word_kind, kind, state, look, start, goal_start}
use Rattle.text.specs.Parsing.Followers.{follower_rank}
use Rattle.text.specs.Parsing.KindLaws.{head_kind}
use Rattle.text.specs.Tokens.Places.{token_word}
use Rattle.text.specs.declared.tokens.Kind.{Kind}
use Rattle.text.specs.declared.tokens.Kind.TheVariants.{Name, True, Fail, Variable as AVariable, Number, Functor as AFunctor, Close as AClosing, Wrong}
use Rattle.text.specs.declared.table.Place.{Place}
use Rattle.text.specs.declared.table.Place.TheVariants.{Head as OfHead, Left as OfLeft, Right as OfRight}
use Rattle.text.specs.declared.table.Mode.TheVariants.{Goal as AtGoal, Left as AtLeft, Right as AtRight, Done as AtDone, Term as AtTerm, Rest as AtRest, Headed as AtHeaded}
use Rattle.text.specs.declared.table.State.{State}
use Rattle.reader.specs.Items.Items.{Item, item, position, role_of, equals_next, items, term_items, arguments_items, left_items, atom_items, head_items, goal_items, conjunction_items, primary_items, clause_items, clauses_items}
use Rattle.reader.specs.declared.roles.Role.TheVariants.{Variable, Constant, Functor, GoalVariable, GoalConstant, GoalFunctor, Truth, Failure, HeadFunctor, Next, And, Or, Equal, Open, Neck}

-- a name is no variable
name_no_variable : (w : List ℕ) → is_name w ≡ true → is_variable w ≡ false
name_no_variable [] e = refl
name_no_variable (b ∷ l) e = go (leb 97 b) refl e
  where
    go : (x : Bool) → leb 97 b ≡ x → ((x && leb b 122) && every alphanumeric l) ≡ true → ((upper b || underscore b) && every alphanumeric l) ≡ false
    go true h d =
        let low : 97 ≤ b = leb-true 97 b h in
        rw (lt-leb b 90 (omega arith), ne_eqb b 95 (λ q. omega arith)) (and_false (leb 65 b))
      where
        and_false : (x : Bool) → (((x && false) || false) && every alphanumeric l) ≡ false
        and_false true = refl
        and_false false = refl
    go false h d = absurd (false≢true d)

-- a word that is a term, by its kind and whether it is a variable; one that is an atom, by its kind and whether it is true or fail
by_term : (P : Kind → Bool → Type 0) → P Name false → P True false → P Fail false → P AVariable true → P Number false → (w : List ℕ) → ProperTerm (alone w) → P (word_kind w) (is_variable w)
by_term P n tr fa va nu w f = go (is_name w) refl (is_true w) (is_fail w) (is_variable w) (is_number w) refl f
  where
    go : (a : Bool) → is_name w ≡ a → (t f v d : Bool) → is_variable w ≡ v → (a || (v || d)) ≡ true → P (pick a (pick t True (pick f Fail Name)) (pick v AVariable (pick d Number Wrong))) v
    go true i true f v d j e = rw (← j, name_no_variable w i) tr
    go true i false true v d j e = rw (← j, name_no_variable w i) fa
    go true i false false v d j e = rw (← j, name_no_variable w i) n
    go false i t f true d j e = va
    go false i t f false true j e = nu
    go false i t f false false j e = absurd (false≢true e)

by_atom : (P : Kind → Bool → Bool → Type 0) → P Name false false → ((f : Bool) → P True true f) → P Fail false true → (w : List ℕ) → is_name w ≡ true → P (word_kind w) (is_true w) (is_fail w)
by_atom P n tr fa w e = rw e (go (is_true w) (is_fail w))
  where
    go : (t f : Bool) → P (pick t True (pick f Fail Name)) t f
    go true f = tr f
    go false true = fa
    go false false = n

-- one token of a known kind
takes : (s : State) (t : Token) (k : Kind) → kind t ≡ k → (ts : List Token) → items s (t ∷ ts) ≡ item (role_of (position s.mode) k (equals_next ts)) (token_word t) ∷ items (look s k) ts
unfolding items
takes s t k e ts = ap (λ (x : Kind). item (role_of (position s.mode) x (equals_next ts)) (token_word t) ∷ items (look s x) ts) e

applies : (s : State) (w : List ℕ) → is_name w ≡ true → (ts : List Token)
    → items s (functor w ∷ ts) ≡ item (role_of (position s.mode) AFunctor (equals_next ts)) w ∷ items (look s AFunctor) ts
applies s w e ts = takes s (functor w) AFunctor (ap (λ (b : Bool). pick b AFunctor Wrong) e) ts

-- a term among arguments
mutual
  unfolding items

  term_sorted : (t : TermTree) → ProperTerm t → (p : Place) (k g : ℕ) (r : List Token) → items (state (AtTerm p) (suc k) g) (term_then t r) ≡ term_items t (items (state (AtRest p) (suc k) g) r)
  term_sorted (alone w) f p k g r =
      by_term (λ x b. item (role_of (position (AtTerm p)) x (equals_next r)) w ∷ items (look (state (AtTerm p) (suc k) g) x) r ≡ item (cond b Variable Constant) w ∷ items (state (AtRest p) (suc k) g) r)
      refl refl refl refl refl w f
  term_sorted (applied w ts) f p k g r =
      applies (state (AtTerm p) (suc k) g) w f.0 (arguments_then ts r)
      ∙ ap (λ (l : List Item). item Functor w ∷ l) (rw (add-one (suc k)) (arguments_sorted ts f.1 p (suc k) g r))

  arguments_sorted : (ts : ArgumentTrees) → ProperArguments ts → (p : Place) (k g : ℕ) (r : List Token)
      → items (state (AtTerm p) (suc k) g) (arguments_then ts r) ≡ arguments_items ts (items (look (state (AtRest p) (suc k) g) AClosing) r)
  arguments_sorted (last t) f p k g r = term_sorted t f p k g (closing ∷ r)
  arguments_sorted (more t ts) f p k g r =
      term_sorted t f.0 p k g (comma ∷ arguments_then ts r) ∙ ap (λ (l : List Item). term_items t (item Next [] ∷ l)) (arguments_sorted ts f.1 p k g r)

-- the two sides of an equality, an atom, and a head
left_sorted : (t : TermTree) → ProperTerm t → (g : ℕ) (r : List Token) → items (state AtGoal 0 g) (term_then t (equals ∷ r)) ≡ left_items t (item Equal [] ∷ items (state AtRight 0 g) r)
unfolding items
left_sorted (alone w) f g r =
    by_term (λ x b. item (role_of (position AtGoal) x true) w ∷ items (look (state AtGoal 0 g) x) (equals ∷ r) ≡ item (cond b GoalVariable GoalConstant) w ∷ (item Equal [] ∷ items (state AtRight 0 g) r))
    refl refl refl refl refl w f
left_sorted (applied w ts) f g r =
    applies (state AtGoal 0 g) w f.0 (arguments_then ts (equals ∷ r)) ∙ ap (λ (l : List Item). item GoalFunctor w ∷ l) (arguments_sorted ts f.1 OfLeft 0 g (equals ∷ r))

right_sorted : (t : TermTree) → ProperTerm t → (g : ℕ) (r : List Token) → items (state AtRight 0 g) (term_then t r) ≡ term_items t (items (state AtDone 0 g) r)
unfolding items
right_sorted (alone w) f g r =
    by_term (λ x b. item (role_of (position AtRight) x (equals_next r)) w ∷ items (look (state AtRight 0 g) x) r ≡ item (cond b Variable Constant) w ∷ items (state AtDone 0 g) r)
    refl refl refl refl refl w f
right_sorted (applied w ts) f g r =
    applies (state AtRight 0 g) w f.0 (arguments_then ts r) ∙ ap (λ (l : List Item). item Functor w ∷ l) (arguments_sorted ts f.1 OfRight 0 g r)

-- what may follow a primary is no equals sign, and is read behind an atom as behind any primary
no_equals : (r : List Token) → follower_rank r ≤ 2 → equals_next r ≡ false
no_equals [] h = refl
no_equals (bare w ∷ r) h = refl
no_equals (functor w ∷ r) h = refl
no_equals (opening ∷ r) h = refl
no_equals (closing ∷ r) h = refl
no_equals (comma ∷ r) h = refl
no_equals (semicolon ∷ r) h = refl
no_equals (equals ∷ r) h = absurd (omega arith)
no_equals (neck ∷ r) h = refl
no_equals (stop ∷ r) h = refl
no_equals (wrong ∷ r) h = refl

follows : (r : List Token) → follower_rank r ≤ 2 → (g : ℕ) → items (state AtLeft 0 g) r ≡ items (state AtDone 0 g) r
unfolding items
follows [] h g = refl
follows (bare w ∷ r) h g = absurd (omega arith)
follows (functor w ∷ r) h g = absurd (omega arith)
follows (opening ∷ r) h g = absurd (omega arith)
follows (closing ∷ r) h g = refl
follows (comma ∷ r) h g = refl
follows (semicolon ∷ r) h g = refl
follows (equals ∷ r) h g = absurd (omega arith)
follows (neck ∷ r) h g = absurd (omega arith)
follows (stop ∷ r) h g = refl
follows (wrong ∷ r) h g = absurd (omega arith)

atom_sorted : (t : TermTree) → ProperAtom t → (g : ℕ) (r : List Token) → equals_next r ≡ false → items (state AtGoal 0 g) (term_then t r) ≡ atom_items t (items (state AtLeft 0 g) r)
unfolding items
atom_sorted (alone w) f g r e =
    rw e
    (by_atom (λ x t a. item (role_of (position AtGoal) x false) w ∷ items (look (state AtGoal 0 g) x) r ≡ item (cond t Truth (cond a Failure GoalConstant)) w ∷ items (state AtLeft 0 g) r)
    refl (λ b. refl) refl w f)
atom_sorted (applied w ts) f g r e =
    applies (state AtGoal 0 g) w f.0 (arguments_then ts r) ∙ ap (λ (l : List Item). item GoalFunctor w ∷ l) (arguments_sorted ts f.1 OfLeft 0 g r)

head_sorted : (t : TermTree) → ProperHead t → (r : List Token) → items start (term_then t r) ≡ head_items t (items (state AtHeaded 0 0) r)
head_sorted (alone w) f r = takes start (bare w) Name (head_kind w f.0 f.1) r
head_sorted (applied w ts) f r =
    applies start w f.0 (arguments_then ts r) ∙ ap (λ (l : List Item). item HeadFunctor w ∷ l) (arguments_sorted ts f.1 OfHead 0 0 r)

mutual
  unfolding items

  goal_sorted : (x : GoalTree) → ProperGoal x → (g : ℕ) (r : List Token) → follower_rank r ≤ 2 → items (state AtGoal 0 g) (goal_then x r) ≡ goal_items x (items (state AtDone 0 g) r)
  goal_sorted (only c) f g r h = conjunction_sorted c f g r h
  goal_sorted (either c x) f g r h =
      conjunction_sorted c f.0 g (semicolon ∷ goal_then x r) (omega arith) ∙ ap (λ (l : List Item). conjunction_items c (item Or [] ∷ l)) (goal_sorted x f.1 g r h)

  conjunction_sorted : (x : ConjunctionTree) → ProperConjunction x → (g : ℕ) (r : List Token) → follower_rank r ≤ 2 → items (state AtGoal 0 g) (conjunction_then x r) ≡ conjunction_items x (items (state AtDone 0 g) r)
  conjunction_sorted (sole p) f g r h = primary_sorted p f g r h
  conjunction_sorted (both p c) f g r h =
      primary_sorted p f.0 g (comma ∷ conjunction_then c r) (omega arith) ∙ ap (λ (l : List Item). primary_items p (item And [] ∷ l)) (conjunction_sorted c f.1 g r h)

  primary_sorted : (x : PrimaryTree) → ProperPrimary x → (g : ℕ) (r : List Token) → follower_rank r ≤ 2 → items (state AtGoal 0 g) (primary_then x r) ≡ primary_items x (items (state AtDone 0 g) r)
  primary_sorted (equality t u) f g r h =
      left_sorted t f.0 g (term_then u r) ∙ ap (λ (l : List Item). left_items t (item Equal [] ∷ l)) (right_sorted u f.1 g r)
  primary_sorted (atomic a) f g r h = atom_sorted a f g r (no_equals r h) ∙ ap (atom_items a) (follows r h g)
  primary_sorted (bracketed x) f g r h =
      ap (λ (l : List Item). item Open [] ∷ l) (goal_sorted x f (g + 1) (closing ∷ r) (omega arith) ∙ ap (goal_items x) (rw (add-one g) refl))

clause_sorted : (c : ClauseTree) → ProperClause c → (r : List Token) → items start (clause_then c r) ≡ clause_items c (items start r)
unfolding items
clause_sorted (fact h) f r = head_sorted h f (stop ∷ r)
clause_sorted (implied h g) f r =
    head_sorted h f.0 (neck ∷ goal_then g (stop ∷ r)) ∙ ap (λ (l : List Item). head_items h (item Neck [] ∷ l)) (goal_sorted g f.1 0 (stop ∷ r) (omega arith))

pub clauses_sorted : (cs : List ClauseTree) → ProperClauses cs → items start (clauses_tokens cs) ≡ clauses_items cs
unfolding items
clauses_sorted [] f = refl
clauses_sorted (c ∷ cs) f = clause_sorted c f.0 (clauses_tokens cs) ∙ ap (clause_items c) (clauses_sorted cs f.1)

pub query_sorted : (g : GoalTree) → ProperGoal g → items goal_start (goal_then g []) ≡ goal_items g []
unfolding items
query_sorted g f = goal_sorted g f 0 [] (omega arith)
