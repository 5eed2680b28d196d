-- Laws of the list of a query's variables: the marked variables below the first that is above all are the query's, rising, each once; and they are no more
-- than three bytes each leave room for.
use Rattle.std.specs.Prelude.{◌≡◌, refl, Bool, false, cond, ◌||◌, ℕ, zero, suc, ◌+◌, ◌*◌, ◌≤◌, ◌<◌, eqb, length, replicate, set}
use Rattle.std.proofs.Math.Path.{sym}
use Rattle.std.proofs.Common.{◌∙◌, ap, add-one, arith, length-append}
use Rattle.std.proofs.Math.Bool.{true}
use mathlib.Core.List.{List, [], ◌∷◌, ◌++◌, append-nil}
use Rattle.std.proofs.Math.Decide.{ℕ_discrete}
use Rattle.std.proofs.Math.Dec.{ltb}
use borrow.Author.Tests.{eq-eqb, ne_eqb, lt-ltb, le-ltb, le-leb}
use Rattle.records.specs.Format.Syntax.{Term, Terms, Goal, var, app, nil, cons, truth, failure, equal, conj, disj, atom}
use Rattle.records.specs.Format.Encode.{term_bytes, terms_bytes, goal_bytes}
use Rattle.records.specs.Format.Formed.{All, GoalFormed}
use Rattle.records.specs.Format.HeadLaws.{Known, bytes_all}
use Rattle.records.specs.Gate.Gate.{tree, read_query}
use Rattle.records.specs.Gate.GateLaws.{query_tree}
use Rattle.records.specs.Gate.KeptLaws.{goal_met}
use Rattle.records.specs.Gate.RecordRules.{every, member, term_variables, terms_variables, goal_variables}
use Rattle.records.specs.Gate.Sets.{is_marked, marked, all_marked, Marks}
use Rattle.records.specs.Gate.SetLaws.{length_marked, no_marks, mark_all}
use Rattle.records.specs.Ends.Above.{above}
use Rattle.records.specs.Ends.AboveLaws.{every_below}
use Rattle.records.specs.Ends.StandsLaws.{body_stands, traverse_goal}
use Rattle.records.specs.Ends.Steps.{On, met, along}
use Rattle.records.specs.Ends.Traversal.{traverse, goal_nodes}
use Rattle.records.specs.Ends.Traversal.Traversal.{on}
use Rattle.records.specs.Writing.Patched.{Put}
use Rattle.records.specs.Writing.PatchedLaws.{put_then, put_set, put_length}
use Rattle.records.specs.Writing.EmittedLaws.{length_record_of}
use Rattle.terms.specs.Body.Body.{next_variable}
use Rattle.terms.specs.Body.BodyLaws.{next_variable_formed}
use Rattle.answers.specs.Form.Answer.{rising_with, rising_once, query_variables}
use Rattle.answers.specs.Writing.Marked.{marked_below, members_below}

-- marks that a list's numbers are put into
along_marked : (marks l : List ℕ) → along marked marks l ≡ all_marked marks l
unfolding all_marked
along_marked marks [] = refl
along_marked marks (v ∷ l) = along_marked (marked marks v) l

length_along : (marks l : List ℕ) → length (along marked marks l) ≡ length marks
length_along marks [] = refl
length_along marks (v ∷ l) = length_along (marked marks v) l ∙ length_marked marks v

-- v, or nothing
abbrev if_so : Bool → ℕ → List ℕ
if_so b v = cond b (v ∷ []) []

-- a number above those of a list comes behind them
module _ (v : ℕ) where
  with_last : (l : List ℕ) (b : Bool) → All (λ x. x < v) l → rising_with v (l ++ if_so b v) ≡ l ++ (v ∷ [])
  with_last [] true h = rw (le-ltb v v (omega arith), eq-eqb v v refl) refl
  with_last [] false h = refl
  with_last (x ∷ l) b (h, k) = rw (le-ltb v x (omega arith), ne_eqb v x (λ e. omega arith)) (ap (x ∷◌) (with_last l b k))

  -- one below it leaves it there
  with_more : (x : ℕ) → x < v → (l : List ℕ) (b : Bool) → rising_with x (l ++ if_so b v) ≡ rising_with x l ++ if_so b v
  with_more x h [] true = rw (lt-ltb x v h) refl
  with_more x h [] false = refl
  with_more x h (y ∷ l) b = go (ltb x y) (eqb x y) (with_more x h l b)
    where
      go : (c d : Bool) → rising_with x (l ++ if_so b v) ≡ rising_with x l ++ if_so b v
          → cond c (x ∷ (y ∷ (l ++ if_so b v))) (cond d (y ∷ (l ++ if_so b v)) (y ∷ rising_with x (l ++ if_so b v)))
          ≡ cond c (x ∷ (y ∷ l)) (cond d (y ∷ l) (y ∷ rising_with x l)) ++ if_so b v
      go true d k = refl
      go false true k = refl
      go false false k = ap (y ∷◌) k

pub all_append : {A : Type 0} (Φ : A → Type 0) (a b : List A) → All Φ a → All Φ b → All Φ (a ++ b)
all_append Φ [] b h k = k
all_append Φ (x ∷ a) b h k = (h.0, all_append Φ a b h.1 k)

all_below : (n m : ℕ) → n ≤ m → (l : List ℕ) → All (λ x. x < n) l → All (λ x. x < m) l
all_below n m h [] k = tt
all_below n m h (x ∷ l) k = (omega (arith, k.0), all_below n m h l k.1)

-- the numbers of a list below n are below it
members_are_below : (l : List ℕ) (n : ℕ) → All (λ x. x < n) (members_below l n)
unfolding members_below
members_are_below l zero = tt
members_are_below l (suc v) =
    all_append (λ x. x < suc v) (members_below l v) (if_so (member v l) v) (all_below v (suc v) (omega arith) (members_below l v) (members_are_below l v)) (go (member v l))
  where
    go : (b : Bool) → All (λ x. x < suc v) (if_so b v)
    go true = (omega arith, tt)
    go false = tt

-- one that is not below n makes no difference, and one that is comes in its place
members_none : (n : ℕ) → members_below [] n ≡ []
unfolding members_below
members_none zero = refl
members_none (suc v) = ap (◌++ []) (members_none v)

members_beyond : (x : ℕ) (l : List ℕ) (n : ℕ) → n ≤ x → members_below (x ∷ l) n ≡ members_below l n
unfolding members_below
members_beyond x l zero h = refl
members_beyond x l (suc v) h = rw (members_beyond x l v (omega arith), ne_eqb v x (λ e. omega arith)) refl

members_with : (x : ℕ) (l : List ℕ) (n : ℕ) → x < n → members_below (x ∷ l) n ≡ rising_with x (members_below l n)
unfolding members_below
members_with x l zero h = absurd (omega arith)
members_with x l (suc v) h = go (ℕ_discrete x v) (members_with x l v)
  where
    go : Dec (x ≡ v) → (x < v → members_below (x ∷ l) v ≡ rising_with x (members_below l v)) → members_below (x ∷ l) v ++ if_so (eqb v x || member v l) v ≡ rising_with x (members_below l v ++ if_so (member v l) v)
    go (yes e) f = rw (e, members_beyond v l v (omega arith), eq-eqb v v refl) (sym (with_last v (members_below l v) (member v l) (members_are_below l v)))
    go (no e) f =
        let less : x < v = omega (arith, e) in
        rw (f less, ne_eqb v x (λ k. e (sym k))) (sym (with_more v x less (members_below l v) (member v l)))

-- below a number that is above them all they are the list's, rising, each once
members_all : (l : List ℕ) (n : ℕ) → above l ≤ n → members_below l n ≡ rising_once l
members_all [] n h = members_none n
members_all (x ∷ l) n h = members_with x l n (omega arith) ∙ ap (rising_with x) (members_all l n (omega arith))

-- marks show a list's numbers
marked_members : {marks l : List ℕ} → Marks marks l → (n : ℕ) → n ≤ 65536 → marked_below marks n ≡ members_below l n
unfolding marked_below members_below
marked_members m zero h = refl
marked_members m (suc v) h = rw (marked_members m v (omega arith), m.same v (omega arith)) refl

module _ (q : Goal) (f : GoalFormed q) where
  pub variables_small : above (goal_variables q) ≤ 65536
  unfolding next_variable
  variables_small = rw append-nil at (next_variable_formed q [] [] f tt tt)

  -- what is marked below the first variable above all is the query's variables
  pub marked_variables : marked_below (along marked (replicate 1024 0) (goal_variables q)) (above (goal_variables q)) ≡ query_variables q
  unfolding query_variables
  marked_variables =
      let l = goal_variables q in
      let below : every (λ x. ltb x 65536) l ≡ true = every_below 65536 l ∙ le-leb (above l) 65536 variables_small in
      let marks : Marks (all_marked (replicate 1024 0) l) l = rw append-nil at (mark_all l below no_marks) in
      rw (along_marked (replicate 1024 0) l) (marked_members marks (above l) variables_small ∙ members_all l (above l) (omega arith))

  pub variables_formed : All (λ v. v < 65536) (query_variables q)
  unfolding query_variables
  variables_formed =
      let l = goal_variables q in
      rw (← members_all l (above l) (omega arith)) (all_below (above l) 65536 variables_small (members_below l (above l)) (members_are_below l (above l)))

-- they are no more than the variables that occur, each of three bytes
with_length : (v : ℕ) (l : List ℕ) → length (rising_with v l) ≤ suc (length l)
with_length v [] = omega arith
with_length v (w ∷ l) = go (ltb v w) (eqb v w) (with_length v l)
  where
    go : (a b : Bool) → length (rising_with v l) ≤ suc (length l) → length (cond a (v ∷ (w ∷ l)) (cond b (w ∷ l) (w ∷ rising_with v l))) ≤ suc (suc (length l))
    go true b h = omega arith
    go false true h = omega arith
    go false false h = omega arith

once_length : (l : List ℕ) → length (rising_once l) ≤ length l
once_length [] = omega arith
once_length (v ∷ l) = omega (arith, with_length v (rising_once l), once_length l)

mutual
  term_long : (t : Term) → 3 * length (term_variables t) ≤ length (term_bytes t)
  term_long (var v) = omega arith
  term_long (app f ts) = omega (arith, terms_long ts)

  terms_long : (ts : Terms) → 3 * length (terms_variables ts) ≤ length (terms_bytes ts)
  terms_long nil = omega arith
  terms_long (cons t ts) = simp length-append (omega (arith, term_long t, terms_long ts))

goal_long : (g : Goal) → 3 * length (goal_variables g) ≤ length (goal_bytes g)
goal_long truth = omega arith
goal_long failure = omega arith
goal_long (equal t u) = simp length-append (omega (arith, term_long t, term_long u))
goal_long (conj a b) = simp length-append (omega (arith, goal_long a, goal_long b))
goal_long (disj a b) = simp length-append (omega (arith, goal_long a, goal_long b))
goal_long (atom p ts) = omega (arith, terms_long ts)

pub variables_few : (q : Goal) → 3 * length (query_variables q) ≤ length (goal_bytes q)
unfolding query_variables
variables_few q = omega (arith, once_length (goal_variables q), goal_long q)

-- the higher the number, the more are marked below it
marked_more : (marks : List ℕ) (v n : ℕ) → v ≤ n → length (marked_below marks v) ≤ length (marked_below marks n)
unfolding marked_below
marked_more marks v zero h = let z : v ≡ 0 = omega arith in rw z (omega arith)
marked_more marks v (suc n) h = go (ℕ_discrete v (suc n)) (marked_more marks v n)
  where
    go : Dec (v ≡ suc n) → (v ≤ n → length (marked_below marks v) ≤ length (marked_below marks n)) → length (marked_below marks v) ≤ length (marked_below marks (suc n))
    go (yes e) f = rw e (omega arith)
    go (no e) f = let k = f (omega (arith, e)) in simp length-append (omega arith)

-- those below v are listed: v comes behind them where it is marked
module _ (marks : List ℕ) (v : ℕ) {before table : List ℕ} {k : ℕ} {r : Bool} (p : Put before 0 (marked_below marks v) table k) (is : r ≡ is_marked marks v) where
  pub listed_marked : r ≡ true → Put before 0 (marked_below marks (v + 1)) (set table k v) (k + 1)
  unfolding marked_below
  listed_marked t = rw (add-one v, sym is ∙ t) (put_then p put_set)

  pub listed_unmarked : r ≡ false → Put before 0 (marked_below marks (v + 1)) table k
  unfolding marked_below
  listed_unmarked t = rw (add-one v, sym is ∙ t, append-nil) p

  pub listed_room : r ≡ true → (n : ℕ) → v < n → length (marked_below marks n) ≤ length before → k < length table
  listed_room t n h m = omega (arith, (listed_marked t).place, put_length p, marked_more marks (v + 1) n (omega arith))

-- a query's goal is traversed, which meets its variables
module _ (query : List ℕ) (known : Known query) (q : Goal) (reads : read_query query ≡ tree q) where
  query_traversal : traverse query 3 0 1 ≡ on (goal_nodes q) (3 + length (goal_bytes q))
  query_traversal = let w = query_tree query (bytes_all query known) q reads in rw w.laid (traverse_goal q w.formed (body_stands (goal_bytes q)))

  formed : GoalFormed q
  formed = (query_tree query (bytes_all query known) q reads).formed

  query_met : met (traverse query 3 0 1) ≡ goal_variables q
  query_met = rw query_traversal (goal_met q)

  pub query_on : On (traverse query 3 0 1)
  query_on = rw query_traversal tt

  -- what is listed of it: the marked variables below the first above all
  pub listed_variables : {marks : List ℕ} {top : ℕ} → marks ≡ along marked (replicate 1024 0) (met (traverse query 3 0 1)) → top ≡ above (met (traverse query 3 0 1))
      → marked_below marks top ≡ query_variables q
  listed_variables e n = rw (e, n, query_met) (marked_variables q formed)

  pub listed_words : {marks : List ℕ} → marks ≡ along marked (replicate 1024 0) (met (traverse query 3 0 1)) → length marks ≡ 1024
  listed_words e = ap length e ∙ length_along (replicate 1024 0) (met (traverse query 3 0 1))

  pub listed_top : {top : ℕ} → top ≡ above (met (traverse query 3 0 1)) → top ≤ 65536
  listed_top n = rw (n, query_met) (variables_small q formed)

  pub listed_few : 3 * length (query_variables q) ≤ length query
  listed_few = rw ((query_tree query (bytes_all query known) q reads).laid, length_record_of (goal_bytes q)) (omega (arith, variables_few q))
