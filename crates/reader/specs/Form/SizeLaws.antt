-- Laws of sizes: a text has at least as many bytes as tokens, and as many tokens as clauses and names together; no more names are listed than stand in it. So a
-- text of 65,535 bytes has no name whose number is over two bytes.
use Rattle.std.specs.Prelude.{◌≡◌, Bool, true, false, cond, ◌||◌, List, [], ◌∷◌, ◌++◌, ℕ, suc, ◌+◌, ◌≤◌, length}
use Rattle.std.proofs.lemmas.Bool.{false≢true}
use Rattle.std.proofs.Common.{arith, length-append}
use Rattle.text.specs.Grammar.{Token, Spelled, Says, SaysGoal, TermTree, ArgumentTrees, GoalTree, ConjunctionTree, PrimaryTree, ClauseTree, token_bytes, stands_before, is_variable, is_true, is_fail, term_then, arguments_then, goal_then, conjunction_then, primary_then, clause_then, clauses_tokens}
use Rattle.text.specs.Grammar.Token.{bare, functor, opening, closing, comma, semicolon, equals, neck, stop, wrong}
use Rattle.text.specs.Grammar.Spelled.{ended, blanks, token}
use Rattle.text.specs.Grammar.TermTree.{alone, applied}
use Rattle.text.specs.Grammar.ArgumentTrees.{last, more}
use Rattle.text.specs.Grammar.GoalTree.{only, either}
use Rattle.text.specs.Grammar.ConjunctionTree.{sole, both}
use Rattle.text.specs.Grammar.PrimaryTree.{equality, atomic, bracketed}
use Rattle.text.specs.Grammar.ClauseTree.{fact, implied}
use Rattle.reader.specs.Form.Meaning.{listed, with_name, with_names, names_of_term, names_of_arguments, names_of_atom, names_of_head, names_of_goal, names_of_conjunction, names_of_primary, names_of_clause, names_of_clauses, text_names, query_names}

-- Bytes: a token has one at least.
token_long : (t : Token) (s : List ℕ) → stands_before t s ≡ true → 1 ≤ length (token_bytes t)
token_long (bare []) s e = absurd (false≢true e)
token_long (bare (b ∷ w)) s e = omega arith
token_long (functor w) s e = omega (arith, length-append w (40 ∷ []))
token_long opening s e = omega arith
token_long closing s e = omega arith
token_long comma s e = omega arith
token_long semicolon s e = omega arith
token_long equals s e = omega arith
token_long neck s e = omega arith
token_long stop s e = omega arith
token_long wrong s e = absurd (false≢true e)

spelled_long : {ts : List Token} {s : List ℕ} → Spelled ts s → length ts ≤ length s
spelled_long ended = omega arith
spelled_long (blanks e h) = omega (arith, spelled_long h)
spelled_long (token {ts} {s} t e h) = omega (arith, length-append (token_bytes t) s, token_long t s e, spelled_long h)

-- Tokens: each name is one, and each clause has a full stop besides.
one_or_none : (b : Bool) (w : List ℕ) → length (cond b [] (w ∷ [])) ≤ 1
one_or_none true w = omega arith
one_or_none false w = omega arith

mutual
  term_long : (t : TermTree) (r : List Token) → length (names_of_term t) + length r ≤ length (term_then t r)
  term_long (alone w) r = omega (arith, one_or_none (is_variable w) w)
  term_long (applied w ts) r = omega (arith, arguments_long ts r)

  arguments_long : (ts : ArgumentTrees) (r : List Token) → length (names_of_arguments ts) + length r ≤ length (arguments_then ts r)
  arguments_long (last t) r = omega (arith, term_long t (closing ∷ r))
  arguments_long (more t ts) r =
      omega (arith, term_long t (comma ∷ arguments_then ts r), arguments_long ts r, length-append (names_of_term t) (names_of_arguments ts))

atom_long : (a : TermTree) (r : List Token) → length (names_of_atom a) + length r ≤ length (term_then a r)
atom_long (alone w) r = omega (arith, one_or_none (is_true w || is_fail w) w)
atom_long (applied w ts) r = omega (arith, arguments_long ts r)

head_long : (h : TermTree) (r : List Token) → length (names_of_head h) + length r ≤ length (term_then h r)
head_long (alone w) r = omega arith
head_long (applied w ts) r = omega (arith, arguments_long ts r)

mutual
  goal_long : (g : GoalTree) (r : List Token) → length (names_of_goal g) + length r ≤ length (goal_then g r)
  goal_long (only c) r = conjunction_long c r
  goal_long (either c g) r =
      omega (arith, conjunction_long c (semicolon ∷ goal_then g r), goal_long g r, length-append (names_of_conjunction c) (names_of_goal g))

  conjunction_long : (c : ConjunctionTree) (r : List Token) → length (names_of_conjunction c) + length r ≤ length (conjunction_then c r)
  conjunction_long (sole p) r = primary_long p r
  conjunction_long (both p c) r =
      omega (arith, primary_long p (comma ∷ conjunction_then c r), conjunction_long c r, length-append (names_of_primary p) (names_of_conjunction c))

  primary_long : (p : PrimaryTree) (r : List Token) → length (names_of_primary p) + length r ≤ length (primary_then p r)
  primary_long (equality t u) r = omega (arith, term_long t (equals ∷ term_then u r), term_long u r, length-append (names_of_term t) (names_of_term u))
  primary_long (atomic a) r = atom_long a r
  primary_long (bracketed g) r = omega (arith, goal_long g (closing ∷ r))

clause_long : (c : ClauseTree) (r : List Token) → suc (length (names_of_clause c)) + length r ≤ length (clause_then c r)
clause_long (fact h) r = omega (arith, head_long h (stop ∷ r))
clause_long (implied h g) r =
    omega (arith, head_long h (neck ∷ goal_then g (stop ∷ r)), goal_long g (stop ∷ r), length-append (names_of_head h) (names_of_goal g))

clauses_long : (cs : List ClauseTree) → length cs + length (names_of_clauses cs) ≤ length (clauses_tokens cs)
clauses_long [] = omega arith
clauses_long (c ∷ cs) = omega (arith, clause_long c (clauses_tokens cs), clauses_long cs, length-append (names_of_clause c) (names_of_clauses cs))

-- Names: the list grows by one name at most with each.
with_names_long : (ns ws : List (List ℕ)) → length (with_names ns ws) ≤ length ns + length ws
with_names_long ns [] = omega arith
with_names_long ns (w ∷ ws) = omega (arith, go (listed w ns), with_names_long (with_name ns w) ws)
  where
    go : (b : Bool) → length (cond b ns (ns ++ (w ∷ []))) ≤ suc (length ns)
    go true = omega arith
    go false = omega (arith, length-append ns (w ∷ []))

-- A text's clauses, and its names, are no more than its bytes; and with a query's.
pub clauses_few : (text : List ℕ) (cs : List ClauseTree) → Says text cs → length cs ≤ length text
clauses_few text cs h = omega (arith, clauses_long cs, spelled_long h.spelled)

pub names_few : (text : List ℕ) (cs : List ClauseTree) → Says text cs → length (text_names cs) ≤ length text
names_few text cs h = omega (arith, with_names_long [] (names_of_clauses cs), clauses_long cs, spelled_long h.spelled)

pub query_names_few : (text query : List ℕ) (cs : List ClauseTree) (g : GoalTree) → Says text cs → SaysGoal query g → length (query_names cs g) ≤ length text + length query
query_names_few text query cs g h k =
    omega (arith, with_names_long (text_names cs) (names_of_goal g), names_few text cs h, goal_long g [], spelled_long k.spelled)
