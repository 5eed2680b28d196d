-- The grammar of rules as text (SPECIFICATION 13), without a reader: which bytes say which clauses. A text is the tokens of its clauses, each in its bytes,
-- with blanks between them and at either end. Every function `..-then x r` gives the tokens of x, and behind them those of r.
-- Choices: a name with the opening bracket directly behind it is one token, so that `p (x)` is no term; trees keep the brackets around goals, so that a
-- tree says how its text was bracketed; goals hold conjunctions and conjunctions hold primaries, so that priorities need no numbers; a tree may hold any
-- bytes for words, and `Proper..` says which words may stand where.
use Rattle.std.specs.Prelude.{ℕ, ◌≡◌, Bool, true, false, ◌||◌, ◌&&◌, not, List, [], ◌∷◌, ◌++◌, eqb, leb}
use Rattle.records.specs.Gate.RecordRules.{every}
use Rattle.records.specs.Ends.Same.{same_bytes}

-- Characters. Tab, line feed, carriage return and space may stand between tokens.
abbrev pub blank : ℕ → Bool
blank b = eqb b 9 || (eqb b 10 || (eqb b 13 || eqb b 32))

abbrev pub lower : ℕ → Bool
lower b = leb 97 b && leb b 122

abbrev pub upper : ℕ → Bool
upper b = leb 65 b && leb b 90

abbrev pub digit : ℕ → Bool
digit b = leb 48 b && leb b 57

abbrev pub underscore : ℕ → Bool
underscore b = eqb b 95

-- letters, digits and underscores
abbrev pub alphanumeric : ℕ → Bool
alphanumeric b = lower b || (upper b || (digit b || underscore b))

-- ( ) , ; = . : -
abbrev pub mark : ℕ → Bool
mark b = eqb b 40 || (eqb b 41 || (eqb b 44 || (eqb b 59 || (eqb b 61 || (eqb b 46 || (eqb b 58 || eqb b 45))))))

-- what a token or the space between tokens may hold (question 20)
abbrev pub text_byte : ℕ → Bool
text_byte b = alphanumeric b || (blank b || mark b)

-- Words. A name starts with a lower-case letter, a variable with an upper-case one or an underscore; a number has digits only.
abbrev pub is_name : List ℕ → Bool
is_name [] = false
is_name (b ∷ l) = lower b && every alphanumeric l

abbrev pub is_variable : List ℕ → Bool
is_variable [] = false
is_variable (b ∷ l) = (upper b || underscore b) && every alphanumeric l

abbrev pub is_number : List ℕ → Bool
is_number [] = false
is_number (b ∷ l) = digit b && every digit l

-- t r u e, and f a i l
abbrev pub is_true : List ℕ → Bool
is_true w = same_bytes w (116 ∷ 114 ∷ 117 ∷ 101 ∷ [])

abbrev pub is_fail : List ℕ → Bool
is_fail w = same_bytes w (102 ∷ 97 ∷ 105 ∷ 108 ∷ [])

-- Tokens: a word; a word with the opening bracket directly behind it; ( ) , ; = :- and the full stop. `wrong` is no token of the grammar.
pub data Token : Type 0 where
  bare functor : List ℕ → Token
  opening closing comma semicolon equals neck stop wrong : Token

abbrev pub token_bytes : Token → List ℕ
token_bytes (bare w) = w
token_bytes (functor w) = w ++ (40 ∷ [])
token_bytes opening = 40 ∷ []
token_bytes closing = 41 ∷ []
token_bytes comma = 44 ∷ []
token_bytes semicolon = 59 ∷ []
token_bytes equals = 61 ∷ []
token_bytes neck = 58 ∷ 45 ∷ []
token_bytes stop = 46 ∷ []
token_bytes wrong = []

-- Terms: a variable, a number or a name alone, or a name, an opening bracket directly behind it, one or more terms parted by commas, and a closing bracket.
mutual
  pub data TermTree : Type 0 where
    alone : List ℕ → TermTree
    applied : List ℕ → ArgumentTrees → TermTree

  pub data ArgumentTrees : Type 0 where
    last : TermTree → ArgumentTrees
    more : TermTree → ArgumentTrees → ArgumentTrees

abbrev mutual
  pub term_then : TermTree → List Token → List Token
  term_then (alone w) r = bare w ∷ r
  term_then (applied w ts) r = functor w ∷ arguments_then ts r

  pub arguments_then : ArgumentTrees → List Token → List Token
  arguments_then (last t) r = term_then t (closing ∷ r)
  arguments_then (more t ts) r = term_then t (comma ∷ arguments_then ts r)

abbrev mutual
  pub ProperTerm : TermTree → Type 0
  ProperTerm (alone w) = (is_name w || (is_variable w || is_number w)) ≡ true
  ProperTerm (applied w ts) = (is_name w ≡ true) × ProperArguments ts

  pub ProperArguments : ArgumentTrees → Type 0
  ProperArguments (last t) = ProperTerm t
  ProperArguments (more t ts) = ProperTerm t × ProperArguments ts

-- Atoms and heads: names, alone or with arguments; true and fail are no heads.
abbrev pub ProperAtom : TermTree → Type 0
ProperAtom (alone w) = is_name w ≡ true
ProperAtom (applied w ts) = ProperTerm (applied w ts)

abbrev pub ProperHead : TermTree → Type 0
ProperHead (alone w) = (is_name w ≡ true) × ((is_true w || is_fail w) ≡ false)
ProperHead (applied w ts) = ProperTerm (applied w ts)

-- Goals: `;` binds weakest, then the comma, both grouping to the right, then `=`, which does not chain; brackets group goals.
mutual
  pub data GoalTree : Type 0 where
    only : ConjunctionTree → GoalTree
    either : ConjunctionTree → GoalTree → GoalTree

  pub data ConjunctionTree : Type 0 where
    sole : PrimaryTree → ConjunctionTree
    both : PrimaryTree → ConjunctionTree → ConjunctionTree

  pub data PrimaryTree : Type 0 where
    equality : TermTree → TermTree → PrimaryTree
    atomic : TermTree → PrimaryTree
    bracketed : GoalTree → PrimaryTree

abbrev mutual
  pub goal_then : GoalTree → List Token → List Token
  goal_then (only c) r = conjunction_then c r
  goal_then (either c g) r = conjunction_then c (semicolon ∷ goal_then g r)

  pub conjunction_then : ConjunctionTree → List Token → List Token
  conjunction_then (sole p) r = primary_then p r
  conjunction_then (both p c) r = primary_then p (comma ∷ conjunction_then c r)

  pub primary_then : PrimaryTree → List Token → List Token
  primary_then (equality t u) r = term_then t (equals ∷ term_then u r)
  primary_then (atomic a) r = term_then a r
  primary_then (bracketed g) r = opening ∷ goal_then g (closing ∷ r)

abbrev mutual
  pub ProperGoal : GoalTree → Type 0
  ProperGoal (only c) = ProperConjunction c
  ProperGoal (either c g) = ProperConjunction c × ProperGoal g

  pub ProperConjunction : ConjunctionTree → Type 0
  ProperConjunction (sole p) = ProperPrimary p
  ProperConjunction (both p c) = ProperPrimary p × ProperConjunction c

  pub ProperPrimary : PrimaryTree → Type 0
  ProperPrimary (equality t u) = ProperTerm t × ProperTerm u
  ProperPrimary (atomic a) = ProperAtom a
  ProperPrimary (bracketed g) = ProperGoal g

-- Clauses: a head, or a head, :- and a goal, and a full stop. A text is any number of clauses, or none.
pub data ClauseTree : Type 0 where
  fact : TermTree → ClauseTree
  implied : TermTree → GoalTree → ClauseTree

abbrev pub clause_then : ClauseTree → List Token → List Token
clause_then (fact h) r = term_then h (stop ∷ r)
clause_then (implied h g) r = term_then h (neck ∷ goal_then g (stop ∷ r))

abbrev pub ProperClause : ClauseTree → Type 0
ProperClause (fact h) = ProperHead h
ProperClause (implied h g) = ProperHead h × ProperGoal g

abbrev pub clauses_tokens : List ClauseTree → List Token
clauses_tokens [] = []
clauses_tokens (c ∷ cs) = clause_then c (clauses_tokens cs)

abbrev pub ProperClauses : List ClauseTree → Type 0
ProperClauses [] = Unit {0}
ProperClauses (c ∷ cs) = ProperClause c × ProperClauses cs

-- Spelling. A word is letters, digits and underscores, one at least, and ends where none of them and no opening bracket follows.
abbrev pub is_word : List ℕ → Bool
is_word [] = false
is_word (b ∷ l) = alphanumeric b && every alphanumeric l

abbrev pub word_ends : List ℕ → Bool
word_ends [] = true
word_ends (b ∷ s) = not (alphanumeric b || eqb b 40)

-- the token may stand before the bytes s
abbrev pub stands_before : Token → List ℕ → Bool
stands_before (bare w) s = is_word w && word_ends s
stands_before (functor w) s = is_word w
stands_before opening s = true
stands_before closing s = true
stands_before comma s = true
stands_before semicolon s = true
stands_before equals s = true
stands_before neck s = true
stands_before stop s = true
stands_before wrong s = false

-- the bytes s spell the tokens: blanks, a token's bytes, and so on, blanks at the end
pub data Spelled : List Token → List ℕ → Type 0 where
  ended : Spelled [] []
  blanks : {ts : List Token} {b : ℕ} {s : List ℕ} → blank b ≡ true → Spelled ts s → Spelled ts (b ∷ s)
  token : {ts : List Token} {s : List ℕ} (t : Token) → stands_before t s ≡ true → Spelled ts s → Spelled (t ∷ ts) (token_bytes t ++ s)

-- The grammar: the text s says the clauses cs; and, for a query, the text s says the goal g.
pub record Says (s : List ℕ) (cs : List ClauseTree) : Type 0 where
  pub proper : ProperClauses cs
  pub spelled : Spelled (clauses_tokens cs) s

pub record SaysGoal (s : List ℕ) (g : GoalTree) : Type 0 where
  pub proper : ProperGoal g
  pub spelled : Spelled (goal_then g []) s
