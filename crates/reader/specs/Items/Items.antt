-- A text as the items of its clauses: what each token does there, with its word. Code sorts tokens so before it numbers and writes; the items of a tree are
-- those that its tokens have (ItemsLaws).
use Rattle.std.specs.Prelude.{Bool, true, false, cond, List, [], ◌∷◌, ℕ}
use Rattle.text.specs.Grammar.{Token, TermTree, ArgumentTrees, GoalTree, ConjunctionTree, PrimaryTree, ClauseTree, is_variable, is_true, is_fail}
use Rattle.text.specs.Grammar.Token.{bare, functor, opening, closing, comma, semicolon, equals, neck, stop, wrong}
use Rattle.text.specs.Grammar.TermTree.{alone, applied}
use Rattle.text.specs.Grammar.ArgumentTrees.{last, more}
use Rattle.text.specs.Grammar.GoalTree.{only, either}
use Rattle.text.specs.Grammar.ConjunctionTree.{sole, both}
use Rattle.text.specs.Grammar.PrimaryTree.{equality, atomic, bracketed}
use Rattle.text.specs.Grammar.ClauseTree.{fact, implied}
use Rattle.text.specs.Parsing.Table.{kind, look}
use Rattle.text.specs.Tokens.Places.{token_word}
use Rattle.text.specs.declared.tokens.Kind.{Kind}
use Rattle.text.specs.declared.tokens.Kind.TheVariants.{Name, True, Fail, Variable as AVariable, Number, Functor as AFunctor, Open as AnOpening, Close as AClosing, Comma, Semicolon, Equals, Neck as ANeck, Stop, Wrong, End}
use Rattle.text.specs.declared.table.Mode.{Mode}
use Rattle.text.specs.declared.table.Mode.TheVariants.{Clause as AtClause, Headed as AtHeaded, Goal as AtGoal, Left as AtLeft, Bare as AtBare, Right as AtRight, Done as AtDone, Term as AtTerm, Rest as AtRest, Bad as AtBad}
use Rattle.text.specs.declared.table.State.{State}
use Rattle.reader.specs.declared.roles.Role.{Role}
use Rattle.reader.specs.declared.roles.Role.TheVariants.{Variable, Constant, Functor, GoalVariable, GoalConstant, GoalFunctor, Truth, Failure, Head, HeadFunctor, Shut, Next, And, Or, Equal, Open, Close, Neck, Fact, Rule}

pub data Item : Type 0 where
  item : Role → List ℕ → Item

-- what the role of a token hangs on besides its kind: where a clause starts, behind a head, where a goal starts, behind an argument, or elsewhere
pub data Position : Type 0 where
  clause_starts head_ends goal_starts argument_ends elsewhere : Position

abbrev pub position : Mode → Position
position AtClause = clause_starts
position AtHeaded = head_ends
position AtGoal = goal_starts
position AtLeft = elsewhere
position AtBare = elsewhere
position AtRight = elsewhere
position AtDone = elsewhere
position (AtTerm p) = elsewhere
position (AtRest p) = argument_ends
position AtBad = elsewhere

-- one role where a clause starts, one where a goal does, and one anywhere else
abbrev pub word_role : Position → Role → Role → Role → Role
word_role clause_starts c g r = c
word_role goal_starts c g r = g
word_role head_ends c g r = r
word_role argument_ends c g r = r
word_role elsewhere c g r = r

-- one role behind an argument, and one anywhere else
abbrev pub mark_role : Position → Role → Role → Role
mark_role argument_ends a r = a
mark_role clause_starts a r = r
mark_role goal_starts a r = r
mark_role head_ends a r = r
mark_role elsewhere a r = r

abbrev pub stop_role : Position → Role
stop_role head_ends = Fact
stop_role clause_starts = Rule
stop_role goal_starts = Rule
stop_role argument_ends = Rule
stop_role elsewhere = Rule

-- by where it stands, its kind, and whether = comes next: true and fail are goals unless it does
abbrev pub role_of : Position → Kind → Bool → Role
role_of z Name e = word_role z Head GoalConstant Constant
role_of z True e = word_role z Constant (cond e GoalConstant Truth) Constant
role_of z Fail e = word_role z Constant (cond e GoalConstant Failure) Constant
role_of z AVariable e = word_role z Variable GoalVariable Variable
role_of z Number e = word_role z Constant GoalConstant Constant
role_of z AFunctor e = word_role z HeadFunctor GoalFunctor Functor
role_of z AnOpening e = Open
role_of z AClosing e = mark_role z Shut Close
role_of z Comma e = mark_role z Next And
role_of z Semicolon e = Or
role_of z Equals e = Equal
role_of z ANeck e = Neck
role_of z Stop e = stop_role z
role_of z Wrong e = Neck
role_of z End e = Neck

abbrev pub equals_next : List Token → Bool
equals_next [] = false
equals_next (bare w ∷ ts) = false
equals_next (functor w ∷ ts) = false
equals_next (opening ∷ ts) = false
equals_next (closing ∷ ts) = false
equals_next (comma ∷ ts) = false
equals_next (semicolon ∷ ts) = false
equals_next (equals ∷ ts) = true
equals_next (neck ∷ ts) = false
equals_next (stop ∷ ts) = false
equals_next (wrong ∷ ts) = false

-- the items of tokens, from a state of the parsing table on
unfoldable pub items : State → List Token → List Item
items s [] = []
items s (t ∷ ts) = item (role_of (position s.mode) (kind t) (equals_next ts)) (token_word t) ∷ items (look s (kind t)) ts

-- the items of a tree, and behind them those of r
abbrev mutual
  pub term_items : TermTree → List Item → List Item
  term_items (alone w) r = item (cond (is_variable w) Variable Constant) w ∷ r
  term_items (applied w ts) r = item Functor w ∷ arguments_items ts r

  pub arguments_items : ArgumentTrees → List Item → List Item
  arguments_items (last t) r = term_items t (item Shut [] ∷ r)
  arguments_items (more t ts) r = term_items t (item Next [] ∷ arguments_items ts r)

-- the left side of an equality, an atom, a head
abbrev pub left_items : TermTree → List Item → List Item
left_items (alone w) r = item (cond (is_variable w) GoalVariable GoalConstant) w ∷ r
left_items (applied w ts) r = item GoalFunctor w ∷ arguments_items ts r

abbrev pub atom_items : TermTree → List Item → List Item
atom_items (alone w) r = item (cond (is_true w) Truth (cond (is_fail w) Failure GoalConstant)) w ∷ r
atom_items (applied w ts) r = item GoalFunctor w ∷ arguments_items ts r

abbrev pub head_items : TermTree → List Item → List Item
head_items (alone w) r = item Head w ∷ r
head_items (applied w ts) r = item HeadFunctor w ∷ arguments_items ts r

abbrev mutual
  pub goal_items : GoalTree → List Item → List Item
  goal_items (only c) r = conjunction_items c r
  goal_items (either c g) r = conjunction_items c (item Or [] ∷ goal_items g r)

  pub conjunction_items : ConjunctionTree → List Item → List Item
  conjunction_items (sole p) r = primary_items p r
  conjunction_items (both p c) r = primary_items p (item And [] ∷ conjunction_items c r)

  pub primary_items : PrimaryTree → List Item → List Item
  primary_items (equality t u) r = left_items t (item Equal [] ∷ term_items u r)
  primary_items (atomic a) r = atom_items a r
  primary_items (bracketed g) r = item Open [] ∷ goal_items g (item Close [] ∷ r)

abbrev pub clause_items : ClauseTree → List Item → List Item
clause_items (fact h) r = head_items h (item Fact [] ∷ r)
clause_items (implied h g) r = head_items h (item Neck [] ∷ goal_items g (item Rule [] ∷ r))

abbrev pub clauses_items : List ClauseTree → List Item
clauses_items [] = []
clauses_items (c ∷ cs) = clause_items c (clauses_items cs)
