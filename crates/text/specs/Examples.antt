-- Worked examples, by evaluation: what texts and goals say, and what questions 20 and 21 refuse.
use Rattle.std.specs.Prelude.{ℕ, ◌≡◌, refl, true, not, List, [], ◌∷◌}
use Rattle.std.proofs.Math.Option.{some, none}
use Rattle.records.specs.Gate.RecordRules.{every}
use Rattle.records.specs.Ends.Same.{same_bytes}
use Rattle.text.specs.Grammar.{text_byte}
use Rattle.text.specs.Grammar.TermTree.{alone, applied}
use Rattle.text.specs.Grammar.ArgumentTrees.{last, more}
use Rattle.text.specs.Grammar.GoalTree.{only, either}
use Rattle.text.specs.Grammar.ConjunctionTree.{sole, both}
use Rattle.text.specs.Grammar.PrimaryTree.{equality, atomic, bracketed}
use Rattle.text.specs.Grammar.ClauseTree.{fact, implied}
use Rattle.text.specs.Tokens.Lexer.{lex, tokens_of}
use Rattle.text.specs.Parsing.Table.{accepts}
use Rattle.text.specs.Parsing.Questions.{grammatical, goal_accepts, goal_grammatical}
use Rattle.text.specs.Parsing.SoundLaws.{sound_by, clauses_sound, goal_sound}
use Rattle.text.specs.Parsing.ExactLaws.{says_some, says_some_goal}
use Rattle.text.specs.Parsing.Found.{decided, tree_found}
use Rattle.text.specs.Reading.{reading_exact, reading?, reading, goal_reading_exact, goal_reading?, goal_reading}
use Rattle.text.specs.Printer.{printed}

-- the empty text
pub no_text : reading [] ≡ some ([])
unfolding reading reading? reading_exact tree_found decided says_some clauses_sound sound_by grammatical tokens_of lex accepts same_bytes
no_text = refl

-- blanks alone
pub blanks_alone : reading (32 ∷ 10 ∷ []) ≡ some ([])
unfolding reading reading? reading_exact tree_found decided says_some clauses_sound sound_by grammatical tokens_of lex accepts same_bytes
blanks_alone = refl

-- `a.b.`: a full stop needs nothing behind it
pub two_facts : reading (97 ∷ 46 ∷ 98 ∷ 46 ∷ []) ≡ some (fact (alone (97 ∷ [])) ∷ fact (alone (98 ∷ [])) ∷ [])
unfolding reading reading? reading_exact tree_found decided says_some clauses_sound sound_by grammatical tokens_of lex accepts same_bytes
two_facts = refl

-- `a :- b , c ;(b).`: a comma binds tighter than a semicolon, and the brackets stay in the tree
pub priorities : reading (97 ∷ 32 ∷ 58 ∷ 45 ∷ 32 ∷ 98 ∷ 32 ∷ 44 ∷ 32 ∷ 99 ∷ 32 ∷ 59 ∷ 40 ∷ 98 ∷ 41 ∷ 46 ∷ []) ≡ some (implied (alone (97 ∷ [])) (either (both (atomic (alone (98 ∷ []))) (sole (atomic (alone (99 ∷ []))))) (only (sole (bracketed (only (sole (atomic (alone (98 ∷ []))))))))) ∷ [])
unfolding reading reading? reading_exact tree_found decided says_some clauses_sound sound_by grammatical tokens_of lex accepts same_bytes
priorities = refl

-- `a :- b, c, d ; e ; f.`: both group to the right
pub right_groups : reading (97 ∷ 32 ∷ 58 ∷ 45 ∷ 32 ∷ 98 ∷ 44 ∷ 32 ∷ 99 ∷ 44 ∷ 32 ∷ 100 ∷ 32 ∷ 59 ∷ 32 ∷ 101 ∷ 32 ∷ 59 ∷ 32 ∷ 102 ∷ 46 ∷ []) ≡ some (implied (alone (97 ∷ [])) (either (both (atomic (alone (98 ∷ []))) (both (atomic (alone (99 ∷ []))) (sole (atomic (alone (100 ∷ [])))))) (either (sole (atomic (alone (101 ∷ [])))) (only (sole (atomic (alone (102 ∷ []))))))) ∷ [])
unfolding reading reading? reading_exact tree_found decided says_some clauses_sound sound_by grammatical tokens_of lex accepts same_bytes
right_groups = refl

-- `a :- p(X) = X.`: what stands left of = looks like an atom at first
pub equality_of_compounds : reading (97 ∷ 32 ∷ 58 ∷ 45 ∷ 32 ∷ 112 ∷ 40 ∷ 88 ∷ 41 ∷ 32 ∷ 61 ∷ 32 ∷ 88 ∷ 46 ∷ []) ≡ some (implied (alone (97 ∷ [])) (only (sole (equality (applied (112 ∷ []) (last (alone (88 ∷ [])))) (alone (88 ∷ []))))) ∷ [])
unfolding reading reading? reading_exact tree_found decided says_some clauses_sound sound_by grammatical tokens_of lex accepts same_bytes
equality_of_compounds = refl

-- `p(X, f(Y), 07, _) :- (q ; true), X = true.`: variables, numbers and names are terms; true is one too
pub arguments : reading (112 ∷ 40 ∷ 88 ∷ 44 ∷ 32 ∷ 102 ∷ 40 ∷ 89 ∷ 41 ∷ 44 ∷ 32 ∷ 48 ∷ 55 ∷ 44 ∷ 32 ∷ 95 ∷ 41 ∷ 32 ∷ 58 ∷ 45 ∷ 32 ∷ 40 ∷ 113 ∷ 32 ∷ 59 ∷ 32 ∷ 116 ∷ 114 ∷ 117 ∷ 101 ∷ 41 ∷ 44 ∷ 32 ∷ 88 ∷ 32 ∷ 61 ∷ 32 ∷ 116 ∷ 114 ∷ 117 ∷ 101 ∷ 46 ∷ []) ≡ some (implied (applied (112 ∷ []) (more (alone (88 ∷ [])) (more (applied (102 ∷ []) (last (alone (89 ∷ [])))) (more (alone (48 ∷ 55 ∷ [])) (last (alone (95 ∷ []))))))) (only (both (bracketed (either (sole (atomic (alone (113 ∷ [])))) (only (sole (atomic (alone (116 ∷ 114 ∷ 117 ∷ 101 ∷ []))))))) (sole (equality (alone (88 ∷ [])) (alone (116 ∷ 114 ∷ 117 ∷ 101 ∷ [])))))) ∷ [])
unfolding reading reading? reading_exact tree_found decided says_some clauses_sound sound_by grammatical tokens_of lex accepts same_bytes
arguments = refl

-- `true(a).`: true with arguments is a name
pub true_with_arguments : reading (116 ∷ 114 ∷ 117 ∷ 101 ∷ 40 ∷ 97 ∷ 41 ∷ 46 ∷ []) ≡ some (fact (applied (116 ∷ 114 ∷ 117 ∷ 101 ∷ []) (last (alone (97 ∷ [])))) ∷ [])
unfolding reading reading? reading_exact tree_found decided says_some clauses_sound sound_by grammatical tokens_of lex accepts same_bytes
true_with_arguments = refl

-- `p(X), X = a`: a query
pub goal_of_two : goal_reading (112 ∷ 40 ∷ 88 ∷ 41 ∷ 44 ∷ 32 ∷ 88 ∷ 32 ∷ 61 ∷ 32 ∷ 97 ∷ []) ≡ some (only (both (atomic (applied (112 ∷ []) (last (alone (88 ∷ []))))) (sole (equality (alone (88 ∷ [])) (alone (97 ∷ []))))))
unfolding goal_reading goal_reading? goal_reading_exact tree_found decided says_some_goal goal_sound sound_by goal_grammatical goal_accepts tokens_of lex accepts same_bytes
goal_of_two = refl

-- `\ttrue `: true alone
pub goal_true : goal_reading (9 ∷ 116 ∷ 114 ∷ 117 ∷ 101 ∷ 32 ∷ []) ≡ some (only (sole (atomic (alone (116 ∷ 114 ∷ 117 ∷ 101 ∷ [])))))
unfolding goal_reading goal_reading? goal_reading_exact tree_found decided says_some_goal goal_sound sound_by goal_grammatical goal_accepts tokens_of lex accepts same_bytes
goal_true = refl

-- texts outside the grammar
abbrev no_clauses : List (List ℕ)
no_clauses =
    -- a :- (a) = b.
    (97 ∷ 32 ∷ 58 ∷ 45 ∷ 32 ∷ 40 ∷ 97 ∷ 41 ∷ 32 ∷ 61 ∷ 32 ∷ 98 ∷ 46 ∷ []) ∷
    -- a :- X = (a).
    (97 ∷ 32 ∷ 58 ∷ 45 ∷ 32 ∷ 88 ∷ 32 ∷ 61 ∷ 32 ∷ 40 ∷ 97 ∷ 41 ∷ 46 ∷ []) ∷
    -- p((a)).
    (112 ∷ 40 ∷ 40 ∷ 97 ∷ 41 ∷ 41 ∷ 46 ∷ []) ∷
    -- (p) :- q.
    (40 ∷ 112 ∷ 41 ∷ 32 ∷ 58 ∷ 45 ∷ 32 ∷ 113 ∷ 46 ∷ []) ∷
    -- a :- (b :- c).
    (97 ∷ 32 ∷ 58 ∷ 45 ∷ 32 ∷ 40 ∷ 98 ∷ 32 ∷ 58 ∷ 45 ∷ 32 ∷ 99 ∷ 41 ∷ 46 ∷ []) ∷
    -- a :- b :- c.
    (97 ∷ 32 ∷ 58 ∷ 45 ∷ 32 ∷ 98 ∷ 32 ∷ 58 ∷ 45 ∷ 32 ∷ 99 ∷ 46 ∷ []) ∷
    -- a :- a = b = c.
    (97 ∷ 32 ∷ 58 ∷ 45 ∷ 32 ∷ 97 ∷ 32 ∷ 61 ∷ 32 ∷ 98 ∷ 32 ∷ 61 ∷ 32 ∷ 99 ∷ 46 ∷ []) ∷
    -- :- a.
    (58 ∷ 45 ∷ 32 ∷ 97 ∷ 46 ∷ []) ∷
    -- p ().
    (112 ∷ 32 ∷ 40 ∷ 41 ∷ 46 ∷ []) ∷
    -- p (x).
    (112 ∷ 32 ∷ 40 ∷ 120 ∷ 41 ∷ 46 ∷ []) ∷
    -- p().
    (112 ∷ 40 ∷ 41 ∷ 46 ∷ []) ∷
    -- a :- X.
    (97 ∷ 32 ∷ 58 ∷ 45 ∷ 32 ∷ 88 ∷ 46 ∷ []) ∷
    -- a :- 7.
    (97 ∷ 32 ∷ 58 ∷ 45 ∷ 32 ∷ 55 ∷ 46 ∷ []) ∷
    -- true.
    (116 ∷ 114 ∷ 117 ∷ 101 ∷ 46 ∷ []) ∷
    -- fail.
    (102 ∷ 97 ∷ 105 ∷ 108 ∷ 46 ∷ []) ∷
    -- true :- a.
    (116 ∷ 114 ∷ 117 ∷ 101 ∷ 32 ∷ 58 ∷ 45 ∷ 32 ∷ 97 ∷ 46 ∷ []) ∷
    -- X :- a.
    (88 ∷ 32 ∷ 58 ∷ 45 ∷ 32 ∷ 97 ∷ 46 ∷ []) ∷
    -- 7.
    (55 ∷ 46 ∷ []) ∷
    -- 1a.
    (49 ∷ 97 ∷ 46 ∷ []) ∷
    -- _(a).
    (95 ∷ 40 ∷ 97 ∷ 41 ∷ 46 ∷ []) ∷
    -- a : - b.
    (97 ∷ 32 ∷ 58 ∷ 32 ∷ 45 ∷ 32 ∷ 98 ∷ 46 ∷ []) ∷
    -- a :
    (97 ∷ 32 ∷ 58 ∷ []) ∷
    -- a - b.
    (97 ∷ 32 ∷ 45 ∷ 32 ∷ 98 ∷ 46 ∷ []) ∷
    -- a
    (97 ∷ []) ∷
    -- a :- .
    (97 ∷ 32 ∷ 58 ∷ 45 ∷ 32 ∷ 46 ∷ []) ∷
    -- a :- b,.
    (97 ∷ 32 ∷ 58 ∷ 45 ∷ 32 ∷ 98 ∷ 44 ∷ 46 ∷ []) ∷
    -- a :- (b.
    (97 ∷ 32 ∷ 58 ∷ 45 ∷ 32 ∷ 40 ∷ 98 ∷ 46 ∷ []) ∷
    -- a :- b).
    (97 ∷ 32 ∷ 58 ∷ 45 ∷ 32 ∷ 98 ∷ 41 ∷ 46 ∷ []) ∷
    -- p(a,).
    (112 ∷ 40 ∷ 97 ∷ 44 ∷ 41 ∷ 46 ∷ []) ∷
    -- p(a b).
    (112 ∷ 40 ∷ 97 ∷ 32 ∷ 98 ∷ 41 ∷ 46 ∷ []) ∷
    -- .
    (46 ∷ []) ∷
    []

pub refused_texts : every (λ s. not (grammatical s)) no_clauses ≡ true
unfolding grammatical tokens_of lex accepts same_bytes
refused_texts = refl

-- goals outside it: a full stop is none of a goal
abbrev no_goals : List (List ℕ)
no_goals =
    -- nothing
    [] ∷
    -- a.
    (97 ∷ 46 ∷ []) ∷
    -- a. b
    (97 ∷ 46 ∷ 32 ∷ 98 ∷ []) ∷
    -- a :- b
    (97 ∷ 32 ∷ 58 ∷ 45 ∷ 32 ∷ 98 ∷ []) ∷
    -- X
    (88 ∷ []) ∷
    -- 7
    (55 ∷ []) ∷
    -- a = b = c
    (97 ∷ 32 ∷ 61 ∷ 32 ∷ 98 ∷ 32 ∷ 61 ∷ 32 ∷ 99 ∷ []) ∷
    -- (a
    (40 ∷ 97 ∷ []) ∷
    -- a)
    (97 ∷ 41 ∷ []) ∷
    -- a,
    (97 ∷ 44 ∷ []) ∷
    -- p (x)
    (112 ∷ 32 ∷ 40 ∷ 120 ∷ 41 ∷ []) ∷
    []

pub refused_goals : every (λ s. not (goal_grammatical s)) no_goals ≡ true
unfolding goal_grammatical goal_accepts tokens_of lex accepts same_bytes
refused_goals = refl

-- the reading of a text that is refused
pub reads_none : reading (97 ∷ 32 ∷ 58 ∷ 45 ∷ 32 ∷ 88 ∷ 46 ∷ []) ≡ none
unfolding reading reading? reading_exact tree_found decided says_some clauses_sound sound_by grammatical tokens_of lex accepts same_bytes
reads_none = refl

-- question 20: a percent sign, a quote, a byte over 127, and the byte 0 are refused wherever they stand
pub refused_bytes : every (λ s. not (every text_byte s)) ((97 ∷ 46 ∷ 37 ∷ []) ∷ (39 ∷ 97 ∷ 39 ∷ 46 ∷ []) ∷ (97 ∷ 200 ∷ 46 ∷ []) ∷ (0 ∷ []) ∷ []) ≡ true
refused_bytes = refl

-- a lone colon or minus may stand in a text, and is outside the grammar
pub allowed_marks : every text_byte (97 ∷ 32 ∷ 58 ∷ 32 ∷ 45 ∷ 32 ∷ 98 ∷ 46 ∷ []) ≡ true
allowed_marks = refl

-- the printer: `p(X, Y) :- q(X), Y = a ; r.\n`
pub prints : printed (implied (applied (112 ∷ []) (more (alone (88 ∷ [])) (last (alone (89 ∷ []))))) (either (both (atomic (applied (113 ∷ []) (last (alone (88 ∷ []))))) (sole (equality (alone (89 ∷ [])) (alone (97 ∷ []))))) (only (sole (atomic (alone (114 ∷ [])))))) ∷ []) ≡ 112 ∷ 40 ∷ 88 ∷ 44 ∷ 32 ∷ 89 ∷ 41 ∷ 32 ∷ 58 ∷ 45 ∷ 32 ∷ 113 ∷ 40 ∷ 88 ∷ 41 ∷ 44 ∷ 32 ∷ 89 ∷ 32 ∷ 61 ∷ 32 ∷ 97 ∷ 32 ∷ 59 ∷ 32 ∷ 114 ∷ 46 ∷ 10 ∷ []
prints = refl
