-- Worked examples, by evaluation: from the bytes of a text to its names, its clauses, its record and its list of names, and a query behind a text.
use Rattle.std.specs.Prelude.{◌≡◌, refl, List, [], ◌∷◌, ℕ}
use Rattle.std.proofs.Math.Option.{Option, none, some}
use Rattle.records.specs.Ends.Same.{same_bytes}
use Rattle.records.specs.Format.Encode.{record_of}
use Rattle.records.specs.Format.Syntax.{Clause}
use Rattle.records.specs.Format.Syntax.Term.{var, app}
use Rattle.records.specs.Format.Syntax.Terms.{nil, cons}
use Rattle.records.specs.Format.Syntax.Goal.{truth, failure, equal, conj, disj, atom}
use Rattle.records.specs.Format.Syntax.Clause.{clause}
use Rattle.records.specs.Gate.Door.{with_room}
use Rattle.records.specs.Gate.Question.{question_number}
use Rattle.records.specs.Gate.Reply.{gives, on_yes, answer_number}
use Rattle.text.specs.Grammar.{ClauseTree}
use Rattle.text.specs.Grammar.TermTree.{alone, applied}
use Rattle.text.specs.Grammar.ArgumentTrees.{last, more}
use Rattle.text.specs.Grammar.GoalTree.{only, either}
use Rattle.text.specs.Grammar.ConjunctionTree.{sole, both}
use Rattle.text.specs.Grammar.PrimaryTree.{equality, atomic}
use Rattle.text.specs.Grammar.ClauseTree.{implied}
use Rattle.text.specs.Tokens.Lexer.{lex, tokens_of}
use Rattle.text.specs.Parsing.Table.{accepts}
use Rattle.text.specs.Parsing.Questions.{grammatical, goal_accepts, goal_grammatical}
use Rattle.text.specs.Parsing.SoundLaws.{sound_by, clauses_sound, goal_sound}
use Rattle.text.specs.Parsing.ExactLaws.{says_some, says_some_goal}
use Rattle.text.specs.Parsing.Found.{decided, tree_found}
use Rattle.text.specs.Reading.{reading_exact, reading?, reading, goal_reading_exact, goal_reading?, goal_reading}
use Rattle.reader.specs.Form.Meaning.{text_names, text_clauses, query_goal, name_list}
use Rattle.reader.specs.Form.Service.{written_answer, clauses_answer_of, clauses_text_answer, query_answer_of, query_text_answer}

-- `p(X,Y):-q(X),Y=a;r.`: names take their numbers where they first stand, p, q, a, r, and variables likewise, X, Y
abbrev first_trees : List ClauseTree
first_trees = implied (applied (112 ∷ []) (more (alone (88 ∷ [])) (last (alone (89 ∷ []))))) (either (both (atomic (applied (113 ∷ []) (last (alone (88 ∷ []))))) (sole (equality (alone (89 ∷ [])) (alone (97 ∷ []))))) (only (sole (atomic (alone (114 ∷ [])))))) ∷ []

pub first_says : reading (112 ∷ 40 ∷ 88 ∷ 44 ∷ 89 ∷ 41 ∷ 58 ∷ 45 ∷ 113 ∷ 40 ∷ 88 ∷ 41 ∷ 44 ∷ 89 ∷ 61 ∷ 97 ∷ 59 ∷ 114 ∷ 46 ∷ []) ≡ some first_trees
unfolding reading reading? reading_exact tree_found decided says_some clauses_sound sound_by grammatical tokens_of lex accepts same_bytes
first_says = refl

pub first_names : text_names first_trees ≡ (112 ∷ []) ∷ (113 ∷ []) ∷ (97 ∷ []) ∷ (114 ∷ []) ∷ []
unfolding same_bytes
first_names = refl

pub first_clauses : text_clauses first_trees ≡ clause 0 2 (cons (var 0) (cons (var 1) nil)) (disj (conj (atom 1 (cons (var 0) nil)) (equal (var 1) (app 2 nil))) (atom 3 nil)) ∷ []
unfolding text_clauses same_bytes
first_clauses = refl

-- and the whole way, from bytes to bytes
pub first_written : clauses_text_answer (112 ∷ 40 ∷ 88 ∷ 44 ∷ 89 ∷ 41 ∷ 58 ∷ 45 ∷ 113 ∷ 40 ∷ 88 ∷ 41 ∷ 44 ∷ 89 ∷ 61 ∷ 97 ∷ 59 ∷ 114 ∷ 46 ∷ []) 12 32768 ≡ gives (record { list = 0x00 ∷ 0x01 ∷ 0x70 ∷ 0x00 ∷ 0x01 ∷ 0x71 ∷ 0x00 ∷ 0x01 ∷ 0x61 ∷ 0x00 ∷ 0x01 ∷ 0x72 ∷ []; bytes = 0x00 ∷ 0x22 ∷ 0x01 ∷ 0x00 ∷ 0x01 ∷ 0x00 ∷ 0x00 ∷ 0x02 ∷ 0x02 ∷ 0x01 ∷ 0x00 ∷ 0x00 ∷ 0x01 ∷ 0x00 ∷ 0x01 ∷ 0x14 ∷ 0x13 ∷ 0x15 ∷ 0x00 ∷ 0x01 ∷ 0x01 ∷ 0x01 ∷ 0x00 ∷ 0x00 ∷ 0x12 ∷ 0x01 ∷ 0x00 ∷ 0x01 ∷ 0x02 ∷ 0x00 ∷ 0x02 ∷ 0x00 ∷ 0x15 ∷ 0x00 ∷ 0x03 ∷ 0x00 ∷ [] })
unfolding clauses_text_answer clauses_answer_of written_answer on_yes with_room reading reading? reading_exact tree_found decided says_some clauses_sound sound_by grammatical tokens_of lex accepts same_bytes text_clauses name_list record_of
first_written = refl

-- with one byte less for the names it is refused by 22, and with less room for the record by 5
pub first_no_space : answer_number (clauses_text_answer (112 ∷ 40 ∷ 88 ∷ 44 ∷ 89 ∷ 41 ∷ 58 ∷ 45 ∷ 113 ∷ 40 ∷ 88 ∷ 41 ∷ 44 ∷ 89 ∷ 61 ∷ 97 ∷ 59 ∷ 114 ∷ 46 ∷ []) 11 32768) ≡ 22
unfolding answer_number question_number clauses_text_answer clauses_answer_of written_answer on_yes with_room reading reading? reading_exact tree_found decided says_some clauses_sound sound_by grammatical tokens_of lex accepts same_bytes text_clauses name_list record_of
first_no_space = refl

pub first_no_room : answer_number (clauses_text_answer (112 ∷ 40 ∷ 88 ∷ 44 ∷ 89 ∷ 41 ∷ 58 ∷ 45 ∷ 113 ∷ 40 ∷ 88 ∷ 41 ∷ 44 ∷ 89 ∷ 61 ∷ 97 ∷ 59 ∷ 114 ∷ 46 ∷ []) 12 32767) ≡ 5
unfolding answer_number question_number clauses_text_answer clauses_answer_of written_answer on_yes with_room reading reading? reading_exact tree_found decided says_some clauses_sound sound_by grammatical tokens_of lex accepts same_bytes text_clauses name_list record_of
first_no_room = refl

-- The names and the clauses that a text says, if it says any.
record Meant : Type 0 where
  names : List (List ℕ)
  clauses : List Clause

abbrev means : Option (List ClauseTree) → Option Meant
means none = none
means (some cs) = some (record { names = text_names cs; clauses = text_clauses cs })

-- `a :- true, X = true.`: true alone as a goal takes no number, and as a term it does
pub true_both_ways : means (reading (97 ∷ 32 ∷ 58 ∷ 45 ∷ 32 ∷ 116 ∷ 114 ∷ 117 ∷ 101 ∷ 44 ∷ 32 ∷ 88 ∷ 32 ∷ 61 ∷ 32 ∷ 116 ∷ 114 ∷ 117 ∷ 101 ∷ 46 ∷ [])) ≡ some (record { names = (97 ∷ []) ∷ (116 ∷ 114 ∷ 117 ∷ 101 ∷ []) ∷ []; clauses = clause 0 1 nil (conj truth (equal (var 0) (app 1 nil))) ∷ [] })
unfolding reading reading? reading_exact tree_found decided says_some clauses_sound sound_by grammatical tokens_of lex accepts same_bytes text_clauses
true_both_ways = refl

-- `a :- ((fail)).`: brackets leave nothing behind, and fail in them is the goal
pub fail_in_brackets : means (reading (97 ∷ 32 ∷ 58 ∷ 45 ∷ 32 ∷ 40 ∷ 40 ∷ 102 ∷ 97 ∷ 105 ∷ 108 ∷ 41 ∷ 41 ∷ 46 ∷ [])) ≡ some (record { names = (97 ∷ []) ∷ []; clauses = clause 0 0 nil failure ∷ [] })
unfolding reading reading? reading_exact tree_found decided says_some clauses_sound sound_by grammatical tokens_of lex accepts same_bytes text_clauses
fail_in_brackets = refl

-- `p(_,_,_X,_X).`: a lone underscore is new each time, any other variable is not; the body of a fact is true
pub always_new : means (reading (112 ∷ 40 ∷ 95 ∷ 44 ∷ 95 ∷ 44 ∷ 95 ∷ 88 ∷ 44 ∷ 95 ∷ 88 ∷ 41 ∷ 46 ∷ [])) ≡ some (record { names = (112 ∷ []) ∷ []; clauses = clause 0 3 (cons (var 0) (cons (var 1) (cons (var 2) (cons (var 2) nil)))) truth ∷ [] })
unfolding reading reading? reading_exact tree_found decided says_some clauses_sound sound_by grammatical tokens_of lex accepts same_bytes text_clauses
always_new = refl

-- `p(7,07).`: numbers are constants, named by their digits
pub two_numbers : means (reading (112 ∷ 40 ∷ 55 ∷ 44 ∷ 48 ∷ 55 ∷ 41 ∷ 46 ∷ [])) ≡ some (record { names = (112 ∷ []) ∷ (55 ∷ []) ∷ (48 ∷ 55 ∷ []) ∷ []; clauses = clause 0 0 (cons (app 1 nil) (cons (app 2 nil) nil)) truth ∷ [] })
unfolding reading reading? reading_exact tree_found decided says_some clauses_sound sound_by grammatical tokens_of lex accepts same_bytes text_clauses
two_numbers = refl

-- `p(p,q) :- q.`: symbols and predicates are in one list, whatever their arities
pub one_list : means (reading (112 ∷ 40 ∷ 112 ∷ 44 ∷ 113 ∷ 41 ∷ 32 ∷ 58 ∷ 45 ∷ 32 ∷ 113 ∷ 46 ∷ [])) ≡ some (record { names = (112 ∷ []) ∷ (113 ∷ []) ∷ []; clauses = clause 0 0 (cons (app 0 nil) (cons (app 1 nil) nil)) (atom 1 nil) ∷ [] })
unfolding reading reading? reading_exact tree_found decided says_some clauses_sound sound_by grammatical tokens_of lex accepts same_bytes text_clauses
one_list = refl

-- `p(X).p(Y,X).`: every clause numbers its variables from 0 on
pub variables_of_each : means (reading (112 ∷ 40 ∷ 88 ∷ 41 ∷ 46 ∷ 112 ∷ 40 ∷ 89 ∷ 44 ∷ 88 ∷ 41 ∷ 46 ∷ [])) ≡ some (record { names = (112 ∷ []) ∷ []; clauses = clause 0 1 (cons (var 0) nil) truth ∷ clause 0 2 (cons (var 0) (cons (var 1) nil)) truth ∷ [] })
unfolding reading reading? reading_exact tree_found decided says_some clauses_sound sound_by grammatical tokens_of lex accepts same_bytes text_clauses
variables_of_each = refl

-- `a:-b,c,d;e;f.`: commas and semicolons group to the right
pub right_grouped : means (reading (97 ∷ 58 ∷ 45 ∷ 98 ∷ 44 ∷ 99 ∷ 44 ∷ 100 ∷ 59 ∷ 101 ∷ 59 ∷ 102 ∷ 46 ∷ [])) ≡ some (record { names = (97 ∷ []) ∷ (98 ∷ []) ∷ (99 ∷ []) ∷ (100 ∷ []) ∷ (101 ∷ []) ∷ (102 ∷ []) ∷ []; clauses = clause 0 0 nil (disj (conj (atom 1 nil) (conj (atom 2 nil) (atom 3 nil))) (disj (atom 4 nil) (atom 5 nil))) ∷ [] })
unfolding reading reading? reading_exact tree_found decided says_some clauses_sound sound_by grammatical tokens_of lex accepts same_bytes text_clauses
right_grouped = refl

-- `a:-(b,c),d.`: and to the left where brackets say so
pub left_in_brackets : means (reading (97 ∷ 58 ∷ 45 ∷ 40 ∷ 98 ∷ 44 ∷ 99 ∷ 41 ∷ 44 ∷ 100 ∷ 46 ∷ [])) ≡ some (record { names = (97 ∷ []) ∷ (98 ∷ []) ∷ (99 ∷ []) ∷ (100 ∷ []) ∷ []; clauses = clause 0 0 nil (conj (conj (atom 1 nil) (atom 2 nil)) (atom 3 nil)) ∷ [] })
unfolding reading reading? reading_exact tree_found decided says_some clauses_sound sound_by grammatical tokens_of lex accepts same_bytes text_clauses
left_in_brackets = refl

-- the empty text has no names and no clauses
pub empty_written : clauses_text_answer [] 0 32768 ≡ gives (record { list = []; bytes = 0x00 ∷ 0x03 ∷ 0x01 ∷ 0x00 ∷ 0x00 ∷ [] })
unfolding clauses_text_answer clauses_answer_of written_answer on_yes with_room reading reading? reading_exact tree_found decided says_some clauses_sound sound_by grammatical tokens_of lex accepts same_bytes text_clauses name_list record_of
empty_written = refl

-- A query behind a text. `p(a).` and `p(X), X = b`: p and a have their numbers from the text, b comes behind them
pub query_written : query_text_answer (112 ∷ 40 ∷ 97 ∷ 41 ∷ 46 ∷ []) (112 ∷ 40 ∷ 88 ∷ 41 ∷ 44 ∷ 32 ∷ 88 ∷ 32 ∷ 61 ∷ 32 ∷ 98 ∷ []) 9 32768 ≡ gives (record { list = 0x00 ∷ 0x01 ∷ 0x70 ∷ 0x00 ∷ 0x01 ∷ 0x61 ∷ 0x00 ∷ 0x01 ∷ 0x62 ∷ []; bytes = 0x00 ∷ 0x11 ∷ 0x01 ∷ 0x13 ∷ 0x15 ∷ 0x00 ∷ 0x00 ∷ 0x01 ∷ 0x01 ∷ 0x00 ∷ 0x00 ∷ 0x12 ∷ 0x01 ∷ 0x00 ∷ 0x00 ∷ 0x02 ∷ 0x00 ∷ 0x02 ∷ 0x00 ∷ [] })
unfolding query_text_answer query_answer_of written_answer on_yes with_room reading reading? reading_exact tree_found decided says_some clauses_sound sound_by grammatical tokens_of lex accepts same_bytes goal_reading goal_reading? goal_reading_exact says_some_goal goal_sound goal_grammatical goal_accepts query_goal name_list record_of
query_written = refl
