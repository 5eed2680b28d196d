-- What is proved of the grammar: a text says one list of clauses at most, question 21 is exact, and `reading` finds what the text says. The same of goals.
use Rattle.std.specs.Prelude.{ℕ, ◌≡◌, true, false, ◌↔◌, List, []}
use Rattle.std.proofs.Common.{sym, ◌∙◌}
use Rattle.std.proofs.Math.Option.{Option, none, some}
use Rattle.records.specs.Gate.RecordRules.{every}
use Rattle.text.specs.Grammar.{GoalTree, ClauseTree, Says, SaysGoal, text_byte, goal_then, clauses_tokens}
use Rattle.text.specs.Tokens.Lexer.{tokens_of}
use Rattle.text.specs.Tokens.LexerLaws.{lexed}
use Rattle.text.specs.Tokens.AllowedLaws.{spelled_allowed}
use Rattle.text.specs.Parsing.Questions.{grammatical, goal_grammatical}
use Rattle.text.specs.Parsing.UniqueLaws.{clauses_unique, goal_unique}
use Rattle.text.specs.Parsing.ExactLaws.{says_some, says_grammatical, says_some_goal, says_goal_grammatical}
use Rattle.text.specs.Parsing.Found.{decided, tree_found}
use Rattle.text.specs.Parsing.FoundLaws.{found_yes, found_says, found_none}

-- the tree that a text says has the text's tokens
pub reading_tokens : (s : List ℕ) (cs : List ClauseTree) → Says s cs → tokens_of s ≡ clauses_tokens cs
unfolding tokens_of
reading_tokens s cs h = lexed h.spelled

pub goal_reading_tokens : (s : List ℕ) (g : GoalTree) → SaysGoal s g → tokens_of s ≡ goal_then g []
unfolding tokens_of
goal_reading_tokens s g h = lexed h.spelled

-- one text, at most one tree
pub reading_unique : (s : List ℕ) (cs ds : List ClauseTree) → Says s cs → Says s ds → cs ≡ ds
reading_unique s cs ds a b = clauses_unique cs ds (sym (reading_tokens s cs a) ∙ reading_tokens s ds b)

pub goal_reading_unique : (s : List ℕ) (g h : GoalTree) → SaysGoal s g → SaysGoal s h → g ≡ h
goal_reading_unique s g h a b = goal_unique g h (sym (goal_reading_tokens s g a) ∙ goal_reading_tokens s h b)

-- question 21 is answered yes exactly where there is one
unfoldable pub reading_exact : (s : List ℕ) → (grammatical s ≡ true) ↔ ((cs : List ClauseTree) × Says s cs)
reading_exact s = (says_some s, says_grammatical s)

unfoldable pub goal_reading_exact : (s : List ℕ) → (goal_grammatical s ≡ true) ↔ ((g : GoalTree) × SaysGoal s g)
goal_reading_exact s = (says_some_goal s, says_goal_grammatical s)

-- and question 20 is then answered yes too
pub says_allowed : (s : List ℕ) (cs : List ClauseTree) → Says s cs → every text_byte s ≡ true
says_allowed s cs h = spelled_allowed h.spelled

pub says_goal_allowed : (s : List ℕ) (g : GoalTree) → SaysGoal s g → every text_byte s ≡ true
says_goal_allowed s g h = spelled_allowed h.spelled

-- whether a text says a tree, and which
unfoldable pub reading? : (s : List ℕ) → Dec ((cs : List ClauseTree) × Says s cs)
reading? s = decided (grammatical s) (reading_exact s)

unfoldable pub goal_reading? : (s : List ℕ) → Dec ((g : GoalTree) × SaysGoal s g)
goal_reading? s = decided (goal_grammatical s) (goal_reading_exact s)

unfoldable pub reading : List ℕ → Option (List ClauseTree)
reading s = tree_found (reading? s)

unfoldable pub goal_reading : List ℕ → Option GoalTree
goal_reading s = tree_found (goal_reading? s)

pub reading_says : (s : List ℕ) (cs : List ClauseTree) → (reading s ≡ some cs) ↔ Says s cs
unfolding reading
reading_says s cs = (found_says cs (reading? s), λ h. found_yes (reading_unique s) cs h (reading? s))

pub goal_reading_says : (s : List ℕ) (g : GoalTree) → (goal_reading s ≡ some g) ↔ SaysGoal s g
unfolding goal_reading
goal_reading_says s g = (found_says g (goal_reading? s), λ h. found_yes (goal_reading_unique s) g h (goal_reading? s))

pub reading_none : (s : List ℕ) → (reading s ≡ none) ↔ (grammatical s ≡ false)
unfolding reading reading?
reading_none s = found_none (grammatical s) (reading_exact s)

pub goal_reading_none : (s : List ℕ) → (goal_reading s ≡ none) ↔ (goal_grammatical s ≡ false)
unfolding goal_reading goal_reading?
goal_reading_none s = found_none (goal_grammatical s) (goal_reading_exact s)
