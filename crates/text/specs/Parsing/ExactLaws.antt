-- Question 21 is exact: what it lets pass says a tree, which is computed, and what says a tree passes.
use Rattle.std.specs.Prelude.{ℕ, ◌≡◌, true, List, [], ◌∷◌, ◌++◌}
use Rattle.std.proofs.Common.{sym, ap, ◌∙◌}
use Rattle.records.specs.Gate.RecordRules.{every}
use Rattle.records.specs.Gate.RecordRulesLaws.{and_both}
use Rattle.text.specs.Grammar.{Token, GoalTree, ClauseTree, ProperClauses, ProperGoal, Says, SaysGoal, goal_then, clauses_tokens}
use Rattle.text.specs.Grammar.Token.{stop}
use Rattle.text.specs.Tokens.Lexer.{tokens_of}
use Rattle.text.specs.Tokens.LexerLaws.{lexed}
use Rattle.text.specs.Tokens.SpellingLaws.{lexer_spells}
use Rattle.text.specs.Parsing.Table.{accepts, start, goal_start}
use Rattle.text.specs.Parsing.Questions.{no_stop, grammatical, goal_accepts, goal_grammatical}
use Rattle.text.specs.Parsing.TreeLaws.{goal_tokens, goal_no_stop, clauses_are_tokens, goal_append, up_to_stop}
use Rattle.text.specs.Parsing.CompleteLaws.{clauses_complete, goal_complete}
use Rattle.text.specs.Parsing.SoundLaws.{clauses_sound, goal_sound}

-- the tokens that the lexer finds are spelled, where they are a tree's
pub says_by_tokens : (s : List ℕ) (cs : List ClauseTree) → ProperClauses cs → tokens_of s ≡ clauses_tokens cs → Says s cs
unfolding tokens_of
says_by_tokens s cs p e = record { proper = p; spelled = rw e at (lexer_spells s (rw e (clauses_are_tokens cs))) }

pub says_goal_by_tokens : (s : List ℕ) (g : GoalTree) → ProperGoal g → tokens_of s ≡ goal_then g [] → SaysGoal s g
unfolding tokens_of
says_goal_by_tokens s g p e = record { proper = p; spelled = rw e at (lexer_spells s (rw e (goal_tokens g))) }

unfoldable pub says_some : (s : List ℕ) → grammatical s ≡ true → (cs : List ClauseTree) × Says s cs
unfolding grammatical
says_some s h = let x = clauses_sound (tokens_of s) h in (x.0, says_by_tokens s x.0 x.1 x.2)

pub says_grammatical : (s : List ℕ) → (cs : List ClauseTree) × Says s cs → grammatical s ≡ true
unfolding grammatical tokens_of
says_grammatical s x = ap (accepts start) (lexed x.1.spelled) ∙ clauses_complete x.0 x.1.proper

-- a goal's tokens stand before the full stop
pub goal_before : (ts : List Token) (g : GoalTree) (r : List Token) → every no_stop ts ≡ true → ts ++ (stop ∷ []) ≡ goal_then g (stop ∷ r) → ts ≡ goal_then g []
goal_before ts g r h e = up_to_stop ts (goal_then g []) [] r h (goal_no_stop g) (e ∙ sym (goal_append g [] (stop ∷ r)))

unfoldable pub says_some_goal : (s : List ℕ) → goal_grammatical s ≡ true → (g : GoalTree) × SaysGoal s g
unfolding goal_grammatical goal_accepts
says_some_goal s h =
    let k = and_both (every no_stop (tokens_of s)) (accepts goal_start (tokens_of s ++ (stop ∷ []))) h in
    let x = goal_sound (tokens_of s ++ (stop ∷ [])) k.1 in
    (x.0, says_goal_by_tokens s x.0 x.1 (goal_before (tokens_of s) x.0 x.2 k.0 x.3))

pub says_goal_grammatical : (s : List ℕ) → (g : GoalTree) × SaysGoal s g → goal_grammatical s ≡ true
unfolding goal_grammatical goal_accepts tokens_of
says_goal_grammatical s x = ap (goal_accepts goal_start) (lexed x.1.spelled) ∙ rw (goal_no_stop x.0, goal_append x.0 [] (stop ∷ [])) (goal_complete x.0 x.1.proper)
