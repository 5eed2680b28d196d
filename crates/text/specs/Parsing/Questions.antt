-- Question 21, of a text of clauses and of a goal. A goal has no full stop; it is read as a clause's body would be, up to the full stop.
use Rattle.std.specs.Prelude.{ℕ, Bool, true, false, ◌&&◌, List, [], ◌∷◌, ◌++◌}
use Rattle.records.specs.Gate.RecordRules.{every}
use Rattle.text.specs.Grammar.{Token}
use Rattle.text.specs.Grammar.Token.{bare, functor, opening, closing, comma, semicolon, equals, neck, stop, wrong}
use Rattle.text.specs.Tokens.Lexer.{tokens_of}
use Rattle.text.specs.Parsing.Table.{accepts, start, goal_start}
use Rattle.text.specs.declared.table.State.{State}

abbrev pub no_stop : Token → Bool
no_stop (bare w) = true
no_stop (functor w) = true
no_stop opening = true
no_stop closing = true
no_stop comma = true
no_stop semicolon = true
no_stop equals = true
no_stop neck = true
no_stop stop = false
no_stop wrong = true

unfoldable pub grammatical : List ℕ → Bool
grammatical s = accepts start (tokens_of s)

unfoldable pub goal_accepts : State → List Token → Bool
goal_accepts s ts = every no_stop ts && accepts s (ts ++ (stop ∷ []))

unfoldable pub goal_grammatical : List ℕ → Bool
goal_grammatical s = goal_accepts goal_start (tokens_of s)
