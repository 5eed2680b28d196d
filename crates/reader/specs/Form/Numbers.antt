-- The numbers that words take, list by list: those of variables in the order of the text, and what it is for a list to have no word twice.
use Rattle.std.specs.Prelude.{Bool, true, ◌&&◌, not, List, [], ◌∷◌, ◌++◌, ℕ}
use Rattle.records.specs.Format.Syntax.{Clause}
use Rattle.records.specs.Format.Syntax.Clause.{clause}
use Rattle.records.specs.Gate.RecordRules.{terms_variables, goal_variables}
use Rattle.text.specs.Grammar.{ClauseTree}
use Rattle.text.specs.Grammar.ClauseTree.{fact, implied}
use Rattle.reader.specs.Form.Meaning.{listed, number_in, met, variables_of_atom, variables_of_goal}

-- the numbers of the variables ws behind the variables vs
abbrev pub numbered : List (List ℕ) → List (List ℕ) → List ℕ
numbered vs [] = []
numbered vs (w ∷ ws) = number_in vs w ∷ numbered (met vs w) ws

-- the variables of a clause, as a tree with names and with numbers
abbrev pub variables_of_clause : ClauseTree → List (List ℕ)
variables_of_clause (fact h) = variables_of_atom h
variables_of_clause (implied h g) = variables_of_atom h ++ variables_of_goal g

abbrev pub clause_variables : Clause → List ℕ
clause_variables (clause p v ts g) = terms_variables ts ++ goal_variables g

-- no word of the list stands in it again
abbrev pub distinct : List (List ℕ) → Bool
distinct [] = true
distinct (w ∷ l) = not (listed w l) && distinct l
