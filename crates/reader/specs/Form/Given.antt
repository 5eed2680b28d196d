-- When the services that read text give something, and what: one record for each, which names all that is asked.
use Rattle.std.specs.Prelude.{◌≡◌, ◌&&◌, List, ℕ, ◌+◌, ◌≤◌, leb, length}
use Rattle.records.specs.Format.Encode.{clauses_record, query_record}
use Rattle.records.specs.Gate.RecordRules.{every}
use Rattle.text.specs.Grammar.{ClauseTree, GoalTree, Says, SaysGoal}
use Rattle.reader.specs.Form.Meaning.{text_names, text_clauses, query_names, query_goal, query_variables, name_list}
use Rattle.reader.specs.Form.Service.{Written, goal_within, arities_within, variables_within}
use Rattle.reader.specs.Survey.ReplyLaws.{Passed}

-- of a text of the grammar, its names and its clause record
pub record TextGiven (text : List ℕ) (names_room room : ℕ) (w : Written) : Type 0 where
  pub clauses : List ClauseTree
  pub says : Says text clauses
  pub short : length text ≤ 65535
  pub passed : Passed (name_list (text_names clauses)) (clauses_record (text_clauses clauses)) (every arities_within (text_clauses clauses) && every variables_within (text_clauses clauses)) names_room room
  pub list_is : name_list (text_names clauses) ≡ w.list
  pub bytes_are : clauses_record (text_clauses clauses) ≡ w.bytes

-- of a goal of the grammar behind a text, the names of both and the query record
pub record QueryGiven (text query : List ℕ) (names_room room : ℕ) (w : Written) : Type 0 where
  pub clauses : List ClauseTree
  pub goal : GoalTree
  pub says : Says text clauses
  pub says_goal : SaysGoal query goal
  pub short : length text + length query ≤ 65535
  pub passed : Passed (name_list (query_names clauses goal)) (query_record (query_goal clauses goal)) (goal_within (query_goal clauses goal) && leb (length (query_variables goal)) 64) names_room room
  pub list_is : name_list (query_names clauses goal) ≡ w.list
  pub bytes_are : query_record (query_goal clauses goal) ≡ w.bytes
