-- The services that read text (SPECIFICATION 13.5): the questions in their order, and what is left. A text of the grammar has one reading (`reading`, of the
-- crate below, is some just where the grammar says so, and then the one list of clauses that the text says), so nothing here rests on how it is found.
use Rattle.std.specs.Prelude.{◌≡◌, Bool, ◌&&◌, true, List, ℕ, ◌+◌, leb, length}
use Rattle.std.proofs.Math.Option.{Option, none, some}
use Rattle.records.specs.Format.Encode.{clauses_record, query_record}
use Rattle.records.specs.Format.Syntax.{Term, Terms, Goal, Clause, arity}
use Rattle.records.specs.Format.Syntax.Term.{var, app}
use Rattle.records.specs.Format.Syntax.Terms.{nil, cons}
use Rattle.records.specs.Format.Syntax.Goal.{truth, failure, equal, conj, disj, atom}
use Rattle.records.specs.Format.Syntax.Clause.{clause}
use Rattle.records.specs.Gate.Door.{with_room}
use Rattle.records.specs.Gate.Question.{of_program, grammar, fits, characters, syntax, space}
use Rattle.records.specs.Gate.RecordRules.{every}
use Rattle.records.specs.Gate.Reply.{Answer, refused, gives, on_yes, answer_number, answer_length, reply_with}
use Rattle.text.specs.Grammar.{ClauseTree, GoalTree, text_byte}
use Rattle.text.specs.Reading.{reading, goal_reading}
use Rattle.reader.specs.Form.Meaning.{text_names, text_clauses, query_names, query_goal, query_variables, name_list}

-- 3: no arity over 16, and no clause with a 65th variable
abbrev mutual
  pub term_within : Term → Bool
  term_within (var v) = true
  term_within (app f ts) = leb (arity ts) 16 && terms_within ts

  pub terms_within : Terms → Bool
  terms_within nil = true
  terms_within (cons t ts) = term_within t && terms_within ts

abbrev pub goal_within : Goal → Bool
goal_within truth = true
goal_within failure = true
goal_within (equal t u) = term_within t && term_within u
goal_within (conj a b) = goal_within a && goal_within b
goal_within (disj a b) = goal_within a && goal_within b
goal_within (atom p ts) = leb (arity ts) 16 && terms_within ts

-- its head and its body
abbrev pub arities_within : Clause → Bool
arities_within (clause p v ts g) = (leb (arity ts) 16 && terms_within ts) && goal_within g

abbrev pub variable_count : Clause → ℕ
variable_count (clause p v ts g) = v

abbrev pub variables_within : Clause → Bool
variables_within c = leb (variable_count c) 64

-- what is written: names, and a record
pub record Written : Type 0 where
  pub list : List ℕ
  pub bytes : List ℕ

-- 22 of the names, 3, 5 of the output, 10 of the record
unfoldable pub written_answer : (list rec : List ℕ) → (within : Bool) → (names_room room : ℕ) → Answer Written
unfolding on_yes with_room
written_answer list rec within names_room room =
    on_yes space (leb (length list) names_room) (on_yes (of_program grammar) within (with_room room (on_yes fits (leb (length rec) 32768) (gives (record { list = list; bytes = rec })))))

-- 22 of the text's length, and then those, for a text that says clauses
unfoldable pub clauses_answer_of : (length_of names_room room : ℕ) → Option (List ClauseTree) → Answer Written
unfolding on_yes written_answer
clauses_answer_of n names_room room none = refused syntax
clauses_answer_of n names_room room (some cs) =
    on_yes space (leb n 65535)
    (written_answer (name_list (text_names cs)) (clauses_record (text_clauses cs)) (every arities_within (text_clauses cs) && every variables_within (text_clauses cs)) names_room room)

-- 20 and 21 of a text of any length, and then those
unfoldable pub clauses_text_answer : (text : List ℕ) → (names_room room : ℕ) → Answer Written
unfolding on_yes clauses_answer_of
clauses_text_answer text names_room room = on_yes characters (every text_byte text) (clauses_answer_of (length text) names_room room (reading text))

-- the same of a query behind the clauses of a text; the two are no longer together than a text may be
unfoldable pub query_answer_of : (length_of names_room room : ℕ) → Option (List ClauseTree) → Option GoalTree → Answer Written
unfolding on_yes written_answer
query_answer_of n names_room room none g = refused syntax
query_answer_of n names_room room (some cs) none = refused syntax
query_answer_of n names_room room (some cs) (some g) =
    on_yes space (leb n 65535)
    (written_answer (name_list (query_names cs g)) (query_record (query_goal cs g)) (goal_within (query_goal cs g) && leb (length (query_variables g)) 64) names_room room)

unfoldable pub query_text_answer : (text query : List ℕ) → (names_room room : ℕ) → Answer Written
unfolding on_yes query_answer_of
query_text_answer text query names_room room =
    on_yes characters (every text_byte text && every text_byte query) (query_answer_of (length text + length query) names_room room (reading text) (goal_reading query))

-- a service's number, how long the list of names is, and both outputs afterwards
pub record ReadReply : Type 0 where
  pub number : ℕ
  pub named : ℕ
  pub names : List ℕ
  pub output : List ℕ

-- a refusal leaves both as they were
unfoldable pub read_reply : (names out : List ℕ) → Answer Written → ReadReply
unfolding answer_number answer_length reply_with
read_reply names out a = record {
  number = answer_number a;
  named = answer_length (λ w. w.list) a;
  names = (reply_with (λ w. w.list) names a).output;
  output = (reply_with (λ w. w.bytes) out a).output;
}

-- a text to its clause record and its names
unfoldable pub clauses_text_reply : (text names out : List ℕ) → ReadReply
unfolding read_reply clauses_text_answer
clauses_text_reply text names out = read_reply names out (clauses_text_answer text (length names) (length out))

-- a query to its record, and the names of the text and the query
unfoldable pub query_text_reply : (text query names out : List ℕ) → ReadReply
unfolding read_reply query_text_answer
query_text_reply text query names out = read_reply names out (query_text_answer text query (length names) (length out))

-- the contract of both services
pub record ReadReplied (r : ReadReply) (number named : ℕ) (names output : List ℕ) : Type 0 where
  pub number_is : number ≡ r.number
  pub named_is : named ≡ r.named
  pub names_are : names ≡ r.names
  pub output_is : output ≡ r.output
