-- Within the limits the services accept exactly the grammar, and what they give passes questions 1 to 4.
use Rattle.std.specs.Prelude.{◌≡◌, Bool, ◌&&◌, List, ◌++◌, ◌↔◌, ℕ, ◌+◌, ◌≤◌, leb}
use Rattle.std.proofs.Math.Path.{refl, ap}
use Rattle.std.proofs.Common.{sym, ◌∙◌}
use Rattle.std.proofs.Math.Option.{Option, none, some}
use Rattle.std.proofs.Math.ListN.{length}
use borrow.Author.Tests.{leb-true, le-leb}
use Rattle.records.specs.Format.Encode.{clauses_record, query_record}
use Rattle.records.specs.Format.Never.{never}
use Rattle.records.specs.Gate.Gate.{read_clauses, read_query}
use Rattle.records.specs.Gate.Gate.Reading.{tree}
use Rattle.records.specs.Gate.Question.{characters, space}
use Rattle.records.specs.Gate.RecordRules.{every}
use Rattle.records.specs.Gate.RecordRulesLaws.{and_both}
use Rattle.records.specs.Gate.Reply.{gives, on_yes, answer_number}
use Rattle.records.specs.Gate.ReplyLaws.{gives_injective, yes_gives}
use Rattle.text.specs.Grammar.{ClauseTree, GoalTree, text_byte}
use Rattle.text.specs.Reading.{reading, goal_reading, reading_unique, reading_says, goal_reading_says, says_allowed, says_goal_allowed}
use Rattle.reader.specs.Form.Meaning.{text_names, text_clauses, query_names, query_goal, query_variables, name_list}
use Rattle.reader.specs.Form.Service.{Written, goal_within, arities_within, variables_within, written_answer, clauses_answer_of, clauses_text_answer, query_answer_of, query_text_answer}
use Rattle.reader.specs.Form.Given.{TextGiven, QueryGiven}
use Rattle.reader.specs.Form.ListLaws.{query_list_front}
use Rattle.reader.specs.Form.PassLaws.{text_passes, query_passes}
use Rattle.reader.specs.Survey.ReplyLaws.{Passed, passed_gives, written_passed}

module _ (names_room room : ℕ) (w : Written) where
  -- 22 of the names, 3, 5 and 10
  written_given : (list rec : List ℕ) (within : Bool) → written_answer list rec within names_room room ≡ gives w → Passed list rec within names_room room × (list ≡ w.list) × (rec ≡ w.bytes)
  unfolding answer_number
  written_given list rec within e =
      let p = written_passed list rec within names_room room (sym (ap answer_number e)) in
      let i = gives_injective (sym (passed_gives list rec within names_room room p) ∙ e) in
      (p, ap (λ (x : Written). x.list) i, ap (λ (x : Written). x.bytes) i)

  given_written : {list rec : List ℕ} {within : Bool} → Passed list rec within names_room room → list ≡ w.list → rec ≡ w.bytes → written_answer list rec within names_room room ≡ gives w
  given_written {list} {rec} {within} p i j = passed_gives list rec within names_room room p ∙ rw (i, j) refl

  -- for a text something is given just where it says clauses and all is within the limits,
  clauses_gives : (n : ℕ) (o : Option (List ClauseTree)) → clauses_answer_of n names_room room o ≡ gives w
      → (cs : List ClauseTree) × (o ≡ some cs) × (n ≤ 65535)
      × (written_answer (name_list (text_names cs)) (clauses_record (text_clauses cs)) (every arities_within (text_clauses cs) && every variables_within (text_clauses cs)) names_room room ≡ gives w)
  unfolding clauses_answer_of
  clauses_gives n none e = never cc
  clauses_gives n (some cs) e = let a = yes_gives space (leb n 65535) _ e in (cs, refl, leb-true n 65535 a.0, a.1)

  text_gives : (text : List ℕ) → clauses_text_answer text names_room room ≡ gives w → TextGiven text names_room room w
  unfolding clauses_text_answer
  text_gives text e =
      let f = clauses_gives (length text) (reading text) (yes_gives characters (every text_byte text) _ e).1 in
      let v = written_given _ _ _ f.3 in
      record { clauses = f.0; says = (reading_says text f.0).0 f.1; short = f.2; passed = v.0; list_is = v.1; bytes_are = v.2 }

  gives_text : (text : List ℕ) → TextGiven text names_room room w → clauses_text_answer text names_room room ≡ gives w
  unfolding clauses_text_answer clauses_answer_of on_yes
  gives_text text h =
      rw (says_allowed text h.clauses h.says, (reading_says text h.clauses).1 h.says, le-leb (length text) 65535 h.short) (given_written h.passed h.list_is h.bytes_are)

  pub text_given_iff : (text : List ℕ) → (clauses_text_answer text names_room room ≡ gives w) ↔ TextGiven text names_room room w
  text_given_iff text = (text_gives text, gives_text text)

  -- and for a query where it says a goal besides
  goal_gives : (n : ℕ) (o : Option (List ClauseTree)) (p : Option GoalTree) → query_answer_of n names_room room o p ≡ gives w
      → (cs : List ClauseTree) × (g : GoalTree) × (o ≡ some cs) × (p ≡ some g) × (n ≤ 65535)
      × (written_answer (name_list (query_names cs g)) (query_record (query_goal cs g)) (goal_within (query_goal cs g) && leb (length (query_variables g)) 64) names_room room ≡ gives w)
  unfolding query_answer_of
  goal_gives n none p e = never cc
  goal_gives n (some cs) none e = never cc
  goal_gives n (some cs) (some g) e = let a = yes_gives space (leb n 65535) _ e in (cs, g, refl, refl, leb-true n 65535 a.0, a.1)

  query_gives : (text query : List ℕ) → query_text_answer text query names_room room ≡ gives w → QueryGiven text query names_room room w
  unfolding query_text_answer
  query_gives text query e =
      let f = goal_gives (length text + length query) (reading text) (goal_reading query) (yes_gives characters (every text_byte text && every text_byte query) _ e).1 in
      let v = written_given _ _ _ f.5 in
      record {
        clauses = f.0;
        goal = f.1;
        says = (reading_says text f.0).0 f.2;
        says_goal = (goal_reading_says query f.1).0 f.3;
        short = f.4;
        passed = v.0;
        list_is = v.1;
        bytes_are = v.2;
      }

  gives_query : (text query : List ℕ) → QueryGiven text query names_room room w → query_text_answer text query names_room room ≡ gives w
  unfolding query_text_answer query_answer_of on_yes
  gives_query text query h =
      let i = (reading_says text h.clauses).1 h.says in
      let j = (goal_reading_says query h.goal).1 h.says_goal in
      rw (says_allowed text h.clauses h.says, says_goal_allowed query h.goal h.says_goal, i, j, le-leb (length text + length query) 65535 h.short)
      (given_written h.passed h.list_is h.bytes_are)

  pub query_given_iff : (text query : List ℕ) → (query_text_answer text query names_room room ≡ gives w) ↔ QueryGiven text query names_room room w
  query_given_iff text query = (query_gives text query, gives_query text query)

  -- The records that are given pass, and say those clauses and that goal.
  pub text_given_passes : (text : List ℕ) (h : TextGiven text names_room room w) → read_clauses w.bytes ≡ tree (text_clauses h.clauses)
  text_given_passes text h =
      let cs = h.clauses in
      let k = and_both (every arities_within (text_clauses cs)) (every variables_within (text_clauses cs)) h.passed.within_is in
      ap read_clauses (sym h.bytes_are) ∙ text_passes text cs h.says h.short k.0 k.1 h.passed.record_fits

  pub query_given_passes : (text query : List ℕ) (h : QueryGiven text query names_room room w) → read_query w.bytes ≡ tree (query_goal h.clauses h.goal)
  query_given_passes text query h =
      let cs = h.clauses in
      let g = h.goal in
      let k = and_both (goal_within (query_goal cs g)) (leb (length (query_variables g)) 64) h.passed.within_is in
      ap read_query (sym h.bytes_are)
      ∙ query_passes text query cs g h.says h.says_goal h.short k.0 (leb-true (length (query_variables g)) 64 k.1) h.passed.record_fits

-- The list of a text alone is a front of the list with a query behind it.
pub given_front : {text query : List ℕ} {n m k l : ℕ} {w v : Written} → TextGiven text n m w → QueryGiven text query k l v → (rest : List ℕ) × (v.list ≡ w.list ++ rest)
given_front {text} {w = w} {v = v} h q =
    let f = query_list_front q.clauses q.goal in
    let e : h.clauses ≡ q.clauses = reading_unique text h.clauses q.clauses h.says q.says in
    (f.0, sym q.list_is ∙ f.1 ∙ ap (λ (l : List ℕ). l ++ f.0) (ap (λ (cs : List ClauseTree). name_list (text_names cs)) (sym e) ∙ h.list_is))
