-- Laws of the services: what they reply where a question says no, and where everything passes.
use Rattle.std.specs.Prelude.{◌≡◌, Some, Result, Ok, Err, Bool, true, false, not, ◌&&◌, List, [], ◌∷◌, ◌++◌, ℕ, suc, ◌+◌, ◌-◌, ◌≤◌, ◌<◌, leb, ltb, take, drop}
use Rattle.std.proofs.Math.Path.{refl, sym}
use Rattle.std.proofs.Common.{ap, ◌∙◌, arith, length-take, length-drop, take_all}
use borrow.Author.Tests.{le-leb, lt-leb, leb-true, leb-false, le-ltb, lt-ltb}
use Rattle.std.proofs.Math.Option.{Option, none, some}
use Rattle.records.specs.Format.Never.{never}
use Rattle.std.proofs.Math.ListN.{length}
use Rattle.records.specs.Ends.Range.{size, cut}
use Rattle.records.specs.Format.Encode.{word, each, clause_bytes, goal_bytes, record_of, clauses_record, query_record}
use Rattle.records.specs.Format.Syntax.{Clause}
use Rattle.records.specs.Gate.Question.{question_number, refusal_number, characters, syntax, space}
use Rattle.records.specs.Gate.RecordRules.{every}
use Rattle.records.specs.Gate.RecordRulesLaws.{and_both}
use Rattle.records.specs.Gate.Reply.{Answer, refused, on_yes, answer_number, outcome_number}
use Rattle.records.specs.Gate.OutcomeLaws.{refusal_positive}
use Rattle.records.specs.declared.put.Range.{Range}
use Rattle.records.specs.declared.questions.Refusal.{Refusal}
use Rattle.records.specs.Gate.ReplyLaws.{number_refuses}
use Rattle.records.specs.Writing.Patched.{Put}
use Rattle.text.specs.Grammar.{ClauseTree, GoalTree, Says, SaysGoal, text_byte}
use Rattle.text.specs.Parsing.Questions.{grammatical, goal_grammatical}
use Rattle.text.specs.Reading.{reading, reading_says, reading_none, says_allowed, reading_exact, goal_reading_says, goal_reading_none, goal_reading_exact, says_goal_allowed}
use Rattle.reader.specs.Form.Meaning.{clauses_of, text_names, text_clauses, query_names, query_goal, query_variables, name_list}
use Rattle.reader.specs.Form.Service.{Written, written_answer, arities_within, variables_within, goal_within, read_reply, ReadReplied, clauses_text_answer, clauses_text_reply, query_answer_of, query_text_answer, query_text_reply}
use Rattle.reader.specs.Survey.Survey.{BodyStands, Surveyed}
use Rattle.reader.specs.Survey.ReplyLaws.{not_true, not_false, reply_refused, reply_given, Passed, passed_gives, written_passed, foreign_text, outside_text, long_text, said_text}
use Rattle.reader.specs.declared.survey.Body.{Body}
use Rattle.reader.specs.declared.survey.Survey.{Survey}

front_cut : (list : List ℕ) {r : Range} {n : ℕ} → r.from ≡ 0 → r.to ≡ n → cut list r ≡ take n list
unfolding cut size
front_cut list {n = n} f t = let e : n - 0 ≡ n = omega arith in rw (f, t, e) refl

-- what the writers rely on
pub record Ready (names out list scratch : List ℕ) (v : Survey) (b : Body) (head : ℕ) : Type 0 where
  pub names_fit : v.listed ≤ length names
  pub listed : v.listed ≤ length list
  pub at_in : b.at ≤ length scratch
  pub fits : length scratch + head ≤ length out + b.at
  pub ending : take (32766 - b.at) (drop b.at scratch) ≡ drop b.at scratch

-- a survey, the answer that it is of, and the number that it leads to
module _ (names out : List ℕ) {a : Answer Written} {L bytes : List ℕ} (rec : List ℕ) {within : Bool} {n : ℕ} {list scratch : List ℕ} {v : Survey}
    (s : Surveyed L bytes within n list scratch v) (e : a ≡ written_answer L rec within (length names) (length out))
    {head : ℕ} (three : 2 < head) (long : length rec ≡ head + length bytes) {number : ℕ} (d : number ≡ answer_number (written_answer L rec within (length names) (length out))) where
  pub surveyed_refused : (number ≡ 0 → ⊥) → ReadReplied (read_reply names out a) number 0 names out
  surveyed_refused z =
      let w = number_refuses (written_answer L rec within (length names) (length out)) d z in
      reply_refused names out (e ∙ w.refuses) w.number_is

  module _ (z : number ≡ 0) {b : Body} (some_body : v.body ≡ Some b) where
    surveyed_passed : Passed L rec within (length names) (length out)
    surveyed_passed = written_passed L rec within (length names) (length out) (sym z ∙ d)

    surveyed_stands : BodyStands bytes n scratch b
    surveyed_stands = let w : (within ≡ true) × BodyStands bytes n scratch b = rw some_body at s.body_is in w.1

    pub surveyed_ready : Ready names out list scratch v b head
    surveyed_ready =
        let p = surveyed_passed in
        let h = surveyed_stands.held in
        record {
          names_fit = omega (arith, s.listed_is, p.names_fit);
          listed = omega (arith, s.listed_is, ap length s.names_are, length-take v.listed list);
          at_in = omega (arith, h.place);
          fits = omega (arith, h.place, p.record_fits, p.roomy, s.room);
          ending = take_all (32766 - b.at) (drop b.at scratch) (rw (length-drop b.at scratch) (omega (arith, s.room)));
        }

    -- the body stands where it was written
    pub surveyed_body : drop b.at scratch ≡ bytes
    surveyed_body =
        let p = surveyed_passed in
        let h = surveyed_stands.held in
        h.same refl (omega (arith, h.place, p.record_fits, s.room))

    pub surveyed_clauses : b.clauses ≡ n
    surveyed_clauses = surveyed_stands.clauses_are

    pub surveyed_given : {names' out' : List ℕ} {i j : ℕ} → Put names 0 (take v.listed list) names' i → Put out 0 rec out' j → ReadReplied (read_reply names out a) 0 v.listed names' out'
    surveyed_given p q =
        let w = surveyed_passed in
        reply_given names out (e ∙ passed_gives L rec within (length names) (length out) w) s.listed_is (rw s.names_are at p) w.names_fit q (omega (arith, w.record_fits, w.roomy))

same_many : (ns : List (List ℕ)) (cs : List ClauseTree) → length (clauses_of ns cs) ≡ length cs
same_many ns [] = refl
same_many ns (c ∷ cs) = ap suc (same_many ns cs)

record_length : (body : List ℕ) → length (record_of body) ≡ 3 + length body
unfolding record_of
record_length body = omega arith

-- A text of clauses.
module _ (text names out : List ℕ) where
  pub text_foreign : every text_byte text ≡ false → ReadReplied (clauses_text_reply text names out) 20 0 names out
  unfolding clauses_text_reply question_number
  text_foreign h = reply_refused names out (foreign_text text (length names) (length out) h) refl

  pub text_outside : every text_byte text ≡ true → grammatical text ≡ false → ReadReplied (clauses_text_reply text names out) 21 0 names out
  unfolding clauses_text_reply question_number
  text_outside h g = reply_refused names out (outside_text text (length names) (length out) h ((reading_none text).1 g)) refl

  module _ (cs : List ClauseTree) (says : Says text cs) where
    pub text_long : 65535 < length text → ReadReplied (clauses_text_reply text names out) 22 0 names out
    unfolding clauses_text_reply question_number
    text_long h = reply_refused names out (long_text text (length names) (length out) (says_allowed text cs says) ((reading_says text cs).1 says) h) refl

    abbrev clauses_bytes : List ℕ
    clauses_bytes = each clause_bytes (text_clauses cs)

    clauses_long : length (clauses_record (text_clauses cs)) ≡ 5 + length clauses_bytes
    clauses_long = record_length (word (length (text_clauses cs)) ++ clauses_bytes) ∙ omega arith

    module _ (short : length text ≤ 65535) {list scratch : List ℕ} {v : Survey}
        (s : Surveyed (name_list (text_names cs)) clauses_bytes (every arities_within (text_clauses cs) && every variables_within (text_clauses cs)) (length cs) list scratch v)
        {number : ℕ} (d : (L bytes rec : List ℕ) (within : Bool) (n : ℕ) (l c : List ℕ) → Surveyed L bytes within n l c v → length rec ≡ 5 + length bytes → number ≡ answer_number (written_answer L rec within (length names) (length out))) where
      abbrev rec : List ℕ
      rec = clauses_record (text_clauses cs)

      abbrev answer_is : clauses_text_answer text (length names) (length out)
          ≡ written_answer (name_list (text_names cs)) rec (every arities_within (text_clauses cs) && every variables_within (text_clauses cs)) (length names) (length out)
      answer_is = said_text text (length names) (length out) (says_allowed text cs says) ((reading_says text cs).1 says) short

      abbrev number_is : number ≡ answer_number (written_answer (name_list (text_names cs)) rec (every arities_within (text_clauses cs) && every variables_within (text_clauses cs)) (length names) (length out))
      number_is = d (name_list (text_names cs)) clauses_bytes rec (every arities_within (text_clauses cs) && every variables_within (text_clauses cs)) (length cs) list scratch s clauses_long

      pub text_refused : (number ≡ 0 → ⊥) → ReadReplied (clauses_text_reply text names out) number 0 names out
      unfolding clauses_text_reply
      text_refused z = surveyed_refused names out rec s answer_is (omega arith) clauses_long number_is z

      module _ (z : number ≡ 0) {b : Body} (some_body : v.body ≡ Some b) where
        pub text_ready : Ready names out list scratch v b 5
        text_ready = surveyed_ready names out rec s answer_is (omega arith) clauses_long number_is z some_body

        pub text_given : {names' out' : List ℕ} {i j : ℕ} → Put names 0 (take v.listed list) names' i
            → ((ds : List Clause) → b.clauses ≡ length ds → drop b.at scratch ≡ each clause_bytes ds → Put out 0 (clauses_record ds) out' j) → ReadReplied (clauses_text_reply text names out) 0 v.listed names' out'
        unfolding clauses_text_reply text_clauses
        text_given p q =
            let body = surveyed_body names out rec s answer_is (omega arith) clauses_long number_is z some_body in
            let k = surveyed_clauses names out rec s answer_is (omega arith) clauses_long number_is z some_body in
            surveyed_given names out rec s answer_is (omega arith) clauses_long number_is z some_body p (q (text_clauses cs) (k ∙ sym (same_many (text_names cs) cs)) body)

-- the same of what code is told
module _ (text names out : List ℕ) (asked : (grammatical text ≡ true) × (length text ≤ 65535)) {list scratch : List ℕ} {v : Survey}
    (s : (cs : List ClauseTree) → Says text cs → Surveyed (name_list (text_names cs)) (each clause_bytes (text_clauses cs)) (every arities_within (text_clauses cs) && every variables_within (text_clauses cs)) (length cs) list scratch v)
    {r : Result Body Refusal} (d : (L bytes rec : List ℕ) (within : Bool) (n : ℕ) (l c : List ℕ) → Surveyed L bytes within n l c v → length rec ≡ 5 + length bytes → outcome_number r ≡ answer_number (written_answer L rec within (length names) (length out))) where
  pub clauses_refused : {e : Refusal} → r ≡ Err e → ReadReplied (clauses_text_reply text names out) (refusal_number e) 0 names out
  clauses_refused {e} z =
      let w = (reading_exact text).0 asked.0 in
      let number : outcome_number r ≡ refusal_number e = ap outcome_number z in
      rw number at (text_refused text names out w.0 w.1 asked.1 (s w.0 w.1) d (λ i. refusal_positive e (sym number ∙ i)))

  module _ {b : Body} (z : r ≡ Ok b) (some_body : v.body ≡ Some b) where
    pub clauses_ready : Ready names out list scratch v b 5
    clauses_ready = let w = (reading_exact text).0 asked.0 in text_ready text names out w.0 w.1 asked.1 (s w.0 w.1) d (ap outcome_number z) some_body

    pub clauses_given : {names' out' : List ℕ} {i j : ℕ} → Put names 0 (take v.listed list) names' i
        → ((ds : List Clause) → b.clauses ≡ length ds → take (32766 - b.at) (drop b.at scratch) ≡ each clause_bytes ds → Put out 0 (clauses_record ds) out' j) → ReadReplied (clauses_text_reply text names out) 0 v.listed names' out'
    clauses_given p q =
        let w = (reading_exact text).0 asked.0 in
        text_given text names out w.0 w.1 asked.1 (s w.0 w.1) d (ap outcome_number z) some_body p (λ ds k e. q ds k (clauses_ready.ending ∙ e))

-- A query behind a text.
module _ (text query names out : List ℕ) where
  pub query_foreign : (every text_byte text && every text_byte query) ≡ false → ReadReplied (query_text_reply text query names out) 20 0 names out
  unfolding query_text_reply query_text_answer on_yes question_number
  query_foreign h = let e : query_text_answer text query (length names) (length out) ≡ refused characters = rw h refl in reply_refused names out e refl

  pub query_outside : every text_byte text ≡ true → every text_byte query ≡ true → (grammatical text && goal_grammatical query) ≡ false → ReadReplied (query_text_reply text query names out) 21 0 names out
  unfolding query_text_reply query_text_answer query_answer_of on_yes question_number
  query_outside h k g = reply_refused names out (outside (grammatical text) refl (goal_grammatical query) refl g) refl
    where
      none_said : (a : Option (List ClauseTree)) → query_answer_of (length text + length query) (length names) (length out) a none ≡ refused syntax
      none_said none = refl
      none_said (some cs) = refl

      outside : (a : Bool) → grammatical text ≡ a → (b : Bool) → goal_grammatical query ≡ b → (a && b) ≡ false → query_text_answer text query (length names) (length out) ≡ refused syntax
      outside false i b j e = rw (h, k, (reading_none text).1 i) refl
      outside true i false j e = rw (h, k, (goal_reading_none query).1 j) (none_said (reading text))
      outside true i true j e = never e

  module _ (cs : List ClauseTree) (says : Says text cs) (g : GoalTree) (asks : SaysGoal query g) where
    pub query_long : 65535 < length text + length query → ReadReplied (query_text_reply text query names out) 22 0 names out
    unfolding query_text_reply query_text_answer query_answer_of on_yes question_number
    query_long h =
        let e : query_text_answer text query (length names) (length out) ≡ refused space
        = rw (says_allowed text cs says, says_goal_allowed query g asks, (reading_says text cs).1 says, (goal_reading_says query g).1 asks, lt-leb (length text + length query) 65535 h) refl in
        reply_refused names out e refl

    abbrev goal_within_limits : Bool
    goal_within_limits = goal_within (query_goal cs g) && leb (length (query_variables g)) 64

    module _ (short : length text + length query ≤ 65535) {list scratch : List ℕ} {v : Survey}
        (s : Surveyed (name_list (query_names cs g)) (goal_bytes (query_goal cs g)) goal_within_limits 0 list scratch v)
        {number : ℕ} (d : (L bytes rec : List ℕ) (within : Bool) (n : ℕ) (l c : List ℕ) → Surveyed L bytes within n l c v → length rec ≡ 3 + length bytes → number ≡ answer_number (written_answer L rec within (length names) (length out))) where
      abbrev goal_rec : List ℕ
      goal_rec = query_record (query_goal cs g)

      query_answer_is : query_text_answer text query (length names) (length out) ≡ written_answer (name_list (query_names cs g)) goal_rec goal_within_limits (length names) (length out)
      unfolding query_text_answer query_answer_of on_yes
      query_answer_is = rw (says_allowed text cs says, says_goal_allowed query g asks, (reading_says text cs).1 says, (goal_reading_says query g).1 asks, le-leb (length text + length query) 65535 short) refl

      query_number_is : number ≡ answer_number (written_answer (name_list (query_names cs g)) goal_rec goal_within_limits (length names) (length out))
      query_number_is = d (name_list (query_names cs g)) (goal_bytes (query_goal cs g)) goal_rec goal_within_limits 0 list scratch s (record_length (goal_bytes (query_goal cs g)))

      pub query_refused : (number ≡ 0 → ⊥) → ReadReplied (query_text_reply text query names out) number 0 names out
      unfolding query_text_reply
      query_refused z = surveyed_refused names out goal_rec s query_answer_is (omega arith) (record_length (goal_bytes (query_goal cs g))) query_number_is z

      module _ (z : number ≡ 0) {b : Body} (some_body : v.body ≡ Some b) where
        pub query_ready : Ready names out list scratch v b 3
        query_ready = surveyed_ready names out goal_rec s query_answer_is (omega arith) (record_length (goal_bytes (query_goal cs g))) query_number_is z some_body

        pub query_given : {names' out' : List ℕ} {i j : ℕ} → Put names 0 (take v.listed list) names' i → Put out 0 (record_of (drop b.at scratch)) out' j
            → ReadReplied (query_text_reply text query names out) 0 v.listed names' out'
        unfolding query_text_reply
        query_given p q =
            let size = record_length (goal_bytes (query_goal cs g)) in
            surveyed_given names out goal_rec s query_answer_is (omega arith) size query_number_is z some_body p (rw (surveyed_body names out goal_rec s query_answer_is (omega arith) size query_number_is z some_body) at q)

-- two lengths together
pub long_both : (a b : ℕ) → a ≤ 65535 → ltb (65535 - a) b ≡ not (leb (a + b) 65535)
long_both a b h = go (leb (a + b) 65535) refl
  where
    go : (x : Bool) → leb (a + b) 65535 ≡ x → ltb (65535 - a) b ≡ not x
    go true e = le-ltb (65535 - a) b (omega (arith, leb-true (a + b) 65535 e))
    go false e = lt-ltb (65535 - a) b (omega (arith, leb-false (a + b) 65535 e))

pub long_first : (a b : ℕ) → 65535 < a → true ≡ not (leb (a + b) 65535)
long_first a b h = rw (lt-leb (a + b) 65535 (omega arith)) refl

-- two questions put at once
pub one_no : {a b x y : Bool} → a ≡ x → b ≡ y → not (a && b) ≡ true → (x && y) ≡ false
one_no {a} {b} i j h = rw (i, j) at (not_true (a && b) h)

pub both_yes : {a b x y : Bool} → a ≡ x → b ≡ y → not (a && b) ≡ false → (x ≡ true) × (y ≡ true)
both_yes {a} {b} {x} {y} i j h = and_both x y (rw (i, j) at (not_false (a && b) h))

-- the same of what code is told
module _ (text query names out : List ℕ) (asked : (grammatical text ≡ true) × (goal_grammatical query ≡ true)) (short : length text + length query ≤ 65535) {list scratch : List ℕ} {v : Survey}
    (s : (cs : List ClauseTree) (g : GoalTree) → Says text cs → SaysGoal query g → Surveyed (name_list (query_names cs g)) (goal_bytes (query_goal cs g)) (goal_within (query_goal cs g) && leb (length (query_variables g)) 64) 0 list scratch v)
    {r : Result Body Refusal} (d : (L bytes rec : List ℕ) (within : Bool) (n : ℕ) (l c : List ℕ) → Surveyed L bytes within n l c v → length rec ≡ 3 + length bytes → outcome_number r ≡ answer_number (written_answer L rec within (length names) (length out))) where
  pub goal_refused : {e : Refusal} → r ≡ Err e → ReadReplied (query_text_reply text query names out) (refusal_number e) 0 names out
  goal_refused {e} z =
      let w = (reading_exact text).0 asked.0 in
      let u = (goal_reading_exact query).0 asked.1 in
      let number : outcome_number r ≡ refusal_number e = ap outcome_number z in
      rw number at (query_refused text query names out w.0 w.1 u.0 u.1 short (s w.0 u.0 w.1 u.1) d (λ i. refusal_positive e (sym number ∙ i)))

  module _ {b : Body} (z : r ≡ Ok b) (some_body : v.body ≡ Some b) where
    pub goal_ready : Ready names out list scratch v b 3
    goal_ready =
        let w = (reading_exact text).0 asked.0 in
        let u = (goal_reading_exact query).0 asked.1 in
        query_ready text query names out w.0 w.1 u.0 u.1 short (s w.0 u.0 w.1 u.1) d (ap outcome_number z) some_body

    pub goal_given : {names' out' : List ℕ} {i j : ℕ} → Put names 0 (take v.listed list) names' i → Put out 0 (record_of (take (32766 - b.at) (drop b.at scratch))) out' j
        → ReadReplied (query_text_reply text query names out) 0 v.listed names' out'
    goal_given p q =
        let w = (reading_exact text).0 asked.0 in
        let u = (goal_reading_exact query).0 asked.1 in
        query_given text query names out w.0 w.1 u.0 u.1 short (s w.0 u.0 w.1 u.1) d (ap outcome_number z) some_body p (rw goal_ready.ending at q)
