-- Laws of the survey: what the tables hold are the cells of the items.
use Rattle.std.specs.Prelude.{◌≡◌, Bool, true, false, not, ◌||◌, ◌&&◌, ℕ, Option, Some, None, suc, ◌+◌, ◌≤◌, ◌<◌, length, get_or}
use Rattle.std.proofs.Math.Path.{refl, ap, ap₂}
use Rattle.std.proofs.Common.{sym, ◌∙◌, arith}
use mathlib.Core.List.{List, [], ◌∷◌}
use Rattle.std.proofs.Math.Dec.{leb}
use Rattle.records.specs.Format.Never.{never}
use Rattle.records.specs.Format.Encode.{each, clause_bytes, goal_bytes}
use Rattle.records.specs.Gate.RecordRules.{every}
use Rattle.text.specs.Grammar.{ClauseTree, GoalTree, Says, SaysGoal}
use Rattle.text.specs.Parsing.Table.{start, goal_start}
use Rattle.text.specs.Reading.{reading_tokens, goal_reading_tokens}
use Rattle.text.specs.Tokens.Lexer.{tokens_of}
use Rattle.text.specs.declared.table.State.{State}
use Rattle.reader.specs.Form.Meaning.{with_names, clauses_of, goal_of, text_names, text_clauses, query_names, query_goal, query_variables, name_list}
use Rattle.reader.specs.Form.Service.{arities_within, variables_within, goal_within}
use Rattle.reader.specs.Items.ItemsLaws.{clauses_sorted, query_sorted}
use Rattle.reader.specs.Items.Sorted.{text_items}
use Rattle.reader.specs.Names.Naming.{NamesSome}
use Rattle.reader.specs.Names.NamingLaws.{items_named}
use Rattle.reader.specs.Items.WordsLaws.{names_clauses, names_query, most_clauses, most_query}
use Rattle.reader.specs.Emit.EmitLaws.{emit_clauses, emit_query}
use Rattle.reader.specs.Items.Items.{Item, items, clauses_items, goal_items}
use Rattle.reader.specs.Items.Words.{names_of_items, roles_of, name_numbers, variable_numbers, most_met, AgreesBy, Agrees, RolesAre}
use Rattle.reader.specs.Emit.Cells.{Emission as Emitting, emission, cells, met_behind, emitted, whole, bytes_of, over_of, clause_count}
use Rattle.reader.specs.Emit.Emits.{Held, Emits, Turns, table_cells, EmittedCells}
use Rattle.reader.specs.Survey.Survey.{Surveyed, Listed, Measured}
use Rattle.reader.specs.declared.emit.Behind.{Behind}
use Rattle.reader.specs.declared.emit.Emission.{Emission}
use Rattle.reader.specs.declared.roles.Role.{Role}
use Rattle.reader.specs.declared.roles.Role.TheVariants.{Variable}
use Rattle.reader.specs.Survey.ReplyLaws.{not_true, not_false}
use Rattle.reader.specs.declared.survey.Body.{Body}

-- two questions that are told by their negations
not_both : (a b : Bool) → (not a || not b) ≡ not (b && a)
not_both true true = refl
not_both true false = refl
not_both false true = refl
not_both false false = refl

true_not : (b c : Bool) → b ≡ not c → c ≡ true → b ≡ false
true_not b true e h = e
true_not b false e h = never (sym h)

-- a table from a place on
record From {A : Type 0} (d : A) (table l : List A) (i n : ℕ) : Type 0 where
  entry : (j : ℕ) → j < n → get_or table (i + j) d ≡ get_or l j d

module _ {A : Type 0} {d : A} {table : List A} where
  from_here : {l : List A} {x : A} {i n : ℕ} → From d table (x ∷ l) i (suc n) → get_or table i d ≡ x
  from_here {i = i} h = let e : i ≡ i + 0 = omega arith in ap (λ (k : ℕ). get_or table k d) e ∙ h.entry 0 (omega arith)

  from_next : {l : List A} {x : A} {i n : ℕ} → From d table (x ∷ l) i (suc n) → From d table l (suc i) n
  from_next {i = i} h = record { entry = λ j k. let e : suc i + j ≡ i + suc j = omega arith in ap (λ (m : ℕ). get_or table m d) e ∙ h.entry (suc j) (omega arith) }

  from_start : {l : List A} {n : ℕ} → AgreesBy d table l n → From d table l 0 n
  unfolding AgreesBy
  from_start h = record { entry = λ j k. let e : 0 + j ≡ j = omega arith in ap (λ (m : ℕ). get_or table m d) e ∙ h j k }

module _ (roles : List Role) (names variables : List ℕ) (ns : List (List ℕ)) where
  cells_from : (is : List Item) (vs : List (List ℕ)) (i : ℕ) → From Variable roles (roles_of is) i (length is) → From 0 names (name_numbers ns is) i (length is)
      → From 0 variables (variable_numbers vs is) i (length is) → table_cells roles names variables i (length is) ≡ cells ns vs is
  unfolding table_cells cells roles_of name_numbers variable_numbers
  cells_from [] vs i a b d = refl
  cells_from (x ∷ is) vs i a b d =
      rw (from_here a, from_here b, from_here d, cells_from is (met_behind vs x) (suc i) (from_next a) (from_next b) (from_next d)) refl

  -- the tables of a text's items hold their cells
  pub cells_are : (is : List Item) → RolesAre roles is (length is) → Agrees names (name_numbers ns is) (length is) → Agrees variables (variable_numbers [] is) (length is)
      → table_cells roles names variables 0 (length is) ≡ cells ns [] is
  cells_are is a b d = cells_from is [] 0 (from_start a) (from_start b) (from_start d)

-- what is left of an emission that is whole
module _ (out counts : List ℕ) (brackets : List Behind) (e : Emission) where
  emits_over : (x : Emitting) → Emits out counts brackets e x → e.over ≡ over_of x
  emits_over (emission l o n ks bs c s q v) h = h.over_is

  emits_clauses : (x : Emitting) → Emits out counts brackets e x → e.clauses ≡ clause_count x
  emits_clauses (emission l o n ks bs c s q v) h = h.clauses_are

  emits_held : (x : Emitting) → Emits out counts brackets e x → Held (over_of x) out e.at (bytes_of x)
  emits_held (emission l o n ks bs c s q v) h = h.bytes

  emits_within : (x : Emitting) → Emits out counts brackets e x → e.at ≤ length out
  emits_within (emission l o n ks bs c s q v) h = omega (arith, h.bytes.place)

pub emitted_within : {room : ℕ} {out : List ℕ} {e : Emission} (x : Emitting) → EmittedCells room out e x → e.at ≤ length out
emitted_within {out = out} {e} x h = emits_within out h.counts h.brackets e x h.emits

whole_over : (x : Emitting) → over_of (whole x) ≡ over_of x
whole_over (emission l o n ks bs c s q v) = refl

whole_clauses : (x : Emitting) → clause_count (whole x) ≡ clause_count x
whole_clauses (emission l o n ks bs c s q v) = refl

-- a 65th variable was met
pub measured_over : (is : List Item) (ns : List (List ℕ)) (scratch : List ℕ) → true ≡ not (leb (most_met 0 [] is) 64) → Measured is ns scratch None
measured_over is ns scratch e = rw (not_true (leb (most_met 0 [] is) 64) (sym e)) refl

-- none was, and the cells were written
module _ (is : List Item) (ns : List (List ℕ)) (roles : List Role) (numbers variables : List ℕ) {count room : ℕ} {between scratch : List ℕ} {e r : Emission}
    (k : count ≡ length is) (a : RolesAre roles is count) (b : Agrees numbers (name_numbers ns is) count) (d : Agrees variables (variable_numbers [] is) count) (f : false ≡ not (leb (most_met 0 [] is) 64))
    (c : EmittedCells room between e (emitted (table_cells roles numbers variables 0 count))) (w : (counts : List ℕ) (brackets : List Behind) → Turns between counts brackets e scratch counts brackets r whole) where
  abbrev written : Emitting
  written = emitted (cells ns [] is)

  written_whole : Emits scratch c.counts c.brackets r (whole written)
  written_whole =
      let same : emitted (table_cells roles numbers variables 0 count) ≡ written
      = ap emitted (ap (table_cells roles numbers variables 0) k ∙ cells_are roles numbers variables ns is (rw k at a) (rw k at b) (rw k at d)) in
      (w c.counts c.brackets).emits written (rw same at c.emits)

  written_over : r.over ≡ over_of written
  written_over = emits_over scratch c.counts c.brackets r (whole written) written_whole ∙ whole_over written

  -- an arity is over 16, or none is
  pub measured_many : r.over ≡ true → Measured is ns scratch None
  measured_many o = let z : over_of written ≡ true = sym written_over ∙ o in rw (not_false (leb (most_met 0 [] is) 64) (sym f), z) refl

  pub measured_whole : r.over ≡ false → Measured is ns scratch (Some (record { at = r.at; clauses = r.clauses }))
  measured_whole o =
      let z : over_of written ≡ false = sym written_over ∙ o in (
        rw (not_false (leb (most_met 0 [] is) 64) (sym f), z) refl,
        record {
          held = rw (whole_over written ∙ z) at (emits_held scratch c.counts c.brackets r (whole written) written_whole);
          clauses_are = emits_clauses scratch c.counts c.brackets r (whole written) written_whole ∙ whole_clauses written;
        },
      )

-- A text of clauses, and a query.
both_within : (a b : Bool) → (a && not (not b)) ≡ (b && a)
both_within true true = refl
both_within true false = refl
both_within false true = refl
both_within false false = refl

module _ {names : List (List ℕ)} {numbers list scratch : List ℕ} {count listed : ℕ} {r : Option Body} where
  -- what the tree's items come to is what the tree says
  surveyed_by : {is : List Item} {bytes : List ℕ} (arities variables : Bool) {n : ℕ} (x : Emitting) → Listed is names count numbers list listed → Measured is names scratch r → length scratch ≡ 32766
      → emitted (cells names [] is) ≡ x → over_of x ≡ not arities → bytes_of (whole x) ≡ bytes → clause_count x ≡ n → leb (most_met 0 [] is) 64 ≡ variables
      → Surveyed (name_list names) bytes (arities && variables) n list scratch (record { listed = listed; body = r })
  surveyed_by {is} {bytes} arities variables {n} x l m room e o b k v =
      let within : (leb (most_met 0 [] is) 64 && not (over_of (emitted (cells names [] is)))) ≡ (arities && variables) = rw (e, o, v) (both_within variables arities) in
      let written : bytes_of (whole (emitted (cells names [] is))) ≡ bytes = rw e b in
      let many : clause_count (emitted (cells names [] is)) ≡ n = rw e k in
      record { listed_is = l.listed_is; names_are = l.names_are; room = room; body_is = rw (within, written, many) at m }

-- the items of a text are those of the clauses, or of the goal, that it says
pub clauses_text_items : (text : List ℕ) (cs : List ClauseTree) → Says text cs → text_items start text ≡ clauses_items cs
clauses_text_items text cs h = ap (items start) (reading_tokens text cs h) ∙ clauses_sorted cs h.proper

pub query_text_items : (query : List ℕ) (g : GoalTree) → SaysGoal query g → text_items goal_start query ≡ goal_items g []
query_text_items query g h = ap (items goal_start) (goal_reading_tokens query g h) ∙ query_sorted g h.proper

-- its names are words of some bytes
pub text_named : (from : State) (s : List ℕ) → NamesSome (text_items from s)
text_named from s = items_named from (tokens_of s)

module _ {numbers list scratch : List ℕ} {count listed : ℕ} {r : Option Body} where
  pub clauses_surveyed : (text : List ℕ) (cs : List ClauseTree) → Says text cs → length scratch ≡ 32766
      → Listed (text_items start text) (with_names [] (names_of_items (text_items start text))) count numbers list listed
      → Measured (text_items start text) (with_names [] (names_of_items (text_items start text))) scratch r
      → Surveyed (name_list (text_names cs)) (each clause_bytes (text_clauses cs)) (every arities_within (text_clauses cs) && every variables_within (text_clauses cs)) (length cs) list scratch (record { listed = listed; body = r })
  unfolding text_clauses
  clauses_surveyed text cs says room l m =
      let same = clauses_text_items text cs says in
      let names : with_names [] (names_of_items (text_items start text)) ≡ text_names cs = ap (with_names []) (ap names_of_items same ∙ names_clauses cs) in
      let l' : Listed (clauses_items cs) (text_names cs) count numbers list listed = rw (names, same) at l in
      let m' : Measured (clauses_items cs) (text_names cs) scratch r = rw (names, same) at m in
      surveyed_by (every arities_within (clauses_of (text_names cs) cs)) (every variables_within (clauses_of (text_names cs) cs)) _ l' m' room (emit_clauses (text_names cs) cs) refl refl refl (most_clauses (text_names cs) cs 0)

  pub query_surveyed : (text query : List ℕ) (cs : List ClauseTree) (g : GoalTree) → Says text cs → SaysGoal query g → length scratch ≡ 32766
      → Listed (text_items goal_start query) (with_names (with_names [] (names_of_items (text_items start text))) (names_of_items (text_items goal_start query))) count numbers list listed
      → Measured (text_items goal_start query) (with_names (with_names [] (names_of_items (text_items start text))) (names_of_items (text_items goal_start query))) scratch r
      → Surveyed (name_list (query_names cs g)) (goal_bytes (query_goal cs g)) (goal_within (query_goal cs g) && leb (length (query_variables g)) 64) 0 list scratch (record { listed = listed; body = r })
  unfolding query_goal
  query_surveyed text query cs g says asks room l m =
      let same = query_text_items query g asks in
      let names : with_names (with_names [] (names_of_items (text_items start text))) (names_of_items (text_items goal_start query)) ≡ query_names cs g
      = ap₂ (λ (a b : List (List ℕ)). with_names (with_names [] a) b) (ap names_of_items (clauses_text_items text cs says) ∙ names_clauses cs) (ap names_of_items same ∙ names_query g) in
      let l' : Listed (goal_items g []) (query_names cs g) count numbers list listed = rw (names, same) at l in
      let m' : Measured (goal_items g []) (query_names cs g) scratch r = rw (names, same) at m in
      let x = emitted (cells (query_names cs g) [] (goal_items g [])) in
      let w = emit_query (query_names cs g) g in
      surveyed_by (goal_within (goal_of (query_names cs g) [] g)) (leb (length (query_variables g)) 64) x l' m' room refl (sym (whole_over x) ∙ ap over_of w) (ap bytes_of w) (sym (whole_clauses x) ∙ ap clause_count w) (ap (λ (n : ℕ). leb n 64) (most_query g))
