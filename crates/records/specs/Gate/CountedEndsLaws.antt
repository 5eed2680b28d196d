-- Laws of counted rows at positions, and by them the verdicts on a query, a program and a clause record.
use Rattle.std.specs.Prelude.{ℕ, ◌+◌, ◌≡◌, refl, Bool, true, false, ◌&&◌, List, Option, Some, None, Err}
use Rattle.std.proofs.Math.Path.{sym}
use Rattle.std.proofs.Common.{◌∙◌}
use Rattle.records.specs.Gate.RecordRules.{every, keys, rising, definition_rules, query_rules, program_rules, clauses_rules}
use Rattle.records.specs.Format.Heads.{word_at}
use Rattle.records.specs.Format.Items.{read_goal, read_definition, read_program_bytes, read_clauses_bytes}
use Rattle.records.specs.Ends.Traversal.{end_of, end_at}
use Rattle.records.specs.Ends.ItemEnds.{item_reader, items_end}
use Rattle.records.specs.Ends.ItemEndsLaws.{goal_ends}
use Rattle.records.specs.Gate.Rows.{Ends, kept_at, items_kept, item_rules}
use Rattle.records.specs.Gate.RowsLaws.{kept_row, kept_both, counted_ends, counted_never, no_rules}
use Rattle.records.specs.Gate.RowsLaws as rows
use Rattle.records.specs.Gate.Ranks.{ranks_end, ranks_rise}
use Rattle.records.specs.declared.rules.Ranked.TheVariants.{Definitions}
use Rattle.records.specs.Gate.Gate.{Verdict, passed, read_query, read_program, read_clauses, verdict}
use Rattle.records.specs.declared.questions.Fault.TheVariants.{Grammar}
use Rattle.records.specs.declared.ends.Item.{Item}
use Rattle.records.specs.declared.ends.Item.TheVariants.{Definition as Defined, Clause}
use Rattle.records.specs.Gate.GateEnds.{opening_of, judged_at}
use Rattle.records.specs.Gate.GateEndsLaws.{unreadable, readable}
use Rattle.records.specs.Gate.CountedEnds.{counted_end, counted_kept, program_rises}

module _ (s : List ℕ) (at : ℕ) {w : Option ℕ} (is : w ≡ word_at s at) where
  pub row_end : (i : Item) {n : ℕ} → w ≡ Some n → items_end i n s (at + 2) ≡ counted_end i s at
  unfolding items_end counted_end
  row_end i q = sym (counted_ends (item_reader i) s at is q)

  pub no_row : (i : Item) → w ≡ None → None ≡ counted_end i s at
  unfolding counted_end
  no_row i q = sym (counted_never (item_reader i) s at is q)

  pub row_kept : (i : Item) {n : ℕ} → w ≡ Some n → items_kept i n s (at + 2) ≡ counted_kept i s at
  unfolding items_kept counted_kept
  row_kept i {n} q =
      let rules = every (item_rules i) in
      sym (rows.counted_kept (item_reader i) s at rules is q ∙ kept_row rules (item_reader i) n s (at + 2) refl)

  pub row_found : (i : Item) {n : ℕ} → w ≡ Some n → Ends (counted_end i s at) → Ends (items_end i n s (at + 2))
  row_found i q x = rw (row_end i q) x

  pub row_lost : {P : Type 0} (i : Item) → w ≡ None → Ends (counted_end i s at) → P
  row_lost i q x = absurd (rw (← no_row i q) at x)

pub program_row : (s : List ℕ) {w : Option ℕ} {n : ℕ} → w ≡ word_at s 3 → w ≡ Some n → ranks_rise Definitions 0 n s 5 ≡ program_rises s
unfolding program_rises ranks_rise
program_row s {w} {n} is q = sym (rows.counted_kept read_definition s 3 (λ ds. rising (keys ds)) is q ∙ kept_row (λ ds. rising (keys ds)) read_definition n s 5 refl)

pub program_parts : (s : List ℕ) → kept_at program_rules read_program_bytes s 3 ≡ (program_rises s && counted_kept Defined s 3)
unfolding program_rules program_rises counted_kept
program_parts s = kept_both (λ ds. rising (keys ds)) (every definition_rules) read_program_bytes s 3

module _ (s : List ℕ) {w : Option ℕ} (is : w ≡ word_at s 3) (h : Ends (end_of read_program_bytes s 3)) where
  pub definitions_found : {n : ℕ} → w ≡ Some n → Ends (ranks_end Definitions n s 5)
  unfolding ranks_end
  definitions_found q = rw (counted_ends read_definition s 3 is q) at h

  pub definitions_lost : {P : Type 0} → w ≡ None → P
  definitions_lost q = absurd (rw (counted_never read_definition s 3 is q) at h)

pub program_falls : (s : List ℕ) {b : Bool} → b ≡ program_rises s → b ≡ false → false ≡ kept_at program_rules read_program_bytes s 3
program_falls s is e = sym (program_parts s ∙ rw (← is, e))

pub program_rising : (s : List ℕ) {b r : Bool} → b ≡ program_rises s → b ≡ true → r ≡ counted_kept Defined s 3 → r ≡ kept_at program_rules read_program_bytes s 3
program_rising s is e q = q ∙ sym (program_parts s ∙ rw (← is, e))

pub definitions_ends : (s : List ℕ) → Ends (end_of read_program_bytes s 3) → Ends (counted_end Defined s 3)
unfolding counted_end
definitions_ends s h = h

pub clauses_parts : (s : List ℕ) → kept_at clauses_rules read_clauses_bytes s 3 ≡ counted_kept Clause s 3
unfolding clauses_rules counted_kept
clauses_parts s = refl

-- the other record kinds
module _ (s : List ℕ) {o : Verdict} (asked : o ≡ opening_of s) (granted : o ≡ passed) {p : Option ℕ} where
  pub query_unread : p ≡ end_at s 3 0 1 → p ≡ None → Err Grammar ≡ verdict (read_query s)
  query_unread is q = unreadable read_goal query_rules s asked granted {p = p} (is ∙ sym (goal_ends s 3)) q

  pub query_judged : {e : ℕ} {r : Verdict} → p ≡ end_at s 3 0 1 → p ≡ Some e → r ≡ judged_at s e true → r ≡ verdict (read_query s)
  query_judged is q w = w ∙ readable read_goal query_rules s asked granted {p = p} (is ∙ sym (goal_ends s 3)) q (no_rules read_goal s 3)

  pub program_unread : p ≡ counted_end Defined s 3 → p ≡ None → Err Grammar ≡ verdict (read_program s)
  unfolding counted_end
  program_unread is q = unreadable read_program_bytes program_rules s asked granted {p = p} is q

  pub program_judged : {e : ℕ} {k : Bool} {r : Verdict} → p ≡ counted_end Defined s 3 → p ≡ Some e → k ≡ kept_at program_rules read_program_bytes s 3 → r ≡ judged_at s e k → r ≡ verdict (read_program s)
  unfolding counted_end
  program_judged is q w y = y ∙ readable read_program_bytes program_rules s asked granted {p = p} is q w

  pub clauses_unread : p ≡ counted_end Clause s 3 → p ≡ None → Err Grammar ≡ verdict (read_clauses s)
  unfolding counted_end
  clauses_unread is q = unreadable read_clauses_bytes clauses_rules s asked granted {p = p} is q

  pub clauses_judged : {e : ℕ} {k : Bool} {r : Verdict} → p ≡ counted_end Clause s 3 → p ≡ Some e → k ≡ counted_kept Clause s 3 → r ≡ judged_at s e k → r ≡ verdict (read_clauses s)
  unfolding counted_end
  clauses_judged is q w y = y ∙ readable read_clauses_bytes clauses_rules s asked granted {p = p} is q (w ∙ sym (clauses_parts s))

  pub program_found : {e : ℕ} → p ≡ counted_end Defined s 3 → p ≡ Some e → Ends (end_of read_program_bytes s 3)
  unfolding counted_end
  program_found is q = rw (← is, q) tt
