-- The last page of the canonical form: of demand 2 (SPECIFICATION 9.6), that clauses become the canonical form which the calculus works on, said of
-- the service on bytes. The rest of demand 2 is the stepper's last page, `Demands`: its rules find a predicate's definition by `definition_of`.
use Rattle.std.specs.Prelude.{◌≡◌, ◌↔◌, true, List, ℕ, ◌≤◌, length}
use Rattle.std.proofs.Common.{sym, ap, ◌∙◌}
use Rattle.records.specs.Format.Syntax.{Clause}
use Rattle.records.specs.Format.Encode.{program_record}
use Rattle.records.specs.Gate.RecordRules.{every, rising, keys}
use Rattle.records.specs.Format.HeadLaws.{Bytes}
use Rattle.records.specs.Gate.Gate.{tree, read_clauses, read_program, front_record}
use Rattle.records.specs.Gate.GateLaws.{clauses_tree, tree_injective}
use Rattle.terms.specs.Body.Body.{definition_of}
use Rattle.canonical.specs.Form.Canonical.{predicate, clauses_of, defined_by, canonical}
use Rattle.canonical.specs.Writing.Service.{locals_fit, canonical_record}
use Rattle.canonical.specs.Form.LookupLaws.{canonical_of, canonical_rises}
use Rattle.canonical.specs.Form.FormedLaws.{arities_fit}
use Rattle.canonical.specs.Writing.ServiceLaws.{canonical_done, canonical_done_iff}

-- The record s is the program that the clauses cs become: it passes questions 1 to 4 and says their canonical form, in which definitions rise by
-- predicate, then arity, and the definition found for p of arity n is the one that its own clauses make: their branches in the clauses' order, and
-- none where there are no clauses.
pub record Became (cs : List Clause) (s : List ℕ) : Type 0 where
  pub reads : read_program s ≡ tree (canonical cs)
  pub rises : rising (keys (canonical cs)) ≡ true
  pub found : (p n : ℕ) → definition_of (canonical cs) p n ≡ defined_by (predicate p n) (clauses_of (predicate p n) cs)

-- For every clause record s that passes questions 1 to 4, and every buffer `out`:
module _ (s : List ℕ) (b : Bytes s) (cs : List Clause) (h : read_clauses s ≡ tree cs) (out : List ℕ) where
  -- where the service is done, it wrote the program that the clauses become;
  pub demand_2_clauses : (canonical_record s out).number ≡ 0 → Became cs (front_record (canonical_record s out).output)
  demand_2_clauses n =
      let d = canonical_done s b out n in
      record {
        reads = d.passes ∙ ap (λ c. tree (canonical c)) (tree_injective (sym d.reads ∙ h));
        rises = canonical_rises cs (arities_fit cs (clauses_tree s b cs h).formed.1);
        found = canonical_of cs;
      }

  -- and it is done exactly where the output passes question 5, the locals of every definition pass 9, and the program's record passes 10.
  pub demand_2_clauses_done : ((canonical_record s out).number ≡ 0)
      ↔ ((32768 ≤ length out) × (every locals_fit (canonical cs) ≡ true) × (length (program_record (canonical cs)) ≤ 32768))
  demand_2_clauses_done = canonical_done_iff s out cs h
