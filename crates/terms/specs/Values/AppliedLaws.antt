-- What was put stands there, and a traversal goes through a term that stands somewhere.
use Rattle.std.proofs.Common.{sym, ap, ◌∙◌, take-append-drop, drop-drop}
use Rattle.std.specs.Prelude.{List, ◌++◌, ℕ, ◌+◌, ◌≤◌, length, drop}
use Rattle.records.specs.Writing.Patched.{Put, patched}
use Rattle.records.specs.Writing.PatchedLaws.{part_patched}
use Rattle.records.specs.Ends.Traversal.{traverse}
use Rattle.records.specs.Ends.Steps.{On}
use Rattle.records.specs.Ends.Stands.{Stands}
use Rattle.records.specs.Ends.StandsLaws.{traverse_term}
use Rattle.terms.specs.Values.Applied.{TermAt}

-- what was put stands there
pub put_stands : {before : List ℕ} {at : ℕ} {x after : List ℕ} {next : ℕ} → Put before at x after next → at + length x ≤ length before → Stands after at x next
put_stands {before} {at} {x} {after} {next} p h = record {
  end = p.place;
  bytes = rw (p.output, p.place)
      (sym (take-append-drop (length x) (drop at (patched before at x))) ∙ ap (λ (y : List ℕ). y ++ drop (length x) (drop at (patched before at x))) (part_patched before at x h)
      ∙ ap (λ (y : List ℕ). x ++ y) (drop-drop (length x) at (patched before at x)));
}

pub term_on : {s : List ℕ} {at e : ℕ} → TermAt s at e → On (traverse s at 1 0)
term_on q = rw (traverse_term q.term q.formed q.stands) tt
