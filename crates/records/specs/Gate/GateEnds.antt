-- Questions 1 to 4 at positions: framing and version, and the answer by where a body ends.
use Rattle.std.specs.Prelude.{ℕ, Bool, List, eqb, length, Err}
use Rattle.records.specs.Format.Heads.{pick}
use Rattle.records.specs.Gate.Gate.{Verdict, passed, framed, of_version}
use Rattle.records.specs.declared.questions.Fault.TheVariants.{Framing, Version, Grammar, Rules}

-- questions 1 and 2: the first no decides
unfoldable pub opening_of : List ℕ → Verdict
opening_of s = pick (framed s) (pick (of_version s) passed (Err Version)) (Err Framing)

-- where the grammar reads a body that ends at e
unfoldable pub judged_at : List ℕ → ℕ → Bool → Verdict
judged_at s e kept = pick (eqb e (length s)) (pick kept passed (Err Rules)) (Err Grammar)
