-- Bytes are those of at most one list of answers.
use Rattle.std.specs.Prelude.{◌≡◌, refl, List, [], ◌∷◌, ◌++◌, ℕ, ◌+◌, length}
use Rattle.std.proofs.Common.{sym, ◌∙◌, ap, ap₂, append_assoc, arith}
use Rattle.std.proofs.lemmas.List.{append_cancel_left}
use Rattle.records.specs.Format.Encode.{each, counted, binding_bytes, bet_bytes}
use Rattle.records.specs.Format.Formed.{All}
use Rattle.records.specs.Format.Reader.Read.{found}
use Rattle.records.specs.Format.Items.{Reader}
use Rattle.records.specs.Format.ItemLaws.{Exact, counted_exact}
use Rattle.records.specs.Format.Exact.{binding_exact, bet_exact}
use Rattle.answers.specs.Form.Answer.{QuerySolution, solution_bytes}
use Rattle.meaning.specs.Answers.Reading.{SolutionFormed, AnswersRead}

-- what an exact reader finds in front is one thing, and so is what comes behind it
read_front : {A : Type 0} {bytes : A → List ℕ} {Formed : A → Type 0} {r : Reader A} → Exact bytes Formed r
    → (a b : A) (s t : List ℕ) → Formed a → Formed b → bytes a ++ s ≡ bytes b ++ t → (a ≡ b) × (s ≡ t)
read_front {bytes = bytes} {r = r} exact a b s t h k e =
    let z : found a (length (bytes a)) ≡ found b (length (bytes b)) = sym (exact.complete a h s) ∙ ap r e ∙ exact.complete b k t in
    let same : a ≡ b = cc in
    (same, append_cancel_left (bytes b) s t (rw same at e))

solution_same : (x y : QuerySolution) (s t : List ℕ) → SolutionFormed x → SolutionFormed y → solution_bytes x ++ s ≡ solution_bytes y ++ t → (x ≡ y) × (s ≡ t)
solution_same x y s t (hv, hu) (kv, ku) e =
    let (values, more) = read_front (counted_exact binding_exact) x.values y.values (counted bet_bytes x.used ++ s) (counted bet_bytes y.used ++ t) hv kv
    (sym (append_assoc (counted binding_bytes x.values) (counted bet_bytes x.used) s) ∙ e ∙ append_assoc (counted binding_bytes y.values) (counted bet_bytes y.used) t) in
    let (used, rest) = read_front (counted_exact bet_exact) x.used y.used s t hu ku more in
    (ap₂ (λ v u. record { values = v; used = u }) values used, rest)

same_list : (xs ys : List QuerySolution) → All SolutionFormed xs → All SolutionFormed ys → each solution_bytes xs ≡ each solution_bytes ys → xs ≡ ys
same_list [] [] h k e = refl
same_list [] (y ∷ ys) h k e = let z = ap length e in absurd (omega (arith, z))
same_list (x ∷ xs) [] h k e = let z = ap length e in absurd (omega (arith, z))
same_list (x ∷ xs) (y ∷ ys) (h, hs) (k, ks) e =
    let (same, rest) = solution_same x y (each solution_bytes xs) (each solution_bytes ys) h k e in
    ap₂ ◌∷◌ same (same_list xs ys hs ks rest)

-- Bytes are those of at most one list of answers.
pub one_reading : (b : List ℕ) (xs ys : List QuerySolution) → AnswersRead b xs → AnswersRead b ys → xs ≡ ys
one_reading b xs ys h k = same_list xs ys h.formed k.formed (sym h.bytes ∙ k.bytes)
