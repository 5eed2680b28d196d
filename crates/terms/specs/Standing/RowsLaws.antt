-- Laws of rows that stand somewhere: the first of a row and the others, and a row of none.
use Rattle.std.specs.Prelude.{◌≡◌, refl, List, [], ◌∷◌, ℕ, ◌+◌, ◌<◌, length}
use Rattle.std.proofs.Common.{ap, ◌∙◌, arith}
use Rattle.records.specs.Format.Encode.{each}
use Rattle.records.specs.Format.Formed.{All}
use Rattle.records.specs.Ends.Stands.{Stands}
use Rattle.records.specs.Ends.StandsLaws.{stands_first, stands_second}
use Rattle.terms.specs.Standing.Rows.{StandingRow, FirstOf}

module _ {A : Type 0} {bytes : A → List ℕ} {Formed : A → Type 0} {s : List ℕ} {at n : ℕ} where
  pub standing_first : (r : StandingRow bytes Formed s at n) → 0 < n → FirstOf r
  standing_first r h = go r.items refl r.formed r.many r.stands
    where
      go : (l : List A) → r.items ≡ l → All Formed l → length l ≡ n → Stands s at (each bytes l) r.end → FirstOf r
      go [] e f m w = absurd (omega arith)
      go (a ∷ l) e f m w = record {
        first = record { item = a; formed = f.0; end = at + length (bytes a); stands = stands_first (bytes a) (each bytes l) w };
        rest = record { items = l; formed = f.1; many = omega arith; end = r.end; stands = stands_second (bytes a) (each bytes l) w };
        whole = e;
        same_end = refl;
      }

  -- no items: none is listed, and the row ends where it starts
  pub standing_none : (r : StandingRow bytes Formed s at n) → n ≡ 0 → r.items ≡ []
  standing_none r h = go r.items r.many
    where
      go : (l : List A) → length l ≡ n → l ≡ []
      go [] m = refl
      go (a ∷ l) m = absurd (omega arith)

  pub standing_none_end : (r : StandingRow bytes Formed s at n) → n ≡ 0 → r.end ≡ at
  standing_none_end r h = r.stands.end ∙ ap (λ (l : List A). at + length (each bytes l)) (standing_none r h) ∙ omega arith
