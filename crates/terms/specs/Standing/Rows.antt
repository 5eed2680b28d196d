-- Items and rows of items that stand somewhere: the trees with what the code that is given their positions relies on.
use Rattle.std.specs.Prelude.{◌≡◌, refl, List, [], ◌∷◌, ℕ, ◌-◌, length}
use Rattle.std.proofs.Common.{arith}
use Rattle.records.specs.Format.Encode.{each}
use Rattle.records.specs.Format.Formed.{All}
use Rattle.records.specs.Ends.Stands.{Stands}

-- a well-formed item whose bytes stand at `at`
pub record StandingItem {A : Type 0} (bytes : A → List ℕ) (Formed : A → Type 0) (s : List ℕ) (at : ℕ) : Type 0 where
  pub item : A
  pub formed : Formed item
  pub end : ℕ
  pub stands : Stands s at (bytes item) end

-- a row of n of them
pub record StandingRow {A : Type 0} (bytes : A → List ℕ) (Formed : A → Type 0) (s : List ℕ) (at n : ℕ) : Type 0 where
  pub items : List A
  pub formed : All Formed items
  pub many : length items ≡ n
  pub end : ℕ
  pub stands : Stands s at (each bytes items) end

module _ {A : Type 0} {bytes : A → List ℕ} {Formed : A → Type 0} {s : List ℕ} {at n : ℕ} where
  -- the first of a row, and the others
  pub record FirstOf (r : StandingRow bytes Formed s at n) : Type 0 where
    pub first : StandingItem bytes Formed s at
    pub rest : StandingRow bytes Formed s first.end (n - 1)
    pub whole : r.items ≡ first.item ∷ rest.items
    pub same_end : rest.end ≡ r.end

  -- the same row, its place by another name
  abbrev pub standing_moved : {to : ℕ} → to ≡ at → StandingRow bytes Formed s at n → StandingRow bytes Formed s to n
  standing_moved e r = record { items = r.items; formed = r.formed; many = r.many; end = r.end; stands = rw e r.stands }

-- a row of no items stands anywhere
abbrev pub standing_empty : {A : Type 0} {bytes : A → List ℕ} {Formed : A → Type 0} (s : List ℕ) (at : ℕ) → StandingRow bytes Formed s at 0
standing_empty s at = record { items = []; formed = tt; many = refl; end = at; stands = record { end = omega arith; bytes = refl } }
