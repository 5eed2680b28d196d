-- Question 4 at positions: whether what was read somewhere keeps its rules, and the row of items that was read somewhere.
use Rattle.std.specs.Prelude.{ℕ, ◌-◌, ◌≡◌, Bool, true, List, [], ◌∷◌, drop, Option, Some, None}
use Rattle.records.specs.Format.Reader.{Read}
use Rattle.records.specs.Format.Reader.Read.{unread, found}
use Rattle.records.specs.Format.Items.{Reader, many}
use Rattle.records.specs.Ends.Traversal.{end_of}
use Rattle.records.specs.Ends.ItemEnds.{ItemTree, item_reader}
use Rattle.records.specs.Gate.RecordRules.{every, bet_rules, definition_rules, clause_rules}
use Rattle.records.specs.declared.ends.Item.{Item}
use Rattle.records.specs.declared.ends.Item.TheVariants.{Ancestor, Bet, Definition, Clause}

-- it was found
abbrev pub Ends : Option ℕ → Type 0
Ends (Some e) = Unit {0}
Ends None = ⊥

-- what was found keeps the rules
abbrev pub holds : {A : Type 0} → (A → Bool) → Read A → Bool
holds kept unread = true
holds kept (found a n) = kept a

unfoldable pub kept_at : {A : Type 0} → (A → Bool) → Reader A → List ℕ → ℕ → Bool
kept_at kept r s at = holds kept (r (drop at s))

-- the row that was found
abbrev pub row_of : {A : Type 0} → Read (List A) → List A
row_of unread = []
row_of (found l n) = l

unfoldable pub row_at : {A : Type 0} → Reader A → ℕ → List ℕ → ℕ → List A
row_at r n s at = row_of (many r n (drop at s))

-- the rules of an item of a kind; an ancestor has none
abbrev pub item_rules : (i : Item) → ItemTree i → Bool
item_rules Ancestor a = true
item_rules Bet b = bet_rules b
item_rules Definition d = definition_rules d
item_rules Clause c = clause_rules c

unfoldable pub item_kept : Item → List ℕ → ℕ → Bool
item_kept i = kept_at (item_rules i) (item_reader i)

unfoldable pub items_kept : Item → ℕ → List ℕ → ℕ → Bool
items_kept i n s at = every (item_rules i) (row_at (item_reader i) n s at)

module _ {A : Type 0} (r : Reader A) (s : List ℕ) where
  -- the first of a row that was found, and the rest from where it ends
  pub record RowFirst (n at : ℕ) (e : ℕ) : Type 0 where
    pub item : A
    pub is : r (drop at s) ≡ found item (e - at)
    pub row : row_at r n s at ≡ item ∷ row_at r (n - 1) s e
    pub rest : Ends (end_of (many r (n - 1)) s e)
