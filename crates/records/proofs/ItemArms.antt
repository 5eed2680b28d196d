-- The rules of a row of items, by its first one.
use Rattle.std.specs.Prelude.{Option, Some, None}
use Prim.Native.Nat.{ℕ, ◌-◌, ◌<◌}
use mathlib.Core.Path.{◌≡◌, refl, sym, ap, ◌∙◌}
use mathlib.Core.Bool.{Bool, true, false, ◌&&◌}
use mathlib.Core.List.{List}
use Rattle.records.specs.Gate.RecordRules.{every}
use Rattle.records.specs.Format.Reader.{Read}
use Rattle.records.specs.Format.Items.{Reader}
use Rattle.records.specs.Gate.Rows.{Ends, holds, kept_at, row_at, RowFirst, item_kept, items_kept, item_rules}
use Rattle.records.specs.Gate.RowsLaws.{row_more, row_first, row_none}
use Rattle.records.specs.Ends.ItemEnds.{item_reader, item_end, items_end}
use Rattle.records.specs.declared.ends.Item.{Item}

-- the rules of the first of a row, and of the rest
every_next : {A : Type 0} (rules : A → Bool) (r : Reader A) (s : List ℕ) (n at e : ℕ) → RowFirst r s n at e → every rules (row_at r n s at) ≡ (kept_at rules r s at && every rules (row_at r (n - 1) s e))
unfolding kept_at
every_next rules r s n at e d =
    ap (every rules) d.row ∙ ap (λ (o : Read _). holds rules o && every rules (row_at r (n - 1) s e)) (sym d.is)

module _ (s : List ℕ) where
  pub items_first : (i : Item) (n at : ℕ) → 0 < n → Ends (items_end i n s at) → Ends (item_end i s at)
  unfolding item_end items_end
  items_first i = row_first (item_reader i) s

  pub items_break : {P : Type 0} (i : Item) (n at : ℕ) {f : Option ℕ} → 0 < n → Ends (items_end i n s at) → f ≡ item_end i s at → f ≡ None → P
  items_break i n at z w is q = absurd (rw (sym is ∙ q) at (items_first i n at z w))

  pub items_rest : (i : Item) (n at : ℕ) {f : Option ℕ} {e : ℕ} → 0 < n → Ends (items_end i n s at) → f ≡ item_end i s at → f ≡ Some e → Ends (items_end i (n - 1) s e)
  unfolding item_end items_end
  items_rest i n at z w is q = (row_more (item_reader i) s n at z w is q).rest

  items_split : (i : Item) (n at : ℕ) {f : Option ℕ} {e : ℕ} → 0 < n → Ends (items_end i n s at) → f ≡ item_end i s at → f ≡ Some e → items_kept i n s at ≡ (item_kept i s at && items_kept i (n - 1) s e)
  unfolding item_end items_end item_kept items_kept
  items_split i n at z w is q = every_next (item_rules i) (item_reader i) s n at _ (row_more (item_reader i) s n at z w is q)

  pub items_more : (i : Item) (n at : ℕ) {f : Option ℕ} {e : ℕ} {b : Bool} → 0 < n → Ends (items_end i n s at) → f ≡ item_end i s at → f ≡ Some e → b ≡ item_kept i s at → b ≡ true
      → items_kept i n s at ≡ items_kept i (n - 1) s e
  items_more i n at z w is q k t = items_split i n at z w is q ∙ rw (← k, t)

  -- an item whose rules are broken
  pub items_broken : (i : Item) (n at : ℕ) {b : Bool} → 0 < n → Ends (items_end i n s at) → b ≡ item_kept i s at → b ≡ false → false ≡ items_kept i n s at
  items_broken i n at {b} z w k t = go (item_end i s at) refl (items_first i n at z w)
    where
      go : (f : Option ℕ) → item_end i s at ≡ f → Ends f → false ≡ items_kept i n s at
      go (Some e) q x = sym (items_split i n at z w refl q ∙ rw (← k, t))
      go None q x = absurd x

  pub items_none : (i : Item) (n at : ℕ) → n ≡ 0 → true ≡ items_kept i n s at
  unfolding items_kept
  items_none i n at e = rw (row_none (item_reader i) s n at e)
