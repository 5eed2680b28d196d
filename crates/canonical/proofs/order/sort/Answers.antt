-- `sort`: the copy, sorted, is picked from as the table is.
use native.Mathlib.Omega.{arith}
use Rattle.std.specs.Prelude.{◌≡◌, length}
use Rattle.std.proofs.Common.{sym, ap, ◌∙◌, take_all}
use Rattle.std.proofs.lemmas.List.Sorted.{IsNonDecreasingBy-from_sort}
use Rattle.canonical.specs.Sorting.Picking.{picked}
use Rattle.canonical.specs.Sorting.PickingLaws.{picked_permuted}
use Rattle.canonical.proofs.order.sort.Goals as goal

pub pick_rising-requires : goal.pick_rising-requires
pick_rising-requires c = IsNonDecreasingBy-from_sort (λ x. x) _ c.sort_unstable.ensures.sorted

pub returns : goal.returns
returns c =
    let copied : c.loop-i.sorted ≡ c.args.table.now = sym (take_all _ _ (omega (arith, c.requires))) ∙ c.loop-i.invariant ∙ take_all _ _ (omega arith) in
    c.pick_rising.ensures ∙ picked_permuted _ _ c.sort_unstable.ensures.permutation ∙ ap (λ l. picked (length l) 0 l) copied
