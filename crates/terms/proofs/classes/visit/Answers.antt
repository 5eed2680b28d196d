-- `visit` compares a symbol with its representative, and unites the classes of the first children that differ.
use Rattle.terms.specs.Classes.CloseLaws.{turned_variable, turned_stuck, turned_fine, differ_unitable, turned_joined, still_agree}
use Rattle.terms.proofs.classes.visit.Goals as goal

pub returns-in_default : goal.returns-in_default
returns-in_default c = turned_variable _ _ _ _ _ c.in_default.is

pub unite-requires : goal.unite-requires
unite-requires c =
    differ_unitable _ _ _ _ c.requires.state _ c.requires.i_in_bounds (_, c.in-Symbol.is) _ c.compare.ensures _ _ c.in-Differ.is

pub returns-in-Clash : goal.returns-in-Clash
returns-in-Clash c =
    turned_stuck _ _ _ _ c.requires.state _ c.requires.i_in_bounds (_, c.in-Symbol.is) _ c.compare.ensures
    c.in-Clash.is _

pub returns-in-Same : goal.returns-in-Same
returns-in-Same c =
    turned_fine _ _ _ _ c.requires.state _ c.requires.i_in_bounds (_, c.in-Symbol.is) _ c.compare.ensures
    c.in-Same.is

pub returns-in-Differ : goal.returns-in-Differ
returns-in-Differ c =
    turned_joined _ _ _ _ c.requires.state _ c.requires.i_in_bounds (_, c.in-Symbol.is) _ c.compare.ensures _ _ c.in-Differ.is _
    c.unite.ensures.0 _
    (still_agree _ _ _ c.requires.table _ _ c.requires.state.partition _ c.unite.ensures.1 _ _ c.unite.ensures.0)
