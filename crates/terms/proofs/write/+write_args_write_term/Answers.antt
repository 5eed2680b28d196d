use Rattle.terms.specs.Unifier.ClassTermsLaws.{head_fits, wrote_variable, symbol_left, symbol_rest, wrote_symbol, wrotes_end, child_left, child_fits, rest_next, wrotes_more}
use native.Mathlib.Omega.{arith}
use Rattle.terms.proofs.write.+write_args_write_term.Goals as goal

pub write_args-returns-then-p-end : goal.write_args-returns-then-p-end
write_args-returns-then-p-end t c =
    wrotes_end _ _ _ c.requires.class_table _ _ _ _ c.requires.children_left c.if-p-end.true

pub write_args-write_term-requires : goal.write_args-write_term-requires
write_args-write_term-requires t c =
    let h = child_left _ _ _ c.requires.class_table _ _ _ _ c.requires.children_left c.if-p-end.false in (omega (arith, c.decreases), (c.requires.class_table, child_fits _ _ _ c.requires.class_table _ _ _ _ c.requires.children_left c.if-p-end.false))

pub write_args-slice_bounds-write_args-count : goal.write_args-slice_bounds-write_args-count
write_args-slice_bounds-write_args-count t c =
    let h = child_left _ _ _ c.requires.class_table _ _ _ _ c.requires.children_left c.if-p-end.false in omega (arith, c.requires.children_left.room, c.write_term.auto.out)

pub write_args-slice_bounds-write_args-start : goal.write_args-slice_bounds-write_args-start
write_args-slice_bounds-write_args-start t c =
    let h = child_left _ _ _ c.requires.class_table _ _ _ _ c.requires.children_left c.if-p-end.false in omega (arith, c.requires.children_left.room, c.write_term.auto.out)

pub write_args-overflow_sub-left : goal.write_args-overflow_sub-left
write_args-overflow_sub-left t c =
    (child_left _ _ _ c.requires.class_table _ _ _ _ c.requires.children_left c.if-p-end.false).0

pub write_args-write_args-requires : goal.write_args-write_args-requires
write_args-write_args-requires t c =
    let h = child_left _ _ _ c.requires.class_table _ _ _ _ c.requires.children_left c.if-p-end.false in (omega (arith, c.decreases), (c.requires.class_table, rest_next _ _ _ c.requires.class_table _ _ _ _ c.requires.children_left c.if-p-end.false c.write_term.new.out c.write_term.auto.out))

pub write_args-returns : goal.write_args-returns
write_args-returns t c =
    wrotes_more _ _ _ c.requires.class_table _ _ _ _ c.requires.children_left c.if-p-end.false _ _ c.write_term.ensures c.write_args.ensures

pub write_term-put_head-e-requires : goal.write_term-put_head-e-requires
write_term-put_head-e-requires t c =
    head_fits _ _ _ c.requires.class_table _ _ c.requires.class_fits

pub write_term-returns-in_default : goal.write_term-returns-in_default
write_term-returns-in_default t c =
    wrote_variable _ _ _ c.requires.class_table _ _ c.requires.class_fits _ _ c.put_head-e.ensures c.in_default.is

pub write_term-overflow_sub-left : goal.write_term-overflow_sub-left
write_term-overflow_sub-left t c =
    (symbol_left _ _ _ c.requires.class_table _ _ c.requires.class_fits _ _ c.put_head-e.ensures (_, c.in-Symbol.is)).0

pub write_term-slice_bounds-write_args-count : goal.write_term-slice_bounds-write_args-count
write_term-slice_bounds-write_args-count t c =
    (symbol_left _ _ _ c.requires.class_table _ _ c.requires.class_fits _ _ c.put_head-e.ensures (_, c.in-Symbol.is)).1

pub write_term-slice_bounds-write_args-start : goal.write_term-slice_bounds-write_args-start
write_term-slice_bounds-write_args-start t c =
    (symbol_left _ _ _ c.requires.class_table _ _ c.requires.class_fits _ _ c.put_head-e.ensures (_, c.in-Symbol.is)).1

pub write_term-write_args-requires : goal.write_term-write_args-requires
write_term-write_args-requires t c =
    let h = symbol_left _ _ _ c.requires.class_table _ _ c.requires.class_fits _ _ c.put_head-e.ensures (_, c.in-Symbol.is) in (omega (arith, c.decreases), (c.requires.class_table, symbol_rest _ _ _ c.requires.class_table _ _ c.requires.class_fits _ _ c.put_head-e.ensures (_, c.in-Symbol.is)))

pub write_term-returns : goal.write_term-returns
write_term-returns t c =
    wrote_symbol _ _ _ c.requires.class_table _ _ c.requires.class_fits _ _ c.put_head-e.ensures (_, c.in-Symbol.is) _ c.write_args.ensures
