use Rattle.terms.specs.Body.DefinitionLaws.{searched_start, searched_item, searched_next, searched_found, searched_none, entry_room}
use native.Mathlib.Omega.{arith}
use Rattle.terms.proofs.definitions.among.Goals as goal

pub loop-i-init : goal.loop-i-init
loop-i-init c = searched_start _ _ _ _

pub entry_at-requires : goal.entry_at-requires
entry_at-requires c = searched_item c.loop-i.invariant c.loop-i-test.true c.requires

pub returns-in_err-d : goal.returns-in_err-d
returns-in_err-d c = absurd ((c.entry_at.ensures (searched_item c.loop-i.invariant c.loop-i-test.true c.requires)).known c.in_err-d.was)

pub overflow_add-result : goal.overflow_add-result
overflow_add-result c = omega (arith, entry_room (searched_item c.loop-i.invariant c.loop-i-test.true c.requires))

pub returns-then-defines : goal.returns-then-defines
returns-then-defines c = searched_found c.loop-i.invariant c.loop-i-test.true (λ d. (c.entry_at.ensures d).read c.in_ok-d.was) c.defines.ensures c.if-defines.true

pub loop-i-preserved : goal.loop-i-preserved
loop-i-preserved c = searched_next c.loop-i.invariant c.loop-i-test.true (λ d. (c.entry_at.ensures d).read c.in_ok-d.was) c.defines.ensures c.if-defines.false

pub returns : goal.returns
returns c = searched_none c.loop-i.invariant c.loop-i-test.false
