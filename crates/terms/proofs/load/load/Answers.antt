use Rattle.terms.specs.Classes.LoadLaws.{load_start, load_step, load_end}
use Rattle.terms.proofs.load.load.Goals as goal

pub loop-p-init : goal.loop-p-init
loop-p-init c = load_start _ _ _ c.requires.b_bound

pub loop-p-preserved : goal.loop-p-preserved
loop-p-preserved c = load_step _ _ _ c.requires.value _ _ _ c.loop-p.invariant _ c.head_at-h.ensures c.loop-p-test.true

pub returns : goal.returns
returns c = load_end _ _ _ _ _ _ c.loop-p.invariant c.loop-p-test.false
