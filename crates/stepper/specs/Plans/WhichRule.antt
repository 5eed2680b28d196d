-- Which rule's left side, and which rule's right side, has the kinds and tags of an event. The rules have the names of SPECIFICATION 3.3, in its order,
-- from the call of a conjunction to the redo of an atom; None is no rule. That the goal is the half which its tag selects is not asked here.
-- Read back, fail of an equality is named EqualRedo and fail of an atom AtomFail: both have two sources.
use Rattle.std.specs.Prelude.{ℕ, eqb, Option, Some, None}
use Rattle.records.specs.Format.Heads.{pick}
use Rattle.stepper.specs.declared.rules.Rule.{Rule}
use Rattle.stepper.specs.declared.rules.Rule.TheVariants.{ConjCall, ConjExitFirst, ConjFailFirst, ConjExitSecond, ConjFailSecond, ConjRedo, DisjCall, DisjFailFirst, DisjFailSecond, DisjExitFirst, DisjExitSecond, DisjRedo, TrueCall, TrueRedo, FailCall, EqualCall, EqualRedo, AtomCall, AtomExit, AtomFail, AtomRedo}
use Rattle.stepper.specs.declared.view.View.{View}

-- from call, by the goal
unfoldable pub call_rule : (kind : ℕ) → Option Rule
call_rule kind =
    pick (eqb kind 0x10) (Some TrueCall)
    (pick (eqb kind 0x11) (Some FailCall)
    (pick (eqb kind 0x12) (Some EqualCall)
    (pick (eqb kind 0x13) (Some ConjCall)
    (pick (eqb kind 0x14) (Some DisjCall)
    (pick (eqb kind 0x15) (Some AtomCall) None)))))

-- from exit, by the ancestor on top
unfoldable pub exit_rule : (kind tag : ℕ) → Option Rule
exit_rule kind tag =
    pick (eqb kind 0x30) (pick (eqb tag 1) (Some ConjExitFirst) (Some ConjExitSecond))
    (pick (eqb kind 0x31) (pick (eqb tag 1) (Some DisjExitFirst) (Some DisjExitSecond))
    (pick (eqb kind 0x15) (Some AtomExit) None))

-- from fail, by the ancestor on top
unfoldable pub fail_rule : (kind tag : ℕ) → Option Rule
fail_rule kind tag =
    pick (eqb kind 0x30) (pick (eqb tag 1) (Some ConjFailFirst) (Some ConjFailSecond))
    (pick (eqb kind 0x31) (pick (eqb tag 1) (Some DisjFailFirst) (Some DisjFailSecond))
    (pick (eqb kind 0x15) (Some AtomFail) None))

-- from redo, by the goal and the bet on top
unfoldable pub redo_rule : (kind bet : ℕ) → Option Rule
redo_rule kind bet =
    pick (eqb kind 0x10) (Some TrueRedo)
    (pick (eqb kind 0x12) (pick (eqb bet 0x20) (Some EqualRedo) None)
    (pick (eqb kind 0x13) (Some ConjRedo)
    (pick (eqb kind 0x14) (pick (eqb bet 0x21) (Some DisjRedo) None)
    (pick (eqb kind 0x15) (pick (eqb bet 0x22) (Some AtomRedo) None) None))))

-- the rule whose left side has the kinds and tags of the event, none where there is none
unfoldable pub forward_rule : View → Option Rule
forward_rule v =
    pick (eqb v.port 1) (call_rule v.goal.kind)
    (pick (eqb v.port 2) (exit_rule v.ancestor.kind v.ancestor.tag)
    (pick (eqb v.port 3) (fail_rule v.ancestor.kind v.ancestor.tag)
    (pick (eqb v.port 4) (redo_rule v.goal.kind v.bet.kind) None)))

-- to call, by the ancestor on top
unfoldable pub call_source : (kind tag : ℕ) → Option Rule
call_source kind tag =
    pick (eqb kind 0x30) (pick (eqb tag 1) (Some ConjCall) (Some ConjExitFirst))
    (pick (eqb kind 0x31) (pick (eqb tag 1) (Some DisjCall) (Some DisjFailFirst))
    (pick (eqb kind 0x15) (Some AtomCall) None))

-- to exit, by the goal and the bet on top
unfoldable pub exit_source : (kind bet tag : ℕ) → Option Rule
exit_source kind bet tag =
    pick (eqb kind 0x10) (Some TrueCall)
    (pick (eqb kind 0x12) (pick (eqb bet 0x20) (Some EqualCall) None)
    (pick (eqb kind 0x13) (Some ConjExitSecond)
    (pick (eqb kind 0x14) (pick (eqb bet 0x21) (pick (eqb tag 1) (Some DisjExitFirst) (Some DisjExitSecond)) None)
    (pick (eqb kind 0x15) (pick (eqb bet 0x22) (Some AtomExit) None) None))))

-- to fail, by the goal
unfoldable pub fail_source : (kind : ℕ) → Option Rule
fail_source kind =
    pick (eqb kind 0x10) (Some TrueRedo)
    (pick (eqb kind 0x11) (Some FailCall)
    (pick (eqb kind 0x12) (Some EqualRedo)
    (pick (eqb kind 0x13) (Some ConjFailFirst)
    (pick (eqb kind 0x14) (Some DisjFailSecond)
    (pick (eqb kind 0x15) (Some AtomFail) None)))))

-- to redo, by the ancestor on top
unfoldable pub redo_source : (kind tag : ℕ) → Option Rule
redo_source kind tag =
    pick (eqb kind 0x30) (pick (eqb tag 1) (Some ConjFailSecond) (Some ConjRedo))
    (pick (eqb kind 0x31) (Some DisjRedo)
    (pick (eqb kind 0x15) (Some AtomRedo) None))

-- the rule whose right side has the kinds and tags of the event, none where there is none
unfoldable pub back_rule : View → Option Rule
back_rule v =
    pick (eqb v.port 1) (call_source v.ancestor.kind v.ancestor.tag)
    (pick (eqb v.port 2) (exit_source v.goal.kind v.bet.kind v.bet.tag)
    (pick (eqb v.port 3) (fail_source v.goal.kind)
    (pick (eqb v.port 4) (redo_source v.ancestor.kind v.ancestor.tag) None)))
