-- The plan of each rule, forward and back. Rules that are not named keep all but the port: so an equality without a unifier and an atom without a
-- definition go from call to fail, and back.
use Rattle.std.specs.Prelude.{Option, Some}
use Rattle.records.specs.declared.plan.Plan.{Plan}
use Rattle.stepper.specs.Plans.Layouts.{atom_left, atom_left_by, bet_dropped, body_entered, chosen, entered, kept, left, left_with_or, reached}
use Rattle.stepper.specs.declared.rules.Rule.{Rule}
use Rattle.stepper.specs.declared.rules.Rule.TheVariants.{ConjCall, ConjExitFirst, ConjFailFirst, ConjExitSecond, ConjFailSecond, ConjRedo, DisjCall, DisjFailFirst, DisjFailSecond, DisjExitFirst, DisjExitSecond, DisjRedo, TrueCall, TrueRedo, EqualCall, EqualRedo, AtomCall, AtomExit, AtomFail, AtomRedo}
use Rattle.stepper.specs.declared.view.View.{View}

-- the plan of the rule
unfoldable pub forward_plan : View → Option Rule → Plan
forward_plan v (Some ConjCall) = entered v 1 0x30 1
forward_plan v (Some ConjExitFirst) = reached v 1 0x30 2
forward_plan v (Some ConjFailFirst) = left v 3 0x13
forward_plan v (Some ConjExitSecond) = left v 2 0x13
forward_plan v (Some ConjFailSecond) = reached v 4 0x30 1
forward_plan v (Some ConjRedo) = entered v 4 0x30 2
forward_plan v (Some DisjCall) = entered v 1 0x31 1
forward_plan v (Some DisjFailFirst) = reached v 1 0x31 2
forward_plan v (Some DisjFailSecond) = left v 3 0x14
forward_plan v (Some DisjExitFirst) = left_with_or v 2
forward_plan v (Some DisjExitSecond) = left_with_or v 2
forward_plan v (Some DisjRedo) = chosen v 4
forward_plan v (Some TrueCall) = kept v 2
forward_plan v (Some EqualRedo) = bet_dropped v 3
forward_plan v (Some AtomExit) = atom_left_by v 2
forward_plan v (Some AtomFail) = atom_left v 3
forward_plan v (Some AtomRedo) = body_entered v 4
forward_plan v r = kept v 3

-- the plan of the rule, read back
unfoldable pub back_plan : View → Option Rule → Plan
back_plan v (Some ConjCall) = left v 1 0x13
back_plan v (Some ConjExitFirst) = reached v 2 0x30 1
back_plan v (Some ConjFailFirst) = entered v 3 0x30 1
back_plan v (Some ConjExitSecond) = entered v 2 0x30 2
back_plan v (Some ConjFailSecond) = reached v 3 0x30 2
back_plan v (Some ConjRedo) = left v 4 0x13
back_plan v (Some DisjCall) = left v 1 0x14
back_plan v (Some DisjFailFirst) = reached v 3 0x31 1
back_plan v (Some DisjFailSecond) = entered v 3 0x31 2
back_plan v (Some DisjExitFirst) = chosen v 2
back_plan v (Some DisjExitSecond) = chosen v 2
back_plan v (Some DisjRedo) = left_with_or v 4
back_plan v (Some TrueRedo) = kept v 4
back_plan v (Some EqualCall) = bet_dropped v 1
back_plan v (Some AtomCall) = atom_left v 1
back_plan v (Some AtomExit) = body_entered v 2
back_plan v (Some AtomRedo) = atom_left_by v 4
back_plan v r = kept v 1
