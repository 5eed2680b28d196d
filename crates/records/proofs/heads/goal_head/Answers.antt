use native.Mathlib.Omega.{arith}
use Rattle.records.proofs.HeadBytes.{past_goal, goal_kind, atom_kind, no_goal}
use mathlib.Core.Path.{refl}
use Rattle.records.proofs.heads.goal_head.Goals as goal

pub returns-then-s-at : goal.returns-then-s-at
returns-then-s-at c = past_goal _ _ (omega arith)

pub returns-in-16 : goal.returns-in-16
returns-in-16 c = goal_kind _ _ _ 0x10 (λ l. refl) (omega arith) (omega arith)

pub returns-in-17 : goal.returns-in-17
returns-in-17 c = goal_kind _ _ _ 0x11 (λ l. refl) (omega arith) (omega arith)

pub returns-in-18 : goal.returns-in-18
returns-in-18 c = goal_kind _ _ _ 0x12 (λ l. refl) (omega arith) (omega arith)

pub returns-in-19 : goal.returns-in-19
returns-in-19 c = goal_kind _ _ _ 0x13 (λ l. refl) (omega arith) (omega arith)

pub returns-in-20 : goal.returns-in-20
returns-in-20 c = goal_kind _ _ _ 0x14 (λ l. refl) (omega arith) (omega arith)

pub returns-in-21 : goal.returns-in-21
returns-in-21 c = atom_kind _ _ _ (omega arith) (omega arith) c.atom_head.ensures

pub returns-in_default : goal.returns-in_default
returns-in_default c = no_goal _ _ (omega arith) (omega arith) (omega arith) (omega arith) (omega arith) (omega arith) (omega arith)
