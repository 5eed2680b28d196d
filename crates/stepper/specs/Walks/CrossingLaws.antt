-- Laws of crossings: every rule is one, read back too, and none leads on from an end without ancestors, which is final.
use Rattle.std.specs.Prelude.{◌≡◌, refl, List, [], ◌∷◌}
use Rattle.std.proofs.Common.{sym, ◌∙◌}
use Rattle.records.specs.Gate.ReplyLaws.{refused_not_gives}
use Rattle.records.specs.Format.Syntax.{Goal, Ancestor, Bet, Port, call, exit, fail, redo, Event, event}
use Rattle.stepper.specs.Rules.Machine.{Machine}
use Rattle.stepper.specs.Rules.Listed.{Rule, conj_call, conj_exit_first, conj_fail_first, conj_exit_second, conj_fail_second, conj_redo, disj_call, disj_fail_first, disj_fail_second, disj_exit_first, disj_exit_second, disj_redo, true_call, true_redo, fail_call, equal_call, equal_clash, equal_redo, atom_call, atom_undefined, atom_exit, atom_fail, atom_redo}
use Rattle.stepper.specs.Rules.ListedLaws.{rule_iff}
use Rattle.stepper.specs.Rules.Refusals.{AtEnd}
use Rattle.stepper.specs.Rules.RefusalLaws.{ends_refused}
use Rattle.stepper.specs.Walks.Crossing.{ancestors_of, Entry, call_entry, redo_entry, End, exit_end, fail_end, Crossing, goes_in, goes_through, goes_across, goes_out}

-- every rule is a crossing
pub rule_crosses : {M : Machine} {e d : Event} → Rule M e d → Crossing Entry End e d
rule_crosses conj_call = goes_in refl call_entry call_entry
rule_crosses conj_exit_first = goes_across refl exit_end call_entry
rule_crosses conj_fail_first = goes_out refl fail_end fail_end
rule_crosses conj_exit_second = goes_out refl exit_end exit_end
rule_crosses conj_fail_second = goes_across refl fail_end redo_entry
rule_crosses conj_redo = goes_in refl redo_entry redo_entry
rule_crosses disj_call = goes_in refl call_entry call_entry
rule_crosses disj_fail_first = goes_across refl fail_end call_entry
rule_crosses disj_fail_second = goes_out refl fail_end fail_end
rule_crosses disj_exit_first = goes_out refl exit_end exit_end
rule_crosses disj_exit_second = goes_out refl exit_end exit_end
rule_crosses (disj_redo n) = goes_in refl redo_entry redo_entry
rule_crosses true_call = goes_through call_entry exit_end
rule_crosses true_redo = goes_through redo_entry fail_end
rule_crosses fail_call = goes_through call_entry fail_end
rule_crosses (equal_call h) = goes_through call_entry exit_end
rule_crosses (equal_clash h) = goes_through call_entry fail_end
rule_crosses equal_redo = goes_through redo_entry fail_end
rule_crosses (atom_call h) = goes_in refl call_entry call_entry
rule_crosses (atom_undefined h) = goes_through call_entry fail_end
rule_crosses atom_exit = goes_out refl exit_end exit_end
rule_crosses atom_fail = goes_out refl fail_end fail_end
rule_crosses atom_redo = goes_in refl redo_entry redo_entry

-- read back, from d to e, it is one of ends and entries
pub crosses_back : {In Out : Goal → List Ancestor → Event → Type 0} {e d : Event} → Crossing In Out e d → Crossing Out In d e
crosses_back (goes_in k x y) = goes_out k y x
crosses_back (goes_through x y) = goes_through y x
crosses_back (goes_across k x y) = goes_across (sym k) y x
crosses_back (goes_out k x y) = goes_in k y x

-- What two sides of a goal have: an event on either is under its own ancestors, an event on In is of one goal, and none is on both.
pub record Sides (In Out : Goal → List Ancestor → Event → Type 0) : Type 0 where
  pub in_under : {g : Goal} {u : List Ancestor} {e : Event} → In g u e → ancestors_of e ≡ u
  pub out_under : {g : Goal} {u : List Ancestor} {e : Event} → Out g u e → ancestors_of e ≡ u
  pub in_same : {g h : Goal} {u v : List Ancestor} {e : Event} → In g u e → In h v e → g ≡ h
  pub not_both : {g h : Goal} {u v : List Ancestor} {e : Event} → In g u e → Out h v e → ⊥

entry_under : {g : Goal} {u : List Ancestor} {e : Event} → Entry g u e → ancestors_of e ≡ u
entry_under call_entry = refl
entry_under redo_entry = refl

pub end_under : {g : Goal} {u : List Ancestor} {e : Event} → End g u e → ancestors_of e ≡ u
end_under exit_end = refl
end_under fail_end = refl

entry_same : {g h : Goal} {u v : List Ancestor} {e : Event} → Entry g u e → Entry h v e → g ≡ h
entry_same call_entry call_entry = refl
entry_same redo_entry redo_entry = refl

pub end_same : {g h : Goal} {u v : List Ancestor} {e : Event} → End g u e → End h v e → g ≡ h
end_same exit_end exit_end = refl
end_same fail_end fail_end = refl

pub entry_not_end : {g h : Goal} {u v : List Ancestor} {e : Event} → Entry g u e → End h v e → ⊥
entry_not_end call_entry = elim [ ]
entry_not_end redo_entry = elim [ ]

pub entry_to_end : Sides Entry End
entry_to_end = record { in_under = entry_under; out_under = end_under; in_same = entry_same; not_both = entry_not_end }

pub end_to_entry : Sides End Entry
end_to_entry = record { in_under = end_under; out_under = entry_under; in_same = end_same; not_both = λ x y. entry_not_end y x }

-- an end without ancestors is final,
pub end_is_final : {g : Goal} {e : Event} → End g [] e → AtEnd e
end_is_final exit_end = tt
end_is_final fail_end = tt

pub final_is_end : (p : Port) (g : Goal) (u : List Ancestor) (s : List Bet) → AtEnd (event p g u s) → End g [] (event p g u s)
final_is_end call g u s w = absurd w
final_is_end exit g [] s w = exit_end
final_is_end exit g (a ∷ u) s w = absurd w
final_is_end fail g [] s w = fail_end
final_is_end fail g (a ∷ u) s w = absurd w
final_is_end redo g u s w = absurd w

-- and no rule leads on from it
pub end_is_last : {M : Machine} {g : Goal} {e d : Event} → Rule M e d → End g [] e → ⊥
end_is_last {M} {e = e} {d} r z = refused_not_gives (sym (ends_refused M e (end_is_final z)) ∙ (rule_iff M e d).1 r)
