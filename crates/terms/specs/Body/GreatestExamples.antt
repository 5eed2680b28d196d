-- SPECIFICATION 11.20 by evaluation: the part that holds the greatest variable, of events and of one event's record.
use Rattle.std.specs.Prelude.{◌≡◌, refl, List, [], ◌∷◌, ℕ, None}
use Rattle.records.specs.Format.Syntax.{Goal}
use Rattle.records.specs.Format.Syntax.Term.{var, app}
use Rattle.records.specs.Format.Syntax.Terms.{nil, cons}
use Rattle.records.specs.Format.Syntax.Goal.{truth, atom}
use Rattle.records.specs.Format.Syntax.Half.{first}
use Rattle.records.specs.Format.Syntax.Ancestor.{called}
use Rattle.records.specs.Format.Syntax.Binding.{bind}
use Rattle.records.specs.Format.Syntax.Bet.{unifier, or, by}
use Rattle.records.specs.Format.Reader.{read}
use Rattle.records.specs.Format.Items.{many, read_counted, read_goal, read_ancestor, read_binding, read_bet, read_stacks, read_frame, read_event_bytes}
use Rattle.records.specs.Gate.RecordRules.{unifier_rules, event_rules}
use Rattle.records.specs.Gate.Gate.{framed, of_version, read_record}
use Rattle.records.specs.Gate.Question.{question_number}
use Rattle.records.specs.Gate.Reply.{through}
use Rattle.records.specs.Gate.Door.{event_door}
use Rattle.terms.specs.Body.Greatest.{in_part, greatest_of, greatest_variable}
use Rattle.terms.specs.Body.GreatestService.{greatest_record}
use Rattle.terms.specs.declared.greatest.Part.TheVariants.{Bets as InBets, Goal as InGoal, Ancestors as InAncestors}

abbrev p : ℕ → Goal
p v = atom 7 (cons (var v) nil)

-- none at all
nothing_held : greatest_variable truth (called 7 nil ∷ []) (or first ∷ unifier [] ∷ by truth ∷ []) ≡ None
unfolding greatest_of
nothing_held = refl

-- each part alone
bets_alone : greatest_variable truth [] (by (p 9) ∷ []) ≡ in_part InBets 9
unfolding greatest_of
bets_alone = refl

goal_alone : greatest_variable (p 9) (called 7 nil ∷ []) (or first ∷ []) ≡ in_part InGoal 9
unfolding greatest_of
goal_alone = refl

ancestors_alone : greatest_variable truth (called 7 nil ∷ called 7 (cons (var 9) nil) ∷ []) [] ≡ in_part InAncestors 9
unfolding greatest_of
ancestors_alone = refl

-- a part that is searched later holds more
goal_above_bets : greatest_variable (p 9) (called 7 (cons (var 4) nil) ∷ []) (unifier (bind 8 (app 1 nil) ∷ []) ∷ []) ≡ in_part InGoal 9
unfolding greatest_of
goal_above_bets = refl

ancestors_above_both : greatest_variable (p 4) (called 7 (cons (var 9) nil) ∷ []) (by (p 8) ∷ []) ≡ in_part InAncestors 9
unfolding greatest_of
ancestors_above_both = refl

-- equal ones: the first part is named
bets_and_goal : greatest_variable (p 9) [] (unifier (bind 3 (var 9) ∷ []) ∷ []) ≡ in_part InBets 9
unfolding greatest_of
bets_and_goal = refl

goal_and_ancestors : greatest_variable (p 9) (called 7 (cons (var 9) nil) ∷ []) (by (p 8) ∷ []) ≡ in_part InGoal 9
unfolding greatest_of
goal_and_ancestors = refl

-- one of several bets
lowest_bet : greatest_variable (p 8) [] (by (p 3) ∷ or first ∷ unifier (bind 0 (var 8) ∷ bind 9 (app 1 nil) ∷ []) ∷ []) ≡ in_part InBets 9
unfolding greatest_of
lowest_bet = refl

-- call p(V4) with the bet {V9/a}
abbrev call_record : List ℕ
call_record =
    0x00 ∷ 0x16 ∷ 0x01 ∷ 0x01 ∷ 0x15 ∷ 0x00 ∷ 0x07 ∷ 0x01 ∷ 0x01 ∷ 0x00 ∷ 0x04 ∷ 0x00 ∷ 0x00
    ∷ 0x00 ∷ 0x01 ∷ 0x20 ∷ 0x00 ∷ 0x01 ∷ 0x00 ∷ 0x09 ∷ 0x02 ∷ 0x00 ∷ 0x01 ∷ 0x00 ∷ []

record_told : greatest_record call_record ≡ record { number = 0; part = 1; variable = 9 }
unfolding greatest_record greatest_of through event_door read_record framed of_version read many read_goal read_ancestor read_binding read_bet read_counted read_stacks read_frame read_event_bytes event_rules unifier_rules
record_told = refl

-- no bytes at all
nothing_read : greatest_record [] ≡ record { number = 11; part = 0; variable = 0 }
unfolding greatest_record through event_door read_record framed question_number
nothing_read = refl
