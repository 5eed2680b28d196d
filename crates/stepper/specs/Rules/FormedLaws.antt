-- Steps in both directions lead from events that records can hold to events that records can hold.
use Rattle.std.specs.Prelude.{◌≡◌, refl, true}
use Rattle.std.proofs.Math.Path.{subst}
use mathlib.Core.List.{List, [], ◌∷◌}
use Rattle.records.specs.Gate.RecordRulesLaws.{and_both}
use Rattle.records.specs.Format.Syntax.{Goal, truth, failure, equal, conj, disj, atom, Half, first, second, called, in_conj, in_disj, Bet, unifier, call, exit, fail, redo, Event, event, goal?}
use Rattle.records.specs.Format.Formed.{GoalFormed, All, BetFormed}
use Rattle.records.specs.Gate.RecordRules.{every, bet_rules, event_rules}
use Rattle.stepper.specs.Rules.Machine.{Machine, Admits, StepOutcome, refused, gives}
use Rattle.stepper.specs.Rules.Rules.{selected, rule, candidate, step}
use Rattle.stepper.specs.Walks.Walk.{Direction, forward, back}
use Rattle.stepper.specs.Rules.AnswerLaws.{Given, given_matching, given_unifier, given_body, given_top_unifier, given_top_or, given_top_by}
use Rattle.stepper.specs.Rules.ListedLaws.{forward_by_rule, back_candidate}
use Rattle.stepper.specs.Rules.AdmittedLaws.{step_admitted}
use Rattle.stepper.specs.Rules.Formed.{EventSound, BetSound, PartsSound, CountsFit, LawfulMachine}

-- bets are sound exactly when they are well formed and every one is by the record rules
bets_sound : (s : List Bet) → All BetFormed s → every bet_rules s ≡ true → All BetSound s
bets_sound [] f h = tt
bets_sound (b ∷ s) f h = let k = and_both (bet_rules b) (every bet_rules s) h in ((f.0, k.0), bets_sound s f.1 k.1)

pub bets_formed : (s : List Bet) → All BetSound s → All BetFormed s
bets_formed [] f = tt
bets_formed (b ∷ s) f = (f.0.0, bets_formed s f.1)

bets_rules : (s : List Bet) → All BetSound s → every bet_rules s ≡ true
bets_rules [] f = refl
bets_rules (b ∷ s) f = rw f.0.1 (bets_rules s f.1)

parts_sound : (e : Event) → EventSound e → PartsSound e
unfolding event_rules
parts_sound (event p g u s) f = (f.0.0, f.0.1.1, bets_sound s f.0.2.1 f.1)

pub selected_formed : (n : Half) (a b : Goal) → GoalFormed a × GoalFormed b → GoalFormed (selected n a b)
unfolding selected
selected_formed first a b f = f.0
selected_formed second a b f = f.1

-- sound parts, where the bets are sound
abbrev Under : List Bet → Event → Type 0
Under s e = All BetSound s → PartsSound e

given_under : (s : List Bet) (a : StepOutcome) → All BetSound s → Given (Under s) a → Given PartsSound a
given_under s (refused q) f h = tt
given_under s (gives e) f h = h f

-- sound parts whose counts fit two bytes make a sound event
pub counted_sound : (e : Event) → PartsSound e → CountsFit e → EventSound e
unfolding event_rules
counted_sound (event p g u s) f n = ((f.0, (n.0, f.1), (n.1, bets_formed s f.2)), bets_rules s f.2)

module _ (M : Machine) (lawful : LawfulMachine M) where
  -- every rule keeps the parts sound
  rule_sound : (e : Event) → PartsSound e → Given PartsSound (rule M e)
  unfolding rule
  rule_sound (event call truth u s) f = f
  rule_sound (event call failure u s) f = f
  rule_sound (event call (equal l r) u s) f =
      given_unifier PartsSound (M.unify s l r) _ _ (λ h. f) (λ m h. (f.0, f.1, (lawful.unifier_sound s l r m f.2 f.0.0 f.0.1 h, f.2)))
  rule_sound (event call (conj a b) u s) f = (f.0.0, (f.0, f.1), f.2)
  rule_sound (event call (disj a b) u s) f = (f.0.0, (f.0, f.1), f.2)
  rule_sound (event call (atom p ts) u s) f =
      given_body PartsSound (M.body p ts u s) _ _ (λ h. f) (λ g h. (lawful.body_formed p ts u s g f.0 f.1 f.2 h, (f.0, f.1), f.2))
  rule_sound (event exit g [] s) f = tt
  rule_sound (event exit g (in_conj first a b ∷ u) s) f = given_matching PartsSound (goal? g a) _ (λ h. (f.1.0.1, f.1, f.2))
  rule_sound (event exit g (in_conj second a b ∷ u) s) f = given_matching PartsSound (goal? g b) _ (λ h. (f.1.0, f.1.1, f.2))
  rule_sound (event exit g (in_disj n a b ∷ u) s) f =
      given_matching PartsSound (goal? g (selected n a b)) _ (λ h. (f.1.0, f.1.1, ((tt, refl), f.2)))
  rule_sound (event exit g (called p ts ∷ u) s) f = (f.1.0, f.1.1, ((f.0, refl), f.2))
  rule_sound (event fail g [] s) f = tt
  rule_sound (event fail g (in_conj first a b ∷ u) s) f = given_matching PartsSound (goal? g a) _ (λ h. (f.1.0, f.1.1, f.2))
  rule_sound (event fail g (in_conj second a b ∷ u) s) f = given_matching PartsSound (goal? g b) _ (λ h. (f.1.0.0, f.1, f.2))
  rule_sound (event fail g (in_disj first a b ∷ u) s) f = given_matching PartsSound (goal? g a) _ (λ h. (f.1.0.1, f.1, f.2))
  rule_sound (event fail g (in_disj second a b ∷ u) s) f = given_matching PartsSound (goal? g b) _ (λ h. (f.1.0, f.1.1, f.2))
  rule_sound (event fail g (called p ts ∷ u) s) f = (f.1.0, f.1.1, f.2)
  rule_sound (event redo truth u s) f = f
  rule_sound (event redo failure u s) f = tt
  rule_sound (event redo (equal l r) u s) f = given_under s (rule M (event redo (equal l r) u s)) f.2 (given_top_unifier Under s _ (λ m t b. (f.0, f.1, b.1)))
  rule_sound (event redo (conj a b) u s) f = (f.0.1, (f.0, f.1), f.2)
  rule_sound (event redo (disj a b) u s) f = given_under s (rule M (event redo (disj a b) u s)) f.2 (given_top_or Under s _ (λ n t k. (selected_formed n a b f.0, (f.0, f.1), k.1)))
  rule_sound (event redo (atom p ts) u s) f = given_under s (rule M (event redo (atom p ts) u s)) f.2 (given_top_by Under s _ (λ g t b. (b.0.0, (f.0, f.1), b.1)))

  -- and so does every rule read back
  candidate_sound : (e : Event) → PartsSound e → Given PartsSound (candidate M e)
  unfolding candidate
  candidate_sound (event call g [] []) f = tt
  candidate_sound (event call g [] (b ∷ s)) f = tt
  candidate_sound (event call g (in_conj first a b ∷ u) s) f = given_matching PartsSound (goal? g a) _ (λ h. (f.1.0, f.1.1, f.2))
  candidate_sound (event call g (in_conj second a b ∷ u) s) f = given_matching PartsSound (goal? g b) _ (λ h. (f.1.0.0, f.1, f.2))
  candidate_sound (event call g (in_disj first a b ∷ u) s) f = given_matching PartsSound (goal? g a) _ (λ h. (f.1.0, f.1.1, f.2))
  candidate_sound (event call g (in_disj second a b ∷ u) s) f = given_matching PartsSound (goal? g b) _ (λ h. (f.1.0.0, f.1, f.2))
  candidate_sound (event call g (called p ts ∷ u) s) f =
      given_body PartsSound (M.body p ts u s) _ _ (λ h. (f.1.0, f.1.1, f.2)) (λ b h. (f.1.0, f.1.1, f.2))
  candidate_sound (event exit truth u s) f = f
  candidate_sound (event exit failure u s) f = tt
  candidate_sound (event exit (equal l r) u s) f =
      given_under s (candidate M (event exit (equal l r) u s)) f.2 (given_top_unifier Under s _ (λ m t. given_unifier (Under (unifier m ∷ t)) (M.unify t l r) _ _ (λ h b. (f.0, f.1, b.1)) (λ n h b. (f.0, f.1, b.1))))
  candidate_sound (event exit (conj a b) u s) f = (f.0.1, (f.0, f.1), f.2)
  candidate_sound (event exit (disj a b) u s) f = given_under s (candidate M (event exit (disj a b) u s)) f.2 (given_top_or Under s _ (λ n t k. (selected_formed n a b f.0, (f.0, f.1), k.1)))
  candidate_sound (event exit (atom p ts) u s) f = given_under s (candidate M (event exit (atom p ts) u s)) f.2 (given_top_by Under s _ (λ g t b. (b.0.0, (f.0, f.1), b.1)))
  candidate_sound (event fail truth u s) f = f
  candidate_sound (event fail failure u s) f = f
  candidate_sound (event fail (equal l r) u s) f =
      given_unifier PartsSound (M.unify s l r) _ _ (λ h. f) (λ m h. (f.0, f.1, (lawful.unifier_sound s l r m f.2 f.0.0 f.0.1 h, f.2)))
  candidate_sound (event fail (conj a b) u s) f = (f.0.0, (f.0, f.1), f.2)
  candidate_sound (event fail (disj a b) u s) f = (f.0.1, (f.0, f.1), f.2)
  candidate_sound (event fail (atom p ts) u s) f =
      given_body PartsSound (M.body p ts u s) _ _ (λ h. f) (λ g h. (lawful.body_formed p ts u s g f.0 f.1 f.2 h, (f.0, f.1), f.2))
  candidate_sound (event redo g [] s) f = tt
  candidate_sound (event redo g (in_conj first a b ∷ u) s) f = given_matching PartsSound (goal? g a) _ (λ h. (f.1.0.1, f.1, f.2))
  candidate_sound (event redo g (in_conj second a b ∷ u) s) f = given_matching PartsSound (goal? g b) _ (λ h. (f.1.0, f.1.1, f.2))
  candidate_sound (event redo g (in_disj n a b ∷ u) s) f =
      given_matching PartsSound (goal? g (selected n a b)) _ (λ h. (f.1.0, f.1.1, ((tt, refl), f.2)))
  candidate_sound (event redo g (called p ts ∷ u) s) f = (f.1.0, f.1.1, ((f.0, refl), f.2))

  step_parts : (d : Direction) (e c : Event) → PartsSound e → step M d e ≡ gives c → PartsSound c
  unfolding step
  step_parts forward e c f h = subst (Given PartsSound) (forward_by_rule M e c h) (rule_sound e f)
  step_parts back e c f h = subst (Given PartsSound) (back_candidate M e c h) (candidate_sound e f)

  -- an accepted step, either way, from an event that a record can hold gives one that a record can hold
  pub step_formed : (d : Direction) (e c : Event) → EventSound e → Admits M e → step M d e ≡ gives c → EventSound c × Admits M c
  step_formed d e c f l h =
      let k = step_admitted M lawful.limits d e c l h in
      (lawful.admitted_sound c (step_parts d e c (parts_sound e f) h) k, k)
