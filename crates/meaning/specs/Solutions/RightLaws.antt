-- Right: at every exit of a reached event the goal holds under the bets, however the variables that stay free are filled.
-- The walk's own record of a solution is `Solved`. Nothing here asks that locals are new: an answer is right even where one is missed.
use Rattle.std.specs.Prelude.{◌≡◌, refl, List, [], ◌∷◌, ◌++◌, ℕ, ◌+◌}
use Rattle.std.proofs.Common.{sym, ◌∙◌, ap, subst, append_assoc}
use Rattle.records.specs.Format.Syntax.{Term, Terms, Goal, equal, disj, atom, Half, first, second, Ancestor, Binding, Bet, unifier, or, by, exit, Event, event, Definition}
use Rattle.terms.specs.Theory.Substitution.{Substitution, substitute, substitute_all, and_then, as_substitution, apply}
use Rattle.terms.specs.Values.Entries.{under}
use Rattle.terms.specs.Theory.SubstitutionLaws.{substitute_twice, arity_substitute}
use Rattle.terms.specs.Values.EntryLaws.{apply_variables, under_append}
use Rattle.terms.specs.Theory.Outcome.{Meant, unified}
use Rattle.terms.specs.Body.Body.{substitute_goal, definition_of}
use Rattle.terms.specs.Body.BodyLaws.{MadeFrom}
use Rattle.terms.specs.Body.GoalLaws.{substitute_goal_agree}
use Rattle.stepper.specs.Rules.Machine.{Machine}
use Rattle.stepper.specs.Rules.Rules.{selected}
use Rattle.stepper.specs.Walks.Legal.{Solved, by_truth, by_equal, by_conj, by_disj, by_atom}
use Rattle.stepper.specs.Walks.Reached.{Reached}
use Rattle.stepper.specs.Walks.ReachedLaws.{Anything, reached_legal}
use Rattle.meaning.specs.Says.Holds.{true_holds, equal_holds, both_hold, left_holds, right_holds, atom_holds, DefinitionBody, Holds}
use Rattle.meaning.specs.Says.HoldsLaws.{numbered_then, holds_same}
use Rattle.meaning.specs.Solutions.Faithful.{Faithful}

-- OR and BY do nothing
pub under_or : (n : Half) (s : List Bet) (v : ℕ) → under (or n ∷ s) v ≡ under s v
unfolding apply
under_or n s v = refl

pub under_by : (g : Goal) (s : List Bet) (v : ℕ) → under (by g ∷ s) v ≡ under s v
unfolding apply
under_by g s v = refl

-- a unifier comes after the bets below it
pub apply_unifier : (m : List Binding) (s : List Bet) (t : Term) → apply (unifier m ∷ s) t ≡ substitute (as_substitution m) (apply s t)
unfolding apply
apply_unifier m s t = refl

module _ (s : List Bet) (ρ : Substitution) where
  -- a term under a stack and then a substitution
  pub applied_then : (t : Term) → substitute (and_then (under s) ρ) t ≡ substitute ρ (apply s t)
  applied_then t = sym (substitute_twice ρ (under s) t) ∙ ap (substitute ρ) (apply_variables s t)

module _ (M : Machine) (q : Goal) (Seen : Event → Type 0) where
  -- what a goal puts on while it is solved lies on the bets that it was called with
  grows : {g : Goal} {u : List Ancestor} {s t : List Bet} → Solved M q Seen g u s t → (upper : List Bet) × (t ≡ upper ++ s)
  grows by_truth = ([], refl)
  grows (by_equal {m = m} h) = (unifier m ∷ [], refl)
  grows (by_conj {s = s} y _ _ z _ _) =
      let (a, d) = grows y in
      let (b, e) = grows z in
      (b ++ a, e ∙ ap (λ l. b ++ l) d ∙ sym (append_assoc b a s))
  grows (by_disj n y _ _) = let (a, d) = grows y in (or n ∷ a, ap (λ l. or n ∷ l) d)
  grows (by_atom {g = b} _ y _ _) = let (a, d) = grows y in (by b ∷ a, ap (λ l. by b ∷ l) d)

  module _ (P : List Definition) (faithful : Faithful P M) where
    half_right : (θ : Substitution) (n : Half) (a b : Goal) → Holds P (substitute_goal θ (selected n a b)) → Holds P (substitute_goal θ (disj a b))
    unfolding selected
    half_right θ first a b h = left_holds h
    half_right θ second a b h = right_holds h

    -- a numbered body under a substitution makes the atom hold
    body_right : (θ : Substitution) (p : ℕ) (ts : Terms) (m : ℕ) (g : Goal) → MadeFrom P p ts m g → Holds P (substitute_goal θ g)
        → Holds P (substitute_goal θ (atom p ts))
    body_right θ p ts m g b h = atom_holds made h
      where
        made : DefinitionBody P p (substitute_all θ ts) (substitute_goal θ g)
        made = record {
          predicate = b.predicate;
          heads = b.heads;
          locals = b.locals;
          goal = b.goal;
          found = ap (definition_of P p) (arity_substitute θ ts) ∙ b.found;
          terms = λ i. θ (m + i);
          is = sym (numbered_then θ ts m b.goal) ∙ ap (substitute_goal θ) b.is;
        }

    -- the two terms are equal under the unifier and what comes after it
    equal_right : (s : List Bet) (l r : Term) (m : List Binding) (ρ : Substitution) → M.unify s l r ≡ unified m
        → substitute (and_then (under (unifier m ∷ s)) ρ) l ≡ substitute (and_then (under (unifier m ∷ s)) ρ) r
    equal_right s l r m ρ h =
        let z : Meant s l r (unified m) = subst (Meant s l r) h (faithful.unifies s l r) in
        side l ∙ ap (substitute ρ) z.1.unifies ∙ sym (side r)
      where
        side : (t : Term) → substitute (and_then (under (unifier m ∷ s)) ρ) t ≡ substitute ρ (substitute (as_substitution m) (apply s t))
        side t = applied_then (unifier m ∷ s) ρ t ∙ ap (substitute ρ) (apply_unifier m s t)

    -- bets that make the same of all variables
    same_under : (s t : List Bet) (ρ : Substitution) (g : Goal) → ((v : ℕ) → under s v ≡ under t v)
        → Holds P (substitute_goal (and_then (under t) ρ) g) → Holds P (substitute_goal (and_then (under s) ρ) g)
    same_under s t ρ g e = holds_same (DefinitionBody P) _ _ (substitute_goal_agree _ _ g (λ v o. ap (substitute ρ) (sym (e v))))

    -- bets that were put on later, and then ρ, are one of the ways to fill what stays free
    later_right : (upper s t : List Bet) (ρ : Substitution) (g : Goal) → t ≡ upper ++ s
        → Holds P (substitute_goal (and_then (under s) (and_then (under upper) ρ)) g) → Holds P (substitute_goal (and_then (under t) ρ) g)
    later_right upper s t ρ g e =
        holds_same (DefinitionBody P) _ _ (substitute_goal_agree _ _ g (λ v o.
        sym (ap (λ x. and_then (under x) ρ v) e ∙ ap (substitute ρ) (under_append upper s v) ∙ substitute_twice ρ (under upper) (under s v))))

    -- Right, for a solution: the goal holds under the bets that it exits with, and whatever is substituted after them.
    solved_right : (g : Goal) (u : List Ancestor) (s t : List Bet) → Solved M q Seen g u s t
        → (ρ : Substitution) → Holds P (substitute_goal (and_then (under t) ρ) g)
    solved_right g u s t by_truth ρ = true_holds
    solved_right g u s t (by_equal {l} {r} {m = m} h) ρ =
        holds_same (DefinitionBody P) _ _ (ap (equal (substitute (and_then (under t) ρ) l)) (equal_right s l r m ρ h)) equal_holds
    solved_right g u s t (by_conj {a} {b} {t = r} y _ _ z _ _) ρ =
        let (upper, e) = grows z in
        both_hold (later_right upper r t ρ a e (solved_right a _ s r y (and_then (under upper) ρ))) (solved_right b _ r t z ρ)
    solved_right g u s t (by_disj {a} {b} {t = r} n y _ _) ρ =
        half_right (and_then (under t) ρ) n a b (same_under t r ρ (selected n a b) (under_or n r) (solved_right (selected n a b) _ s r y ρ))
    solved_right g u s t (by_atom {p} {ts} {t = r} {g = b} h y _ _) ρ =
        let (m, made) = faithful.made p ts u s b h in
        body_right (and_then (under t) ρ) p ts m b made (same_under t r ρ b (under_by b r) (solved_right b _ s r y ρ))

-- Right, at every exit of a reached event.
pub reached_right : (P : List Definition) (M : Machine) → Faithful P M
    → (q : Goal) (n : ℕ) (g : Goal) (u : List Ancestor) (s : List Bet) → Reached M q n (event exit g u s)
    → (ρ : Substitution) → Holds P (substitute_goal (and_then (under s) ρ) g)
reached_right P M f q n g u s h ρ =
    let (r, _, _, solved) = reached_legal M q Anything n (event exit g u s) (λ d k. tt) h in
    solved_right M q Anything P f g u r s solved ρ
