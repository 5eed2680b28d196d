-- Laws of the questions that the rules are made of: what holds of the event that an answer gives, if it gives one.
use Rattle.std.specs.Prelude.{◌≡◌, refl, ◌↔◌, Bool, true, false, List, [], ◌∷◌}
use Rattle.std.proofs.Common.{sym, ap, subst}
use Rattle.std.proofs.Math.Option.{Option, none, some, none-ne-some, some-injective}
use Rattle.records.specs.Format.Never.{never}
use Rattle.records.specs.Format.Syntax.{Goal, Half, Binding, Bet, unifier, or, by, Event, goal?}
use Rattle.records.specs.Gate.Question.{Question, matches}
use Rattle.terms.specs.Theory.Outcome.{Unified, too_large, clash, unified}
use Rattle.terms.specs.Body.Body.{Body, too_many, undefined, defined}
use Rattle.stepper.specs.Rules.Machine.{StepOutcome, refused, gives}
use Rattle.stepper.specs.Rules.Rules.{matching, top_unifier, top_or, top_by, by_unifier, by_body, fitting, accepted}

-- Φ of the event that an answer gives, if it gives one
abbrev pub Given : (Event → Type 0) → StepOutcome → Type 0
Given Φ (refused q) = Unit {0}
Given Φ (gives e) = Φ e

pub given_matching {ℓ} : {P : Type ℓ} (Φ : Event → Type 0) (d : Dec P) (e : Event) → (P → Φ e) → Given Φ (matching d e)
unfolding matching
given_matching Φ (yes p) e k = k p
given_matching Φ (no p) e k = tt

-- a side that asks for the goal a: it is enough to show what is claimed for a itself
pub given_goal : (Φ : Goal → Event → Type 0) (g a : Goal) (e : Event) → Φ a e → Given (Φ g) (matching (goal? g a) e)
given_goal Φ g a e h = given_matching (Φ g) (goal? g a) e (λ k. subst (λ x. Φ x e) (sym k) h)

pub given_unifier : (Φ : Event → Type 0) (x : Unified) (c : Event) (k : List Binding → Event)
    → (x ≡ clash → Φ c) → ((m : List Binding) → x ≡ unified m → Φ (k m)) → Given Φ (by_unifier x c k)
unfolding by_unifier
given_unifier Φ too_large c k f g = tt
given_unifier Φ clash c k f g = f refl
given_unifier Φ (unified m) c k f g = g m refl

pub given_body : (Φ : Event → Type 0) (x : Body) (c : Event) (k : Goal → Event)
    → (x ≡ undefined → Φ c) → ((g : Goal) → x ≡ defined g → Φ (k g)) → Given Φ (by_body x c k)
unfolding by_body
given_body Φ too_many c k f g = tt
given_body Φ undefined c k f g = f refl
given_body Φ (defined b) c k f g = g b refl

-- one event either way, where questions 8 and 9 say yes
pub unifier_either : (x : Unified) (c : Event) → (x ≡ too_large → ⊥) → by_unifier x c (λ m. c) ≡ gives c
unfolding by_unifier
unifier_either too_large c h = absurd (h refl)
unifier_either clash c h = refl
unifier_either (unified m) c h = refl

pub body_either : (x : Body) (c : Event) → (x ≡ too_many → ⊥) → by_body x c (λ g. c) ≡ gives c
unfolding by_body
body_either too_many c h = absurd (h refl)
body_either undefined c h = refl
body_either (defined g) c h = refl

pub given_unifier_either : (Φ : Event → Type 0) (x : Unified) (c : Event) → ((x ≡ too_large → ⊥) → Φ c) → Given Φ (by_unifier x c (λ m. c))
given_unifier_either Φ x c f = given_unifier Φ x c (λ m. c) (λ h. f (λ k. never cc)) (λ m h. f (λ k. never cc))

pub given_body_either : (Φ : Event → Type 0) (x : Body) (c : Event) → ((x ≡ too_many → ⊥) → Φ c) → Given Φ (by_body x c (λ g. c))
given_body_either Φ x c f = given_body Φ x c (λ g. c) (λ h. f (λ k. never cc)) (λ g h. f (λ k. never cc))

-- the same for the bet on top; what is claimed may speak of the whole stack
pub given_top_unifier : (Φ : List Bet → Event → Type 0) (s : List Bet) (k : List Binding → List Bet → StepOutcome)
    → ((m : List Binding) (t : List Bet) → Given (Φ (unifier m ∷ t)) (k m t)) → Given (Φ s) (top_unifier s k)
unfolding top_unifier
given_top_unifier Φ [] k f = tt
given_top_unifier Φ (unifier m ∷ s) k f = f m s
given_top_unifier Φ (or n ∷ s) k f = tt
given_top_unifier Φ (by g ∷ s) k f = tt

pub given_top_or : (Φ : List Bet → Event → Type 0) (s : List Bet) (k : Half → List Bet → StepOutcome)
    → ((n : Half) (t : List Bet) → Given (Φ (or n ∷ t)) (k n t)) → Given (Φ s) (top_or s k)
unfolding top_or
given_top_or Φ [] k f = tt
given_top_or Φ (unifier m ∷ s) k f = tt
given_top_or Φ (or n ∷ s) k f = f n s
given_top_or Φ (by g ∷ s) k f = tt

pub given_top_by : (Φ : List Bet → Event → Type 0) (s : List Bet) (k : Goal → List Bet → StepOutcome)
    → ((g : Goal) (t : List Bet) → Given (Φ (by g ∷ t)) (k g t)) → Given (Φ s) (top_by s k)
unfolding top_by
given_top_by Φ [] k f = tt
given_top_by Φ (unifier m ∷ s) k f = tt
given_top_by Φ (or n ∷ s) k f = tt
given_top_by Φ (by g ∷ s) k f = f g s

-- a side that matches is taken
pub matching_yes {ℓ} : {P : Type ℓ} (d : Dec P) (e : Event) → P → matching d e ≡ gives e
unfolding matching
matching_yes (yes p) e h = refl
matching_yes (no p) e h = absurd (p h)

pub matching_gives {ℓ} : {P : Type ℓ} (d : Dec P) (e c : Event) → matching d e ≡ gives c → P × (e ≡ c)
unfolding matching
matching_gives (yes p) e c h = (p, cc)
matching_gives (no p) e c h = never cc

pub matching_no {ℓ} : {P : Type ℓ} (d : Dec P) (e : Event) → (P → ⊥) → matching d e ≡ refused matches
unfolding matching
matching_no (yes p) e h = absurd (h p)
matching_no (no p) e h = refl

pub matching_refused {ℓ} : {P : Type ℓ} (d : Dec P) (e : Event) (q : Question) → matching d e ≡ refused q → (P → ⊥) × (matches ≡ q)
unfolding matching
matching_refused (yes p) e q h = never cc
matching_refused (no p) e q h = (p, cc)

-- two tests that agree give one answer
pub matching_iff {ℓ κ} : {P : Type ℓ} {Q : Type κ} (d : Dec P) (k : Dec Q) (c : Event) → (P → Q) → (Q → P) → matching d c ≡ matching k c
unfolding matching
matching_iff (yes p) (yes q) c f g = refl
matching_iff (yes p) (no q) c f g = absurd (q (f p))
matching_iff (no p) (yes q) c f g = absurd (p (g q))
matching_iff (no p) (no q) c f g = refl

-- questions 5 and 10 only refuse
pub fitting_gives : (b : Bool) (o : Option Question) (a : StepOutcome) (c : Event) → fitting b o a ≡ gives c → a ≡ gives c
unfolding fitting
fitting_gives true o a c h = h
fitting_gives false none a c h = h
fitting_gives false (some q) a c h = never cc

-- where question 10 is put and says yes
pub fitting_put : (o : Option Question) (a : StepOutcome) (c : Event) → fitting false o a ≡ gives c → (o ≡ none) × (a ≡ gives c)
unfolding fitting
fitting_put none a c h = (refl, h)
fitting_put (some q) a c h = never cc

-- where it says no
pub fitting_refused : (b : Bool) (o : Option Question) (e : Event) (q : Question) → fitting b o (gives e) ≡ refused q → (b ≡ false) × (o ≡ some q)
unfolding fitting
fitting_refused true o e q h = never cc
fitting_refused false none e q h = never cc
fitting_refused false (some p) e q h = (refl, cc)

-- a result is given exactly when the question is not put or says yes
pub fitting_iff : (b : Bool) (o : Option Question) (e : Event) → (fitting b o (gives e) ≡ gives e) ↔ (b ≡ false → o ≡ none)
unfolding fitting
fitting_iff true o e = (λ h k. never k, λ h. refl)
fitting_iff false none e = (λ h k. refl, λ h. refl)
fitting_iff false (some q) e = (λ h. never cc, λ h. absurd (none-ne-some q (sym (h refl))))

-- a result that passes question 10 is given, whether the question is put or not
pub fitting_none : (b : Bool) (a : StepOutcome) → fitting b none a ≡ a
unfolding fitting
fitting_none true a = refl
fitting_none false a = refl

-- where the question is not put or says yes
pub fitting_passes : (b : Bool) (o : Option Question) (a : StepOutcome) → (b ≡ false → o ≡ none) → fitting b o a ≡ a
unfolding fitting
fitting_passes true o a h = refl
fitting_passes false none a h = refl
fitting_passes false (some q) a h = absurd (none-ne-some q (sym (h refl)))

-- a step is accepted exactly when it gives an event
pub accepted_gives : (a : StepOutcome) (d : Event) → accepted a ≡ some d → a ≡ gives d
unfolding accepted
accepted_gives (refused q) d h = absurd (none-ne-some d h)
accepted_gives (gives e) d h = ap gives (some-injective e d h)

pub gives_accepted : (a : StepOutcome) (d : Event) → a ≡ gives d → accepted a ≡ some d
unfolding accepted
gives_accepted a d h = ap accepted h
