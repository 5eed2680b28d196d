-- Laws of substitution in goals: one after another, and where two agree.
use Rattle.std.specs.Prelude.{◌≡◌, refl, ℕ}
use Rattle.std.proofs.Common.{ap, ap₂}
use Rattle.records.specs.Format.Syntax.{Goal}
use Rattle.records.specs.Format.Syntax.Goal.{truth, failure, equal, conj, disj, atom}
use Rattle.records.specs.Gate.RecordRules.{term_variables, goal_variables}
use Rattle.terms.specs.Theory.Substitution.{Substitution, and_then}
use Rattle.terms.specs.Theory.SubstitutionLaws.{substitute_twice, substitute_all_twice, substitute_agree, substitute_all_agree}
use Rattle.terms.specs.Theory.Variables.{Among}
use Rattle.terms.specs.Theory.VariablesLaws.{among_left, among_right, occurs_among, occurs_in_among}
use Rattle.terms.specs.Body.Body.{substitute_goal}

pub substitute_goal_twice : (θ σ : Substitution) (g : Goal) → substitute_goal θ (substitute_goal σ g) ≡ substitute_goal (and_then σ θ) g
substitute_goal_twice θ σ truth = refl
substitute_goal_twice θ σ failure = refl
substitute_goal_twice θ σ (equal t u) = ap₂ equal (substitute_twice θ σ t) (substitute_twice θ σ u)
substitute_goal_twice θ σ (conj a b) = ap₂ conj (substitute_goal_twice θ σ a) (substitute_goal_twice θ σ b)
substitute_goal_twice θ σ (disj a b) = ap₂ disj (substitute_goal_twice θ σ a) (substitute_goal_twice θ σ b)
substitute_goal_twice θ σ (atom p ts) = ap (atom p) (substitute_all_twice θ σ ts)

-- substitutions that agree at the variables of a goal agree at the goal
pub substitute_goal_agree : (θ σ : Substitution) (g : Goal) → ((v : ℕ) → Among v (goal_variables g) → θ v ≡ σ v)
    → substitute_goal θ g ≡ substitute_goal σ g
substitute_goal_agree θ σ truth h = refl
substitute_goal_agree θ σ failure h = refl
substitute_goal_agree θ σ (equal t u) h =
    ap₂ equal (substitute_agree θ σ t (λ v o. h v (among_left v (term_variables t) (term_variables u) (occurs_among v t o))))
    (substitute_agree θ σ u (λ v o. h v (among_right v (term_variables t) (term_variables u) (occurs_among v u o))))
substitute_goal_agree θ σ (conj a b) h =
    ap₂ conj (substitute_goal_agree θ σ a (λ v o. h v (among_left v (goal_variables a) (goal_variables b) o)))
    (substitute_goal_agree θ σ b (λ v o. h v (among_right v (goal_variables a) (goal_variables b) o)))
substitute_goal_agree θ σ (disj a b) h =
    ap₂ disj (substitute_goal_agree θ σ a (λ v o. h v (among_left v (goal_variables a) (goal_variables b) o)))
    (substitute_goal_agree θ σ b (λ v o. h v (among_right v (goal_variables a) (goal_variables b) o)))
substitute_goal_agree θ σ (atom p ts) h = ap (atom p) (substitute_all_agree θ σ ts (λ v o. h v (occurs_in_among v ts o)))
