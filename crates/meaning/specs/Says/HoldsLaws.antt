-- Laws of what holds: what a goal that holds is made of, and that it holds however its variables are filled.
use Rattle.std.specs.Prelude.{◌≡◌, refl, ◌⊎◌, List, ℕ, zero, suc, ◌+◌}
use Rattle.std.proofs.Common.{sym, ◌∙◌, ap, subst, inl, inr}
use Rattle.records.specs.Format.Syntax.{var, Terms, nil, cons, Goal, truth, failure, equal, conj, disj, atom, Definition}
use Rattle.terms.specs.Theory.Substitution.{Substitution, substitute, substitute_all, and_then}
use Rattle.terms.specs.Theory.SubstitutionLaws.{arity_substitute}
use Rattle.terms.specs.Body.Body.{numbered, substitute_goal, definition_of}
use Rattle.terms.specs.Body.GoalLaws.{substitute_goal_twice, substitute_goal_agree}
use Rattle.meaning.specs.Says.Holds.{Derived, true_holds, equal_holds, both_hold, left_holds, right_holds, atom_holds, with_terms, DefinitionBody, Holds}

module _ (Bodies : ℕ → Terms → Goal → Type 0) where
  -- what a goal that holds is made of
  abbrev pub MadeOf : Goal → Type 0
  MadeOf truth = Unit {0}
  MadeOf failure = ⊥
  MadeOf (equal t u) = t ≡ u
  MadeOf (conj a b) = Derived Bodies a × Derived Bodies b
  MadeOf (disj a b) = Derived Bodies a ⊎ Derived Bodies b
  MadeOf (atom p ts) = (b : Goal) × Bodies p ts b × Derived Bodies b

  pub made_of : (g : Goal) → Derived Bodies g → MadeOf g
  made_of g true_holds = tt
  made_of g equal_holds = refl
  made_of g (both_hold x y) = (x, y)
  made_of g (left_holds x) = inl x
  made_of g (right_holds x) = inr x
  made_of g (atom_holds {b = b} m x) = (b, m, x)

  pub holds_same : (g h : Goal) → g ≡ h → Derived Bodies g → Derived Bodies h
  holds_same g h e d = subst (Derived Bodies) e d

-- terms for head and locals, and then a substitution: the substituted terms
with_terms_then : (θ : Substitution) (ts : Terms) (δ : Substitution) (v : ℕ)
    → substitute θ (with_terms ts δ v) ≡ with_terms (substitute_all θ ts) (and_then δ θ) v
with_terms_then θ nil δ v = refl
with_terms_then θ (cons t ts) δ zero = refl
with_terms_then θ (cons t ts) δ (suc v) = with_terms_then θ ts δ v

pub with_terms_agree : (ts : Terms) (δ ε : Substitution) → ((i : ℕ) → δ i ≡ ε i) → (v : ℕ) → with_terms ts δ v ≡ with_terms ts ε v
with_terms_agree nil δ ε h v = h v
with_terms_agree (cons t ts) δ ε h zero = refl
with_terms_agree (cons t ts) δ ε h (suc v) = with_terms_agree ts δ ε h v

-- the numbered body of a call has variables for its locals
numbered_with_terms : (ts : Terms) (m v : ℕ) → numbered ts m v ≡ with_terms ts (λ i. var (m + i)) v
numbered_with_terms nil m v = refl
numbered_with_terms (cons t ts) m zero = refl
numbered_with_terms (cons t ts) m (suc v) = numbered_with_terms ts m v

-- so under a substitution it has terms for them
pub numbered_then : (θ : Substitution) (ts : Terms) (m : ℕ) (b : Goal)
    → substitute_goal θ (substitute_goal (numbered ts m) b) ≡ substitute_goal (with_terms (substitute_all θ ts) (λ i. θ (m + i))) b
numbered_then θ ts m b =
    substitute_goal_twice θ (numbered ts m) b
    ∙ substitute_goal_agree _ _ b (λ v o. ap (substitute θ) (numbered_with_terms ts m v) ∙ with_terms_then θ ts (λ i. var (m + i)) v)

-- What holds, holds however its variables are filled.
pub holds_instance : (P : List Definition) (θ : Substitution) (g : Goal) → Holds P g → Holds P (substitute_goal θ g)
holds_instance P θ g true_holds = true_holds
holds_instance P θ g equal_holds = equal_holds
holds_instance P θ g (both_hold {a} {b} x y) = both_hold (holds_instance P θ a x) (holds_instance P θ b y)
holds_instance P θ g (left_holds {a} x) = left_holds (holds_instance P θ a x)
holds_instance P θ g (right_holds {b = b} x) = right_holds (holds_instance P θ b x)
holds_instance P θ g (atom_holds {p} {ts} {b} m x) = atom_holds filled (holds_instance P θ b x)
  where
    filled : DefinitionBody P p (substitute_all θ ts) (substitute_goal θ b)
    filled = record {
      predicate = m.predicate;
      heads = m.heads;
      locals = m.locals;
      goal = m.goal;
      found = ap (definition_of P p) (arity_substitute θ ts) ∙ m.found;
      terms = and_then m.terms θ;
      is = sym (substitute_goal_twice θ (with_terms ts m.terms) m.goal ∙ substitute_goal_agree _ _ m.goal (λ v o. with_terms_then θ ts m.terms v))
          ∙ ap (substitute_goal θ) m.is;
    }
