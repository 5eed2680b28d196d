-- The unifier of well-formed terms is well formed, and that of two short terms has few bindings.
use Rattle.std.specs.Prelude.{◌≡◌, refl, List, [], ◌∷◌, ℕ, zero, suc, ◌+◌, ◌*◌, ◌≤◌, ◌<◌, length}
use Rattle.std.proofs.Common.{inl, inr, arith}
use Rattle.std.proofs.Math.Logic.{ite}
use Rattle.std.proofs.Math.Option.{Option, none, some}
use Rattle.std.proofs.Math.Decide.{ℕ_discrete}
use Rattle.records.specs.Format.Never.{never}
use Rattle.records.specs.Format.Syntax.{Term, Terms, Binding}
use Rattle.records.specs.Format.Syntax.Term.{var, app}
use Rattle.records.specs.Format.Syntax.Terms.{nil, cons}
use Rattle.records.specs.Format.Syntax.Binding.{bind}
use Rattle.records.specs.Format.Formed.{TermFormed, TermsFormed, All, BindingFormed}
use Rattle.records.specs.Ends.Above.{above}
use Rattle.terms.specs.Theory.Substitution.{Substitution, substitute, occurs_in?, term_length}
use Rattle.terms.specs.Theory.FormedLaws.{SubstitutionFormed, formed_substitute, occurs_formed}
use Rattle.terms.specs.Theory.Variables.{Among, both_variables, without}
use Rattle.terms.specs.Theory.VariablesLaws.{either_among, among_both, above_least, without_shorter, without_keeps, both_variables_length}
use Rattle.terms.specs.Theory.Mgu.{Binds, Rises}
use Rattle.terms.specs.Theory.MguLaws.{rises_least}
use Rattle.terms.specs.Theory.Unify.{
  Compared,
  less,
  same,
  more,
  compare,
  Difference,
  alike,
  clash,
  differ,
  of_variables,
  first_difference,
  difference,
  differences,
  single,
  followed,
  remove,
  bindings,
  bindings_below,
  unifying,
  unify,
}
use Rattle.terms.specs.Theory.BindingsLaws.{Putting, itself, put, putting}
use Rattle.terms.specs.Theory.UnifyLaws.{unify_mgu}

-- The leftmost difference of well-formed terms, and what comes of removing differences.
abbrev DifferenceFormed : Difference → Type 0
DifferenceFormed alike = Unit {0}
DifferenceFormed clash = Unit {0}
DifferenceFormed (differ x u) = TermFormed u

variables_formed : (x y : ℕ) (c : Compared x y) → x < 65536 → y < 65536 → DifferenceFormed (of_variables x y c)
variables_formed x y (less l) h k = h
variables_formed x y (same e) h k = tt
variables_formed x y (more l) h k = k

choose_formed : {A : Type 0} (c : Dec A) (d e : Difference) → DifferenceFormed d → DifferenceFormed e → DifferenceFormed (ite c d e)
choose_formed (yes _) d e h k = h
choose_formed (no _) d e h k = k

first_formed : (d e : Difference) → DifferenceFormed d → DifferenceFormed e → DifferenceFormed (first_difference d e)
first_formed alike e h k = k
first_formed clash e h k = tt
first_formed (differ x u) e h k = h

mutual
  difference_formed : (s t : Term) → TermFormed s → TermFormed t → DifferenceFormed (difference s t)
  difference_formed (var x) (var y) h k = variables_formed x y (compare x y) h k
  difference_formed (var x) (app g us) h k = choose_formed (occurs_in? x us) clash (differ x (app g us)) tt k
  difference_formed (app f ts) (var y) h k = choose_formed (occurs_in? y ts) clash (differ y (app f ts)) tt h
  difference_formed (app f ts) (app g us) h k =
      choose_formed (ℕ_discrete f g) (differences ts us) clash (differences_formed ts us h.2 k.2) tt

  differences_formed : (ts us : Terms) → TermsFormed ts → TermsFormed us → DifferenceFormed (differences ts us)
  differences_formed nil nil h k = tt
  differences_formed nil (cons u us) h k = tt
  differences_formed (cons t ts) nil h k = tt
  differences_formed (cons t ts) (cons u us) h k =
      first_formed (difference t u) (differences ts us) (difference_formed t u h.0 k.0) (differences_formed ts us h.1 k.1)

abbrev FoundFormed : Option Substitution → Type 0
FoundFormed none = Unit {0}
FoundFormed (some θ) = SubstitutionFormed θ

single_formed : (x : ℕ) (u : Term) → TermFormed u → SubstitutionFormed (single x u)
single_formed x u h v l = go (ℕ_discrete v x)
  where
    go : (d : Dec (v ≡ x)) → TermFormed (ite d u (var v))
    go (yes _) = h
    go (no _) = l

after_formed : (b : Substitution) (r : Option Substitution) → SubstitutionFormed b → FoundFormed r → FoundFormed (followed b r)
after_formed b none h k = tt
after_formed b (some τ) h k = λ v l. formed_substitute τ (b v) k (h v l)

remove_formed : (n : ℕ) (d : Difference) (s t : Term) → DifferenceFormed d → TermFormed s → TermFormed t → FoundFormed (remove n d s t)
remove_formed zero alike s t g h k = λ v l. l
remove_formed zero clash s t g h k = tt
remove_formed zero (differ x u) s t g h k = tt
remove_formed (suc n) alike s t g h k = λ v l. l
remove_formed (suc n) clash s t g h k = tt
remove_formed (suc n) (differ x u) s t g h k =
    let s' = substitute (single x u) s in
    let t' = substitute (single x u) t in
    let h' = formed_substitute (single x u) s (single_formed x u g) h in
    let k' = formed_substitute (single x u) t (single_formed x u g) k in
    after_formed (single x u) (remove n (difference s' t') s' t') (single_formed x u g)
    (remove_formed n (difference s' t') s' t' (difference_formed s' t' h' k') h' k')

bindings_formed : (k n : ℕ) (θ : Substitution) → k + n ≤ 65536 → SubstitutionFormed θ → All BindingFormed (bindings k n θ)
bindings_formed k zero θ b h = tt
bindings_formed k (suc n) θ b h = go (putting k (θ k) (bindings (suc k) n θ)) (bindings_formed (suc k) n θ (omega arith) h)
  where
    go : Putting k (θ k) (bindings (suc k) n θ) → All BindingFormed (bindings (suc k) n θ) → All BindingFormed (bindings k (suc n) θ)
    go (itself e p) r = rw p r
    go (put m p) r = rw p ((omega arith, h k (omega arith)), r)

-- the unifier of well-formed terms is a list of well-formed bindings
pub unify_formed : (s t : Term) (σ : List Binding) → unify s t ≡ some σ → TermFormed s → TermFormed t → All BindingFormed σ
unfolding unify
unify_formed s t σ e h k =
    go (unifying s t) (remove_formed (length (both_variables s t)) (difference s t) s t (difference_formed s t h k) h k) e
  where
    n : ℕ
    n = above (both_variables s t)

    small : (v : ℕ) → Among v (both_variables s t) → v < 65536
    small v o = elim (among_both v s t o) [ inl p ↦ occurs_formed v s h p | inr p ↦ occurs_formed v t k p ]

    go : (r : Option Substitution) → FoundFormed r → bindings_below n r ≡ some σ → All BindingFormed σ
    go none f p = never cc
    go (some θ) f p =
        let q : bindings 0 n θ ≡ σ = cc in
        let b = above_least 65536 (both_variables s t) small in
        rw q at (bindings_formed 0 n θ (omega arith) f)

-- A rising list of bindings whose variables all stand in a list is no longer than that list.
rises_shorter : (n : ℕ) (σ : List Binding) (l : List ℕ) → Rises n σ → ((x : ℕ) (u : Term) → Binds σ x u → Among x l) → length σ ≤ length l
rises_shorter n [] l r h = omega arith
rises_shorter n (bind x t ∷ σ) l r h =
    let k = without_shorter x l (h x t (inl (refl, refl))) in
    let j = rises_shorter (suc x) σ (without x l) r.1
    (λ y u b. without_keeps x y l (λ e. let z = rises_least (suc x) σ r.1 y u b in omega arith) (h y u (inr b))) in
    omega arith

-- each binding has its variable in one of the terms, which takes three bytes
pub unify_length : (s t : Term) (σ : List Binding) → unify s t ≡ some σ → 3 * length σ ≤ term_length s + term_length t
unify_length s t σ e =
    let m = unify_mgu s t σ e in
    let h = rises_shorter 0 σ (both_variables s t) m.rising (λ x u b. either_among x s t (m.only x u b).0) in
    let k = both_variables_length s t in
    omega arith
