-- What the code that looks for ends returns, from what a head or a callee said.
use Rattle.std.specs.Prelude.{Option, Some, None, IfSome}
use Prim.Native.Nat.{ℕ, ◌+◌, ◌-◌, ◌≤◌}
use native.Mathlib.Nat.{add-zero}
use native.Mathlib.Omega.{arith}
use mathlib.Core.Path.{◌≡◌, refl, sym, ◌∙◌}
use mathlib.Core.List.{List}
use lib.ListN.{length}
use Rattle.records.specs.Format.Heads.{term_head_at, goal_head_at}
use Rattle.records.specs.Format.HeadLaws.{Known}
use Rattle.records.specs.Ends.Traversal.{end_at}
use Rattle.records.specs.Ends.EndLaws.{onward, end_step, end_by_heads, end_then, end_never, end_bound}
use Rattle.records.specs.declared.heads.TermHead.{TermHead}
use Rattle.records.specs.declared.heads.TermHead.TheVariants.{Variable, Symbol}

-- h is the head of the term at `at`
module _ (s : List ℕ) (at : ℕ) {h : Option TermHead} (is : h ≡ term_head_at s at) where
  term_by : end_at s at 1 0 ≡ end_step s at 1 0 h (goal_head_at s at)
  term_by = rw is (end_by_heads s at 1 0)

  pub variable_end : {v : ℕ} → h ≡ (Some (Variable v)) → Some (at + 3) ≡ end_at s at 1 0
  variable_end e = sym (term_by ∙ rw e (end_by_heads s (at + 3) 0 0))

  pub symbol_end : {f k : ℕ} {r : Option ℕ} → h ≡ (Some (Symbol f k)) → r ≡ end_at s (at + 4) k 0 → r ≡ end_at s at 1 0
  symbol_end {k = k} e q = q ∙ sym (term_by ∙ rw (e, add-zero))

  pub no_end : h ≡ None → None ≡ end_at s at 1 0
  no_end e = sym (term_by ∙ rw e)

pub no_args : (s : List ℕ) (at k : ℕ) → k ≡ 0 → Some at ≡ end_at s at k 0
no_args s at k e = rw e (sym (end_by_heads s at 0 0))

-- f is where the first of k terms ends
module _ (s : List ℕ) (at : ℕ) (known : Known s) {f : Option ℕ} (is : f ≡ end_at s at 1 0) where
  pub args_more : {e : ℕ} (k : ℕ) {r : Option ℕ} → f ≡ Some e → (k ≡ 0 → ⊥) → r ≡ end_at s e (k - 1) 0 → r ≡ end_at s at k 0
  args_more {e} k q nz p =
      let w : 1 + (k - 1) ≡ k = omega arith in
      p ∙ sym (rw w at (end_then s at known 1 (k - 1) 0 e (sym is ∙ q)))

  pub args_stop : (k : ℕ) → f ≡ None → (k ≡ 0 → ⊥) → None ≡ end_at s at k 0
  args_stop k q nz =
      let w : 1 + (k - 1) ≡ k = omega arith in
      sym (rw w at (end_never s at known 1 (k - 1) 0 (sym is ∙ q)))

  pub args_bound : {e : ℕ} → f ≡ Some e → (at + 3 ≤ e) × (e ≤ length s + (at - length s))
  args_bound {e} q = let w = end_bound s at known 1 0 e (sym is ∙ q) in (omega arith, w.1)

  -- the others go on from there, if the first one ends
  pub args_on : (k : ℕ) → (k ≡ 0 → ⊥) → end_at s at k 0 ≡ onward f (λ e. end_at s e (k - 1) 0)
  args_on k nz = go f refl
    where
      go : (o : Option ℕ) → f ≡ o → end_at s at k 0 ≡ onward o (λ e. end_at s e (k - 1) 0)
      go None q = sym (args_stop k q nz)
      go (Some e) q = sym (args_more k q nz refl)

  -- and never before a place that the first one starts behind
  pub args_ahead : {a : ℕ} → a ≤ at → IfSome f (λ e. a ≤ e)
  args_ahead {a} l = go f refl
    where
      go : (o : Option ℕ) → f ≡ o → IfSome o (λ e. a ≤ e)
      go None q = tt
      go (Some e) q = omega (arith, (args_bound q).0)

-- where no more terms follow
pub args_done : (s : List ℕ) (k : ℕ) (o : Option ℕ) → k ≡ 0 → onward o (λ e. end_at s e k 0) ≡ o
args_done s k None e = refl
args_done s k (Some at) e = sym (no_args s at k e)

-- f is where k terms end that g goals follow
module _ (s : List ℕ) (at : ℕ) (known : Known s) {f : Option ℕ} (k : ℕ) (is : f ≡ end_at s at k 0) where
  pub parts_more : {e : ℕ} (g : ℕ) {r : Option ℕ} → f ≡ Some e → r ≡ end_at s e 0 g → r ≡ end_at s at k g
  parts_more {e} g q p = p ∙ sym (rw add-zero at (end_then s at known k 0 g e (sym is ∙ q)))

  pub parts_stop : (g : ℕ) → f ≡ None → None ≡ end_at s at k g
  parts_stop g q = sym (rw add-zero at (end_never s at known k 0 g (sym is ∙ q)))

-- no goals are left
pub no_goals : (s : List ℕ) (at g : ℕ) → g ≡ 0 → end_at s at 0 g ≡ Some at
no_goals s at g e = rw e (end_by_heads s at 0 0)

-- a counted loop's turns that are left, one turn later
pub one_less : (n k : ℕ) → n - (k + 1) ≡ n - k - 1
one_less n k = omega arith

pub no_less : (n : ℕ) → n - 0 ≡ n
no_less n = omega arith
