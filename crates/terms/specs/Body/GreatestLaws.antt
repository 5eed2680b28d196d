-- Laws of the greatest variable: where it is, by what is above the variables of each part; that the part which is named holds it, while none before does;
-- and that one more than it is the first new variable.
use Rattle.std.specs.Prelude.{◌≡◌, Bool, true, cond, Option, Some, None}
use Rattle.std.proofs.Math.Path.{refl}
use Rattle.std.proofs.Common.{sym, ◌∙◌, ap, arith, eq-eqb, ne_eqb}
use Rattle.std.proofs.Math.Bool.{false}
use mathlib.Core.List.{List, [], ◌∷◌, ◌++◌}
use Rattle.std.proofs.Math.Decide.{ℕ_discrete}
use Prim.Native.Nat.{ℕ, zero, suc, ◌≤◌, max}
use Rattle.records.specs.Format.Syntax.{Goal, Ancestor, Bet}
use Rattle.records.specs.Format.Formed.{GoalFormed, All, AncestorFormed, BetFormed}
use Rattle.records.specs.Format.Never.{never}
use Rattle.records.specs.Gate.RecordRules.{goal_variables, member}
use Rattle.records.specs.Ends.Above.{above}
use Rattle.terms.specs.Body.Body.{ancestors_variables, bets_variables, next_variable}
use Rattle.terms.specs.Body.BodyLaws.{next_variable_formed}
use Rattle.terms.specs.Body.TopLaws.{above_append}
use Rattle.terms.specs.Body.Greatest.{in_part, first_holding, greatest_of, greatest_variable, next_after}
use Rattle.terms.specs.declared.greatest.Greatest.{Greatest}
use Rattle.terms.specs.declared.greatest.Part.{Part}
use Rattle.terms.specs.declared.greatest.Part.TheVariants.{Bets as InBets, Goal as InGoal, Ancestors as InAncestors}

-- a number that is above the list is not in it, and the greatest is
not_held : (v : ℕ) (l : List ℕ) → above l ≤ v → member v l ≡ false
not_held v [] h = refl
not_held v (w ∷ l) h = rw (ne_eqb v w (λ e. absurd (omega arith))) (not_held v l (omega arith))

held : (v : ℕ) (l : List ℕ) → above l ≡ suc v → member v l ≡ true
held v [] h = absurd (omega arith)
held v (w ∷ l) h = go (ℕ_discrete v w) (held v l)
  where
    go : Dec (v ≡ w) → (above l ≡ suc v → member v l ≡ true) → member v (w ∷ l) ≡ true
    go (yes e) k = rw (eq-eqb v w e)
    go (no n) k = rw (ne_eqb v w n) (k (omega arith))

module _ (b g u : List ℕ) where
  -- what is above all three
  whole : above (g ++ (u ++ b)) ≡ max (above g) (max (above u) (above b))
  whole = above_append g (u ++ b) ∙ ap (max (above g)) (above_append u b)

  -- the greatest of what is above each of them
  pub overall : {x y z m n : ℕ} → x ≡ above b → y ≡ above g → z ≡ above u → m ≡ max x y → n ≡ max m z → n ≡ above (g ++ (u ++ b))
  overall h i j k l = omega (arith, whole)

  -- whose it is: of bets, goal and ancestors the first with as much above it as above all three; or it is nowhere
  pub in_bets : (v : ℕ) → above (g ++ (u ++ b)) ≡ suc v → above b ≡ suc v → in_part InBets v ≡ greatest_of b g u
  unfolding greatest_of
  in_bets v t h = rw (t, held v b h) refl

  pub in_goal : (v : ℕ) → above (g ++ (u ++ b)) ≡ suc v → (above b ≡ suc v → ⊥) → above g ≡ suc v → in_part InGoal v ≡ greatest_of b g u
  unfolding greatest_of
  in_goal v t h i = rw (t, not_held v b (omega (arith, whole, h)), held v g i) refl

  pub in_ancestors : (v : ℕ) → above (g ++ (u ++ b)) ≡ suc v → (above b ≡ suc v → ⊥) → (above g ≡ suc v → ⊥) → in_part InAncestors v ≡ greatest_of b g u
  unfolding greatest_of
  in_ancestors v t h i = rw (t, not_held v b (omega (arith, whole, h)), not_held v g (omega (arith, whole, i))) refl

  pub nowhere : above (g ++ (u ++ b)) ≡ 0 → None ≡ greatest_of b g u
  unfolding greatest_of
  nowhere t = rw t refl

  -- what the answer says: which variable is the greatest of all, that the part which is named holds it, and that none before that does
  abbrev pub HeldIn : Part → ℕ → Type 0
  HeldIn InBets v = (above (g ++ (u ++ b)) ≡ suc v) × (member v b ≡ true)
  HeldIn InGoal v = (above (g ++ (u ++ b)) ≡ suc v) × (member v b ≡ false) × (member v g ≡ true)
  HeldIn InAncestors v = (above (g ++ (u ++ b)) ≡ suc v) × (member v b ≡ false) × (member v g ≡ false) × (member v u ≡ true)

  abbrev pub HeldFirst : Option Greatest → Type 0
  HeldFirst None = above (g ++ (u ++ b)) ≡ 0
  HeldFirst (Some m) = HeldIn m.part m.variable

  pub held_first : HeldFirst (greatest_of b g u)
  unfolding greatest_of
  held_first = go (above (g ++ (u ++ b))) refl
    where
      not_there : (v : ℕ) (l : List ℕ) → member v l ≡ false → above l ≡ suc v → ⊥
      not_there v l n h = never (sym (held v l h) ∙ n)

      by_parts : (v : ℕ) → above (g ++ (u ++ b)) ≡ suc v → (c d : Bool) → member v b ≡ c → member v g ≡ d
          → HeldFirst (cond c (in_part InBets v) (cond d (in_part InGoal v) (in_part InAncestors v)))
      by_parts v h true d i j = (h, i)
      by_parts v h false true i j = (h, i, j)
      by_parts v h false false i j = (h, i, j, held v u (omega (arith, h, whole, not_there v b i, not_there v g j)))

      go : (n : ℕ) → above (g ++ (u ++ b)) ≡ n → HeldFirst (first_holding n b g)
      go zero h = h
      go (suc v) h = by_parts v h (member v b) (member v g) refl refl

  -- so the number after it is the one above all three
  after_held : (m : Option Greatest) → HeldFirst m → next_after m ≡ above (g ++ (u ++ b))
  after_held None h = sym h
  after_held (Some m) h = go m.part h
    where
      go : (p : Part) → HeldIn p m.variable → suc m.variable ≡ above (g ++ (u ++ b))
      go InBets h = sym h.0
      go InGoal h = sym h.0
      go InAncestors h = sym h.0

  after_greatest : next_after (greatest_of b g u) ≡ above (g ++ (u ++ b))
  after_greatest = after_held (greatest_of b g u) held_first

-- and the first new variable is read off it
module _ (g : Goal) (u : List Ancestor) (s : List Bet) where
  pub next_read : next_after (greatest_variable g u s) ≡ next_variable g u s
  unfolding next_variable
  next_read = after_greatest (bets_variables s) (goal_variables g) (ancestors_variables u)

  pub next_after_formed : GoalFormed g → All AncestorFormed u → All BetFormed s → next_after (greatest_variable g u s) ≤ 65536
  next_after_formed h i j = rw next_read (next_variable_formed g u s h i j)
