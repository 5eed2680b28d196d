-- Laws of writing all cells, the last one first: there is room, and one cell after another is written.
use Rattle.std.specs.Prelude.{◌≡◌, refl, List, [], ◌∷◌, length, get_or}
use Rattle.std.proofs.Common.{ap, ◌∙◌}
use Prim.Native.Nat.{ℕ, zero, suc, ◌-◌, ◌≤◌, ◌<◌}
use native.Mathlib.Omega.{arith}
use Rattle.reader.specs.declared.roles.Role.{Role}
use Rattle.reader.specs.Emit.Cells.{Cell, Emission, emission, cell, emit_cell, emitted, counted_on, popped}
use Rattle.reader.specs.Emit.Emits.{stacked, all_capped, nothing, Emits, Turns, start_state, Room, Shallow, table_cells, EmittedCells}
use Rattle.reader.specs.declared.emit.Behind.{Behind}
use Rattle.reader.specs.declared.emit.Emission.{Emission as State}
use Rattle.reader.specs.declared.roles.Role.TheVariants.{Variable, Constant, Functor, GoalVariable, GoalConstant, GoalFunctor, Truth, Failure, Head, HeadFunctor, Shut, Next, And, Or, Equal, Open, Close, Neck, Fact, Rule}
use Rattle.reader.specs.Emit.PushLaws.{drop_all}
use Rattle.reader.specs.Emit.StackLaws.{stacked_length}

-- Room: a cell opens one term, one bracket and one clause at most.
popped_few : (m : ℕ) (ks : List ℕ) → length ks ≤ m → length (popped ks) ≤ suc m
popped_few m [] h = omega arith
popped_few m (k ∷ ks) h = omega arith

counted_few : (m : ℕ) (ks : List ℕ) → length ks ≤ m → length (counted_on ks) ≤ suc m
counted_few m [] h = omega arith
counted_few m (k ∷ ks) h = omega arith

shallow_cell : (m : ℕ) (c : Cell) (x : Emission) → Shallow m x → Shallow (suc m) (emit_cell c x)
shallow_cell m (cell Variable a w) (emission l o n ks bs c s q v) h = (omega (arith, h.0), omega (arith, h.1), omega (arith, h.2))
shallow_cell m (cell Constant a w) (emission l o n ks bs c s q v) h = (omega (arith, h.0), omega (arith, h.1), omega (arith, h.2))
shallow_cell m (cell Functor a w) (emission l o n ks bs c s q v) h = (omega (arith, h.0), popped_few m ks h.1, omega (arith, h.2))
shallow_cell m (cell GoalVariable a w) (emission l o n ks bs c s q v) h = (omega (arith, h.0), omega (arith, h.1), omega (arith, h.2))
shallow_cell m (cell GoalConstant a w) (emission l o n ks bs c s q v) h = (omega (arith, h.0), omega (arith, h.1), omega (arith, h.2))
shallow_cell m (cell GoalFunctor a w) (emission l o n ks bs c s q v) h = (omega (arith, h.0), popped_few m ks h.1, omega (arith, h.2))
shallow_cell m (cell Truth a w) (emission l o n ks bs c s q v) h = (omega (arith, h.0), omega (arith, h.1), omega (arith, h.2))
shallow_cell m (cell Failure a w) (emission l o n ks bs c s q v) h = (omega (arith, h.0), omega (arith, h.1), omega (arith, h.2))
shallow_cell m (cell Head a w) (emission l o n ks bs c s q v) h = (omega (arith, h.0), omega (arith, h.1), omega (arith, h.2))
shallow_cell m (cell HeadFunctor a w) (emission l o n ks bs c s q v) h = (omega (arith, h.0), popped_few m ks h.1, omega (arith, h.2))
shallow_cell m (cell Shut a w) (emission l o n ks bs c s q v) h = (omega (arith, h.0), omega (arith, h.1), omega (arith, h.2))
shallow_cell m (cell Next a w) (emission l o n ks bs c s q v) h = (omega (arith, h.0), counted_few m ks h.1, omega (arith, h.2))
shallow_cell m (cell And a w) (emission l o n ks bs c s q v) h = (omega (arith, h.0), omega (arith, h.1), omega (arith, h.2))
shallow_cell m (cell Or a w) (emission l o n ks bs c s q v) h = (omega (arith, h.0), omega (arith, h.1), omega (arith, h.2))
shallow_cell m (cell Equal a w) (emission l o n ks bs c s q v) h = (omega (arith, h.0), omega (arith, h.1), omega (arith, h.2))
shallow_cell m (cell Open a w) (emission l o n ks [] c s q v) h = (omega (arith, h.0), omega (arith, h.1), omega (arith, h.2))
shallow_cell m (cell Open a w) (emission l o n ks (b ∷ bs) c s q v) h = (omega (arith, h.0), omega (arith, h.1), omega (arith, h.2))
shallow_cell m (cell Close a w) (emission l o n ks bs c s q v) h = (omega (arith, h.0), omega (arith, h.1), omega (arith, h.2))
shallow_cell m (cell Neck a w) (emission l o n ks bs c s q v) h = (omega (arith, h.0), omega (arith, h.1), omega (arith, h.2))
shallow_cell m (cell Fact a w) (emission l o n ks bs c s q v) h = (omega (arith, h.0), omega (arith, h.1), omega (arith, h.2))
shallow_cell m (cell Rule a w) (emission l o n ks bs c s q v) h = (omega (arith, h.0), omega (arith, h.1), omega (arith, h.2))

shallow : (cs : List Cell) → Shallow (length cs) (emitted cs)
unfolding emitted
shallow [] = (omega arith, omega arith, omega arith)
shallow (c ∷ cs) = shallow_cell (length cs) c (emitted cs) (shallow cs)

table_length : (roles : List Role) (names variables : List ℕ) (i n : ℕ) → length (table_cells roles names variables i n) ≡ n
unfolding table_cells
table_length roles names variables i zero = refl
table_length roles names variables i (suc n) = ap suc (table_length roles names variables (suc i) n)

length_capped : (ks : List ℕ) → length (all_capped ks) ≡ length ks
length_capped [] = refl
length_capped (k ∷ ks) = ap suc (length_capped ks)

pub emits_room : {out counts : List ℕ} {brackets : List Behind} {e : State} (x : Emission) (m : ℕ) → Shallow m x → Emits out counts brackets e x → e.at ≤ length out → m < length counts → m < length brackets → m < 65536
    → Room out counts brackets e
emits_room {counts = counts} {brackets} {e} (emission l o n ks bs c s q v) m d h i j k f = record {
  bytes = i;
  terms = omega (arith, stacked_length 0 counts e.terms, ap length h.counts_are, length_capped ks, d.1);
  goals = omega (arith, stacked_length nothing brackets e.goals, ap length h.brackets_are, d.2);
  clauses = omega (arith, h.clauses_are, d.0);
}

-- what stands while cells are written: those from i on are
pub record Writing (room : ℕ) (roles : List Role) (names variables : List ℕ) (count : ℕ) (out counts : List ℕ) (brackets : List Behind) (e : State) (i : ℕ) : Type 0 where
  pub few : i ≤ count
  pub keeps : length out ≡ room
  pub terms : length counts ≡ 65536
  pub goals : length brackets ≡ 65536
  pub within : e.at ≤ length out
  pub emits : Emits out counts brackets e (emitted (table_cells roles names variables i (count - i)))

module _ {room : ℕ} {roles : List Role} {names variables : List ℕ} {count : ℕ} where
  pub writing_room : {out counts : List ℕ} {brackets : List Behind} {e : State} {i : ℕ} → count ≤ 65535 → Writing room roles names variables count out counts brackets e i → Room out counts brackets e
  writing_room {out} {counts} {brackets} {e} {i} h w =
      let cs = table_cells roles names variables i (count - i) in
      let n : length cs ≡ count - i = table_length roles names variables i (count - i) in
      emits_room (emitted cs) (length cs) (shallow cs) w.emits w.within (omega (arith, w.terms)) (omega (arith, w.goals)) (omega arith)

  pub writing_start : {out counts : List ℕ} {brackets : List Behind} {e : State} → length out ≡ room → length counts ≡ 65536 → length brackets ≡ 65536 → e ≡ start_state (length out)
      → Writing room roles names variables count out counts brackets e count
  unfolding table_cells emitted stacked
  writing_start {out} {counts} {brackets} {e} i j k d = record {
    few = omega arith;
    keeps = i;
    terms = j;
    goals = k;
    within = rw d (omega arith);
    emits = let z : count - count ≡ 0 = omega arith in rw (z, d) (record {
      bytes = record { place = omega arith; same = λ f h. drop_all out };
      over_is = refl;
      clauses_are = refl;
      counts_are = refl;
      brackets_are = refl;
      comma_is = refl;
      semicolon_is = refl;
      equal_is = refl;
      variables_are = refl;
    });
  }

  -- the cell in front of those that are written
  pub writing_on : {out counts : List ℕ} {brackets : List Behind} {out' counts' : List ℕ} {brackets' : List Behind} {e r : State} {i : ℕ} → 0 < i → Writing room roles names variables count out counts brackets e i
      → Turns out counts brackets e out' counts' brackets' r (emit_cell (cell (get_or roles (i - 1) Variable) (get_or names (i - 1) 0) (get_or variables (i - 1) 0)))
      → Writing room roles names variables count out' counts' brackets' r (i - 1)
  unfolding table_cells emitted
  writing_on {i = i} h w t =
      let up : suc (i - 1) ≡ i = omega arith in
      let more : count - (i - 1) ≡ suc (count - i) = omega (arith, w.few) in
      record {
        few = omega (arith, w.few);
        keeps = t.keeps ∙ w.keeps;
        terms = t.counts_keep ∙ w.terms;
        goals = t.brackets_keep ∙ w.goals;
        within = omega (arith, t.lower, t.keeps, w.within);
        emits = rw (more, up) (t.emits _ w.emits);
      }

  pub writing_done : {out counts : List ℕ} {brackets : List Behind} {e : State} {i : ℕ} → i ≡ 0 → Writing room roles names variables count out counts brackets e i
      → EmittedCells room out e (emitted (table_cells roles names variables 0 count))
  writing_done {counts = counts} {brackets} z w = record { counts = counts; brackets = brackets; emits = let d : count - 0 ≡ count = omega arith in rw (z, d) at w.emits; keeps = w.keeps }
