-- Laws of the two counts: how code lowers them, and that a token adds one to their sum at most, so that a text's length bounds them.
use Rattle.std.specs.Prelude.{ℕ, zero, suc, ◌+◌, ◌-◌, ◌≤◌, ◌<◌, ◌≡◌, refl}
use Rattle.std.proofs.Common.{arith, ap}
use Rattle.text.specs.Parsing.Table.{state, bad, closed, stopped, shut, row, look_by, look}
use Rattle.text.specs.declared.tokens.Kind.{Kind}
use Rattle.text.specs.declared.tokens.Kind.TheVariants.{Name, True, Fail, Variable, Number, Functor, Open, Close, Comma, Semicolon, Equals, Neck, Stop, Wrong, End}
use Rattle.text.specs.declared.table.Place.{Place}
use Rattle.text.specs.declared.table.Mode.{Mode}
use Rattle.text.specs.declared.table.Mode.TheVariants.{Clause, Headed, Goal, Left, Bare, Right, Done, Term, Rest, Bad}
use Rattle.text.specs.declared.table.State.{State}

pub closed_down : (g : ℕ) → 0 < g → state Done 0 (g - 1) ≡ closed g
closed_down zero h = absurd (omega arith)
closed_down (suc g) h = ap (state Done 0) (omega arith)

pub stopped_open : (g : ℕ) → 0 < g → bad ≡ stopped g
stopped_open zero h = absurd (omega arith)
stopped_open (suc g) h = refl

pub shut_down : (p : Place) (t g : ℕ) → 1 < t → state (Rest p) (t - 1) g ≡ shut p t g
shut_down p zero g h = absurd (omega arith)
shut_down p (suc zero) g h = absurd (omega arith)
shut_down p (suc (suc t)) g h = ap (λ (n : ℕ). state (Rest p) n g) (omega arith)

-- the two counts together
abbrev pub Small : State → ℕ → Type 0
Small s n = s.terms + s.goals ≤ n

by_kind : (P : State → Type 0) {z n r o f op cl co se eq ne st : State} → P z → P n → P r → P o → P f → P op → P cl → P co → P se → P eq → P ne → P st → (k : Kind) → P (row z k n r o f op cl co se eq ne st)
by_kind P z n r o f op cl co se eq ne st Name = n
by_kind P z n r o f op cl co se eq ne st True = r
by_kind P z n r o f op cl co se eq ne st Fail = r
by_kind P z n r o f op cl co se eq ne st Variable = o
by_kind P z n r o f op cl co se eq ne st Number = o
by_kind P z n r o f op cl co se eq ne st Functor = f
by_kind P z n r o f op cl co se eq ne st Open = op
by_kind P z n r o f op cl co se eq ne st Close = cl
by_kind P z n r o f op cl co se eq ne st Comma = co
by_kind P z n r o f op cl co se eq ne st Semicolon = se
by_kind P z n r o f op cl co se eq ne st Equals = eq
by_kind P z n r o f op cl co se eq ne st Neck = ne
by_kind P z n r o f op cl co se eq ne st Stop = st
by_kind P z n r o f op cl co se eq ne st Wrong = z
by_kind P z n r o f op cl co se eq ne st End = z

module _ (b : ℕ) where
  closed_small : (g : ℕ) → g ≤ b → Small (closed g) b
  closed_small zero h = omega arith
  closed_small (suc g) h = omega arith

  stopped_small : (g : ℕ) → Small (stopped g) b
  stopped_small zero = omega arith
  stopped_small (suc g) = omega arith

  shut_small : (p : Place) (t g : ℕ) → t + g ≤ b → Small (shut p t g) b
  shut_small p zero g h = omega arith
  shut_small p (suc zero) g h = omega arith
  shut_small p (suc (suc t)) g h = omega arith

  -- of every cell of a row
  abbrev Cell : State → Type 0
  Cell s = Small s b

  row_small : (m : Mode) (t g : ℕ) → t + g + 1 ≤ b → (k : Kind) → Small (look_by m t g k) b
  row_small Clause t g h = by_kind Cell (omega arith) (omega arith) (omega arith) (omega arith) (omega arith) (omega arith) (omega arith) (omega arith) (omega arith) (omega arith) (omega arith) (omega arith)
  row_small Headed t g h = by_kind Cell (omega arith) (omega arith) (omega arith) (omega arith) (omega arith) (omega arith) (omega arith) (omega arith) (omega arith) (omega arith) (omega arith) (omega arith)
  row_small Goal t g h = by_kind Cell (omega arith) (omega arith) (omega arith) (omega arith) (omega arith) (omega arith) (omega arith) (omega arith) (omega arith) (omega arith) (omega arith) (omega arith)
  row_small Left t g h = by_kind Cell (omega arith) (omega arith) (omega arith) (omega arith) (omega arith) (omega arith) (closed_small g (omega arith)) (omega arith) (omega arith) (omega arith) (omega arith) (stopped_small g)
  row_small Bare t g h = by_kind Cell (omega arith) (omega arith) (omega arith) (omega arith) (omega arith) (omega arith) (omega arith) (omega arith) (omega arith) (omega arith) (omega arith) (omega arith)
  row_small Right t g h = by_kind Cell (omega arith) (omega arith) (omega arith) (omega arith) (omega arith) (omega arith) (omega arith) (omega arith) (omega arith) (omega arith) (omega arith) (omega arith)
  row_small Done t g h = by_kind Cell (omega arith) (omega arith) (omega arith) (omega arith) (omega arith) (omega arith) (closed_small g (omega arith)) (omega arith) (omega arith) (omega arith) (omega arith) (stopped_small g)
  row_small (Term p) t g h = by_kind Cell (omega arith) (omega arith) (omega arith) (omega arith) (omega arith) (omega arith) (omega arith) (omega arith) (omega arith) (omega arith) (omega arith) (omega arith)
  row_small (Rest p) t g h = by_kind Cell (omega arith) (omega arith) (omega arith) (omega arith) (omega arith) (omega arith) (shut_small p t g (omega arith)) (omega arith) (omega arith) (omega arith) (omega arith) (omega arith)
  row_small Bad t g h = λ k. omega arith

pub look_small : (s : State) (k : Kind) (b : ℕ) → Small s b → Small (look s k) (b + 1)
look_small s k b h = row_small (b + 1) s.mode s.terms s.goals (omega arith) k
