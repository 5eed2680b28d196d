-- The layouts make of an accepted event the events that they claim: its pieces and stacks, and then each plan. A layout's law holds for every port
-- before and after, so that a rule and its reading back share it.
use Rattle.std.specs.Prelude.{◌≡◌, refl, List, [], ◌∷◌, ◌++◌, ℕ, ◌+◌, ◌≤◌, length}
use Rattle.std.proofs.Common.{arith}
use Rattle.records.specs.Format.Syntax.{Goal, conj, disj, atom, Half, Ancestor, called, in_conj, in_disj, Bet, unifier, or, by, Port, Terms, event}
use Rattle.records.specs.Format.Encode.{tag, goal_bytes, ancestor_bytes, bet_bytes, port_byte}
use Rattle.records.specs.Ends.Stands.{Stands}
use Rattle.records.specs.Ends.StandsLaws.{stands_second}
use Rattle.records.specs.Ends.Places.{goal_end, EventParts}
use Rattle.records.specs.declared.plan.Lead.TheVariants.{Bare, One, Two}
use Rattle.records.specs.declared.plan.Piece.{Piece}
use Rattle.records.specs.Writing.Plan.{PlanInside}
use Rattle.terms.specs.Standing.Accepted.{ancestors_at, bets_at}
use Rattle.stepper.specs.Plans.View.{goal_part, ancestor_end, ancestor_part, bet_end, bet_part, stack_places, event_view}
use Rattle.stepper.specs.Plans.ViewLaws.{top_stands, rest_stands}
use Rattle.stepper.specs.Plans.Layouts.{whole, by_goal, content_of, unchanged, dropped, pushed, replaced, plan_of, kept, bet_dropped, entered, chosen, reached, left, left_with_or, atom_left, atom_left_by, body_entered}
use Rattle.stepper.specs.Plans.Made.{MakesPiece, MakesStack, Halves, Plans}
use Rattle.stepper.specs.Plans.MadeLaws.{cuts, piece, halves, stack_same, stack_more, stack_less, stack_changed, plan_is, or_piece, half_made}
use Rattle.stepper.specs.Rules.Rules.{selected}

-- a part ends where its bytes do
pub goal_ends : (at : ℕ) (g : Goal) → (goal_part at g).to ≡ goal_end at g
goal_ends at Goal.truth = refl
goal_ends at Goal.failure = refl
goal_ends at (Goal.equal t u) = refl
goal_ends at (conj a b) = refl
goal_ends at (disj a b) = refl
goal_ends at (atom p ts) = refl

pub goal_starts : (at : ℕ) (g : Goal) → (goal_part at g).from ≡ at
goal_starts at Goal.truth = refl
goal_starts at Goal.failure = refl
goal_starts at (Goal.equal t u) = refl
goal_starts at (conj a b) = refl
goal_starts at (disj a b) = refl
goal_starts at (atom p ts) = refl

pub ancestor_ends : (at : ℕ) (a : Ancestor) → (ancestor_part at a).to ≡ ancestor_end at a
ancestor_ends at (called p ts) = refl
ancestor_ends at (in_conj h a b) = refl
ancestor_ends at (in_disj h a b) = refl

pub bet_ends : (at : ℕ) (b : Bet) → (bet_part at b).to ≡ bet_end at b
bet_ends at (unifier m) = refl
bet_ends at (or h) = refl
bet_ends at (by g) = refl

-- the parts of an event lie in it
module _ {s : List ℕ} {p : Port} {g : Goal} {u : List Ancestor} {b : List Bet} (w : EventParts s p g u b) where
  pub goal_stops : goal_end 4 g ≤ length s
  goal_stops = omega (arith, w.bets_stand.end)

  pub ancestors_stop : bets_at g u ≤ length s
  ancestors_stop = omega (arith, w.bets_stand.end)

  pub goal_whole : MakesPiece s (whole (goal_part 4 g)) (goal_bytes g)
  goal_whole = rw (goal_starts 4 g, goal_ends 4 g) (piece Bare (cuts w.goal_stands goal_stops))

  pub goal_by : MakesPiece s (by_goal (goal_part 4 g)) (bet_bytes (by g))
  goal_by = rw (goal_starts 4 g, goal_ends 4 g) (piece (One 0x22) (cuts w.goal_stands goal_stops))

  pub ancestors_same : MakesStack ancestor_bytes s (unchanged (stack_places ancestor_bytes ancestor_part (ancestors_at g) u)) u
  ancestors_same = stack_same ancestor_bytes ancestor_part u w.ancestors_stand ancestors_stop

  pub ancestors_more : {top : Piece} (a : Ancestor) → MakesPiece s top (ancestor_bytes a)
      → MakesStack ancestor_bytes s (pushed (stack_places ancestor_bytes ancestor_part (ancestors_at g) u) top) (a ∷ u)
  ancestors_more a q = stack_more ancestor_bytes ancestor_part u w.ancestors_stand ancestors_stop a q

  pub bets_same : MakesStack bet_bytes s (unchanged (stack_places bet_bytes bet_part (bets_at g u) b)) b
  bets_same = stack_same bet_bytes bet_part b w.bets_stand (omega arith)

  pub bets_more : {top : Piece} (x : Bet) → MakesPiece s top (bet_bytes x)
      → MakesStack bet_bytes s (pushed (stack_places bet_bytes bet_part (bets_at g u) b) top) (x ∷ b)
  bets_more x q = stack_more bet_bytes bet_part b w.bets_stand (omega arith) x q

-- those with a bet on top, or an ancestor
module _ {s : List ℕ} {p : Port} {g : Goal} {u : List Ancestor} {x : Bet} {b : List Bet} (w : EventParts s p g u (x ∷ b)) where
  pub bets_less : MakesStack bet_bytes s (dropped (stack_places bet_bytes bet_part (bets_at g u) (x ∷ b))) b
  bets_less = stack_less bet_bytes bet_part x b (bet_ends _ x) w.bets_stand (omega arith)

module _ {s : List ℕ} {p : Port} {g : Goal} {a : Ancestor} {u : List Ancestor} {b : List Bet} (w : EventParts s p g (a ∷ u) b) where
  pub ancestors_less : MakesStack ancestor_bytes s (dropped (stack_places ancestor_bytes ancestor_part (ancestors_at g) (a ∷ u))) u
  ancestors_less = stack_less ancestor_bytes ancestor_part a u (ancestor_ends _ a) w.ancestors_stand (ancestors_stop w)

  pub ancestors_changed : {top : Piece} (c : Ancestor) → MakesPiece s top (ancestor_bytes c)
      → MakesStack ancestor_bytes s (replaced (stack_places ancestor_bytes ancestor_part (ancestors_at g) (a ∷ u)) top) (c ∷ u)
  ancestors_changed c q = stack_changed ancestor_bytes ancestor_part a u (ancestor_ends _ a) w.ancestors_stand (ancestors_stop w) c q

  pub ancestor_stands : Stands s (ancestors_at g + 2) (ancestor_bytes a) (ancestor_end (ancestors_at g + 2) a)
  ancestor_stands = top_stands ancestor_bytes a u w.ancestors_stand

  pub ancestor_stops : ancestor_end (ancestors_at g + 2) a ≤ length s
  ancestor_stops = omega (arith, (rest_stands ancestor_bytes a u w.ancestors_stand).end, w.bets_stand.end)

-- the halves of a goal, and of the ancestor on top
pub goal_conj : {s : List ℕ} {p : Port} {u : List Ancestor} {b : List Bet} (c d : Goal) → EventParts s p (conj c d) u b → Halves s 5 (goal_end 5 c) (goal_end 4 (conj c d)) c d
goal_conj c d w = halves c d (stands_second (0x13 ∷ []) (goal_bytes c ++ goal_bytes d) w.goal_stands) (goal_stops w)

pub goal_disj : {s : List ℕ} {p : Port} {u : List Ancestor} {b : List Bet} (c d : Goal) → EventParts s p (disj c d) u b → Halves s 5 (goal_end 5 c) (goal_end 4 (disj c d)) c d
goal_disj c d w = halves c d (stands_second (0x14 ∷ []) (goal_bytes c ++ goal_bytes d) w.goal_stands) (goal_stops w)

abbrev pub top_at : Goal → ℕ
top_at g = ancestors_at g + 2

module _ {s : List ℕ} {p : Port} {g : Goal} {u : List Ancestor} {b : List Bet} (h : Half) (c d : Goal) where
  pub under_conj : EventParts s p g (in_conj h c d ∷ u) b → Halves s (top_at g + 2) (goal_end (top_at g + 2) c) (ancestor_end (top_at g) (in_conj h c d)) c d
  under_conj w = halves c d (stands_second (0x30 ∷ tag h ∷ []) (goal_bytes c ++ goal_bytes d) (ancestor_stands w)) (ancestor_stops w)

  pub under_disj : EventParts s p g (in_disj h c d ∷ u) b → Halves s (top_at g + 2) (goal_end (top_at g + 2) c) (ancestor_end (top_at g) (in_disj h c d)) c d
  under_disj w = halves c d (stands_second (0x31 ∷ tag h ∷ []) (goal_bytes c ++ goal_bytes d) (ancestor_stands w)) (ancestor_stops w)

-- the goal of BY
pub by_content : {s : List ℕ} {p : Port} {g : Goal} {u : List Ancestor} {b : List Bet} (c : Goal) → (w : EventParts s p g u (by c ∷ b))
    → MakesPiece s (content_of (bet_part (bets_at g u + 2) (by c))) (goal_bytes c)
by_content {s} {p} {g} {u} {b} c w =
    let v = stands_second (0x22 ∷ []) (goal_bytes c) (top_stands bet_bytes (by c) b w.bets_stand) in
    piece Bare (cuts v (omega (arith, (rest_stands bet_bytes (by c) b w.bets_stand).end)))

module _ {s : List ℕ} {p : Port} (q : Port) {u : List Ancestor} {b : List Bet} where
  -- call true, call fail, redo true; and fail of an equality or an atom
  pub kept_plans : {g : Goal} → EventParts s p g u b → Plans s (kept (event_view (event p g u b)) (port_byte q)) (event q g u b)
  unfolding event_view
  kept_plans w = plan_is q (goal_whole w) (ancestors_same w) (bets_same w)

  pub kept_within : {g : Goal} → EventParts s p g u b → (port : ℕ) → PlanInside (kept (event_view (event p g u b)) port) s
  unfolding event_view plan_of
  kept_within w port = let a = ancestors_same w in let z = bets_same w in
      record { goal_inside = (goal_whole w).inside; ancestor_inside = a.top_inside; ancestors_inside = a.rest_inside; bet_inside = z.top_inside; bets_inside = z.rest_inside }

  -- redo of an equality
  pub bet_dropped_plans : {g : Goal} {x : Bet} → EventParts s p g u (x ∷ b) → Plans s (bet_dropped (event_view (event p g u (x ∷ b))) (port_byte q)) (event q g u b)
  unfolding event_view
  bet_dropped_plans w = plan_is q (goal_whole w) (ancestors_same w) (bets_less w)

  -- to a half
  pub entered_conj_plans : (h : Half) {c d : Goal} → EventParts s p (conj c d) u b
      → Plans s (entered (event_view (event p (conj c d) u b)) (port_byte q) 0x30 (tag h)) (event q (selected h c d) (in_conj h c d ∷ u) b)
  unfolding event_view
  entered_conj_plans h {c} {d} w =
      let k = goal_conj c d w in
      plan_is q (half_made (goal_part 4 (conj c d)) h k) (ancestors_more w (in_conj h c d) (piece (Two 0x30 (tag h)) k.both)) (bets_same w)

  pub entered_disj_plans : (h : Half) {c d : Goal} → EventParts s p (disj c d) u b
      → Plans s (entered (event_view (event p (disj c d) u b)) (port_byte q) 0x31 (tag h)) (event q (selected h c d) (in_disj h c d ∷ u) b)
  unfolding event_view
  entered_disj_plans h {c} {d} w =
      let k = goal_disj c d w in
      plan_is q (half_made (goal_part 4 (disj c d)) h k) (ancestors_more w (in_disj h c d) (piece (Two 0x31 (tag h)) k.both)) (bets_same w)

  -- to the half that OR names
  pub chosen_plans : (h : Half) {c d : Goal} → EventParts s p (disj c d) u (or h ∷ b)
      → Plans s (chosen (event_view (event p (disj c d) u (or h ∷ b))) (port_byte q)) (event q (selected h c d) (in_disj h c d ∷ u) b)
  unfolding event_view
  chosen_plans h {c} {d} w =
      let k = goal_disj c d w in
      plan_is q (half_made (goal_part 4 (disj c d)) h k) (ancestors_more w (in_disj h c d) (piece (Two 0x31 (tag h)) k.both)) (bets_less w)

  -- from half to half
  pub reached_conj_plans : (from to : Half) {g c d : Goal} → EventParts s p g (in_conj from c d ∷ u) b
      → Plans s (reached (event_view (event p g (in_conj from c d ∷ u) b)) (port_byte q) 0x30 (tag to)) (event q (selected to c d) (in_conj to c d ∷ u) b)
  unfolding event_view
  reached_conj_plans from to {g} {c} {d} w =
      let k = under_conj from c d w in
      plan_is q (half_made (ancestor_part (top_at g) (in_conj from c d)) to k) (ancestors_changed w (in_conj to c d) (piece (Two 0x30 (tag to)) k.both)) (bets_same w)

  pub reached_disj_plans : (from to : Half) {g c d : Goal} → EventParts s p g (in_disj from c d ∷ u) b
      → Plans s (reached (event_view (event p g (in_disj from c d ∷ u) b)) (port_byte q) 0x31 (tag to)) (event q (selected to c d) (in_disj to c d ∷ u) b)
  unfolding event_view
  reached_disj_plans from to {g} {c} {d} w =
      let k = under_disj from c d w in
      plan_is q (half_made (ancestor_part (top_at g) (in_disj from c d)) to k) (ancestors_changed w (in_disj to c d) (piece (Two 0x31 (tag to)) k.both)) (bets_same w)

  -- from a half to the whole
  pub conj_left_plans : {g c d : Goal} (h : Half) → EventParts s p g (in_conj h c d ∷ u) b
      → Plans s (left (event_view (event p g (in_conj h c d ∷ u) b)) (port_byte q) 0x13) (event q (conj c d) u b)
  unfolding event_view
  conj_left_plans {g} {c} {d} h w = plan_is q (piece (One 0x13) (under_conj h c d w).both) (ancestors_less w) (bets_same w)

  pub disj_left_plans : {g c d : Goal} (h : Half) → EventParts s p g (in_disj h c d ∷ u) b
      → Plans s (left (event_view (event p g (in_disj h c d ∷ u) b)) (port_byte q) 0x14) (event q (disj c d) u b)
  unfolding event_view
  disj_left_plans {g} {c} {d} h w = plan_is q (piece (One 0x14) (under_disj h c d w).both) (ancestors_less w) (bets_same w)

  pub left_with_or_plans : {g c d : Goal} (h : Half) → EventParts s p g (in_disj h c d ∷ u) b
      → Plans s (left_with_or (event_view (event p g (in_disj h c d ∷ u) b)) (port_byte q)) (event q (disj c d) u (or h ∷ b))
  unfolding event_view
  left_with_or_plans {g} {c} {d} h w =
      plan_is q (piece (One 0x14) (under_disj h c d w).both) (ancestors_less w) (bets_more w (or h) (or_piece s h))

  -- from a body to its atom, and from an atom to the body that BY names
  pub atom_left_plans : {g : Goal} {n : ℕ} {ts : Terms} → EventParts s p g (called n ts ∷ u) b
      → Plans s (atom_left (event_view (event p g (called n ts ∷ u) b)) (port_byte q)) (event q (atom n ts) u b)
  unfolding event_view
  atom_left_plans w = plan_is q (piece Bare (cuts (ancestor_stands w) (ancestor_stops w))) (ancestors_less w) (bets_same w)

  pub atom_left_by_plans : {g : Goal} {n : ℕ} {ts : Terms} → EventParts s p g (called n ts ∷ u) b
      → Plans s (atom_left_by (event_view (event p g (called n ts ∷ u) b)) (port_byte q)) (event q (atom n ts) u (by g ∷ b))
  unfolding event_view
  atom_left_by_plans {g} w =
      plan_is q (piece Bare (cuts (ancestor_stands w) (ancestor_stops w))) (ancestors_less w) (bets_more w (by g) (goal_by w))

  pub body_entered_plans : {n : ℕ} {ts : Terms} {g : Goal} → EventParts s p (atom n ts) u (by g ∷ b)
      → Plans s (body_entered (event_view (event p (atom n ts) u (by g ∷ b))) (port_byte q)) (event q g (called n ts ∷ u) b)
  unfolding event_view
  body_entered_plans {n} {ts} {g} w = plan_is q (by_content g w) (ancestors_more w (called n ts) (goal_whole w)) (bets_less w)
