-- How ranges, pieces, stacks and plans are made from what stands in an event.
use Rattle.std.specs.Prelude.{ℕ, ◌+◌, ◌≤◌, ◌≡◌, List, ◌∷◌, ◌++◌}
use Rattle.std.proofs.Common.{arith, ap}
use Rattle.std.proofs.Math.Path.{refl}
use Rattle.std.proofs.Math.ListN.{length}
use Rattle.records.specs.Format.Syntax.{Goal, Half, first, second, Ancestor, Bet, or, Port, event}
use Rattle.records.specs.Format.Encode.{word, each, counted, tag, goal_bytes, ancestor_bytes, bet_bytes, port_byte}
use Rattle.records.specs.Writing.Patched.{Put}
use Rattle.records.specs.Writing.PatchedLaws.{put_length}
use Rattle.records.specs.Writing.Plan.{lead_bytes, piece_bytes, PlanInside}
use Rattle.records.specs.Writing.PlanLaws.{nothing_inside, nothing_bytes, stack_pushed, stack_kept, planned_event, planned_ends}
use Rattle.records.specs.Ends.Stands.{Stands}
use Rattle.records.specs.Ends.StandsLaws.{stands_first, stands_second, stands_cut, stands_inside}
use Rattle.records.specs.Ends.Places.{goal_end}
use Rattle.records.specs.declared.put.Range.{Range}
use Rattle.records.specs.declared.plan.Lead.{Lead}
use Rattle.records.specs.declared.plan.Lead.TheVariants.{Bare}
use Rattle.records.specs.declared.plan.Piece.{Piece}
use Rattle.records.specs.declared.plan.Stack.{Stack}
use Rattle.records.specs.declared.plan.Plan.{Plan}
use Rattle.terms.specs.Values.AppliedLaws.{put_stands}
use Rattle.stepper.specs.Rules.Rules.{selected}
use Rattle.stepper.specs.Plans.View.{stack_places}
use Rattle.stepper.specs.Plans.ViewLaws.{rest_stands}
use Rattle.stepper.specs.Plans.Layouts.{half_piece, or_tag, unchanged, dropped, pushed, replaced, plan_of}
use Rattle.stepper.specs.Plans.Made.{Cuts, MakesPiece, MakesStack, Plans, Halves}
use Rattle.stepper.specs.declared.view.Part.{Part}

pub plan_is : {s : List ℕ} (port : Port) {g : Goal} {u : List Ancestor} {b : List Bet} {piece : Piece} {ancestors bets : Stack}
    → MakesPiece s piece (goal_bytes g) → MakesStack ancestor_bytes s ancestors u → MakesStack bet_bytes s bets b
    → Plans s (plan_of (port_byte port) piece ancestors bets) (event port g u b)
unfolding plan_of
plan_is {s} port {g} {u} {b} {piece} {ancestors} {bets} x y z =
    let p : Plan = record { port = port_byte port; goal = piece; ancestors = ancestors; bets = bets } in
    let inside : PlanInside p s =
    record { goal_inside = x.inside; ancestor_inside = y.top_inside; ancestors_inside = y.rest_inside; bet_inside = z.top_inside; bets_inside = z.rest_inside } in record {
      is = planned_event p port g u b s refl x.is y.is z.is;
      within = inside;
      ends = planned_ends p port g u b inside x.is y.is;
    }

-- what stands in s is cut out by its places
pub cuts : {s : List ℕ} {at : ℕ} {x : List ℕ} {e : ℕ} → Stands s at x e → e ≤ length s → Cuts s (record { from = at; to = e }) x
cuts w h = record { is = stands_cut w; inside = stands_inside w h }

-- what was put at the start of a buffer
pub put_cuts : {before x after : List ℕ} {n : ℕ} → Put before 0 x after n → length x ≤ length before → Cuts after (record { from = 0; to = n }) x
put_cuts p h = cuts (put_stands p (omega arith)) (omega (arith, put_length p, p.place))

pub piece : {s : List ℕ} {r : Range} {x : List ℕ} (lead : Lead) → Cuts s r x → MakesPiece s (record { lead = lead; range = r }) (lead_bytes lead ++ x)
unfolding piece_bytes
piece lead c = record { is = ap (λ (l : List ℕ). lead_bytes lead ++ l) c.is; inside = c.inside }

-- the bet OR
pub or_piece : (s : List ℕ) (h : Half) → MakesPiece s (or_tag (tag h)) (bet_bytes (or h))
unfolding piece_bytes
or_piece s h = record { is = ap (λ (l : List ℕ). 0x21 ∷ tag h ∷ l) (nothing_bytes s); inside = nothing_inside s }

pub halves : {s : List ℕ} {at e : ℕ} (a b : Goal) → Stands s at (goal_bytes a ++ goal_bytes b) e → e ≤ length s → Halves s at (goal_end at a) e a b
halves {s} {at} {e} a b w h =
    let v = stands_second (goal_bytes a) (goal_bytes b) w in
    record { fore = cuts (stands_first (goal_bytes a) (goal_bytes b) w) (omega (arith, v.end)); aft = cuts v h; both = cuts w h }

-- one of them
module _ {s : List ℕ} (part : Part) {a b : Goal} where
  pub half_cut : (h : Half) → Halves s part.content part.middle part.to a b → Cuts s (half_piece part (tag h)).range (goal_bytes (selected h a b))
  unfolding half_piece selected
  half_cut first k = k.fore
  half_cut second k = k.aft

  pub half_made : (h : Half) → Halves s part.content part.middle part.to a b → MakesPiece s (half_piece part (tag h)) (goal_bytes (selected h a b))
  unfolding half_piece selected
  half_made first k = piece Bare k.fore
  half_made second k = piece Bare k.aft

-- stacks of an event: as it is, with one more on it
module _ {A : Type 0} {s : List ℕ} {at e : ℕ} (bytes : A → List ℕ) (part : ℕ → A → Part) (l : List A) (w : Stands s at (counted bytes l) e) (h : e ≤ length s) where
  pub items : Cuts s (record { from = at + 2; to = at + length (counted bytes l) }) (each bytes l)
  items = rw (← w.end) (cuts (stands_second (word (length l)) (each bytes l) w) h)

  pub stack_same : MakesStack bytes s (unchanged (stack_places bytes part at l)) l
  stack_same = record {
    is = stack_kept bytes l (unchanged (stack_places bytes part at l)) s refl (nothing_bytes s) items.is;
    top_inside = nothing_inside s;
    rest_inside = items.inside;
  }

  pub stack_more : {top : Piece} (x : A) → MakesPiece s top (bytes x) → MakesStack bytes s (pushed (stack_places bytes part at l) top) (x ∷ l)
  unfolding pushed
  stack_more {top} x q = record {
    is = stack_pushed bytes x l (record { count = length l + 1; top = top; rest = record { from = at + 2; to = at + length (counted bytes l) } }) s (omega arith) q.is items.is;
    top_inside = q.inside;
    rest_inside = items.inside;
  }

-- with one less on it, and with another one in place of its top
module _ {A : Type 0} {s : List ℕ} {at e : ℕ} (bytes : A → List ℕ) (part : ℕ → A → Part) (x : A) (l : List A) (ends : (part (at + 2) x).to ≡ at + 2 + length (bytes x))
    (w : Stands s at (counted bytes (x ∷ l)) e) (h : e ≤ length s) where
  under : Cuts s (record { from = (part (at + 2) x).to; to = at + length (counted bytes (x ∷ l)) }) (each bytes l)
  under = rw (ends, ← w.end) (cuts (rest_stands bytes x l w) h)

  pub stack_less : MakesStack bytes s (dropped (stack_places bytes part at (x ∷ l))) l
  stack_less = record {
    is = stack_kept bytes l (dropped (stack_places bytes part at (x ∷ l))) s (omega arith) (nothing_bytes s) under.is;
    top_inside = nothing_inside s;
    rest_inside = under.inside;
  }

  pub stack_changed : {top : Piece} (y : A) → MakesPiece s top (bytes y) → MakesStack bytes s (replaced (stack_places bytes part at (x ∷ l)) top) (y ∷ l)
  unfolding replaced
  stack_changed {top} y q = record {
    is = stack_pushed bytes y l (record { count = length (x ∷ l); top = top; rest = record { from = (part (at + 2) x).to; to = at + length (counted bytes (x ∷ l)) } }) s refl q.is under.is;
    top_inside = q.inside;
    rest_inside = under.inside;
  }
