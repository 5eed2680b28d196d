-- Laws of plans: how long the parts of a planned record are, and which event it is the record of.
use Rattle.std.specs.Prelude.{◌≡◌, refl, List, [], ◌∷◌, ◌++◌, ℕ, ◌+◌, ◌≤◌, ◌<◌, length}
use Rattle.std.proofs.Common.{sym, ap, ◌∙◌, arith, length-append}
use Rattle.records.specs.Format.Syntax.{Goal, Ancestor, Bet, Port}
use Rattle.records.specs.Format.Syntax.Event.{event}
use Rattle.records.specs.Format.Encode.{each, counted, goal_bytes, ancestor_bytes, bet_bytes, port_byte, record_of, event_record}
use Rattle.records.specs.Writing.EmittedLaws.{length_record_of}
use Rattle.records.specs.Ends.Range.{cut, Inside}
use Rattle.records.specs.Ends.RangeLaws.{length_cut, inside_at, cut_at}
use Rattle.records.specs.Writing.Plan.{lead_bytes, piece_bytes, nothing, stack_bytes, planned_body, planned, PlanInside}
use Rattle.records.specs.Writing.Plan.{piece_length, stack_length, body_length, plan_length, limited, plan_ends}
use Rattle.records.specs.Ends.Places.{part_ends}
use Rattle.records.specs.declared.places.PartEnds.{PartEnds}
use Rattle.records.specs.declared.plan.Piece.{Piece}
use Rattle.records.specs.declared.plan.Stack.{Stack}
use Rattle.records.specs.declared.plan.Plan.{Plan}

-- the lengths are those that the numbers tell
pub length_piece : (piece : Piece) {source : List ℕ} → Inside piece.range source → length (piece_bytes piece source) ≡ piece_length piece
unfolding piece_bytes
length_piece piece h = simp (length-append, length_cut h)

pub length_stack : (stack : Stack) {source : List ℕ} → Inside stack.top.range source → Inside stack.rest source
    → length (stack_bytes stack source) ≡ stack_length stack
unfolding stack_bytes
length_stack stack h k = simp (length-append, length_piece stack.top h, length_cut k) (omega arith)

pub length_planned_body : {p : Plan} {source : List ℕ} → PlanInside p source
    → length (planned_body p source) ≡ body_length p
unfolding planned_body
length_planned_body {p} h =
    simp (
      length-append,
      length_piece p.goal h.goal_inside,
      length_stack p.ancestors h.ancestor_inside h.ancestors_inside,
      length_stack p.bets h.bet_inside h.bets_inside,
    ) (omega arith)

pub length_planned : {p : Plan} {source : List ℕ} → PlanInside p source
    → length (planned p source) ≡ plan_length p
unfolding planned
length_planned h = simp (length_record_of, length_planned_body h) refl

-- a limited length over the limit: so is the record
pub limited_long : {p : Plan} {source : List ℕ} {n : ℕ} → PlanInside p source → n ≡ limited (plan_length p) → 32768 < n
    → 32768 < length (planned p source)
limited_long {p} h e k = rw (length_planned h) (over (plan_length p) (rw e at k))
  where
    over : (m : ℕ) → 32768 < limited m → 32768 < m
    over m l = omega arith

-- a limited length within the limit is the record's
pub limited_whole : {p : Plan} {source : List ℕ} {n : ℕ} → PlanInside p source → n ≡ limited (plan_length p) → n ≤ 32768
    → n ≡ length (planned p source)
limited_whole {p} h e k = rw (length_planned h) (within (plan_length p) e k)
  where
    within : {n : ℕ} (m : ℕ) → n ≡ limited m → n ≤ 32768 → n ≡ m
    within m f l = omega arith

-- a piece whose range cuts s out of p ++ (s ++ q)
pub piece_at : (piece : Piece) (p s q : List ℕ) {source : List ℕ} → source ≡ p ++ (s ++ q) → piece.range.from ≡ length p
    → piece.range.to ≡ length p + length s → piece_bytes piece source ≡ lead_bytes piece.lead ++ s
unfolding piece_bytes
piece_at piece p s q e f t = rw (cut_at p s q {r = piece.range} e f t) refl

-- nothing put
pub nothing_inside : (source : List ℕ) → Inside nothing.range source
nothing_inside source = inside_at [] [] source refl refl refl

pub nothing_bytes : (source : List ℕ) → piece_bytes nothing source ≡ []
nothing_bytes source = piece_at nothing [] [] source refl refl refl

-- a stack with x put on l
pub stack_pushed : {A : Type 0} (f : A → List ℕ) (x : A) (l : List A) (stack : Stack) (source : List ℕ)
    → stack.count ≡ length (x ∷ l) → piece_bytes stack.top source ≡ f x → cut source stack.rest ≡ each f l
    → stack_bytes stack source ≡ counted f (x ∷ l)
unfolding stack_bytes
stack_pushed f x l stack source c t r = rw (c, t, r) refl

-- a stack on which nothing is put
pub stack_kept : {A : Type 0} (f : A → List ℕ) (l : List A) (stack : Stack) (source : List ℕ)
    → stack.count ≡ length l → piece_bytes stack.top source ≡ [] → cut source stack.rest ≡ each f l
    → stack_bytes stack source ≡ counted f l
unfolding stack_bytes
stack_kept f l stack source c t r = rw (c, t, r) refl

-- a plan whose parts are those of an event gives the event's record
pub planned_event : (p : Plan) (port : Port) (g : Goal) (u : List Ancestor) (s : List Bet) (source : List ℕ)
    → p.port ≡ port_byte port → piece_bytes p.goal source ≡ goal_bytes g
    → stack_bytes p.ancestors source ≡ counted ancestor_bytes u → stack_bytes p.bets source ≡ counted bet_bytes s
    → planned p source ≡ event_record (event port g u s)
unfolding planned planned_body
planned_event p port g u s source e h k l = rw (e, h, k, l) refl

-- its ends, from limited lengths
pub ends_measured : (p : Plan) {piece stack goal ancestors : ℕ} → piece ≡ limited (piece_length p.goal) → goal ≡ limited (4 + piece)
    → stack ≡ limited (stack_length p.ancestors) → ancestors ≡ limited (goal + stack) → record { goal = goal; ancestors = ancestors } ≡ plan_ends p
ends_measured p {goal = goal} {ancestors} a b c d =
    let x : goal ≡ limited (4 + piece_length p.goal) = omega arith in
    let y : ancestors ≡ limited (4 + piece_length p.goal + stack_length p.ancestors) = omega arith in
    rw (x, y) refl

-- and its ends are the event's, where the record is not too long
pub planned_ends : (p : Plan) (port : Port) (g : Goal) (u : List Ancestor) (s : List Bet) {source : List ℕ} → PlanInside p source
    → piece_bytes p.goal source ≡ goal_bytes g → stack_bytes p.ancestors source ≡ counted ancestor_bytes u
    → length (event_record (event port g u s)) ≤ 32768 → plan_ends p ≡ part_ends (event port g u s)
unfolding part_ends record_of
planned_ends p port g u s h e k l =
    let a : piece_length p.goal ≡ length (goal_bytes g) = sym (length_piece p.goal h.goal_inside) ∙ ap length e in
    let b : stack_length p.ancestors ≡ length (counted ancestor_bytes u) = sym (length_stack p.ancestors h.ancestor_inside h.ancestors_inside) ∙ ap length k in
    let n : 4 + length (goal_bytes g) + length (counted ancestor_bytes u) ≤ 32768 = omega (arith, parts_together) in
    rw (a, b) (limited_ends (length (goal_bytes g)) (length (counted ancestor_bytes u)) n)
  where
    parts_together : 4 + length (goal_bytes g) + length (counted ancestor_bytes u) ≤ length (event_record (event port g u s))
    parts_together = simp length-append (omega arith)

    limited_ends : (x y : ℕ) → 4 + x + y ≤ 32768
        → ◌≡◌ {A = PartEnds} (record { goal = limited (4 + x); ancestors = limited (4 + x + y) }) (record { goal = 4 + x; ancestors = 4 + x + y })
    limited_ends x y l = let c : limited (4 + x) ≡ 4 + x = omega arith in let d : limited (4 + x + y) ≡ 4 + x + y = omega arith in rw (c, d) refl
