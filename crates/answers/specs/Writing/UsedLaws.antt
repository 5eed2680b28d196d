-- Laws of the bodies and branches among bets: they are met from the top down, and each stands behind those below it.
use Rattle.std.specs.Prelude.{◌≡◌, refl, Bool, true, false, List, [], ◌∷◌, ◌++◌, ℕ, ◌+◌, ◌-◌, ◌≤◌, ◌<◌, length, drop, Option}
use Rattle.std.proofs.Common.{sym, ◌∙◌, ap, ap₂, append_assoc, append-nil, arith, length-append, length-drop}
use Rattle.records.specs.Format.Never.{never}
use Rattle.records.specs.Format.Syntax.{Bet, unifier, or, by}
use Rattle.records.specs.Format.Encode.{each, bet_bytes}
use Rattle.records.specs.Format.Exact.{bet_exact}
use Rattle.records.specs.Format.Heads.{bet_head_at}
use Rattle.records.specs.Format.Items.{read_bet}
use Rattle.records.specs.Ends.Range.{cut, Inside}
use Rattle.records.specs.Ends.Stands.{head_of_bet}
use Rattle.records.specs.Ends.StandsLaws.{stands_ends, stands_within, bet_stands, stands_cut}
use Rattle.records.specs.Ends.Traversal.{position, end_of}
use Rattle.records.specs.Writing.Patched.{Put}
use Rattle.records.specs.Writing.PatchedLaws.{put_none, put_ahead}
use Rattle.terms.specs.Values.NodeBytesLaws.{each_append}
use Rattle.terms.specs.Standing.Frames.{BetsAt}
use Rattle.terms.specs.Standing.Rows.{FirstOf}
use Rattle.terms.specs.Standing.RowsLaws.{standing_first, standing_none}
use Rattle.answers.specs.Form.Answer.{used_of}
use Rattle.answers.specs.Writing.Used.{head_used, used_size, with_bet, bytes_used, if_used}
use Rattle.answers.specs.declared.used.UsedSize.{UsedSize}

bet_long : (b : Bet) → 0 < length (bet_bytes b)
bet_long (unifier m) = omega arith
bet_long (or n) = omega arith
bet_long (by g) = omega arith

-- the top bet, by its head
used_top : (b : Bet) (s : List Bet) → head_used (head_of_bet b) ≡ true → used_of (b ∷ s) ≡ used_of s ++ (b ∷ [])
used_top (unifier m) s h = never (sym h)
used_top (or n) s h = refl
used_top (by g) s h = refl

unused_top : (b : Bet) (s : List Bet) → head_used (head_of_bet b) ≡ false → used_of (b ∷ s) ≡ used_of s
unused_top (unifier m) s h = refl
unused_top (or n) s h = never h
unused_top (by g) s h = never h

-- on the way over bets that stand somewhere, from the top: `left` are to come at a position, and what was met is used last
pub record UsedPass (s : List ℕ) (bets : List Bet) (pos left : ℕ) (passed : List Bet) : Type 0 where
  pub row : BetsAt s pos left
  pub whole : used_of bets ≡ used_of row.items ++ passed

module _ {s : List ℕ} {bets passed : List Bet} {pos left : ℕ} (w : UsedPass s bets pos left passed) where
  pub pass_end : left ≡ 0 → used_of bets ≡ passed
  pass_end z = w.whole ∙ ap (λ l. used_of l ++ passed) (standing_none w.row z)

  module _ (h : 0 < left) where
    abbrev pub pass_first : FirstOf w.row
    pass_first = standing_first w.row h

    -- where the top one ends
    pub pass_place : {o : Option ℕ} {next : ℕ} → o ≡ end_of read_bet s pos → next ≡ position o → next ≡ pass_first.first.end
    pass_place is e = let b = pass_first.first in e ∙ ap position (is ∙ stands_ends bet_exact b.item b.formed b.stands)

    pass_head : bet_head_at s pos ≡ head_of_bet pass_first.first.item
    pass_head = let b = pass_first.first in bet_stands b.item b.formed b.stands

    -- it is met
    used_whole : {r : Bool} → r ≡ head_used (bet_head_at s pos) → r ≡ true → used_of bets ≡ used_of pass_first.rest.items ++ (pass_first.first.item ∷ passed)
    used_whole e t =
        let f = pass_first in
        w.whole ∙ ap (λ l. used_of l ++ passed) f.whole ∙ ap (◌++ passed) (used_top f.first.item f.rest.items (ap head_used (sym pass_head) ∙ sym e ∙ t))
        ∙ append_assoc (used_of f.rest.items) (f.first.item ∷ []) passed

    pub pass_used : {r : Bool} → r ≡ head_used (bet_head_at s pos) → r ≡ true → UsedPass s bets pass_first.first.end (left - 1) (pass_first.first.item ∷ passed)
    pass_used e t = record { row = pass_first.rest; whole = used_whole e t }

    pub pass_unused : {r : Bool} → r ≡ head_used (bet_head_at s pos) → r ≡ false → UsedPass s bets pass_first.first.end (left - 1) passed
    pass_unused e t =
        let f = pass_first in
        record {
          row = f.rest;
          whole = w.whole ∙ ap (λ l. used_of l ++ passed) f.whole ∙ ap (◌++ passed) (unused_top f.first.item f.rest.items (ap head_used (sym pass_head) ∙ sym e ∙ t));
        }

    -- the bytes that it stands in, which are its own
    pub pass_bytes : {next : ℕ} → next ≡ pass_first.first.end → cut s (record { from = pos; to = next }) ≡ bet_bytes pass_first.first.item
    pass_bytes e = rw e (stands_cut pass_first.first.stands)

    pub pass_within : {next : ℕ} → next ≡ pass_first.first.end → (pos < next) × (next ≤ length s) × (next ≡ pos + length (bet_bytes pass_first.first.item))
    pass_within e =
        let b = pass_first.first in
        let w = stands_within b.stands (bet_long b.item) in
        rw e (w.0, w.1, b.stands.end)

-- one bet further: it is met if it is a body or a branch
abbrev met_with : Bool → Bet → List Bet → List Bet
met_with true b l = b ∷ l
met_with false b l = l

module _ {s : List ℕ} {bets passed : List Bet} {pos left : ℕ} (w : UsedPass s bets pos left passed) (h : 0 < left) {o : Option ℕ} {next : ℕ} (is : o ≡ end_of read_bet s pos) (at_end : next ≡ position o) where
  abbrev top : Bet
  top = (pass_first w h).first.item

  abbrev used : Bool
  used = head_used (bet_head_at s pos)

  place : next ≡ (pass_first w h).first.end
  place = pass_place w h is at_end

  pub pass_next : UsedPass s bets next (left - 1) (met_with used top passed)
  pass_next = rw place (go used refl)
    where
      go : (b : Bool) → used ≡ b → UsedPass s bets (pass_first w h).first.end (left - 1) (met_with b top passed)
      go true e = pass_used w h refl e
      go false e = pass_unused w h refl e

  pub next_within : (pos < next) × (next ≤ length s) × (next ≡ pos + length (bet_bytes top))
  next_within = pass_within w h place

  pub next_inside : Inside (record { from = pos; to = next }) s
  next_inside = record { order = omega (arith, next_within.0); stop = next_within.1 }

  -- what is written of it, in front of what was met
  pub next_bytes : if_used used (cut s (record { from = pos; to = next })) ++ each bet_bytes passed ≡ each bet_bytes (met_with used top passed)
  next_bytes = rw (pass_bytes w h place) (go used)
    where
      go : (b : Bool) → if_used b (bet_bytes top) ++ each bet_bytes passed ≡ each bet_bytes (met_with b top passed)
      go true = refl
      go false = refl

  -- there is room for it before what was met, where there is for all
  pub next_room : {from to : ℕ} → to ≡ from + length (each bet_bytes passed) → length (each bet_bytes (used_of bets)) ≤ to → bytes_used used (next - pos) ≤ from
  next_room {from} e n = go used refl
    where
      go : (b : Bool) → used ≡ b → bytes_used b (next - pos) ≤ from
      go false k = omega arith
      go true k =
          let f = pass_first w h in
          let met = used_whole w h refl k in
          let size = ap (λ l. length (each bet_bytes l)) met ∙ ap length (each_append bet_bytes (used_of f.rest.items) (top ∷ passed)) ∙ length-append (each bet_bytes (used_of f.rest.items)) (each bet_bytes (top ∷ passed)) in
          omega (arith, size, length-append (bet_bytes top) (each bet_bytes passed), next_within.2)

-- the same with what was met counted and measured
pub record UsedSoFar (s : List ℕ) (bets : List Bet) (pos left : ℕ) (size : UsedSize) : Type 0 where
  pub passed : List Bet
  pub pass : UsedPass s bets pos left passed
  pub size_is : size ≡ used_size passed

pub so_far_start : {s : List ℕ} {at n : ℕ} (b : BetsAt s at n) → UsedSoFar s b.items at n (record { count = 0; length = 0 })
so_far_start b = record { passed = []; pass = record { row = b; whole = sym (append-nil _) }; size_is = refl }

pub so_far_next : {s : List ℕ} {bets : List Bet} {pos left next : ℕ} {size r : UsedSize} {o : Option ℕ} (w : UsedSoFar s bets pos left size) (h : 0 < left)
    → o ≡ end_of read_bet s pos → next ≡ position o → r ≡ with_bet (head_used (bet_head_at s pos)) size (next - pos) → UsedSoFar s bets next (left - 1) r
so_far_next {s} {pos = pos} {next = next} {size} {r} w h is e m = record {
  passed = met_with (head_used (bet_head_at s pos)) (pass_first w.pass h).first.item w.passed;
  pass = pass_next w.pass h is e;
  size_is = m ∙ go (head_used (bet_head_at s pos));
}
  where
    go : (b : Bool) → with_bet b size (next - pos) ≡ used_size (met_with b (pass_first w.pass h).first.item w.passed)
    go false = w.size_is
    go true =
        let n = next_within w.pass h is e in
        let b = (pass_first w.pass h).first.item in
        let size : next - pos ≡ length (bet_bytes b) = omega (arith, n.2) in
        rw (w.size_is, size) (ap₂ (λ c l. record { count = c; length = l }) (omega arith) (simp length-append (omega arith)))

pub so_far_end : {s : List ℕ} {bets : List Bet} {pos left : ℕ} {size : UsedSize} → UsedSoFar s bets pos left size → left ≡ 0 → size ≡ used_size (used_of bets)
so_far_end w z = w.size_is ∙ ap used_size (sym (pass_end w.pass z))

with_bet_within : (b : Bool) (u : UsedSize) (n : ℕ) → ((with_bet b u n).count ≤ u.count + 1) × ((with_bet b u n).length ≤ u.length + n)
with_bet_within true u n = (omega arith, omega arith)
with_bet_within false u n = (omega arith, omega arith)

-- it grows by one and so many bytes at most
pub so_far_within : (s : List ℕ) (pos next : ℕ) (size r : UsedSize) → r ≡ with_bet (head_used (bet_head_at s pos)) size (next - pos)
    → (r.count ≤ size.count + 1) × (r.length ≤ size.length + (next - pos))
so_far_within s pos next size r e = rw e (with_bet_within (head_used (bet_head_at s pos)) size (next - pos))

-- the same with what was met written before a place
pub record WrittenSoFar (s : List ℕ) (bets : List Bet) (pos left : ℕ) (before : List ℕ) (to : ℕ) (out : List ℕ) (from : ℕ) : Type 0 where
  pub passed : List Bet
  pub pass : UsedPass s bets pos left passed
  pub put : Put before from (each bet_bytes passed) out to

pub written_start : {s before : List ℕ} {at n to : ℕ} (b : BetsAt s at n) → WrittenSoFar s b.items at n before to before to
written_start b = record { passed = []; pass = record { row = b; whole = sym (append-nil _) }; put = put_none }

module _ {s : List ℕ} {bets : List Bet} {pos left : ℕ} {before : List ℕ} {to : ℕ} {out : List ℕ} {from : ℕ} (w : WrittenSoFar s bets pos left before to out from) where
  module _ (h : 0 < left) {o : Option ℕ} {next : ℕ} (is : o ≡ end_of read_bet s pos) (e : next ≡ position o) where
    pub written_inside : Inside (record { from = pos; to = next }) s
    written_inside = next_inside w.pass h is e

    pub written_room : length (each bet_bytes (used_of bets)) ≤ to → bytes_used (head_used (bet_head_at s pos)) (next - pos) ≤ from
    written_room n = next_room w.pass h is e w.put.place n

    pub written_next : {out' : List ℕ} {r : ℕ} → Put out r (if_used (head_used (bet_head_at s pos)) (cut s (record { from = pos; to = next }))) out' from
        → WrittenSoFar s bets next (left - 1) before to out' r
    written_next p = record {
      passed = met_with (head_used (bet_head_at s pos)) (pass_first w.pass h).first.item w.passed;
      pass = pass_next w.pass h is e;
      put = rw (next_bytes w.pass h is e) at (put_ahead w.put p);
    }

  pub written_end : left ≡ 0 → Put before (to - length (each bet_bytes (used_of bets))) (each bet_bytes (used_of bets)) out to
  written_end z =
      let all = pass_end w.pass z in
      let at : to - length (each bet_bytes (used_of bets)) ≡ from = rw all (omega (arith, w.put.place)) in
      rw (at, all) w.put

-- a bet behind others has its bytes more
one_behind : (b : Bet) (s : List Bet) → length (each bet_bytes (used_of s)) ≤ length (each bet_bytes s) → length (each bet_bytes (used_of s ++ (b ∷ []))) ≤ length (each bet_bytes (b ∷ s))
one_behind b s h = rw (each_append bet_bytes (used_of s) (b ∷ [])) (simp length-append (omega arith))

-- they have no more bytes than the bets have,
used_below : (s : List Bet) → length (each bet_bytes (used_of s)) ≤ length (each bet_bytes s)
used_below [] = omega arith
used_below (unifier m ∷ s) = let h = used_below s in let n = length-append (bet_bytes (unifier m)) (each bet_bytes s) in omega arith
used_below (or n ∷ s) = one_behind (or n) s (used_below s)
used_below (by g ∷ s) = one_behind (by g) s (used_below s)

-- and so no more than the event
pub used_short : {s : List ℕ} {at n : ℕ} (b : BetsAt s at n) → length (each bet_bytes (used_of b.items)) ≤ length s
used_short {s} {at} b =
    omega (arith, used_below b.items, ap length b.stands.bytes, length-append (each bet_bytes b.items) (drop b.end s), length-drop at s)
