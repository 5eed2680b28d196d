-- Laws of what code makes of an emission: bytes in front, symbols and heads, what is taken from a stack and put there, flags.
use Rattle.std.specs.Prelude.{◌≡◌, refl, Bool, cond, ◌||◌, not, ℕ, suc, ◌+◌, ◌-◌, ◌≤◌, ◌<◌, min, leb, length, get_or, set}
use Rattle.std.proofs.Common.{sym, ap, ap₂, ◌∙◌, arith, add-one, length-set}
use mathlib.Core.List.{List, [], ◌∷◌, ◌++◌, append_assoc, head-eq_of_cons-eq, tail-eq_of_cons-eq}
use Rattle.reader.specs.Emit.Cells.{Emission, emission, cell, emit_cell, reopened, due, whole, primary, headed, shown_clause, top, popped}
use Rattle.reader.specs.Emit.Emits.{Pushes, stacked, capped, all_capped, nothing, Emits, Turns, with_bytes, with_symbol, with_clause, with_top, placed, one_fewer, whole_state, primary_state, over_state, headed_state, starting_kind, shut_state, close_state, reopened_state, semicolon_state, end_state, and_state, equal_state}
use Rattle.reader.specs.declared.emit.Behind.{Behind}
use Rattle.reader.specs.declared.emit.Emission.{Emission as State}
use Rattle.reader.specs.declared.roles.Role.TheVariants.{Shut, Next, And, Or, Equal, Close, Rule}
use Rattle.reader.specs.Emit.PushLaws.{pushes_then, due_append, held_as}
use Rattle.reader.specs.Emit.StackLaws.{capped_over, capped_within, stacked_popped, stacked_length, stacked_suc, stacked_push, capped_top, capped_popped}

-- Turns: one behind the other, and the same for what makes the same of an emission
module _ {o1 k1 : List ℕ} {b1 : List Behind} {o2 k2 : List ℕ} {b2 : List Behind} {e d : State} where
  pub turns_then : {o3 k3 : List ℕ} {b3 : List Behind} {r : State} {f g : Emission → Emission} → Turns o1 k1 b1 e o2 k2 b2 d f → Turns o2 k2 b2 d o3 k3 b3 r g → Turns o1 k1 b1 e o3 k3 b3 r (λ x. g (f x))
  turns_then {f = f} p q = record {
    keeps = q.keeps ∙ p.keeps;
    counts_keep = q.counts_keep ∙ p.counts_keep;
    brackets_keep = q.brackets_keep ∙ p.brackets_keep;
    lower = omega (arith, p.lower, q.lower);
    emits = λ x h. q.emits (f x) (p.emits x h);
  }

  pub turns_as : {f g : Emission → Emission} → ((x : Emission) → f x ≡ g x) → Turns o1 k1 b1 e o2 k2 b2 d f → Turns o1 k1 b1 e o2 k2 b2 d g
  turns_as {f} {g} s p = record {
    keeps = p.keeps;
    counts_keep = p.counts_keep;
    brackets_keep = p.brackets_keep;
    lower = p.lower;
    emits = λ x h. rw (s x) at (p.emits x h);
  }

-- bytes in front
module _ {out after : List ℕ} {e : State} {next : ℕ} (counts : List ℕ) (brackets : List Behind) where
  pub turns_bytes : {b : List ℕ} {r : State} → Pushes out e.at b after next → r ≡ placed e next → Turns out counts brackets e after counts brackets r (with_bytes b)
  turns_bytes {b} {r} p i = record { keeps = p.keeps; counts_keep = refl; brackets_keep = refl; lower = rw i p.lower; emits = go }
    where
      go : (x : Emission) → Emits out counts brackets e x → Emits after counts brackets r (with_bytes b x)
      go (emission l o n ks bs c s q v) h = rw i (record {
        bytes = p.pushed o l h.bytes;
        over_is = h.over_is;
        clauses_are = h.clauses_are;
        counts_are = h.counts_are;
        brackets_are = h.brackets_are;
        comma_is = h.comma_is;
        semicolon_is = h.semicolon_is;
        equal_is = h.equal_is;
        variables_are = h.variables_are;
      })

  pub turns_whole : {r : State} → Pushes out e.at (due e.behind.semicolon 0x14 []) after next → r ≡ whole_state e next → Turns out counts brackets e after counts brackets r whole
  turns_whole {r} p i = record { keeps = p.keeps; counts_keep = refl; brackets_keep = refl; lower = rw i p.lower; emits = go }
    where
      go : (x : Emission) → Emits out counts brackets e x → Emits after counts brackets r (whole x)
      go (emission l o n ks bs c s q v) h = rw i (record {
        bytes = rw (due_append s 0x14 l, ← h.semicolon_is) (p.pushed o l h.bytes);
        over_is = h.over_is;
        clauses_are = h.clauses_are;
        counts_are = h.counts_are;
        brackets_are = h.brackets_are;
        comma_is = h.comma_is;
        semicolon_is = refl;
        equal_is = h.equal_is;
        variables_are = h.variables_are;
      })

  pub turns_primary : {between : List ℕ} {equality : ℕ} {r : State} → Pushes out e.at (due e.equal 0x12 []) between equality → Pushes between equality (due e.behind.comma 0x13 []) after next
      → r ≡ primary_state e next → Turns out counts brackets e after counts brackets r primary
  turns_primary {r = r} p1 p2 i = record { keeps = p.keeps; counts_keep = refl; brackets_keep = refl; lower = rw i p.lower; emits = go }
    where
      p : Pushes out e.at (due e.behind.comma 0x13 [] ++ due e.equal 0x12 []) after next
      p = pushes_then p1 p2

      go : (x : Emission) → Emits out counts brackets e x → Emits after counts brackets r (primary x)
      go (emission l o n ks bs c s q v) h = rw i (record {
        bytes = rw (due_append c 0x13 (due q 0x12 l), due_append q 0x12 l, ← append_assoc (due c 0x13 []) (due q 0x12 []) l, ← h.comma_is, ← h.equal_is) (p.pushed o l h.bytes);
        over_is = h.over_is;
        clauses_are = h.clauses_are;
        counts_are = h.counts_are;
        brackets_are = h.brackets_are;
        comma_is = refl;
        semicolon_is = h.semicolon_is;
        equal_is = refl;
        variables_are = h.variables_are;
      })

module _ {out after : List ℕ} {e : State} {next : ℕ} (k : ℕ) {count : ℕ} (same : count ≡ capped k) (counts : List ℕ) (brackets : List Behind) where
  pub turns_symbol : {kind : ℕ} (a : ℕ) {r : State} → Pushes out e.at (headed kind a count []) after next → r ≡ over_state e next (leb 17 count || e.over)
      → Turns out counts brackets e after counts brackets r (with_symbol kind a k)
  turns_symbol {kind} a {r} p i = record { keeps = p.keeps; counts_keep = refl; brackets_keep = refl; lower = rw i p.lower; emits = go }
    where
      go : (x : Emission) → Emits out counts brackets e x → Emits after counts brackets r (with_symbol kind a k x)
      go (emission l o n ks bs c s q v) h = rw i (record {
        bytes = held_as (not (leb k 16) || o) (headed kind a k l) refl (λ f. (capped_within k o f).0) (λ f. ap (λ (m : ℕ). headed kind a m l) (same ∙ (capped_within k o f).1)) (p.pushed o l h.bytes);
        over_is = rw (same, capped_over k, h.over_is) refl;
        clauses_are = h.clauses_are;
        counts_are = h.counts_are;
        brackets_are = h.brackets_are;
        comma_is = h.comma_is;
        semicolon_is = h.semicolon_is;
        equal_is = h.equal_is;
        variables_are = h.variables_are;
      })

  pub turns_clause : (a : ℕ) {r : State} → Pushes out e.at (shown_clause a count e.variables []) after next → r ≡ headed_state e next (leb 17 count || e.over)
      → Turns out counts brackets e after counts brackets r (with_clause a k)
  turns_clause a {r} p i = record { keeps = p.keeps; counts_keep = refl; brackets_keep = refl; lower = rw i p.lower; emits = go }
    where
      go : (x : Emission) → Emits out counts brackets e x → Emits after counts brackets r (with_clause a k x)
      go (emission l o n ks bs c s q v) h = rw i (record {
        bytes = held_as (not (leb k 16) || o) (shown_clause a k v l) refl (λ f. (capped_within k o f).0) (λ f. rw (same, (capped_within k o f).1, h.variables_are) refl) (p.pushed o l h.bytes);
        over_is = rw (same, capped_over k, h.over_is) refl;
        clauses_are = h.clauses_are;
        counts_are = h.counts_are;
        brackets_are = h.brackets_are;
        comma_is = h.comma_is;
        semicolon_is = h.semicolon_is;
        equal_is = h.equal_is;
        variables_are = refl;
      })

-- what takes the top count
pub turns_top : {out counts : List ℕ} {brackets : List Behind} {after : List ℕ} {e d r : State} {f : ℕ → Emission → Emission} → d ≡ one_fewer e
    → length after ≡ length out → r.at ≤ d.at → ((k : ℕ) → top (stacked 0 counts e.terms) ≡ capped k → Turns out counts brackets d after counts brackets r (f k))
    → Turns out counts brackets e after counts brackets r (with_top f)
turns_top {out} {counts} {brackets} {after} {e} {d} {r} {f} u i j t = record { keeps = i; counts_keep = refl; brackets_keep = refl; lower = omega (arith, j, ap (λ (x : State). x.at) u); emits = go }
  where
    go : (x : Emission) → Emits out counts brackets e x → Emits after counts brackets r (with_top f x)
    go (emission l o n ks bs c s q v) h =
        (t (top ks) (ap top h.counts_are ∙ capped_top ks)).emits (emission l o n (popped ks) bs c s q v)
        (rw u (record {
          bytes = h.bytes;
          over_is = h.over_is;
          clauses_are = h.clauses_are;
          counts_are = stacked_popped counts e.terms ∙ ap popped h.counts_are ∙ capped_popped ks;
          brackets_are = h.brackets_are;
          comma_is = h.comma_is;
          semicolon_is = h.semicolon_is;
          equal_is = h.equal_is;
          variables_are = h.variables_are;
        }))

-- the kind of what may be the left side of an equality, by the = behind it
pub turns_kind : {out counts : List ℕ} {brackets : List Behind} {after : List ℕ} {e r : State} (f : ℕ → Emission → Emission) {kind : ℕ} → kind ≡ cond e.equal 0x02 0x15
    → Turns out counts brackets e after counts brackets r (f kind) → Turns out counts brackets e after counts brackets r (λ x. f (starting_kind x) x)
turns_kind {out} {counts} {brackets} {after} {e} {r} f {kind} i t = record { keeps = t.keeps; counts_keep = refl; brackets_keep = refl; lower = t.lower; emits = go }
  where
    go : (x : Emission) → Emits out counts brackets e x → Emits after counts brackets r (f (starting_kind x) x)
    go (emission l o n ks bs c s q v) h = rw (i ∙ ap (λ (b : Bool). cond b 0x02 0x15) h.equal_is) at (t.emits (emission l o n ks bs c s q v) h)

-- a state in which only flags and counts differ
module _ (out : List ℕ) (a x : ℕ) where
  pub turns_shut : {counts : List ℕ} {brackets : List Behind} {e r : State} → e.terms < length counts → r ≡ shut_state e
      → Turns out counts brackets e out (set counts e.terms 1) brackets r (emit_cell (cell Shut a x))
  turns_shut {counts} {brackets} {e} {r} k i = record { keeps = refl; counts_keep = length-set counts e.terms 1; brackets_keep = refl; lower = rw i (omega arith); emits = go }
    where
      go : (y : Emission) → Emits out counts brackets e y → Emits out (set counts e.terms 1) brackets r (emit_cell (cell Shut a x) y)
      go (emission l o n ks bs c s q v) h = rw i (record {
        bytes = h.bytes;
        over_is = h.over_is;
        clauses_are = h.clauses_are;
        counts_are = stacked_push 0 counts e.terms 1 k ∙ ap (λ (m : List ℕ). 1 ∷ m) h.counts_are;
        brackets_are = h.brackets_are;
        comma_is = h.comma_is;
        semicolon_is = h.semicolon_is;
        equal_is = h.equal_is;
        variables_are = h.variables_are;
      })

  -- one argument more: of the first, of one that is counted, and of one that is over already
  pub turns_first : {counts after : List ℕ} {brackets : List Behind} {e r : State} → e.terms ≡ 0 → Turns out counts brackets e out after brackets r (emit_cell (cell Shut a x))
      → Turns out counts brackets e out after brackets r (emit_cell (cell Next a x))
  turns_first {counts} {after} {brackets} {e} {r} z t = record { keeps = t.keeps; counts_keep = t.counts_keep; brackets_keep = t.brackets_keep; lower = t.lower; emits = go }
    where
      go : (y : Emission) → Emits out counts brackets e y → Emits out after brackets r (emit_cell (cell Next a x) y)
      go (emission l o n [] bs c s q v) h = t.emits (emission l o n [] bs c s q v) h
      go (emission l o n (k ∷ ks) bs c s q v) h = absurd (omega (arith, ap length h.counts_are, stacked_length 0 counts e.terms, z))

  pub turns_next : {counts : List ℕ} {brackets : List Behind} {e : State} {m : ℕ} → 0 < e.terms → e.terms ≤ length counts → m ≡ min (get_or counts (e.terms - 1) 0 + 1) 17
      → Turns out counts brackets e out (set counts (e.terms - 1) m) brackets e (emit_cell (cell Next a x))
  turns_next {counts} {brackets} {e} {m} z k i = record { keeps = refl; counts_keep = length-set counts (e.terms - 1) m; brackets_keep = refl; lower = omega arith; emits = go }
    where
      last : ℕ
      last = e.terms - 1

      top_is : stacked 0 counts e.terms ≡ get_or counts last 0 ∷ stacked 0 counts last
      top_is = let q : last + 1 ≡ e.terms = omega arith in rw q at (stacked_suc 0 counts last)

      new_is : stacked 0 (set counts last m) e.terms ≡ m ∷ stacked 0 counts last
      new_is = let q : last + 1 ≡ e.terms = omega arith in rw q at (stacked_push 0 counts last m (omega arith))

      go : (y : Emission) → Emits out counts brackets e y → Emits out (set counts last m) brackets e (emit_cell (cell Next a x) y)
      go (emission l o n [] bs c s q v) h = absurd (omega (arith, ap length h.counts_are, stacked_length 0 counts e.terms))
      go (emission l o n (j ∷ ks) bs c s q v) h =
          let both : get_or counts last 0 ∷ stacked 0 counts last ≡ capped j ∷ all_capped ks = sym top_is ∙ h.counts_are in
          let d : get_or counts last 0 ≡ capped j = head-eq_of_cons-eq both in
          let f : m ≡ capped (suc j) = omega arith in
          record {
            bytes = h.bytes;
            over_is = h.over_is;
            clauses_are = h.clauses_are;
            counts_are = new_is ∙ ap₂ ◌∷◌ f (tail-eq_of_cons-eq both);
            brackets_are = h.brackets_are;
            comma_is = h.comma_is;
            semicolon_is = h.semicolon_is;
            equal_is = h.equal_is;
            variables_are = h.variables_are;
          }

  pub turns_many : {counts : List ℕ} {brackets : List Behind} {e : State} → 0 < e.terms → e.terms ≤ length counts → 17 ≤ get_or counts (e.terms - 1) 0
      → Turns out counts brackets e out counts brackets e (emit_cell (cell Next a x))
  turns_many {counts} {brackets} {e} z k i = record { keeps = refl; counts_keep = refl; brackets_keep = refl; lower = omega arith; emits = go }
    where
      last : ℕ
      last = e.terms - 1

      top_is : stacked 0 counts e.terms ≡ get_or counts last 0 ∷ stacked 0 counts last
      top_is = let q : last + 1 ≡ e.terms = omega arith in rw q at (stacked_suc 0 counts last)

      go : (y : Emission) → Emits out counts brackets e y → Emits out counts brackets e (emit_cell (cell Next a x) y)
      go (emission l o n [] bs c s q v) h = absurd (omega (arith, ap length h.counts_are, stacked_length 0 counts e.terms))
      go (emission l o n (j ∷ ks) bs c s q v) h =
          let d : get_or counts last 0 ≡ capped j = head-eq_of_cons-eq (sym top_is ∙ h.counts_are) in
          let f : capped j ≡ capped (suc j) = omega (arith, d, i) in
          record {
            bytes = h.bytes;
            over_is = h.over_is;
            clauses_are = h.clauses_are;
            counts_are = h.counts_are ∙ ap (λ (m : ℕ). m ∷ all_capped ks) f;
            brackets_are = h.brackets_are;
            comma_is = h.comma_is;
            semicolon_is = h.semicolon_is;
            equal_is = h.equal_is;
            variables_are = h.variables_are;
          }

  pub turns_close : {counts : List ℕ} {brackets : List Behind} {e r : State} → e.goals < length brackets → r ≡ close_state e
      → Turns out counts brackets e out counts (set brackets e.goals e.behind) r (emit_cell (cell Close a x))
  turns_close {counts} {brackets} {e} {r} k i = record { keeps = refl; counts_keep = refl; brackets_keep = length-set brackets e.goals e.behind; lower = rw i (omega arith); emits = go }
    where
      go : (y : Emission) → Emits out counts brackets e y → Emits out counts (set brackets e.goals e.behind) r (emit_cell (cell Close a x) y)
      go (emission l o n ks bs c s q v) h =
          let f : e.behind ≡ record { comma = c; semicolon = s } = ap₂ (λ (y z : Bool). record { comma = y; semicolon = z }) h.comma_is h.semicolon_is in
          rw i (record {
            bytes = h.bytes;
            over_is = h.over_is;
            clauses_are = h.clauses_are;
            counts_are = h.counts_are;
            brackets_are = stacked_push nothing brackets e.goals e.behind k ∙ ap₂ ◌∷◌ f h.brackets_are;
            comma_is = refl;
            semicolon_is = refl;
            equal_is = h.equal_is;
            variables_are = h.variables_are;
          })

  -- flags, and the end of a clause
  pub turns_semicolon : {counts : List ℕ} {brackets : List Behind} {before : List ℕ} {e d r : State} → Turns before counts brackets e out counts brackets d whole → r ≡ semicolon_state d
      → Turns before counts brackets e out counts brackets r (emit_cell (cell Or a x))
  turns_semicolon {counts} {brackets} {before} {e} {d} {r} t i = record { keeps = t.keeps; counts_keep = refl; brackets_keep = refl; lower = rw i t.lower; emits = go }
    where
      go : (y : Emission) → Emits before counts brackets e y → Emits out counts brackets r (emit_cell (cell Or a x) y)
      go (emission l o n ks bs c s q v) h =
          let w = t.emits (emission l o n ks bs c s q v) h in
          rw i (record {
            bytes = w.bytes;
            over_is = w.over_is;
            clauses_are = w.clauses_are;
            counts_are = w.counts_are;
            brackets_are = w.brackets_are;
            comma_is = w.comma_is;
            semicolon_is = refl;
            equal_is = w.equal_is;
            variables_are = w.variables_are;
          })

  module _ {counts : List ℕ} {brackets : List Behind} {e r : State} where
    pub turns_end : r ≡ end_state e x → Turns out counts brackets e out counts brackets r (emit_cell (cell Rule a x))
    turns_end i = record { keeps = refl; counts_keep = refl; brackets_keep = refl; lower = rw i (omega arith); emits = go }
      where
        go : (y : Emission) → Emits out counts brackets e y → Emits out counts brackets r (emit_cell (cell Rule a x) y)
        go (emission l o n ks bs c s q v) h = rw i (record {
          bytes = h.bytes;
          over_is = h.over_is;
          clauses_are = add-one e.clauses ∙ ap suc h.clauses_are;
          counts_are = h.counts_are;
          brackets_are = h.brackets_are;
          comma_is = h.comma_is;
          semicolon_is = h.semicolon_is;
          equal_is = h.equal_is;
          variables_are = refl;
        })

    pub turns_and : r ≡ and_state e → Turns out counts brackets e out counts brackets r (emit_cell (cell And a x))
    turns_and i = record { keeps = refl; counts_keep = refl; brackets_keep = refl; lower = rw i (omega arith); emits = go }
      where
        go : (y : Emission) → Emits out counts brackets e y → Emits out counts brackets r (emit_cell (cell And a x) y)
        go (emission l o n ks bs c s q v) h = rw i (record {
          bytes = h.bytes;
          over_is = h.over_is;
          clauses_are = h.clauses_are;
          counts_are = h.counts_are;
          brackets_are = h.brackets_are;
          comma_is = refl;
          semicolon_is = h.semicolon_is;
          equal_is = h.equal_is;
          variables_are = h.variables_are;
        })

    pub turns_equal : r ≡ equal_state e → Turns out counts brackets e out counts brackets r (emit_cell (cell Equal a x))
    turns_equal i = record { keeps = refl; counts_keep = refl; brackets_keep = refl; lower = rw i (omega arith); emits = go }
      where
        go : (y : Emission) → Emits out counts brackets e y → Emits out counts brackets r (emit_cell (cell Equal a x) y)
        go (emission l o n ks bs c s q v) h = rw i (record {
          bytes = h.bytes;
          over_is = h.over_is;
          clauses_are = h.clauses_are;
          counts_are = h.counts_are;
          brackets_are = h.brackets_are;
          comma_is = h.comma_is;
          semicolon_is = h.semicolon_is;
          equal_is = refl;
          variables_are = h.variables_are;
        })

-- an opening bracket
module _ (out : List ℕ) where
  pub turns_reopened_none : {counts : List ℕ} {brackets : List Behind} {e r : State} → e.goals ≡ 0 → r ≡ reopened_state e e.goals nothing → Turns out counts brackets e out counts brackets r reopened
  turns_reopened_none {counts} {brackets} {e} {r} z i = record { keeps = refl; counts_keep = refl; brackets_keep = refl; lower = rw i (omega arith); emits = go }
    where
      go : (y : Emission) → Emits out counts brackets e y → Emits out counts brackets r (reopened y)
      go (emission l o n ks [] c s q v) h = rw i (record {
        bytes = h.bytes;
        over_is = h.over_is;
        clauses_are = h.clauses_are;
        counts_are = h.counts_are;
        brackets_are = h.brackets_are;
        comma_is = refl;
        semicolon_is = refl;
        equal_is = h.equal_is;
        variables_are = h.variables_are;
      })
      go (emission l o n ks (b ∷ bs) c s q v) h = absurd (omega (arith, ap length h.brackets_are, stacked_length nothing brackets e.goals, z))

  pub turns_reopened : {counts : List ℕ} {brackets : List Behind} {e r : State} → 0 < e.goals → r ≡ reopened_state e (e.goals - 1) (get_or brackets (e.goals - 1) nothing) → Turns out counts brackets e out counts brackets r reopened
  turns_reopened {counts} {brackets} {e} {r} z i = record { keeps = refl; counts_keep = refl; brackets_keep = refl; lower = rw i (omega arith); emits = go }
    where
      last : ℕ
      last = e.goals - 1

      top_is : stacked nothing brackets e.goals ≡ get_or brackets last nothing ∷ stacked nothing brackets last
      top_is = let q : last + 1 ≡ e.goals = omega arith in rw q at (stacked_suc nothing brackets last)

      go : (y : Emission) → Emits out counts brackets e y → Emits out counts brackets r (reopened y)
      go (emission l o n ks [] c s q v) h = absurd (omega (arith, ap length h.brackets_are, stacked_length nothing brackets e.goals))
      go (emission l o n ks (b ∷ bs) c s q v) h =
          let both : get_or brackets last nothing ∷ stacked nothing brackets last ≡ b ∷ bs = sym top_is ∙ h.brackets_are in
          let f = head-eq_of_cons-eq both in
          rw i (record {
            bytes = h.bytes;
            over_is = h.over_is;
            clauses_are = h.clauses_are;
            counts_are = h.counts_are;
            brackets_are = tail-eq_of_cons-eq both;
            comma_is = ap (λ (x : Behind). x.comma) f;
            semicolon_is = ap (λ (x : Behind). x.semicolon) f;
            equal_is = h.equal_is;
            variables_are = h.variables_are;
          })
