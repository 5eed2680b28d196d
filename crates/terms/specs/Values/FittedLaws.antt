-- Laws of writing that may not fit: bytes that fit or do not, and a writer that goes over the nodes of a traversal, one node more at a time.
use Rattle.std.specs.Prelude.{◌≡◌, refl, List, [], ◌++◌, ℕ, ◌+◌, ◌-◌, ◌≤◌, ◌<◌, length, take, drop, Some, None, Option}
use Rattle.std.proofs.Common.{sym, ◌∙◌, zero-add, arith, length-append, length-take, length-drop}
use Rattle.records.specs.Format.Never.{never}
use Rattle.records.specs.Writing.Patched.{Put}
use Rattle.records.specs.Writing.PatchedLaws.{put_none, put_then, put_tail, put_length}
use Rattle.records.specs.Ends.Traversal.{Node, Traversal, before}
use Rattle.records.specs.Format.HeadLaws.{Known}
use Rattle.records.specs.Ends.Range.{cut}
use Rattle.records.specs.Ends.Stands.{Stands}
use Rattle.records.specs.Ends.StandsLaws.{stands_cut}
use Rattle.records.specs.declared.put.Range.{Range}
use Rattle.records.specs.Ends.Steps.{On, traverse_from, next_step}
use Rattle.records.specs.declared.traverse.Cursor.{Cursor}
use Rattle.records.specs.declared.traverse.NodeStep.{NodeStep}
use Rattle.terms.specs.Theory.Substitution.{Substitution}
use Rattle.terms.specs.Values.NodeBytes.{node_bytes, traversal_bytes}
use Rattle.terms.specs.Values.AheadLaws.{ahead_start, ahead_room, ahead_done, next_node}
use Rattle.terms.specs.Values.Fitted.{Fitted, Fitting}
use Rattle.terms.specs.Values.Sized.{Sized}

pub fitted_fits : {out bytes after : List ℕ} {n : ℕ} → Put out 0 bytes after n → length bytes ≤ length out → Fitted out bytes after (Some n)
fitted_fits {out} {bytes} {after} {n} p h = record {
  fits = λ e. (rw (← (same e)) p, h);
  large = λ e. never cc;
  kept = put_length p;
}
  where
    same : {m : ℕ} → Some n ≡ Some m → n ≡ m
    same e = cc

pub fitted_large : {out bytes after : List ℕ} → length out < length bytes → length after ≡ length out → Fitted out bytes after None
fitted_large h k = record { fits = λ e. never cc; large = λ e. h; kept = k }

-- where there is room for them, they are written
pub fitted_put : {out bytes after : List ℕ} {r : Sized} → Fitted out bytes after r → length bytes ≤ length out → Put out 0 bytes after (length bytes)
fitted_put {out} {bytes} {after} {r} f h = go r refl
  where
    go : (x : Sized) → r ≡ x → Put out 0 bytes after (length bytes)
    go (Some n) e = let p = (f.fits e).0 in rw (sym (p.place ∙ zero-add (length bytes))) p
    go None e = absurd (omega (arith, f.large e))

-- a range of a source that cuts out the bytes
pub fitted_stands : {out after : List ℕ} {r : Sized} {s : List ℕ} {x : List ℕ} {range : Range} → Stands s range.from x range.to → Fitted out (cut s range) after r → Fitted out x after r
fitted_stands w f = rw (stands_cut w) at f

-- how long the part of an output from n on is
pub tail_length : (out : List ℕ) (n : ℕ) → length (take (length out - n) (drop n out)) ≡ length out - n
tail_length out n = simp (length-take, length-drop) (omega arith)

pub fitting_start : {θ : Substitution} {s : List ℕ} {c : Cursor} {out : List ℕ} → On (traverse_from s c) → Fitting θ s (traverse_from s c) out c out 0
fitting_start {θ} {s} {c} h = record { written = []; put = put_none; ahead = ahead_start θ s c h; room = omega arith }

module _ {θ : Substitution} {s : List ℕ} {w : Traversal} {out₀ : List ℕ} {c : Cursor} {out : List ℕ} {n : ℕ} (u : Fitting θ s w out₀ c out n) where
  -- one node more, whose bytes are put into the rest of the output
  module _ (x : Node) (d : Cursor) (e : traverse_from s c ≡ before x (traverse_from s d)) {tail : List ℕ} {r : Sized} (f : Fitted (take (length out - n) (drop n out)) (node_bytes θ x) tail r) where
    pub fitting_kept : length (take n out ++ (tail ++ drop (length out - n) (drop n out))) ≡ length out₀
    fitting_kept =
        let l = tail_length out n in
        let k = f.kept in
        simp (length-append, length-take, length-drop) (omega (arith, put_length u.put, u.room))

    -- it fits
    pub fitting_room : {m : ℕ} → r ≡ Some m → n + m ≤ length out
    fitting_room i =
        let l = tail_length out n in
        let k = (f.fits i).0.place in
        let z = (f.fits i).1 in
        omega (arith, u.room)

    pub fitting_more : {m : ℕ} → r ≡ Some m → Fitting θ s w out₀ d (take n out ++ (tail ++ drop (length out - n) (drop n out))) (n + m)
    fitting_more i =
        let p = put_tail {before = out} {at = n} (f.fits i).0 in
        record { written = u.written ++ node_bytes θ x; put = put_then u.put p; ahead = next_node u.ahead x d e; room = rw (put_length p) (fitting_room i) }

    -- it does not fit
    pub fitting_large : r ≡ None → Fitted out₀ (traversal_bytes θ w) (take n out ++ (tail ++ drop (length out - n) (drop n out))) None
    fitting_large i =
        let l = tail_length out n in
        let z = f.large i in
        let y = ahead_room (next_node u.ahead x d e) in
        let v = length-append u.written (node_bytes θ x) in
        fitted_large (omega (arith, put_length u.put, u.put.place, u.room)) fitting_kept

  -- no node left
  pub fitting_done : Known s → {r : Option NodeStep} → r ≡ next_step s c.pos c.terms c.goals → r ≡ None → Fitted out₀ (traversal_bytes θ w) out (Some n)
  fitting_done known is e =
      rw (ahead_done u.ahead known is e).0 (fitted_fits u.put (omega (arith, u.put.place, put_length u.put, u.room)))
