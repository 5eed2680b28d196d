-- Laws of an output on its way: its start, the next bytes, its end, and the room for the rest.
use Rattle.std.specs.Prelude.{◌≡◌, refl, List, [], ◌++◌, ℕ, ◌+◌, ◌≤◌, length}
use Rattle.std.proofs.Common.{sym, ap, ◌∙◌, append_assoc, append-nil, arith, length-append}
use Rattle.records.specs.Writing.Patched.{Put}
use Rattle.records.specs.Writing.PatchedLaws.{put_none, put_then, put_length}
use Rattle.canonical.specs.Writing.PartlyPut.{PartlyPut}

pub partly_start : {before whole : List ℕ} {at : ℕ} → PartlyPut before at whole before at whole
partly_start = record { done = []; put = put_none; split = refl }

module _ {before whole after rest : List ℕ} {at next : ℕ} (f : PartlyPut before at whole after next rest) where
  -- the next bytes
  pub partly_more : {later left : List ℕ} {place : ℕ} (x : List ℕ) → rest ≡ x ++ left → Put after next x later place
      → PartlyPut before at whole later place left
  partly_more {later} {left} x e p = record {
    done = f.done ++ x;
    put = put_then f.put p;
    split = f.split ∙ ap (λ (l : List ℕ). f.done ++ l) e ∙ sym (append_assoc f.done x left);
  }

  pub partly_end : rest ≡ [] → Put before at whole after next
  partly_end e = rw (f.split ∙ ap (λ (l : List ℕ). f.done ++ l) e ∙ append-nil f.done) f.put

  pub partly_length : length after ≡ length before
  partly_length = put_length f.put

  -- room for the whole is room for the rest
  pub partly_room : at + length whole ≤ length before → next + length rest ≤ length after
  partly_room h = omega (arith, f.put.place, ap length f.split, length-append f.done rest, partly_length)
