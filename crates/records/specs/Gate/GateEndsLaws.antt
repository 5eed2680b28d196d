-- Laws of questions 1 to 4 at positions: framing, version, and the answer by where a body ends. What the code of the gate goes by.
use Rattle.std.specs.Option.{option_eq}
use Rattle.std.specs.Prelude.{ℕ, suc, ◌+◌, ◌-◌, ◌≤◌, ◌<◌, ◌≡◌, Bool, List, [], ◌∷◌, leb, length, drop, get_or, Option, Some, None, Err}
use Rattle.std.proofs.Common.{arith, sym, ◌∙◌}
use Rattle.std.proofs.Math.Path.{refl}
use Rattle.std.proofs.Math.Bool.{true, false}
use Rattle.std.proofs.Math.Dec.{eqb}
use borrow.Author.Tests.{le-leb, lt-leb, leb-true, eq-eqb, ne_eqb, eqb-true, eqb-false}
use Rattle.records.specs.Format.Never.{never}
use Rattle.records.specs.Gate.RecordRulesLaws.{and_both}
use Rattle.records.specs.Gate.Question.Asked.{framing, version, grammar, rules}
use Rattle.records.specs.Format.Heads.{pick, joined, word_at}
use Rattle.records.specs.Format.Reader.{Read}
use Rattle.records.specs.Format.Reader.Read.{unread, found}
use Rattle.records.specs.Format.Items.{Reader}
use Rattle.records.specs.Ends.Traversal.{place_of, end_of}
use Rattle.records.specs.Gate.Rows.{holds, kept_at}
use Rattle.records.specs.Gate.Gate.{Reading, Verdict, passed, ask, framed, of_version, judged, read_record, verdict}
use Rattle.records.specs.Gate.GateEnds.{opening_of, judged_at}
use Rattle.records.specs.declared.questions.Fault.{Fault}
use Rattle.records.specs.declared.questions.Fault.TheVariants.{Framing, Version, Grammar, Rules}

-- question 1 by the length and the length field
pub short_frame : (s : List ℕ) → length s < 3 → false ≡ framed s
unfolding framed
short_frame [] h = refl
short_frame (x ∷ []) h = refl
short_frame (x ∷ y ∷ []) h = refl
short_frame (x ∷ y ∷ z ∷ l) h = absurd (omega arith)

pub long_frame : (s : List ℕ) → 32768 < length s → false ≡ framed s
unfolding framed
long_frame [] h = absurd (omega arith)
long_frame (x ∷ []) h = absurd (omega arith)
long_frame (x ∷ y ∷ []) h = absurd (omega arith)
long_frame (x ∷ y ∷ z ∷ l) h = rw (lt-leb (length (x ∷ y ∷ z ∷ l)) 32768 h)

pub frame_by : (s : List ℕ) {w : Option ℕ} → 3 ≤ length s → length s ≤ 32768 → w ≡ word_at s 0 → option_eq eqb w (Some (length s - 2)) ≡ framed s
unfolding framed word_at
frame_by [] a b is = absurd (omega arith)
frame_by (x ∷ []) a b is = absurd (omega arith)
frame_by (x ∷ y ∷ []) a b is = absurd (omega arith)
frame_by (x ∷ y ∷ z ∷ l) {w} a b is =
    let d : suc (suc (suc (length l))) - 2 ≡ suc (length l) = omega arith in
    rw (le-leb (length (x ∷ y ∷ z ∷ l)) 32768 b, is, d)

pub no_frame : (s : List ℕ) {w : Option ℕ} → 3 ≤ length s → w ≡ word_at s 0 → w ≡ None → false ≡ framed s
unfolding framed word_at
no_frame [] a is e = absurd (omega arith)
no_frame (x ∷ []) a is e = absurd (omega arith)
no_frame (x ∷ y ∷ []) a is e = absurd (omega arith)
no_frame (x ∷ y ∷ z ∷ l) {w} a is e = let q : Some (joined x y) ≡ None = sym is ∙ e in never cc

pub framed_length : (s : List ℕ) → framed s ≡ true → (3 ≤ length s) × (length s ≤ 32768)
unfolding framed
framed_length [] h = never cc
framed_length (x ∷ []) h = never cc
framed_length (x ∷ y ∷ []) h = never cc
framed_length (x ∷ y ∷ z ∷ l) h = (omega arith, leb-true _ _ (and_both (leb (length (x ∷ y ∷ z ∷ l)) 32768) (eqb (joined x y) (length (z ∷ l))) h).0)

-- question 2 by the third byte
pub version_by : (s : List ℕ) → 3 ≤ length s → eqb (get_or s 2 0) 1 ≡ of_version s
unfolding of_version
version_by [] a = absurd (omega arith)
version_by (x ∷ []) a = absurd (omega arith)
version_by (x ∷ y ∷ []) a = absurd (omega arith)
version_by (x ∷ y ∷ z ∷ l) a = refl

module _ (s : List ℕ) where
  pub unframed : {b : Bool} → b ≡ framed s → b ≡ false → Err Framing ≡ opening_of s
  unfolding opening_of
  unframed is e = rw (← is, e)

  pub other_version : {b : Bool} → framed s ≡ true → b ≡ of_version s → b ≡ false → Err Version ≡ opening_of s
  unfolding opening_of
  other_version f is e = rw (f, ← is, e)

  pub opened : {b : Bool} → framed s ≡ true → b ≡ of_version s → b ≡ true → passed ≡ opening_of s
  unfolding opening_of
  opened f is e = rw (f, ← is, e)

  -- what is open is framed and of version 1
  open_framed : opening_of s ≡ passed → (framed s ≡ true) × (of_version s ≡ true)
  unfolding opening_of
  open_framed = go (framed s) (of_version s)
    where
      go : (f v : Bool) → pick f (pick v passed (Err Version)) (Err Framing) ≡ passed → (f ≡ true) × (v ≡ true)
      go true true e = (refl, refl)
      go true false e = never cc
      go false v e = never cc

module _ (s : List ℕ) (e : ℕ) where
  pub more_bytes : (k : Bool) → (e ≡ length s → ⊥) → Err Grammar ≡ judged_at s e k
  unfolding judged_at
  more_bytes k h = rw (ne_eqb e (length s) h)

  pub last_byte : (k b : Bool) → e ≡ length s → k ≡ b → pick b passed (Err Rules) ≡ judged_at s e k
  unfolding judged_at
  last_byte k b h q = rw (eq-eqb e (length s) h, q)

module _ {A : Type 0} (r : Reader A) (kept : A → Bool) (s : List ℕ) where
  -- the whole gate, where questions 1 and 2 refuse, and where they do not
  pub refuses : {o : Verdict} {f : Fault} → o ≡ opening_of s → o ≡ Err f → Err f ≡ verdict (read_record r kept s)
  unfolding opening_of read_record
  refuses {f = f} is q = go (framed s) (of_version s) (sym is ∙ q)
    where
      go : (a b : Bool) → pick a (pick b passed (Err Version)) (Err Framing) ≡ Err f → Err f ≡ verdict (ask framing a (ask version b (judged kept (length s - 3) (r (drop 3 s)))))
      go true true e = never cc
      go true false e = cc
      go false b e = cc

  module _ {o : Verdict} (asked : o ≡ opening_of s) (granted : o ≡ passed) where
    is_framed : framed s ≡ true
    is_framed = (open_framed s (sym asked ∙ granted)).0

    is_version_1 : of_version s ≡ true
    is_version_1 = (open_framed s (sym asked ∙ granted)).1

    pub unreadable : {p : Option ℕ} → p ≡ end_of r s 3 → p ≡ None → Err Grammar ≡ verdict (read_record r kept s)
    unfolding read_record end_of
    unreadable ends q = rw (is_framed, is_version_1) (go (r (drop 3 s)) (sym ends ∙ q))
      where
        go : (o : Read A) → place_of 3 o ≡ None → Err Grammar ≡ verdict (judged kept (length s - 3) o)
        go unread e = refl
        go (found a n) e = never cc

    pub readable : {p : Option ℕ} {e : ℕ} {b : Bool} → p ≡ end_of r s 3 → p ≡ Some e → b ≡ kept_at kept r s 3 → judged_at s e b ≡ verdict (read_record r kept s)
    unfolding read_record end_of kept_at judged_at
    readable {e = e} {b} ends q k = rw (is_framed, is_version_1, k) (go (r (drop 3 s)) (sym ends ∙ q))
      where
        same : (n : ℕ) → 3 + n ≡ e → eqb e (length s) ≡ eqb n (length s - 3)
        same n x = by (eqb n (length s - 3)) refl
          where
            by : (t : Bool) → eqb n (length s - 3) ≡ t → eqb e (length s) ≡ t
            by true y = eq-eqb e (length s) (omega (arith, eqb-true n (length s - 3) y, (framed_length s is_framed).0))
            by false y = ne_eqb e (length s) (λ z. eqb-false n (length s - 3) y (omega arith))

        tell : (t c : Bool) (a : A) → pick t (pick c passed (Err Rules)) (Err Grammar) ≡ verdict (ask grammar t (ask rules c (Reading.tree a)))
        tell true true a = refl
        tell true false a = refl
        tell false c a = refl

        go : (o : Read A) → place_of 3 o ≡ Some e → pick (eqb e (length s)) (pick (holds kept o) passed (Err Rules)) (Err Grammar) ≡ verdict (judged kept (length s - 3) o)
        go unread z = never cc
        go (found a n) z = let y : 3 + n ≡ e = cc in rw (same n y) (tell (eqb n (length s - 3)) (kept a) a)
