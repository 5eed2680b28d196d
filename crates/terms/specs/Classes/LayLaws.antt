-- Two loads, one after the other, and the links: the table holds the two terms.
use Rattle.std.specs.Prelude.{◌≡◌, List, ◌++◌, ℕ, ◌+◌, ◌-◌, ◌*◌, ◌≤◌, ◌<◌, length, take, drop}
use Rattle.std.proofs.Common.{sym, ◌∙◌, ap, subst, zero-add, arith, length-take, take_at}
use Rattle.std.proofs.Math.Decide.{dec_lt}
use Rattle.std.proofs.lemmas.List.{get_or-take}
use Rattle.records.specs.Format.Syntax.{Term}
use Rattle.records.specs.Format.Syntax.Terms.{nil, cons}
use Rattle.records.specs.Format.Encode.{term_bytes}
use Rattle.records.specs.Format.Formed.{TermFormed}
use Rattle.terms.specs.Classes.Nodes.{Nodes, count, In, blank}
use Rattle.terms.specs.Classes.Forest.{node_count, nodes_count, term_at}
use Rattle.terms.specs.Classes.ForestLaws.{pair_first, pair_second, count_bytes}
use Rattle.terms.specs.Classes.Laid.{NodeOf, Loads, Layable, Shaped, Linkable, Links, pair, Lays}
use Rattle.terms.specs.Classes.LoadLaws.{still_node}

-- the length of the first c of a list
pub part_length : {A : Type 0} (c : ℕ) (l : List A) → c ≤ length l → length (take c l) ≡ c
part_length c l h = simp length-take (omega arith)

module _ (a b : List ℕ) (old : Nodes) (layable : Layable a b old) (mid : Nodes) (m : ℕ) (first : Loads a 0 old mid m) where
  -- where the second term starts, and the room that is left for it
  middle_is : (s : Term) → TermFormed s → a ≡ term_bytes s → m ≡ node_count s
  middle_is s f e = omega (arith, (first.each s f e).place)

  pub second_room : count mid ≡ count old → 3 * m + length b ≤ 3 * count mid
  second_room k =
      let v = layable.first in
      omega (arith, layable.room, middle_is v.term v.formed v.same, count_bytes v.term, ap length v.same)

  module _ (new : Nodes) (c : ℕ) (second : Loads b m mid new c) (kept : count new ≡ count old) where
    module _ (s t : Term) (f : TermFormed s) (g : TermFormed t) (p : a ≡ term_bytes s) (q : b ≡ term_bytes t) where
      count_is : c ≡ nodes_count (pair s t)
      count_is = omega (arith, middle_is s f p, (second.each t g q).place)

      fits : c ≤ count new
      fits = omega (arith, count_is, layable.room, count_bytes s, count_bytes t, ap length p, ap length q)

      heads : (i : ℕ) → i < c → NodeOf new i (term_at (pair s t) i)
      heads i l = go (dec_lt i m)
        where
          go : Dec (i < m) → NodeOf new i (term_at (pair s t) i)
          go (yes k) =
              let n : i < node_count s = omega (arith, middle_is s f p) in
              rw (pair_first s (cons t nil) i n) (still_node mid new i i (term_at (cons s nil) i) ((second.each t g q).before i k)
              (subst (λ y. NodeOf mid y (term_at (cons s nil) i)) (zero-add i) ((first.each s f p).written i n)))
          go (no k) =
              let j = i - m in
              let e : m + j ≡ i = omega arith in
              let d : node_count s + j ≡ i = omega (arith, middle_is s f p) in
              let w = (second.each t g q).written j (omega (arith, (second.each t g q).place)) in
              let x : term_at (pair s t) i ≡ term_at (cons t nil) j = ap (λ y. term_at (pair s t) y) (sym d) ∙ pair_second s (cons t nil) j in
              rw x (subst (λ y. NodeOf new y (term_at (cons t nil) j)) e w)

      heads_taken : (i : ℕ) → In (take c new) i → NodeOf (take c new) i (term_at (pair s t) i)
      heads_taken i l =
          let k : i < c = omega (arith, part_length c new fits) in
          still_node new (take c new) i i (term_at (pair s t) i) (get_or-take c new i blank k) (heads i k)

      shaped : Shaped (pair s t) (take c new)
      shaped = record { long = part_length c new fits ∙ count_is; kinds = λ i l. (heads_taken i l).kind_is }

    pub count_fits : c ≤ count new
    count_fits = let v = layable.first in let w = layable.second in fits v.term w.term v.formed w.formed v.same w.same

    pub pair_linkable : Linkable (take c new) (count (take c new))
    pair_linkable =
        let v = layable.first in
        let w = layable.second in
        let e = shaped v.term w.term v.formed w.formed v.same w.same in
        record { terms = pair v.term w.term; shaped = e; bound = omega arith; linked = λ j x y. absurd (omega (arith, e.long)) }

    pub pair_laid : (part : Nodes) → Links (take c new) part 0 → Lays a b (part ++ drop c new) (record { middle = m; count = c })
    pair_laid part h = record {
      each = λ s t f g p q.
          let n : count part ≡ c = h.heads.long ∙ part_length c new count_fits in
          let e : take c (part ++ drop c new) ≡ part = take_at part (drop c new) c n in
          let x = count_is s t f g p q in
          record {
            fits = omega (arith, ap count e, length-take c (part ++ drop c new));
            all = x;
            laid = rw e (record {
              middle = middle_is s f p;
              long = n ∙ x;
              heads = λ i l.
                  let o = heads_taken s t f g p q i (omega (arith, h.heads.long)) in
                  record { kind_is = h.heads.kinds i ∙ o.kind_is; number_is = h.heads.numbers i ∙ o.number_is };
              linked = h.each (pair s t) (shaped s t f g p q);
            });
          };
    }
