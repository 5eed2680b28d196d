-- Laws of clauses and their entries: what the code reads of a clause, the listing of a record's entries, and what follows one in a list of entries.
use Rattle.std.specs.Prelude.{◌≡◌, refl, ℕ, zero, suc, ◌+◌, ◌-◌, ◌*◌, ◌≤◌, ◌<◌, drop, get_or, set, Option, Some, None}
use Rattle.std.proofs.Math.Path.{sym}
use Rattle.std.proofs.Common.{ap, ◌∙◌, add-one, arith, length-append, drop-cons, take_all, le-leb}
use mathlib.Core.List.{List, [], ◌∷◌, ◌++◌, append_assoc, append-nil}
use Rattle.std.proofs.Math.ListN.{get_or-append, length, take, length-set}
use Rattle.std.specs.List.{IsLastAndRest}
use Rattle.std.proofs.Math.Seq.{take-suc-set, get_or-append_seam}
use Rattle.records.specs.Format.Never.{never}
use Rattle.records.specs.Format.Syntax.{Clause, arity}
use Rattle.records.specs.Format.Syntax.Clause.{clause}
use Rattle.records.specs.Format.Encode.{each, clause_bytes, terms_bytes, goal_bytes}
use Rattle.records.specs.Format.Formed.{All, ClauseFormed}
use Rattle.records.specs.Format.Heads.{signed, clause_head, clause_head_at}
use Rattle.records.specs.Format.HeadLaws.{joined_word}
use Rattle.records.specs.Format.Items.{read_clause}
use Rattle.records.specs.Format.Exact.{clause_exact}
use Rattle.records.specs.Ends.Traversal.{end_of}
use Rattle.records.specs.Ends.Stands.{Stands}
use Rattle.records.specs.Ends.StandsLaws.{stands_first, stands_second, stands_ends, stands_read, stands_within}
use Rattle.records.specs.declared.heads.Signature.{Signature}
use Rattle.canonical.specs.Form.Canonical.{variable_count, locals_of}
use Rattle.canonical.specs.Writing.Definition.{branch_size, branches_size}
use Rattle.canonical.specs.Sorting.Entries.{predicate_number, arity_of, clause_read, clause_at, ClauseAt, ClausesAt, clause_entries, entry_place, clauses_in, clause_nth, GroupAt}

-- a clause that stands somewhere is the one that is read there
pub clause_at_is : {s : List ℕ} {at e : ℕ} (c : Clause) → ClauseFormed c → Stands s at (clause_bytes c) e → clause_at s at ≡ c
unfolding clause_at
clause_at_is c f w = ap clause_read (stands_read clause_exact c f w)

pub clause_at_stands : {s : List ℕ} {at e : ℕ} (c : Clause) → ClauseFormed c → Stands s at (clause_bytes c) e → ClauseAt s at
clause_at_stands {s} {at} {e} c f w =
    let i = clause_at_is c f w in
    record { formed = rw i f; end = e; stands = rw i w }

-- the numbers of a clause fit its head
abbrev HeadFits : Clause → Type 0
HeadFits c = (predicate_number c < 65536) × (arity_of c ≤ 16) × (variable_count c ≤ 64)

head_fits : (c : Clause) → ClauseFormed c → HeadFits c
head_fits (clause p v ts g) f = (f.0, f.1, f.2)

head_stands : {s : List ℕ} {at e : ℕ} (c : Clause) → ClauseFormed c → Stands s at (clause_bytes c) e
    → clause_head_at s at ≡ signed (predicate_number c) (arity_of c) (variable_count c)
unfolding clause_head_at
head_stands (clause p v ts g) f w = ap clause_head w.bytes ∙ rw (le-leb (arity ts) 16 f.1, joined_word p f.0, le-leb v 64 f.2)

-- the parts of a head
signed_parts : {d : Signature} {p k v : ℕ} → Some d ≡ signed p k v → (d.predicate ≡ p) × (d.arity ≡ k) × (d.count ≡ v)
signed_parts {d} {p} {k} {v} e =
    let same : d ≡ record { predicate = p; arity = k; count = v } = cc in
    (ap (λ (x : Signature). x.predicate) same, ap (λ (x : Signature). x.arity) same, ap (λ (x : Signature). x.count) same)

-- a clause's bytes, told by its branch's
clause_length : (c : Clause) → 5 * arity_of c + length (clause_bytes c) ≡ 4 + branch_size c
clause_length (clause p v ts g) = omega (arith, length-append (terms_bytes ts) (goal_bytes g))

clause_long : (c : Clause) → 4 ≤ length (clause_bytes c)
clause_long (clause p v ts g) = omega arith

module _ {s : List ℕ} {at : ℕ} (w : ClauseAt s at) where
  pub clause_small : HeadFits (clause_at s at)
  clause_small = head_fits (clause_at s at) w.formed

  -- for code that read its head
  module _ {r : Option Signature} (is : r ≡ clause_head_at s at) where
    pub head_read : {d : Signature} → r ≡ Some d
        → (d.predicate ≡ predicate_number (clause_at s at)) × (d.arity ≡ arity_of (clause_at s at)) × (d.count ≡ variable_count (clause_at s at))
    head_read {d} q =
        let y : Some d ≡ signed (predicate_number (clause_at s at)) (arity_of (clause_at s at)) (variable_count (clause_at s at)) =
        sym q ∙ is ∙ head_stands (clause_at s at) w.formed w.stands in
        signed_parts y

    pub head_unread : {P : Type 0} → r ≡ None → P
    head_unread q =
        let y : None ≡ signed (predicate_number (clause_at s at)) (arity_of (clause_at s at)) (variable_count (clause_at s at)) =
        sym q ∙ is ∙ head_stands (clause_at s at) w.formed w.stands in
        never cc

  -- and its end
  module _ {f : Option ℕ} (is : f ≡ end_of read_clause s at) where
    pub end_read : {e : ℕ} → f ≡ Some e → e ≡ w.end
    end_read {e} q =
        let y : Some e ≡ Some w.end = sym q ∙ is ∙ stands_ends clause_exact (clause_at s at) w.formed w.stands in
        cc

    pub end_unread : {P : Type 0} → f ≡ None → P
    end_unread q =
        let y : None ≡ Some w.end = sym q ∙ is ∙ stands_ends clause_exact (clause_at s at) w.formed w.stands in
        never cc

  -- it lies within the record, and its branch is as long as the code says
  pub clause_within : (at + 4 ≤ w.end) × (w.end ≤ length s) × (5 * arity_of (clause_at s at) + (w.end - at - 3) ≡ suc (branch_size (clause_at s at)))
  clause_within =
      let l = clause_long (clause_at s at) in
      let n = clause_length (clause_at s at) in
      let x = stands_within w.stands (omega arith) in
      let e = w.stands.end in
      (omega arith, x.1, omega arith)

  -- and not longer than that
  pub clause_short : length s ≤ 32768 → suc (branch_size (clause_at s at)) ≤ 32849
  clause_short h = let x = clause_within in let y = clause_small in omega (arith, x.0, x.1, x.2, y.1)

-- the listing at i, whose outcome is to be `whole`: the entries stored, and the clauses to come from pos on
pub record Storing (s : List ℕ) (n : ℕ) (whole table : List ℕ) (pos i : ℕ) : Type 0 where
  pub rest : List Clause
  pub formed : All ClauseFormed rest
  pub many : i + length rest ≡ n
  pub same_length : length table ≡ n
  pub short : length s ≤ 32768
  pub end : ℕ
  pub stand : Stands s pos (each clause_bytes rest) end
  pub stored : whole ≡ take i table ++ clause_entries pos rest

pub storing_start : {s table : List ℕ} (a : ClausesAt s (length table)) → Storing s (length table) (clause_entries 5 a.clauses) table 5 0
storing_start a = record {
  rest = a.clauses;
  formed = a.formed;
  many = omega (arith, a.many);
  same_length = refl;
  short = a.short;
  end = a.end;
  stand = a.stand;
  stored = refl;
}

module _ {s : List ℕ} {n : ℕ} {whole table : List ℕ} {pos i : ℕ} (w : Storing s n whole table pos i) where
  module _ (h : i < n) where
    -- the next clause
    pub storing_clause : ClauseAt s pos
    storing_clause = go w.rest w.formed w.many w.stand
      where
        go : (rest : List Clause) → All ClauseFormed rest → i + length rest ≡ n → Stands s pos (each clause_bytes rest) w.end → ClauseAt s pos
        go [] f m d = absurd (omega arith)
        go (c ∷ cs) f m d = clause_at_stands c f.0 (stands_first (clause_bytes c) (each clause_bytes cs) d)

    -- for code that read its head and its end
    module _ {r : Option Signature} (is : r ≡ clause_head_at s pos) {d : Signature} (q : r ≡ Some d) where
      pub storing_bound : (d.predicate < 65536) × (d.arity ≤ 16) × (pos < 65536) × (length table ≡ n)
      storing_bound =
          let x = head_read storing_clause is q in
          let y = clause_small storing_clause in
          let z = clause_within storing_clause in
          (omega (arith, x.0, y.0), omega (arith, x.1, y.1), omega (arith, z.0, z.1, w.short), w.same_length)

      pub storing_next : {f : Option ℕ} {e : ℕ} → f ≡ end_of read_clause s pos → f ≡ Some e → Storing s n whole (set table i ((d.predicate * 256 + d.arity) * 65536 + pos)) e (i + 1)
      unfolding clause_entries
      storing_next {f} {e} at u = go w.rest w.formed w.many w.stand w.stored
        where
          go : (rest : List Clause) → All ClauseFormed rest → i + length rest ≡ n → Stands s pos (each clause_bytes rest) w.end
              → whole ≡ take i table ++ clause_entries pos rest → Storing s n whole (set table i ((d.predicate * 256 + d.arity) * 65536 + pos)) e (i + 1)
          go [] a m l' o = absurd (omega arith)
          go (clause p' v' ts g ∷ cs) a m l' o =
              let one = stands_first (clause_bytes (clause p' v' ts g)) (each clause_bytes cs) l' in
              let y = signed_parts (sym q ∙ is ∙ head_stands (clause p' v' ts g) a.0 one) in
              let z : Some e ≡ Some (pos + length (clause_bytes (clause p' v' ts g))) = sym u ∙ at ∙ stands_ends clause_exact (clause p' v' ts g) a.0 one in
              let x : e ≡ pos + length (clause_bytes (clause p' v' ts g)) = cc in
              let l = w.same_length in
              rw (y.0, y.1, x) (record {
                rest = cs;
                formed = a.1;
                many = omega arith;
                same_length = length-set table i ((p' * 256 + arity ts) * 65536 + pos) ∙ w.same_length;
                short = w.short;
                end = w.end;
                stand = stands_second (clause_bytes (clause p' v' ts g)) (each clause_bytes cs) l';
                stored =
                    o ∙ rw (add-one i, take-suc-set table i ((p' * 256 + arity ts) * 65536 + pos) (omega arith))
                    (sym (append_assoc (take i table) (((p' * 256 + arity ts) * 65536 + pos) ∷ []) (clause_entries (pos + length (clause_bytes (clause p' v' ts g))) cs)));
              })

  pub storing_end : n ≤ i → table ≡ whole
  unfolding clause_entries
  storing_end h = go w.rest w.many w.stored
    where
      go : (rest : List Clause) → i + length rest ≡ n → whole ≡ take i table ++ clause_entries pos rest → table ≡ whole
      go [] m e = let k = w.same_length in sym (e ∙ rw (take_all i table (omega arith)) (append-nil table))
      go (c ∷ cs) m e = absurd (omega arith)

-- what holds of each of a list holds of the i-th
all_at : (Φ : ℕ → Type 0) (l : List ℕ) (i : ℕ) → All Φ l → i < length l → Φ (get_or l i 0)
all_at Φ [] i h k = absurd (omega arith)
all_at Φ (x ∷ l) zero h k = h.0
all_at Φ (x ∷ l) (suc i) h k = all_at Φ l i h.1 (omega arith)

pub group_clause : {s group : List ℕ} {i : ℕ} → GroupAt s group → i < length group → ClauseAt s (entry_place (get_or group i 0))
group_clause {s} {group} {i} r h = all_at (λ e. ClauseAt s (entry_place e)) group i r.entries h

-- for code that took the last entry off, and read the place of the i-th of the others
pub other_read : (group others : List ℕ) (last i : ℕ) {p : ℕ} → IsLastAndRest group last others → i < length others → p ≡ entry_place (get_or others i 0)
    → p ≡ entry_place (get_or group i 0)
other_read group others last i split h q =
    q ∙ ap entry_place (sym (ap (λ (l : List ℕ). get_or l i 0) split.0 ∙ get_or-append others (last ∷ []) 0 i h))

-- or of the last one
pub last_read : (group others : List ℕ) (last i : ℕ) {p : ℕ} → IsLastAndRest group last others → i ≡ length others → p ≡ entry_place last → p ≡ entry_place (get_or group i 0)
last_read group others last i split at q = q ∙ ap entry_place (sym (ap (λ (l : List ℕ). get_or l i 0) split.0 ∙ rw at (get_or-append_seam others last [] 0)))

-- the clauses of the entries from the i-th on
pub clauses_next : (s group : List ℕ) (i : ℕ) → i < length group
    → clauses_in s (drop i group) ≡ clause_nth s group i ∷ clauses_in s (drop (i + 1) group)
unfolding clauses_in
clauses_next s group i h = rw (add-one i, drop-cons group i 0 h)

pub clauses_length : (s group : List ℕ) → length (clauses_in s group) ≡ length group
unfolding clauses_in
clauses_length s [] = refl
clauses_length s (e ∷ l) = ap suc (clauses_length s l)

-- how much a group can come to
sizes_bound : (s group : List ℕ) → All (λ e. ClauseAt s (entry_place e)) group → length s ≤ 32768
    → (branches_size (clauses_in s group) ≤ 32849 * length group) × (locals_of (clauses_in s group) ≤ 64 * length group)
unfolding clauses_in
sizes_bound s [] h b = (omega arith, omega arith)
sizes_bound s (e ∷ l) h b =
    let i = sizes_bound s l h.1 b in
    let x = clause_short h.0 b in
    let y = clause_small h.0 in
    (omega (arith, i.0), omega (arith, i.1, y.2))

pub group_bound : {s group : List ℕ} → GroupAt s group → (branches_size (clauses_in s group) ≤ 32849 * length group) × (locals_of (clauses_in s group) ≤ 64 * length group)
group_bound {s} {group} r = sizes_bound s group r.entries r.short
