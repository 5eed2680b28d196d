-- Laws of questions 1 to 4: a record passes with a tree exactly where it is the tree's record, the tree is well formed and keeps the rules, and the
-- record is at most 32,768 bytes long (`RecordOf`); and it is refused by a question exactly where that is the first to say no (`FirstNo`).
-- So no two trees have one record, and no record says two trees.
use Rattle.std.specs.Prelude.{ℕ, suc, ◌+◌, ◌-◌, ◌<◌, ◌≤◌, ◌≡◌, ◌↔◌, Bool, leb}
use Rattle.std.proofs.Common.{arith, sym, ◌∙◌, drop_of_length-le, take_at}
use Rattle.std.proofs.Math.Path.{refl, ap, subst}
use Rattle.std.proofs.Math.Bool.{true, false}
use mathlib.Core.List.{List, [], ◌∷◌, ◌++◌, append-nil}
use Rattle.std.proofs.Math.Dec.{eqb}
use Rattle.std.proofs.Math.ListN.{length, drop, length-drop}
use borrow.Author.Tests.{le-leb, leb-true, eq-eqb, eqb-true}
use Rattle.records.specs.Format.Syntax.{Goal, Event, Definition, Clause}
use Rattle.records.specs.Format.Encode.{word, counted, goal_bytes, event_bytes, definition_bytes, clause_bytes, record_of}
use Rattle.records.specs.Format.Formed.{GoalFormed, EventFormed, Counted, DefinitionFormed, ClauseFormed}
use Rattle.records.specs.Gate.RecordRules.{query_rules, event_rules, program_rules, clauses_rules}
use Rattle.records.specs.Format.Never.{never}
use Rattle.records.specs.Gate.RecordRulesLaws.{and_both}
use Rattle.records.specs.Gate.Question.{Asked}
use Rattle.records.specs.Gate.Question.Asked.{framing, version, grammar, rules}
use Rattle.records.specs.Format.Heads.{joined}
use Rattle.records.specs.Format.HeadLaws.{Bytes, bytes_drop, word_joined, joined_word}
use Rattle.records.specs.Format.Reader.{Read}
use Rattle.records.specs.Format.Reader.Read.{unread, found}
use Rattle.records.specs.Format.Items.{Reader}
use Rattle.records.specs.Format.ItemLaws.{Exact, counted_exact, goal_exact}
use Rattle.records.specs.Format.Exact.{unread_found, definition_exact, clause_exact, event_exact}
use Rattle.records.specs.Gate.Gate.{Reading, ask, front_record, framed, of_version, judged, read_record, read_query, read_event, read_program, read_clauses}
use Rattle.records.specs.Gate.Gate.Reading.{refused, tree}

-- s is the record of a, which may be written
pub record RecordOf {A : Type 0} (bytes : A → List ℕ) (Formed : A → Type 0) (kept : A → Bool) (s : List ℕ) (a : A) : Type 0 where
  pub formed : Formed a
  pub keeps : kept a ≡ true
  pub short : length s ≤ 32768
  pub laid : s ≡ record_of (bytes a)

-- q is the first question that says no to s
abbrev pub FirstNo : {A : Type 0} → (A → List ℕ) → (A → Type 0) → (A → Bool) → List ℕ → Asked → Type 0
-- 1: s is not framed
FirstNo bytes Formed kept s framing = framed s ≡ false
-- 2: it is, and is not of version 1
FirstNo bytes Formed kept s version = (framed s ≡ true) × (of_version s ≡ false)
-- 3: it is framed and of version 1, and no well-formed tree lays it out
FirstNo {A} bytes Formed kept s grammar = (framed s ≡ true) × (of_version s ≡ true) × ((a : A) → Formed a → s ≡ record_of (bytes a) → ⊥)
-- 4: one does, and breaks the rules
FirstNo {A} bytes Formed kept s rules = (framed s ≡ true) × (of_version s ≡ true) × (a : A) × Formed a × (s ≡ record_of (bytes a)) × (kept a ≡ false)

-- a record says one tree
pub tree_injective : {A : Type 0} {x y : A} → tree x ≡ tree y → x ≡ y
tree_injective {A} {x} {y} e = cc

-- a question that was passed
passed : {A : Type 0} (q : Asked) (b : Bool) (r : Reading A) (a : A) → ask q b r ≡ tree a → (b ≡ true) × (r ≡ tree a)
passed q true r a e = (refl, e)
passed q false r a e = never cc

-- the first three bytes of a record, by questions 1 and 2
frame_of : (s : List ℕ) → Bytes s → framed s ≡ true → of_version s ≡ true → (s ≡ word (length s - 2) ++ (1 ∷ drop 3 s)) × (3 ≤ length s) × (length s ≤ 32768)
unfolding framed of_version
frame_of [] h p q = never cc
frame_of (x ∷ []) h p q = never cc
frame_of (x ∷ y ∷ []) h p q = never cc
frame_of (x ∷ y ∷ z ∷ l) h p q =
    let w = and_both (leb (length (x ∷ y ∷ z ∷ l)) 32768) (eqb (joined x y) (length (z ∷ l))) p in
    let e : joined x y ≡ length (x ∷ y ∷ z ∷ l) - 2 = omega (arith, eqb-true (joined x y) (length (z ∷ l)) w.1) in (
      word_joined x y h.0 h.1.0 (z ∷ l) ∙ ap (λ (n : ℕ). word n ++ (z ∷ l)) e ∙ ap (λ (v : ℕ). word (length (x ∷ y ∷ z ∷ l) - 2) ++ (v ∷ l)) (eqb-true z 1 q),
      omega arith,
      leb-true _ _ w.0,
    )

-- Φ of the question that refuses, if one does
abbrev OnRefused : {A : Type 0} → (Asked → Type 0) → Reading A → Type 0
OnRefused Φ (refused q) = Φ q
OnRefused Φ (tree a) = Unit {0}

asked_in_turn : {A : Type 0} (Φ : Asked → Type 0) (q : Asked) (b : Bool) (r : Reading A) → (b ≡ false → Φ q) → (b ≡ true → OnRefused Φ r) → OnRefused Φ (ask q b r)
asked_in_turn Φ q true r n y = y refl
asked_in_turn Φ q false r n y = n refl

module _ {A : Type 0} {bytes : A → List ℕ} {Formed : A → Type 0} {r : Reader A} (w : Exact bytes Formed r) where
  -- the body of a well-formed tree's record is read as that tree, to the last byte
  body_read : (s : List ℕ) (a : A) → Formed a → s ≡ record_of (bytes a) → r (drop 3 s) ≡ found a (length s - 3)
  unfolding record_of
  body_read s a f e = rw e (ap r (sym (append-nil (bytes a))) ∙ w.complete a f [] ∙ ap (found a) (omega arith))

  -- no two trees have one record
  pub record_injective : (a b : A) → Formed a → Formed b → record_of (bytes a) ≡ record_of (bytes b) → a ≡ b
  record_injective a b f g e = same (sym (body_read _ a f refl) ∙ body_read _ b g e)
    where
      same : {m n : ℕ} → found a m ≡ found b n → a ≡ b
      same e = cc

  -- a body that is read to the last byte is laid out by a well-formed tree
  read_laid : (s : List ℕ) → Bytes s → framed s ≡ true → of_version s ≡ true → (a : A) → r (drop 3 s) ≡ found a (length s - 3) → Formed a × (s ≡ record_of (bytes a))
  unfolding record_of
  read_laid s h p q a e =
      let f = frame_of s h p q in
      let v = w.sound (drop 3 s) (bytes_drop 3 s h) a (length s - 3) e in
      let d : drop 3 s ≡ bytes a = v.front ∙ ap (λ (x : List ℕ). bytes a ++ x) (drop_of_length-le (drop 3 s) {i = length s - 3} (omega (arith, length-drop 3 s))) ∙ append-nil (bytes a) in
      (v.formed, f.0 ∙ ap (λ (k : ℕ). word k ++ (1 ∷ drop 3 s)) (omega (arith, v.size, f.1)) ∙ ap (λ (x : List ℕ). word (1 + length (bytes a)) ++ (1 ∷ x)) d)

module _ {A : Type 0} {bytes : A → List ℕ} {Formed : A → Type 0} {r : Reader A} (w : Exact bytes Formed r) (kept : A → Bool) where
  judged_tree : (s : List ℕ) → Bytes s → framed s ≡ true → of_version s ≡ true → (o : Read A) → r (drop 3 s) ≡ o
      → (a : A) → judged kept (length s - 3) o ≡ tree a → RecordOf bytes Formed kept s a
  judged_tree s h f v unread p a e = never cc
  judged_tree s h f v (found b m) p a e =
      let q = passed grammar (eqb m (length s - 3)) _ a e in
      let k = passed rules (kept b) _ a q.1 in
      let l = read_laid w s h f v b (p ∙ ap (found b) (eqb-true m (length s - 3) q.0)) in
      let i : b ≡ a = tree_injective k.1 in
      rw (← i) (record { formed = l.0; keeps = k.0; short = (frame_of s h f v).2; laid = l.1 })

  -- what was read is laid out by the bytes read
  pub tree_record : (s : List ℕ) → Bytes s → (a : A) → read_record r kept s ≡ tree a → RecordOf bytes Formed kept s a
  unfolding read_record
  tree_record s h a e =
      let p = passed framing (framed s) _ a e in
      let q = passed version (of_version s) _ a p.1 in
      judged_tree s h p.0 q.0 (r (drop 3 s)) refl a q.1

  -- the record of a well-formed tree that fits gives the tree
  pub record_tree : (a : A) → Formed a → kept a ≡ true → length (record_of (bytes a)) ≤ 32768 → read_record r kept (record_of (bytes a)) ≡ tree a
  unfolding read_record record_of framed of_version
  record_tree a f k h =
      let e : r (bytes a) ≡ found a (length (bytes a)) = ap r (sym (append-nil (bytes a))) ∙ w.complete a f [] in
      rw (joined_word (1 + length (bytes a)) (omega arith), le-leb _ _ h, eq-eqb (1 + length (bytes a)) (suc (length (bytes a))) (omega arith), e, eq-eqb (length (bytes a)) (suc (suc (suc (length (bytes a)))) - 3) (omega arith), k)

  -- a question refuses only where it is the first to say no,
  judged_refused : (s : List ℕ) → Bytes s → framed s ≡ true → of_version s ≡ true → (o : Read A) → r (drop 3 s) ≡ o
      → OnRefused (FirstNo bytes Formed kept s) (judged kept (length s - 3) o)
  judged_refused s h f v unread p = (f, v, λ a g l. unread_found (sym p ∙ body_read w s a g l))
  judged_refused s h f v (found b m) p = asked_in_turn _ grammar (eqb m (length s - 3)) _ not_laid laid
    where
      same_size : (a : A) {n : ℕ} → found b m ≡ found a n → m ≡ n
      same_size a e = cc

      not_laid : eqb m (length s - 3) ≡ false → FirstNo bytes Formed kept s grammar
      not_laid n = (f, v, λ a g l. never (sym (eq-eqb m (length s - 3) (same_size a (sym p ∙ body_read w s a g l))) ∙ n))

      laid : eqb m (length s - 3) ≡ true → OnRefused (FirstNo bytes Formed kept s) (ask rules (kept b) (tree b))
      laid y =
          let l = read_laid w s h f v b (p ∙ ap (found b) (eqb-true m (length s - 3) y)) in
          asked_in_turn _ rules (kept b) _ (λ k. (f, v, b, l.0, l.1, k)) (λ k. tt)

  refused_listed : (s : List ℕ) → Bytes s → (q : Asked) → read_record r kept s ≡ refused q → FirstNo bytes Formed kept s q
  unfolding read_record
  refused_listed s h q e = subst (OnRefused (FirstNo bytes Formed kept s)) e (asked_in_turn _ framing (framed s) _ (λ n. n) on_framed)
    where
      on_framed : framed s ≡ true → OnRefused (FirstNo bytes Formed kept s) (ask version (of_version s) (judged kept (length s - 3) (r (drop 3 s))))
      on_framed f = asked_in_turn _ version (of_version s) _ (λ n. (f, n)) (λ v. judged_refused s h f v (r (drop 3 s)) refl)

  -- and wherever it is
  refused_made : (s : List ℕ) → Bytes s → (q : Asked) → FirstNo bytes Formed kept s q → read_record r kept s ≡ refused q
  unfolding read_record
  refused_made s h framing n = rw n
  refused_made s h version n = rw (n.0, n.1)
  refused_made s h grammar n = rw (n.0, n.1) (go (r (drop 3 s)) refl)
    where
      size : (a : A) (m : ℕ) → r (drop 3 s) ≡ found a m → (b : Bool) → eqb m (length s - 3) ≡ b → ask grammar b (ask rules (kept a) (tree a)) ≡ refused grammar
      size a m p true y = let l = read_laid w s h n.0 n.1 a (p ∙ ap (found a) (eqb-true m (length s - 3) y)) in absurd (n.2 a l.0 l.1)
      size a m p false y = refl

      go : (o : Read A) → r (drop 3 s) ≡ o → judged kept (length s - 3) o ≡ refused grammar
      go unread p = refl
      go (found a m) p = size a m p (eqb m (length s - 3)) refl
  refused_made s h rules n = rw (n.0, n.1, body_read w s n.2 n.3 n.4, eq-eqb (length s - 3) (length s - 3) refl, n.5)

  pub record_refused_iff : (s : List ℕ) → Bytes s → (q : Asked) → (read_record r kept s ≡ refused q) ↔ FirstNo bytes Formed kept s q
  record_refused_iff s h q = (refused_listed s h q, refused_made s h q)

-- the four record kinds
pub query_tree : (s : List ℕ) → Bytes s → (g : Goal) → read_query s ≡ tree g → RecordOf goal_bytes GoalFormed query_rules s g
query_tree = tree_record goal_exact query_rules

pub event_tree : (s : List ℕ) → Bytes s → (e : Event) → read_event s ≡ tree e → RecordOf event_bytes EventFormed event_rules s e
event_tree = tree_record event_exact event_rules

pub program_tree : (s : List ℕ) → Bytes s → (ds : List Definition) → read_program s ≡ tree ds → RecordOf (counted definition_bytes) (Counted DefinitionFormed) program_rules s ds
program_tree = tree_record (counted_exact definition_exact) program_rules

pub clauses_tree : (s : List ℕ) → Bytes s → (cs : List Clause) → read_clauses s ≡ tree cs → RecordOf (counted clause_bytes) (Counted ClauseFormed) clauses_rules s cs
clauses_tree = tree_record (counted_exact clause_exact) clauses_rules

pub query_read : (g : Goal) → GoalFormed g → length (record_of (goal_bytes g)) ≤ 32768 → read_query (record_of (goal_bytes g)) ≡ tree g
query_read g f h = record_tree goal_exact query_rules g f refl h

pub event_read : (e : Event) → EventFormed e → event_rules e ≡ true → length (record_of (event_bytes e)) ≤ 32768 → read_event (record_of (event_bytes e)) ≡ tree e
event_read = record_tree event_exact event_rules

pub program_read : (ds : List Definition) → Counted DefinitionFormed ds → program_rules ds ≡ true → length (record_of (counted definition_bytes ds)) ≤ 32768
    → read_program (record_of (counted definition_bytes ds)) ≡ tree ds
program_read = record_tree (counted_exact definition_exact) program_rules

pub clauses_read : (cs : List Clause) → Counted ClauseFormed cs → clauses_rules cs ≡ true → length (record_of (counted clause_bytes cs)) ≤ 32768
    → read_clauses (record_of (counted clause_bytes cs)) ≡ tree cs
clauses_read = record_tree (counted_exact clause_exact) clauses_rules

pub query_refused_iff : (s : List ℕ) → Bytes s → (q : Asked) → (read_query s ≡ refused q) ↔ FirstNo goal_bytes GoalFormed query_rules s q
query_refused_iff = record_refused_iff goal_exact query_rules

pub event_refused_iff : (s : List ℕ) → Bytes s → (q : Asked) → (read_event s ≡ refused q) ↔ FirstNo event_bytes EventFormed event_rules s q
event_refused_iff = record_refused_iff event_exact event_rules

pub program_refused_iff : (s : List ℕ) → Bytes s → (q : Asked)
    → (read_program s ≡ refused q) ↔ FirstNo (counted definition_bytes) (Counted DefinitionFormed) program_rules s q
program_refused_iff = record_refused_iff (counted_exact definition_exact) program_rules

pub clauses_refused_iff : (s : List ℕ) → Bytes s → (q : Asked) → (read_clauses s ≡ refused q) ↔ FirstNo (counted clause_bytes) (Counted ClauseFormed) clauses_rules s q
clauses_refused_iff = record_refused_iff (counted_exact clause_exact) clauses_rules

-- a query has no question 4
pub query_unruled : (s : List ℕ) → Bytes s → read_query s ≡ refused rules → ⊥
query_unruled s h e = never ((query_refused_iff s h rules).0 e).5

-- a record with bytes after it gives the record
pub front_is_record : (body r : List ℕ) → length body < 65535 → front_record (record_of body ++ r) ≡ record_of body
unfolding front_record record_of
front_is_record body r h =
    rw (joined_word (1 + length body) (omega arith)) (take_at (word (1 + length body) ++ (1 ∷ body)) r (2 + (1 + length body)) (omega arith))
