-- The laws of the search for a definition in a program's record.
use Rattle.std.specs.Prelude.{◌≡◌, refl, List, [], ◌∷◌, ◌++◌, Bool, true, false, cond, ◌&&◌, ℕ, ◌+◌, ◌-◌, ◌<◌, ◌≤◌, eqb, length, Some, None, Option}
use Rattle.std.proofs.Common.{sym, ap, subst, ◌∙◌, arith, eqb-true}
use Rattle.std.proofs.Math.Option.{none, some}
use Rattle.records.specs.Format.Never.{never}
use Rattle.records.specs.Format.Syntax.{Definition}
use Rattle.records.specs.Format.Syntax.Definition.{definition}
use Rattle.records.specs.Format.Encode.{word, each, goal_bytes, definition_bytes}
use Rattle.records.specs.Format.Formed.{All, DefinitionFormed}
use Rattle.records.specs.Format.Heads.{signed, definition_head_at, word_at}
use Rattle.records.specs.Format.Items.{read_definition}
use Rattle.records.specs.Format.Exact.{definition_exact}
use Rattle.records.specs.Ends.Traversal.{end_of}
use Rattle.records.specs.Ends.Stands.{Stands}
use Rattle.records.specs.Ends.StandsLaws.{stands_first, stands_second, stands_within, stands_ends, definition_stands, word_stands}
use Rattle.records.specs.declared.heads.Signature.{Signature}
use Rattle.terms.specs.Body.Body.{defines, definition_of}
use Rattle.terms.specs.Standing.Rows.{FirstOf}
use Rattle.terms.specs.Standing.RowsLaws.{standing_first, standing_none}
use Rattle.terms.specs.declared.definitions.DefinitionHead.{DefinitionHead}
use Rattle.terms.specs.declared.definitions.Place.{Place}
use Rattle.terms.specs.Body.Definitions.{ProgramAt, DefinitionAt, DefinitionsAt, EntryOf, EntryAt, Lookup, FoundAt, definition_place, find_definition}

-- the head of a definition
abbrev signature : Definition → Option Signature
signature (definition p k n g) = signed p k n

module _ {s : List ℕ} {at : ℕ} (d : DefinitionAt s at) where
  entry_head : definition_head_at s at ≡ signature d.item
  entry_head = go d.item d.formed d.stands
    where
      go : (i : Definition) → DefinitionFormed i → Stands s at (definition_bytes i) d.end → definition_head_at s at ≡ signature i
      go (definition p k n g) f w = definition_stands p k n g f w

  entry_end : end_of read_definition s at ≡ Some d.end
  entry_end = stands_ends definition_exact d.item d.formed d.stands

  -- for code that has the head h and the end f from calls
  module _ {h : Option Signature} (is : h ≡ definition_head_at s at) where
    pub entry_headed : {P : Type 0} → h ≡ None → P
    entry_headed e = go d.item (sym e ∙ is ∙ entry_head)
      where
        go : {P : Type 0} (i : Definition) → None ≡ signature i → P
        go (definition p k n g) q = never cc

    pub entry_is : {g : Signature} {e : ℕ} {f : Option ℕ} → h ≡ Some g → f ≡ end_of read_definition s at → f ≡ Some e
        → EntryOf d (record { predicate = g.predicate; arity = g.arity; locals = g.count; end = e })
    entry_is {g} {e} {f} q ends a = go d.item refl (sym q ∙ is ∙ entry_head)
      where
        go : (i : Definition) → d.item ≡ i → Some g ≡ signature i → EntryOf d (record { predicate = g.predicate; arity = g.arity; locals = g.count; end = e })
        go (definition p' k' n' b) x y =
            let z : Some e ≡ Some d.end = sym a ∙ ends ∙ entry_end in
            let same : record { predicate = p'; arity = k'; count = n' } ≡ g = cc in
            record { goal = b; same = x ∙ (let u : p' ≡ g.predicate = ap (λ (x : Signature). x.predicate) same in let v : k' ≡ g.arity = ap (λ (x : Signature). x.arity) same in let w : n' ≡ g.count = ap (λ (x : Signature). x.count) same in cc); end = cc }

  pub entry_ended : {P : Type 0} {f : Option ℕ} → f ≡ end_of read_definition s at → f ≡ None → P
  entry_ended is e = absurd (let q : None ≡ Some d.end = sym e ∙ is ∙ entry_end in never cc)

  -- a definition has four bytes before its goal
  pub entry_room : at + 4 ≤ length s
  entry_room = go d.item d.stands
    where
      go : (i : Definition) → Stands s at (definition_bytes i) d.end → at + 4 ≤ length s
      go (definition p k n g) w = omega (arith, stands_within w (omega arith), w.end)

pub entry_read : {s : List ℕ} {at : ℕ} {d : DefinitionAt s at} {h : DefinitionHead} → EntryOf d h → EntryAt d (Some h)
entry_read {d = d} {h} x = record { read = same; known = λ e. never cc }
  where
    same : {k : DefinitionHead} → Some h ≡ Some k → EntryOf d k
    same {k} e = let q : h ≡ k = cc in subst (EntryOf d) q x

-- the next of the definitions is of another predicate or arity, or it is the one looked for
past_definition : (at i : ℕ) (d : Definition) (ds : List Definition) (p k : ℕ) → defines p k d ≡ false
    → find_definition at i (d ∷ ds) p k ≡ find_definition (at + length (definition_bytes d)) (i + 1) ds p k
unfolding find_definition
past_definition at i d ds p k e = rw e

at_definition : (at i : ℕ) (d : Definition) (ds : List Definition) (p k : ℕ) → defines p k d ≡ true → find_definition at i (d ∷ ds) p k ≡ Some (definition_place at i d)
unfolding find_definition
at_definition at i d ds p k e = rw e

-- a search on its way: i of n definitions passed, and the others from `at` on
pub record Searched (s : List ℕ) (n p k at i : ℕ) : Type 0 where
  pub within : i ≤ n
  pub rest : DefinitionsAt s 5 n → DefinitionsAt s at (n - i)
  pub same : (ds : DefinitionsAt s 5 n) → find_definition 5 0 ds.items p k ≡ find_definition at i (rest ds).items p k

pub searched_start : (s : List ℕ) (n p k : ℕ) → Searched s n p k 5 0
searched_start s n p k = record {
  within = omega arith;
  rest = λ ds. record { items = ds.items; formed = ds.formed; many = ds.many ∙ omega arith; end = ds.end; stands = ds.stands };
  same = λ ds. refl;
}

module _ {s : List ℕ} {n p k at i : ℕ} (w : Searched s n p k at i) (h : i < n) where
  first_left : (ds : DefinitionsAt s 5 n) → FirstOf (w.rest ds)
  first_left ds = standing_first (w.rest ds) (omega arith)

  pub searched_item : DefinitionsAt s 5 n → DefinitionAt s at
  searched_item ds = (first_left ds).first

  module _ {r : DefinitionHead} (entry : (d : DefinitionAt s at) → EntryOf d r) {b : Bool} (is : b ≡ (eqb p r.predicate && eqb k r.arity)) where
    tested : (d : DefinitionAt s at) → defines p k d.item ≡ b
    tested d = ap (defines p k) (entry d).same ∙ sym is

    ends : (d : DefinitionAt s at) → r.end ≡ at + length (definition_bytes d.item)
    ends d = (entry d).end ∙ d.stands.end

    onward : (ds : DefinitionsAt s 5 n) → find_definition 5 0 ds.items p k ≡ find_definition at i ((first_left ds).first.item ∷ (first_left ds).rest.items) p k
    onward ds = w.same ds ∙ ap (λ (l : List Definition). find_definition at i l p k) (first_left ds).whole

    pub searched_next : b ≡ false → Searched s n p k r.end (i + 1)
    searched_next e = record {
      within = omega arith;
      rest = λ ds. next (first_left ds) (entry (first_left ds).first).end;
      same = λ ds. onward ds ∙ past_definition at i (first_left ds).first.item (first_left ds).rest.items p k (tested (first_left ds).first ∙ e)
          ∙ ap (λ (j : ℕ). find_definition j (i + 1) (first_left ds).rest.items p k) (sym (ends (first_left ds).first));
    }
      where
        next : {ds : DefinitionsAt s at (n - i)} (f : FirstOf ds) → r.end ≡ f.first.end → DefinitionsAt s r.end (n - (i + 1))
        next f q = record { items = f.rest.items; formed = f.rest.formed; many = f.rest.many ∙ omega arith; end = f.rest.end; stands = rw q f.rest.stands }

    pub searched_found : b ≡ true → (ds : DefinitionsAt s 5 n)
        → Some (record { index = i; start = at; locals = r.locals; goal = at + 4; end = r.end }) ≡ find_definition 5 0 ds.items p k
    searched_found e ds = sym (onward ds ∙ at_definition at i d.item (first_left ds).rest.items p k (tested d ∙ e) ∙ ap Some (place d.item (entry d).same (ends d)))
      where
        d : DefinitionAt s at
        d = (first_left ds).first

        place : (x : Definition) → x ≡ definition r.predicate r.arity r.locals (entry d).goal → r.end ≡ at + length (definition_bytes x)
            → definition_place at i x ≡ record { index = i; start = at; locals = r.locals; goal = at + 4; end = r.end }
        place x q z = rw (z, q) refl

pub searched_none : {s : List ℕ} {n p k at i : ℕ} → Searched s n p k at i → n ≤ i → (ds : DefinitionsAt s 5 n) → None ≡ find_definition 5 0 ds.items p k
unfolding find_definition
searched_none {p = p} {k = k} {at = at} {i = i} w h ds = sym (w.same ds ∙ ap (λ (l : List Definition). find_definition at i l p k) (standing_none (w.rest ds) (omega (arith, w.within))))

-- the count of a program's definitions, and the definitions after it
module _ {s : List ℕ} (d : ProgramAt s) where
  pub program_count : word_at s 3 ≡ Some (length d.definitions)
  program_count = word_stands (length d.definitions) (each definition_bytes d.definitions) d.formed.0 d.stands

  pub program_row : {w : Option ℕ} {n : ℕ} → w ≡ word_at s 3 → w ≡ Some n → DefinitionsAt s 5 n
  program_row {w} {n} is e = record {
    items = d.definitions;
    formed = d.formed.1;
    many = let q : Some (length d.definitions) ≡ Some n = sym program_count ∙ sym is ∙ e in cc;
    end = d.end;
    stands = stands_second (word (length d.definitions)) (each definition_bytes d.definitions) d.stands;
  }

  pub program_counted : {P : Type 0} {w : Option ℕ} → w ≡ word_at s 3 → w ≡ None → P
  program_counted is e = absurd (let q : Some (length d.definitions) ≡ None = sym program_count ∙ sym is ∙ e in never cc)

  pub program_searched : (p k : ℕ) {w : Option ℕ} {n : ℕ} {r : Lookup} → w ≡ word_at s 3 → w ≡ Some n
      → ((ds : DefinitionsAt s 5 n) → r ≡ find_definition 5 0 ds.items p k) → r ≡ find_definition 5 0 d.definitions p k
  unfolding program_row
  program_searched p k is e h = h (program_row is e)

-- nothing is found where nothing is defined
pub absent_none : (at i : ℕ) (ds : List Definition) (p k : ℕ) → find_definition at i ds p k ≡ None → definition_of ds p k ≡ none
unfolding find_definition definition_of
absent_none at i [] p k e = refl
absent_none at i (d ∷ ds) p k e = go (defines p k d) e (absent_none (at + length (definition_bytes d)) (i + 1) ds p k)
  where
    go : (b : Bool) → cond b (Some (definition_place at i d)) (find_definition (at + length (definition_bytes d)) (i + 1) ds p k) ≡ None
        → (find_definition (at + length (definition_bytes d)) (i + 1) ds p k ≡ None → definition_of ds p k ≡ none) → cond b (some d) (definition_of ds p k) ≡ none
    go true q ih = never cc
    go false q ih = ih q

-- what is found is the definition, and its goal stands there
found_at : {s : List ℕ} {e : ℕ} (at i : ℕ) (ds : List Definition) → All DefinitionFormed ds → Stands s at (each definition_bytes ds) e → (p k : ℕ) {a : Place}
    → find_definition at i ds p k ≡ Some a → FoundAt s ds p k a
unfolding find_definition definition_of
found_at at i [] f w p k q = never cc
found_at {s} {e} at i (definition x y l g ∷ ds) f w p k {a} q = go (eqb p x) refl (eqb k y) refl q (λ z. found_at (at + length (definition_bytes d)) (i + 1) ds f.1 (stands_second (definition_bytes d) (each definition_bytes ds) w) p k z)
  where
    d : Definition
    d = definition x y l g

    own : Stands s (at + 4) (goal_bytes g) (at + length (definition_bytes d))
    own = stands_second (word x ++ (y ∷ (l ∷ []))) (goal_bytes g) (stands_first (definition_bytes d) (each definition_bytes ds) w)

    others : (eqb p x && eqb k y) ≡ false → FoundAt s ds p k a → FoundAt s (d ∷ ds) p k a
    others b u = record { goal = u.goal; few = u.few; found = rw b u.found }

    go : (b : Bool) → eqb p x ≡ b → (c : Bool) → eqb k y ≡ c → cond (b && c) (Some (definition_place at i d)) (find_definition (at + length (definition_bytes d)) (i + 1) ds p k) ≡ Some a
        → (find_definition (at + length (definition_bytes d)) (i + 1) ds p k ≡ Some a → FoundAt s ds p k a) → FoundAt s (d ∷ ds) p k a
    go true u true v z ih =
        let t : definition_place at i d ≡ a = cc in
        rw (← t) (record {
          goal = record { item = g; formed = f.0.3; end = at + length (definition_bytes d); stands = own };
          few = f.0.2;
          found = rw (u, v, eqb-true p x u, eqb-true k y v) refl;
        })
    go true u false v z ih = others (rw (u, v)) (ih z)
    go false u c v z ih = others (rw u) (ih z)

pub found_in : {s : List ℕ} (d : ProgramAt s) {p k : ℕ} {a : Place} → find_definition 5 0 d.definitions p k ≡ Some a → FoundAt s d.definitions p k a
found_in d e = found_at 5 0 d.definitions d.formed.1 (stands_second (word (length d.definitions)) (each definition_bytes d.definitions) d.stands) _ _ e
