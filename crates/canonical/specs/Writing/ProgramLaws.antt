-- Laws of a program, group by group: measuring its definitions, and writing them.
use Rattle.std.specs.Prelude.{◌≡◌, refl, Bool, ◌&&◌, ℕ, ◌+◌, ◌-◌, ◌*◌, ◌≤◌, ◌<◌, leb, take, drop, get_or, Some, None}
use Rattle.std.proofs.Common.{sym, ◌∙◌, arith, length-append}
use Rattle.std.proofs.Math.Path.{ap}
use Rattle.std.proofs.Math.Bool.{true, false}
use mathlib.Core.List.{List}
use Rattle.std.proofs.Math.ListN.{length}
use borrow.Author.Tests.{le-leb, lt-leb, leb-true}
use Rattle.records.specs.Format.Syntax.{Definition}
use Rattle.records.specs.Format.Encode.{each, definition_bytes}
use Rattle.records.specs.Gate.RecordRules.{every}
use Rattle.records.specs.Gate.RecordRulesLaws.{and_both}
use Rattle.records.specs.Writing.Patched.{Put}
use Rattle.canonical.specs.Form.Canonical.{locals_of}
use Rattle.canonical.specs.Sorting.Entries.{entry_key}
use Rattle.canonical.specs.Sorting.EntryLaws.{clauses_length, group_bound}
use Rattle.canonical.specs.Sorting.Groups.{group_length}
use Rattle.canonical.specs.Sorting.Remaining.{clauses_between, Remaining}
use Rattle.canonical.specs.Sorting.RemainingLaws.{remaining_next, remaining_end}
use Rattle.canonical.specs.Writing.PartlyPut.{PartlyPut}
use Rattle.canonical.specs.Writing.PartlyPutLaws.{partly_start, partly_more, partly_end, partly_room}
use Rattle.canonical.specs.Writing.Definition.{group_definition, Sums}
use Rattle.canonical.specs.Writing.DefinitionLaws.{definition_length, definition_locals}
use Rattle.canonical.specs.Writing.Service.{locals_fit}
use Rattle.canonical.specs.Writing.Program.{surveyed}
use Rattle.canonical.specs.declared.definition.Totals.{Totals}

-- the next group has clauses, and question 9 of what is left is its question first
module _ {s t : List ℕ} {i : ℕ} {ds : List Definition} (m : Remaining s t i ds) (h : i < length t) {j : ℕ} (is : j ≡ i + group_length (entry_key (get_or t i 0)) (drop i t)) where
  some : 0 < length (clauses_between s t i j)
  some =
      let r = remaining_next m h is in
      omega (arith, clauses_length s (take (j - i) (drop i t)), r.long, r.forth)

  fits_first : every locals_fit ds ≡ (leb (locals_of (clauses_between s t i j)) 255 && every locals_fit (remaining_next m h is).rest)
  fits_first =
      ap (every locals_fit) (remaining_next m h is).makes
      ∙ ap (λ (b : Bool). b && every locals_fit (remaining_next m h is).rest) (definition_locals (clauses_between s t i j) some)

-- the measuring at i of the definitions `whole`
pub record Surveying (s t : List ℕ) (whole : List Definition) (count size i : ℕ) : Type 0 where
  pub ahead : List Definition
  pub remaining : Remaining s t i ahead
  pub fit : every locals_fit whole ≡ every locals_fit ahead
  pub count_left : count + length ahead ≡ length whole
  pub size_left : size + length (each definition_bytes ahead) ≡ length (each definition_bytes whole)
  pub count_small : count ≤ i
  pub size_small : size ≤ 32852 * i

pub surveying_start : {s t : List ℕ} {ds : List Definition} → Remaining s t 0 ds → Surveying s t ds 0 0 0
surveying_start {s} {t} {ds} m = record {
  ahead = ds;
  remaining = m;
  fit = refl;
  count_left = omega arith;
  size_left = omega arith;
  count_small = omega arith;
  size_small = omega arith;
}

module _ {s t : List ℕ} {whole : List Definition} {count size i : ℕ} (v : Surveying s t whole count size i) where
  module _ (h : i < length t) {j : ℕ} (is : j ≡ i + group_length (entry_key (get_or t i 0)) (drop i t)) {r : Totals} (sums : Sums (clauses_between s t i j) r) where
    group_size : r.size ≤ 32849 * (j - i)
    group_size = let q = remaining_next v.remaining h is in omega (arith, sums.size, (group_bound q.group).0, q.long)

    -- nothing wraps
    pub surveying_bound : (count + 1 ≤ 32768) × (size + (3 + r.size) ≤ 1076494336)
    surveying_bound =
        let q = remaining_next v.remaining h is in
        let few = v.remaining.few in
        let n = v.count_small in
        let m = v.size_small in
        (omega (arith, q.forth, q.within), omega (arith, group_size, q.forth, q.within))

    -- question 9 says no
    pub surveying_many : 255 < r.locals → None ≡ surveyed whole
    unfolding surveyed
    surveying_many k =
        let b : 255 < locals_of (clauses_between s t i j) = omega (arith, sums.locals) in
        let no = lt-leb (locals_of (clauses_between s t i j)) 255 b in
        let e : every locals_fit whole ≡ false = v.fit ∙ fits_first v.remaining h is ∙ rw no in
        rw e

    pub surveying_next : r.locals ≤ 255 → Surveying s t whole (count + 1) (size + (3 + r.size)) j
    surveying_next k =
        let q = remaining_next v.remaining h is in
        let b : locals_of (clauses_between s t i j) ≤ 255 = omega (arith, sums.locals) in
        let n = v.count_left in
        let z = v.size_left in
        let x = v.count_small in
        let y = v.size_small in
        record {
          ahead = q.rest;
          remaining = q.onward;
          fit = v.fit ∙ fits_first v.remaining h is ∙ rw (le-leb (locals_of (clauses_between s t i j)) 255 b);
          count_left = omega (arith, ap length q.makes);
          size_left =
              omega (
                arith,
                ap (λ (l : List Definition). length (each definition_bytes l)) q.makes,
                length-append (definition_bytes (group_definition (clauses_between s t i j))) (each definition_bytes q.rest),
                definition_length (clauses_between s t i j) (some v.remaining h is),
                sums.size,
              );
          count_small = omega (arith, q.forth);
          size_small = omega (arith, group_size, q.forth);
        }

  pub surveying_end : length t ≤ i → Some (record { count = count; size = size }) ≡ surveyed whole
  unfolding surveyed
  surveying_end h =
      let e = remaining_end v.remaining h in
      let f : every locals_fit whole ≡ true = v.fit ∙ ap (every locals_fit) e in
      let n : count ≡ length whole = (let z = v.count_left in omega (arith, ap length e)) in
      let m : size ≡ length (each definition_bytes whole) = (let z = v.size_left in omega (arith, ap (λ (l : List Definition). length (each definition_bytes l)) e)) in
      rw (f, n, m)

-- the writing of the definitions at i
pub record Defining (s t whole before : List ℕ) (first : ℕ) (after : List ℕ) (at i : ℕ) : Type 0 where
  pub ahead : List Definition
  pub remaining : Remaining s t i ahead
  pub fit : every locals_fit ahead ≡ true
  pub partly : PartlyPut before first whole after at (each definition_bytes ahead)

pub defining_start : {s t : List ℕ} {ds : List Definition} → Remaining s t 0 ds → every locals_fit ds ≡ true → (before : List ℕ) (first : ℕ)
    → Defining s t (each definition_bytes ds) before first before first 0
defining_start {s} {t} {ds} m f before first = record { ahead = ds; remaining = m; fit = f; partly = partly_start }

module _ {s t whole before after : List ℕ} {first at i : ℕ} (v : Defining s t whole before first after at i) where
  module _ (h : i < length t) {j : ℕ} (is : j ≡ i + group_length (entry_key (get_or t i 0)) (drop i t)) where
    fitting : (leb (locals_of (clauses_between s t i j)) 255 ≡ true) × (every locals_fit (remaining_next v.remaining h is).rest ≡ true)
    fitting = and_both _ _ (sym (fits_first v.remaining h is) ∙ v.fit)

    -- question 9 was passed
    pub defining_locals : locals_of (clauses_between s t i j) ≤ 255
    defining_locals = leb-true (locals_of (clauses_between s t i j)) 255 fitting.0

    pub defining_room : first + length whole ≤ length before → at + length (definition_bytes (group_definition (clauses_between s t i j))) ≤ length after
    defining_room r =
        let q = remaining_next v.remaining h is in
        omega (
          arith,
          partly_room v.partly r,
          ap (λ (l : List Definition). length (each definition_bytes l)) q.makes,
          length-append (definition_bytes (group_definition (clauses_between s t i j))) (each definition_bytes q.rest),
        )

    pub defining_next : {later : List ℕ} {to : ℕ} → Put after at (definition_bytes (group_definition (clauses_between s t i j))) later to
        → Defining s t whole before first later to j
    defining_next p =
        let q = remaining_next v.remaining h is in
        record {
          ahead = q.rest;
          remaining = q.onward;
          fit = fitting.1;
          partly = partly_more v.partly (definition_bytes (group_definition (clauses_between s t i j))) (ap (each definition_bytes) q.makes) p;
        }

  pub defining_end : length t ≤ i → Put before first whole after at
  defining_end h = partly_end v.partly (ap (each definition_bytes) (remaining_end v.remaining h))
