-- A text on its way out: at its start, after one page more, after a page that was not taken, and where nothing is left of it.
use Rattle.std.specs.Prelude.{◌≡◌, Bool, true, false, not, List, [], ◌++◌, ℕ, take}
use Rattle.std.proofs.Math.Path.{refl}
use Rattle.std.proofs.Common.{sym, ◌∙◌, append-nil, append_assoc}
use Rattle.walk_text.specs.Text.{text}
use Rattle.walk_text.specs.Rest.{done, left_text, Paged}
use Rattle.walk_text.specs.RestLaws.{page_bytes, nothing_left}
use Rattle.walk_text.specs.declared.text.Rest.{Rest}
use Rattle.walk_text.specs.declared.text.Rest.TheVariants.{Start}
use Rattle.walk_text.specs.declared.text.Page.{Page}
use Rattle.walk.specs.Writing.{Handed, Printed, nothing, and_then, Output, all_of, up_to}

-- the text of two records up to what is left of it was printed
pub record Printing (program query : List ℕ) (rest : Rest) : Type 0 where
  pub bytes : List ℕ
  pub printed : Printed bytes
  pub text_is : text program query ≡ bytes ++ left_text program query rest

-- what the test of a negation says
not_false : (b : Bool) → not b ≡ false → b ≡ true
not_false true h = refl
not_false false h = sym h

not_true : (b : Bool) → not b ≡ true → b ≡ false
not_true true h = sym h
not_true false h = refl

module _ {program query : List ℕ} where
  pub printing_start : Printing program query Start
  unfolding left_text
  printing_start = record { bytes = []; printed = nothing; text_is = refl }

  pub printing_page : {before after : List ℕ} {rest : Rest} {r : Page} → Printing program query rest → Paged program query rest before r after
      → (all : Bool) → Handed (take r.used after) all → not all ≡ false → Printing program query r.rest
  printing_page {after = after} {r = r} p g all h e = record {
    bytes = p.bytes ++ take r.used after;
    printed = and_then (take r.used after) p.printed (rw (not_false all e) at h);
    text_is = p.text_is ∙ rw (page_bytes g, g.text_is, append_assoc) refl;
  }

  pub printing_cut : {before after : List ℕ} {rest : Rest} {r : Page} → Printing program query rest → Paged program query rest before r after
      → (all : Bool) → Handed (take r.used after) all → not all ≡ true → Output (text program query) false
  printing_cut {after = after} {r = r} p g all h e =
      up_to (take r.used after) (left_text program query r.rest) p.printed (rw (not_true all e) at h) (p.text_is ∙ rw (page_bytes g, g.text_is) refl)

  pub printing_done : {rest : Rest} → Printing program query rest → done rest ≡ true → Output (text program query) true
  printing_done {rest} p d = rw (p.text_is, nothing_left program query rest d, append-nil) (all_of p.printed)
