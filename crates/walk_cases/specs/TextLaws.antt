-- The digest of a text along its pages: before the first, after one more, and where nothing is left.
use Rattle.std.specs.Prelude.{◌≡◌, true, List, ℕ, take}
use Rattle.std.proofs.Math.Path.{refl}
use Rattle.std.proofs.Common.{sym, ap, ◌∙◌}
use Rattle.walk_text.specs.Text.{text}
use Rattle.walk_text.specs.Rest.{done, left_text, Paged}
use Rattle.walk_text.specs.RestLaws.{page_bytes, nothing_left}
use Rattle.walk_text.specs.declared.text.Rest.{Rest}
use Rattle.walk_text.specs.declared.text.Rest.TheVariants.{Start}
use Rattle.walk_text.specs.declared.text.Page.{Page}
use Rattle.case_io.specs.declared.digest.Digest.{Digest}
use Rattle.case_io.specs.Digest.{no_bytes, digest_from, digest_of}
use Rattle.case_io.specs.DigestLaws.{digest_append}

module _ (program query : List ℕ) where
  pub digest_start : digest_from no_bytes (left_text program query Start) ≡ digest_of (text program query)
  unfolding left_text
  digest_start = refl

module _ (program query : List ℕ) (rest : Rest) where
  pub digest_page : {before after : List ℕ} {r : Page} (d : Digest) {e whole : Digest} → Paged program query rest before r after
      → e ≡ digest_from d (take r.used after) → digest_from d (left_text program query rest) ≡ whole → digest_from e (left_text program query r.rest) ≡ whole
  digest_page {r = r} d g q inv =
      rw (q, page_bytes g) (sym (digest_append d g.bytes (left_text program query r.rest)) ∙ (ap (digest_from d) (sym g.text_is) ∙ inv))

  pub digest_end : (d : Digest) {whole : Digest} → done rest ≡ true → digest_from d (left_text program query rest) ≡ whole → d ≡ whole
  digest_end d h inv = rw (nothing_left program query rest h) at inv
