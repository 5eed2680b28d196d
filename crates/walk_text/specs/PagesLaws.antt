-- The pages of a text, one after the other, are the text.
use Rattle.std.specs.Prelude.{◌≡◌, List, ◌++◌, ℕ}
use Rattle.std.proofs.Math.Path.{refl, sym}
use Rattle.std.proofs.Common.{ap, ◌∙◌}
use Rattle.walk_text.specs.Text.{text}
use Rattle.walk_text.specs.Rest.{left_text}
use Rattle.walk_text.specs.RestLaws.{page_bytes}
use Rattle.walk_text.specs.Pages.{Pages, ended, page}
use Rattle.walk_text.specs.declared.text.Rest.{Rest}
use Rattle.walk_text.specs.declared.text.Rest.TheVariants.{Start}

module _ (program query : List ℕ) where
  pages_are_left : {rest : Rest} {bytes : List ℕ} → Pages program query rest bytes → bytes ≡ left_text program query rest
  unfolding left_text
  pages_are_left ended = refl
  pages_are_left (page {later = later} g more) = rw (page_bytes g) (ap (λ l. g.bytes ++ l) (pages_are_left more) ∙ sym g.text_is)

  pub pages_are_text : {bytes : List ℕ} → Pages program query Start bytes → bytes ≡ text program query
  unfolding left_text
  pages_are_text p = pages_are_left p
