-- The pages of a text, one after the other.
use Rattle.std.specs.Prelude.{List, [], ◌++◌, ℕ, take}
use Rattle.walk_text.specs.Rest.{Paged}
use Rattle.walk_text.specs.declared.text.Rest.{Rest}
use Rattle.walk_text.specs.declared.text.Rest.TheVariants.{Done}
use Rattle.walk_text.specs.declared.text.Page.{Page}

module _ (program query : List ℕ) where
  -- what the pages hold, from what is left on until nothing is
  pub data Pages : Rest → List ℕ → Type 0 where
    ended : Pages Done []
    page : {rest : Rest} {before after later : List ℕ} {r : Page} → Paged program query rest before r after → Pages r.rest later
        → Pages rest (take r.used after ++ later)
