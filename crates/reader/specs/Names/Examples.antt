-- Worked examples, by evaluation: the names a, ab, a again, b, in the list, as bytes and in the trie.
use Rattle.std.specs.Prelude.{◌≡◌, refl, List, [], ◌∷◌, ℕ}
use Rattle.records.specs.Ends.Same.{same_bytes}
use Rattle.reader.specs.Form.Meaning.{with_names, name_list}
use Rattle.reader.specs.Items.Items.{Item, item}
use Rattle.reader.specs.Items.Words.{names_of_items, name_numbers}
use Rattle.reader.specs.Names.Seek.{seek}
use Rattle.reader.specs.Names.Trie.{trie_node}
use Rattle.reader.specs.declared.roles.Role.TheVariants.{Constant, GoalFunctor, HeadFunctor, Shut, Neck, Rule}

abbrev a : List ℕ
a = 97 ∷ []

abbrev ab : List ℕ
ab = 97 ∷ 98 ∷ []

abbrev b : List ℕ
b = 98 ∷ []

-- `a(ab) :- a(b).`
abbrev its_items : List Item
its_items = item HeadFunctor a ∷ item Constant ab ∷ item Shut [] ∷ item Neck [] ∷ item GoalFunctor a ∷ item Constant b ∷ item Shut [] ∷ item Rule [] ∷ []

abbrev its_names : List (List ℕ)
its_names = a ∷ ab ∷ b ∷ []

-- each new name goes to the end, and a name that is there adds nothing
listed_once : with_names [] (names_of_items its_items) ≡ its_names
unfolding same_bytes
listed_once = refl

-- a name's number is its place; what is no name has 0
numbered : name_numbers its_names its_items ≡ 0 ∷ 1 ∷ 0 ∷ 0 ∷ 0 ∷ 2 ∷ 0 ∷ 0 ∷ []
unfolding name_numbers same_bytes
numbered = refl

-- each name after its two-byte length
as_bytes : name_list its_names ≡ 0 ∷ 1 ∷ 97 ∷ 0 ∷ 2 ∷ 97 ∷ 98 ∷ 0 ∷ 1 ∷ 98 ∷ []
unfolding name_list
as_bytes = refl

-- what stands in the table of numbers: one more than the place, or 0
marked : seek ab its_names ∷ seek (98 ∷ 97 ∷ []) its_names ∷ [] ≡ 2 ∷ 0 ∷ []
unfolding seek same_bytes
marked = refl

-- nodes are born in the order a, ab, b, and the newest stands first; the empty word has the root
nodes : trie_node a (b ∷ ab ∷ a ∷ []) ∷ trie_node ab (b ∷ ab ∷ a ∷ []) ∷ trie_node b (b ∷ ab ∷ a ∷ []) ∷ trie_node [] (b ∷ ab ∷ a ∷ []) ∷ [] ≡ 1 ∷ 2 ∷ 3 ∷ 0 ∷ []
unfolding trie_node same_bytes
nodes = refl
