-- The records of the walk program's input, each found by its length field (SPECIFICATION 8.10). Of an input that ends within a record, and where a
-- length field says more than a record has, what is taken is refused by question 1.
use Rattle.std.specs.Prelude.{cond, List, [], ◌∷◌, ℕ, ◌+◌, ltb, take}
use Rattle.records.specs.Format.Heads.{joined}

-- how many bytes follow the length field at an input's front: none where the input ends within it, or where it names more than a record has
unfoldable pub bytes_named : List ℕ → ℕ
bytes_named [] = 0
bytes_named (x ∷ []) = 0
bytes_named (x ∷ y ∷ l) = cond (ltb 32766 (joined x y)) 0 (joined x y)

-- what is taken of an input for the record at its front: the length field and the bytes that it names, as far as there are any
unfoldable pub taken : List ℕ → List ℕ
taken input = take (2 + bytes_named input) input
