-- Writing into an output: what a list is once bytes are written into it, and `Put`, the contract of every function that writes.
-- Choices: what would stand past the end is lost, so that the length never changes and nearly every law holds with no side condition;
-- a writer's contract is one record, so that the contract of two writes, one after the other, is one word (`put_then`).
use Rattle.std.specs.Prelude.{◌≡◌, List, [], ◌∷◌, ℕ, zero, suc, ◌+◌, length}

-- the list `before` with `bytes` written from index `at` on
unfoldable pub patched : List ℕ → ℕ → List ℕ → List ℕ
patched [] at bytes = []
patched (x ∷ before) zero [] = x ∷ before
patched (x ∷ before) zero (y ∷ bytes) = y ∷ patched before zero bytes
patched (x ∷ before) (suc at) bytes = x ∷ patched before at bytes

-- what a function leaves that writes `bytes` into `before` at `at`: the output after it, and the place after the bytes
pub record Put (before : List ℕ) (at : ℕ) (bytes after : List ℕ) (next : ℕ) : Type 0 where
  pub place : next ≡ at + length bytes
  pub output : after ≡ patched before at bytes

-- two writes with n bytes between them, the first one from the start
pub record Around (before front : List ℕ) (n : ℕ) (back after : List ℕ) (end : ℕ) : Type 0 where
  pub between : List ℕ
  pub place : ℕ
  pub ahead : Put before 0 front between place
  pub behind : Put between (place + n) back after end
