-- The digest of a text: how many bytes and lines it has, and its checksum, FNV-1a. Each number has 32 bits.
use Rattle.std.specs.Prelude.{ℕ, ◌+◌, ◌*◌, ◌%◌, cond, List, ◌==◌, bit_xor}
use Rattle.std.specs.List.{fold}
use Rattle.case_io.specs.declared.digest.Digest.{Digest}

-- how many lines a byte ends
abbrev pub line_ends : ℕ → ℕ
line_ends b = cond (b == 0x0A) 1 0

-- a checksum with one byte more: exclusive or with the byte, then times the prime
abbrev pub mixed : ℕ → ℕ → ℕ
mixed sum b = bit_xor sum b * 0x01000193 % 0x100000000

abbrev pub digest_more : Digest → ℕ → Digest
digest_more d b = record {
  bytes = (d.bytes + 1) % 0x100000000;
  lines = (d.lines + line_ends b) % 0x100000000;
  checksum = mixed d.checksum b;
}

-- from a digest on
abbrev pub digest_from : Digest → List ℕ → Digest
digest_from d bytes = fold digest_more d bytes

abbrev pub no_bytes : Digest
no_bytes = record { bytes = 0; lines = 0; checksum = 0x811c9dc5 }

abbrev pub digest_of : List ℕ → Digest
digest_of text = digest_from no_bytes text
