-- The hashes of the two kinds of key.
use Rattle.std.specs.Prelude.{ℕ, ◌*◌, ◌%◌, ◌^◌, List, fold, bit_xor}

-- a number times 2^64 over the golden ratio, modulo 2^64
abbrev pub multiplied : ℕ → ℕ
multiplied k = (k * 0x9E37_79B9_7F4A_7C15) % 2 ^ 64

-- one byte of FNV-1a: it is put in by exclusive or, then the whole is multiplied by the prime
abbrev pub mixed : ℕ → ℕ → ℕ
mixed h b = (bit_xor h b * 0x100_0000_01b3) % 2 ^ 64

-- FNV-1a of 64 bits: from the offset basis over the bytes in their order
abbrev pub fnv1a : List ℕ → ℕ
fnv1a bytes = fold mixed 0xcbf2_9ce4_8422_2325 bytes
