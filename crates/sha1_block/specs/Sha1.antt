-- SHA-1 as FIPS 180-4 defines it, on messages of whole bytes, section by section. A word is a number below 2 ^ 32, a byte one below 256, a message a list of bytes.
use Rattle.std.specs.Prelude.{ℕ, zero, suc, ◌+◌, ◌-◌, ◌*◌, ◌/◌, ◌%◌, ◌^◌, cond, List, [], ◌∷◌, ◌++◌, length, take, drop, replicate, bit_and, bit_or, bit_xor, nat_lt, slice_index, slice_set}
use Rattle.sha1_block.specs.declared.rounds.Vars.{Vars}

-- 3.1: a word as four bytes, high byte first
abbrev pub bytes_of : ℕ → List ℕ
bytes_of x = (x / 2 ^ 24) ∷ (x / 2 ^ 16 % 2 ^ 8) ∷ (x / 2 ^ 8 % 2 ^ 8) ∷ (x % 2 ^ 8) ∷ []

-- 3.1: the word whose four bytes stand at i
abbrev pub word_at : List ℕ → ℕ → ℕ
word_at m i = slice_index m i * 2 ^ 24 + slice_index m (i + 1) * 2 ^ 16 + slice_index m (i + 2) * 2 ^ 8 + slice_index m (i + 3)

-- 3.2, 1: the complement of a word
abbrev pub not32 : ℕ → ℕ
not32 x = 2 ^ 32 - 1 - x

-- 3.2, 2: the sum of two words, modulo 2 ^ 32
abbrev pub add32 : ℕ → ℕ → ℕ
add32 x y = (x + y) % 2 ^ 32

-- 3.2, 5: ROTL n x = (x << n) or (x >> 32 - n)
abbrev pub rotl : ℕ → ℕ → ℕ
rotl n x = bit_or (x * 2 ^ n % 2 ^ 32) (x / 2 ^ (32 - n))

-- 4.1.1: Ch, Parity, Maj
abbrev pub ch : ℕ → ℕ → ℕ → ℕ
ch x y z = bit_xor (bit_and x y) (bit_and (not32 x) z)

abbrev pub parity : ℕ → ℕ → ℕ → ℕ
parity x y z = bit_xor (bit_xor x y) z

abbrev pub maj : ℕ → ℕ → ℕ → ℕ
maj x y z = bit_xor (bit_xor (bit_and x y) (bit_and x z)) (bit_and y z)

-- 4.1.1: the function of round t
unfoldable pub f : ℕ → ℕ → ℕ → ℕ → ℕ
f t x y z = cond (nat_lt t 20) (ch x y z) (cond (nat_lt t 40) (parity x y z) (cond (nat_lt t 60) (maj x y z) (parity x y z)))

-- 4.2.1: the constant of round t
unfoldable pub K : ℕ → ℕ
K t = cond (nat_lt t 20) 0x5a827999 (cond (nat_lt t 40) 0x6ed9eba1 (cond (nat_lt t 60) 0x8f1bbcdc 0xca62c1d6))

-- 5.1.1: a number of bits as a field of 64 bits
abbrev pub length_field : ℕ → List ℕ
length_field bits = bytes_of (bits / 2 ^ 32) ++ bytes_of (bits % 2 ^ 32)

-- 5.1.1: behind n bytes and the byte with the bit 1, the least number of zero bytes that leaves eight bytes of a block (`zeros_least` of `StreamLaws` says so)
abbrev pub zeros : ℕ → ℕ
zeros n = (119 - n % 64) % 64

-- 5.1.1: the padding of n bytes: the bit 1, zeros, and the length in bits
abbrev pub padding : ℕ → List ℕ
padding n = 0x80 ∷ (replicate (zeros n) 0 ++ length_field (n * 8))

-- 5.1.1: the padded message
unfoldable pub pad : List ℕ → List ℕ
pad m = m ++ padding (length m)

-- 5.2.1: the block of 512 bits that starts at a byte
abbrev pub block_from : List ℕ → ℕ → List ℕ
block_from m at = take 64 (drop at m)

-- 5.3.1: the initial hash value
abbrev pub first : List ℕ
first = 0x67452301 ∷ 0xefcdab89 ∷ 0x98badcfe ∷ 0x10325476 ∷ 0xc3d2e1f0 ∷ []

-- 6.1.2, step 1: W t of a block, from the words before it
unfoldable pub W : List ℕ → List ℕ → ℕ → ℕ
W block w t =
    cond (nat_lt t 16) (word_at block (4 * t))
    (rotl 1 (bit_xor (bit_xor (bit_xor (slice_index w (t - 3)) (slice_index w (t - 8))) (slice_index w (t - 14))) (slice_index w (t - 16))))

-- 6.1.2, step 1: the message schedule of 80 words, with the first t of them filled in
unfoldable pub schedule : List ℕ → ℕ → List ℕ
schedule block zero = replicate 80 0
schedule block (suc t) = slice_set (schedule block t) t (W block (schedule block t) t)

-- 6.1.2, step 2: the working variables
abbrev pub vars_of : List ℕ → Vars
vars_of h = record { a = slice_index h 0; b = slice_index h 1; c = slice_index h 2; d = slice_index h 3; e = slice_index h 4 }

-- 6.1.2, step 3: a round, from the value of its function, its constant and its word
abbrev pub round_by : ℕ → ℕ → ℕ → Vars → Vars
round_by x k w v =
    record {
      a = add32 (add32 (add32 (add32 (rotl 5 v.a) x) v.e) k) w;
      b = v.a;
      c = rotl 30 v.b;
      d = v.c;
      e = v.d;
    }

-- 6.1.2, step 3: n rounds, the first of them round s
unfoldable pub rounds : List ℕ → ℕ → ℕ → Vars → Vars
rounds w s zero v = v
rounds w s (suc n) v =
    let x : Vars = rounds w s n v in
    round_by (f (s + n) x.b x.c x.d) (K (s + n)) (slice_index w (s + n)) x

-- 6.1.2, step 4: the hash value after a block
abbrev pub added : List ℕ → Vars → List ℕ
added h v =
    add32 (slice_index h 0) v.a ∷ add32 (slice_index h 1) v.b ∷ add32 (slice_index h 2) v.c ∷ add32 (slice_index h 3) v.d ∷ add32 (slice_index h 4) v.e ∷ []

-- 6.1.2: one block
unfoldable pub compress_of : List ℕ → List ℕ → List ℕ
compress_of h block = added h (rounds (schedule block 80) 0 80 (vars_of h))

-- 6.1.2: the hash value after the first i blocks of m
unfoldable pub hashed : List ℕ → ℕ → List ℕ
hashed m zero = first
hashed m (suc i) = compress_of (hashed m i) (block_from m (64 * i))

-- 6.1.2: the message digest: the five words of the last hash value
unfoldable pub digest_of : List ℕ → List ℕ
digest_of h = bytes_of (slice_index h 0) ++ (bytes_of (slice_index h 1) ++ (bytes_of (slice_index h 2) ++ (bytes_of (slice_index h 3) ++ bytes_of (slice_index h 4))))

-- 6.1: SHA-1 of a message
unfoldable pub sha1 : List ℕ → List ℕ
sha1 m = digest_of (hashed (pad m) (length (pad m) / 64))
