-- A message that is hashed a byte at a time: what the record keeps of it, how a byte joins, and what finishing gives.
use Rattle.std.specs.Prelude.{cond, List, [], ◌∷◌, ◌++◌, ℕ, ◌+◌, ◌-◌, ◌*◌, ◌%◌, set, take, replicate, ltb, eqb}
use Rattle.std.proofs.lemmas.List.Edits.{sets}
use Rattle.sha1_message.specs.declared.Stream.{Stream}
use Rattle.sha1_block.specs.Sha1.{compress_of, first, length_field, digest_of}

-- no message
abbrev pub nothing : Stream
nothing = record { h = replicate 5 0; tail = replicate 64 0; count = 0 }

-- the message of no byte
abbrev pub begin : Stream
begin = record { h = first; tail = replicate 64 0; count = 0 }

-- a byte goes behind the tail; the 64th makes it a block, which is hashed and leaves no tail
unfoldable pub join : Stream → ℕ → Stream
join s b =
    record {
      h = cond (eqb (s.count % 64) 63) (compress_of s.h (set s.tail (s.count % 64) b)) s.h;
      tail = cond (eqb (s.count % 64) 63) (replicate 64 0) (set s.tail (s.count % 64) b);
      count = s.count + 1;
    }

-- bytes join, each in turn
unfoldable pub join_all : Stream → List ℕ → Stream
join_all s [] = s
join_all s (b ∷ m) = join_all (join s b) m

-- a block with the length of n bytes in its last eight
abbrev pub with_length : List ℕ → ℕ → List ℕ
with_length block n = sets block 56 (length_field (n * 8))

-- the first n bytes of the tail, 80h behind them, and 00h to the end of the block: what the tail has behind those bytes doesn't count
unfoldable pub mark : List ℕ → ℕ → List ℕ
mark tail n = take n tail ++ (0x80 ∷ replicate (63 - n) 0)

-- the length goes into the marked block if eight bytes are left there, and else into one more
unfoldable pub finish : Stream → List ℕ
finish s =
    cond (ltb (s.count % 64) 56)
    (digest_of (compress_of s.h (with_length (mark s.tail (s.count % 64)) s.count)))
    (digest_of (compress_of (compress_of s.h (mark s.tail (s.count % 64))) (with_length (replicate 64 0) s.count)))
