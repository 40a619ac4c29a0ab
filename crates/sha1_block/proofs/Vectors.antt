-- Published values of SHA-1, computed from the definitions alone. Assumes nothing.
use Rattle.std.proofs.Common.{◌≡◌, [], ◌∷◌, ◌++◌, replicate, refl}
use Rattle.sha1_block.specs.Sha1.{f, K, W, schedule, rounds, compress_of, hashed, pad, digest_of, sha1}

-- the empty message
empty : sha1 [] ≡ (0xda ∷ 0x39 ∷ 0xa3 ∷ 0xee ∷ 0x5e ∷ 0x6b ∷ 0x4b ∷ 0x0d ∷ 0x32 ∷ 0x55 ∷ 0xbf ∷ 0xef ∷ 0x95 ∷ 0x60 ∷ 0x18 ∷ 0x90 ∷ 0xaf ∷ 0xd8 ∷ 0x07 ∷ 0x09 ∷ [])
unfolding f K W schedule rounds compress_of hashed pad digest_of sha1
empty = refl

-- FIPS 180: "abc"
abc : sha1 (97 ∷ 98 ∷ 99 ∷ []) ≡ (0xa9 ∷ 0x99 ∷ 0x3e ∷ 0x36 ∷ 0x47 ∷ 0x06 ∷ 0x81 ∷ 0x6a ∷ 0xba ∷ 0x3e ∷ 0x25 ∷ 0x71 ∷ 0x78 ∷ 0x50 ∷ 0xc2 ∷ 0x6c ∷ 0x9c ∷ 0xd0 ∷ 0xd8 ∷ 0x9d ∷ [])
unfolding f K W schedule rounds compress_of hashed pad digest_of sha1
abc = refl

-- FIPS 180: the message of 448 bits, "abcdbcdecdefdefgefghfghighijhijkijkljklmklmnlmnomnopnopq", which takes two blocks
long : sha1 (97 ∷ 98 ∷ 99 ∷ 100 ∷ 98 ∷ 99 ∷ 100 ∷ 101 ∷ 99 ∷ 100 ∷ 101 ∷ 102 ∷ 100 ∷ 101 ∷ 102 ∷ 103 ∷ 101 ∷ 102 ∷ 103 ∷ 104 ∷ 102 ∷ 103 ∷ 104 ∷ 105 ∷ 103 ∷ 104 ∷ 105 ∷ 106 ∷ 104 ∷ 105 ∷ 106 ∷ 107 ∷ 105 ∷ 106 ∷ 107 ∷ 108 ∷ 106 ∷ 107 ∷ 108 ∷ 109 ∷ 107 ∷ 108 ∷ 109 ∷ 110 ∷ 108 ∷ 109 ∷ 110 ∷ 111 ∷ 109 ∷ 110 ∷ 111 ∷ 112 ∷ 110 ∷ 111 ∷ 112 ∷ 113 ∷ []) ≡ (0x84 ∷ 0x98 ∷ 0x3e ∷ 0x44 ∷ 0x1c ∷ 0x3b ∷ 0xd2 ∷ 0x6e ∷ 0xba ∷ 0xae ∷ 0x4a ∷ 0xa1 ∷ 0xf9 ∷ 0x51 ∷ 0x29 ∷ 0xe5 ∷ 0xe5 ∷ 0x46 ∷ 0x70 ∷ 0xf1 ∷ [])
unfolding f K W schedule rounds compress_of hashed pad digest_of sha1
long = refl

-- a PCR of twenty 00h, extended with the digest of the empty message
extended : sha1 (replicate 20 0 ++ sha1 []) ≡ (0x31 ∷ 0xa2 ∷ 0xdc ∷ 0x4c ∷ 0x22 ∷ 0xf9 ∷ 0xc5 ∷ 0x44 ∷ 0x4a ∷ 0x41 ∷ 0x62 ∷ 0x5d ∷ 0x05 ∷ 0xf9 ∷ 0x58 ∷ 0x98 ∷ 0xe0 ∷ 0x55 ∷ 0xf7 ∷ 0x50 ∷ [])
unfolding f K W schedule rounds compress_of hashed pad digest_of sha1
extended = refl
