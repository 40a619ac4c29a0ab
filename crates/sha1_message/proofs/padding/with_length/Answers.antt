-- The eight bytes of the number take the place of the last eight. Assumes nothing.
use Rattle.std.proofs.Common.{◌≡◌, ℕ, ◌*◌, ◌/◌, ◌%◌, ◌^◌, ◌<◌, List, [], length, take, drop, sym, append_assoc, length-drop, ◌∙◌, arith, w64, rules}
use Rattle.std.proofs.Math.ListN.{drop_of_length-le}
use Rattle.std.proofs.Math.Seq.{sets, sets-eq}
use borrow.Rule.Slice.PartMut.{put_mid}
use Rattle.std.specs.Int.{to_be_bytes}
use Rattle.sha1_block.specs.Sha1.{length_field}
use Rattle.sha1_message.proofs.padding.with_length.Goals as goal

big_endian : (n : ℕ) → n < 2 ^ 64 → to_be_bytes w64 n ≡ length_field n
big_endian n l =
    let a : n / 2 ^ 56 % 256 ≡ n / 2 ^ 32 / 2 ^ 24 = omega arith in
    let b : n / 2 ^ 48 % 256 ≡ n / 2 ^ 32 / 2 ^ 16 % 256 = omega arith in
    let d : n / 2 ^ 40 % 256 ≡ n / 2 ^ 32 / 2 ^ 8 % 256 = omega arith in
    let e : n / 2 ^ 24 % 256 ≡ n % 2 ^ 32 / 2 ^ 24 = omega arith in
    let f : n / 2 ^ 16 % 256 ≡ n % 2 ^ 32 / 2 ^ 16 % 256 = omega arith in
    let g : n / 2 ^ 8 % 256 ≡ n % 2 ^ 32 / 2 ^ 8 % 256 = omega arith in
    let h : n % 256 ≡ n % 2 ^ 32 % 256 = omega arith in
    cc

field_set : (b t : List ℕ) (n : ℕ) → length b ≡ 64 → n < 2 ^ 64 → t ≡ to_be_bytes w64 n → put_mid 56 8 b t ≡ sets b 56 (length_field n)
field_set b t n k l e =
    let z : drop 8 (drop 56 b) ≡ [] = drop_of_length-le (drop 56 b) {i = 8} (omega (arith, length-drop 56 b)) in
    let y : drop 64 b ≡ [] = drop_of_length-le b {i = 64} (omega arith) in
    rw (e ∙ big_endian n l, z, sets-eq (length_field n) b 56 (omega arith), y) (sym (append_assoc (take 56 b) (length_field n) []))

pub returns : goal.returns
returns c = field_set c.args.block _ _ (search rules) (omega arith) (c.copy_from_slice.ensures.after ∙ c.to_be_bytes.ensures)
