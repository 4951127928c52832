-- Names of short keys tell them apart.
use Rattle.std.proofs.Common.{◌≡◌, ℕ, zero, suc, ◌*◌, ◌<◌, ◌≤◌, List, [], ◌∷◌, length, refl, arith}
use Rattle.sf_keyed.specs.Names.{AreBytes, packed, ShortKeysApart, ShortNamesBelowLongOnes}

-- so many bytes make a number below this one
abbrev pub room : ℕ → ℕ
room zero = 1
room (suc n) = 256 * room n

pub room_some : (n : ℕ) → 0 < room n
room_some zero = omega arith
room_some (suc n) = let some_room = room_some n in omega (arith, some_room)

pub packed_fits : (n : ℕ) (key : List ℕ) → AreBytes key → length key ≤ n → packed key < room n
packed_fits n [] bytes le = room_some n
packed_fits zero (b ∷ key) bytes le = absurd (omega (arith, le))
packed_fits (suc n) (b ∷ key) bytes le = let less = packed_fits n key (λ i. bytes (suc i)) (omega (arith, le)) in let one : b < 256 = bytes 0 in omega (arith, less, one)

packed_apart : (k l : List ℕ) → AreBytes k → AreBytes l → length k ≡ length l → packed k ≡ packed l → k ≡ l
packed_apart [] [] kb lb len same = refl
packed_apart [] (y ∷ l) kb lb len same = absurd (omega (arith, len))
packed_apart (x ∷ k) [] kb lb len same = absurd (omega (arith, len))
packed_apart (x ∷ k) (y ∷ l) kb lb len same =
    let a : x < 256 = kb 0 in
    let b : y < 256 = lb 0 in
    let first : x ≡ y = omega (arith, a, b, same) in
    let rest : packed k ≡ packed l = omega (arith, a, b, same) in
    λ i. first i ∷ packed_apart k l (λ j. kb (suc j)) (λ j. lb (suc j)) (omega (arith, len)) rest i

pub short_keys_apart : ShortKeysApart
short_keys_apart k l kb lb kle lle same =
    let a : packed k < 1329227995784915872903807060280344576 = packed_fits 15 k kb kle in
    let b : packed l < 1329227995784915872903807060280344576 = packed_fits 15 l lb lle in
    packed_apart k l kb lb (omega (arith, a, b, same)) (omega (arith, a, b, same))

pub short_names_below_long_ones : ShortNamesBelowLongOnes
short_names_below_long_ones s k l kb kle =
    let a : packed k < 1329227995784915872903807060280344576 = packed_fits 15 k kb kle in
    omega (arith, a, kle)
