-- Numbers and their bytes give each other back, at every width.
use Rattle.std.proofs.Common.{◌≡◌, ℕ, zero, suc, ◌+◌, ◌*◌, ◌/◌, ◌%◌, ◌^◌, ◌<◌, List, [], ◌∷◌, length, refl, ap, ◌∙◌, mod-eq_of_lt, mul_assoc, add-mul, zero-add, div-one, arith}
use native.Mathlib.Nat.{pow-zero, pow-succ'}
use lib.Arith.{digits_div, digits_mod, mod-mul}
use Rattle.std.specs.Int.Digits.{AllBelowBase, number_from_digits_after, number_from_digits}
use Rattle.std.proofs.lemmas.Int.Digits.{number_lt}
use Rattle.big_endian.specs.BigEndian.{bytes_of, ReadsBack, WritesBack}

pub length-bytes_of : (k n : ℕ) → length (bytes_of k n) ≡ k
unfolding bytes_of
length-bytes_of zero n = refl
length-bytes_of (suc k) n = ap suc (length-bytes_of k n)

pow_256_pos : (k : ℕ) → 0 < 256 ^ k
pow_256_pos zero = omega arith
pow_256_pos (suc k) = omega (arith, pow_256_pos k, pow-succ' 256 k)

after_is : (a : ℕ) (ds : List ℕ) → number_from_digits_after 256 a ds ≡ a * 256 ^ length ds + number_from_digits 256 ds
after_is a [] = omega (arith, ap (λ x. a * x) (pow-zero 256))
after_is a (d ∷ ds) =
    omega (arith, after_is (a * 256 + d) ds, after_is (0 * 256 + d) ds, ap (λ x. x * 256 ^ length ds) (zero-add d), add-mul (a * 256) d (256 ^ length ds), mul_assoc a 256 (256 ^ length ds), ap (λ x. a * x) (pow-succ' 256 (length ds)))

-- the bytes of a number that has others before them
bytes_after : (a : ℕ) (ds : List ℕ) → AllBelowBase 256 ds → bytes_of (length ds) (number_from_digits_after 256 a ds) ≡ ds
unfolding bytes_of
bytes_after a [] u = refl
bytes_after a (d ∷ ds) u =
    let first : number_from_digits_after 256 (a * 256 + d) ds / 256 ^ length ds % 256 ≡ d = ap (λ n. n / 256 ^ length ds % 256) (after_is (a * 256 + d) ds) ∙ ap (λ q. q % 256) (digits_div (a * 256 + d) (number_lt 256 ds u.1)) ∙ digits_mod a u.0 in
    λ i. first i ∷ bytes_after (a * 256 + d) ds u.1 i

-- the number of the last k bytes, with others before them
number_after : (a k n : ℕ) → number_from_digits_after 256 a (bytes_of k n) ≡ a * 256 ^ k + n % 256 ^ k
unfolding bytes_of
number_after a zero n = omega arith
number_after a (suc k) n =
    let d : ℕ = n / 256 ^ k % 256 in
    omega (arith, number_after (a * 256 + d) k n, add-mul (a * 256) d (256 ^ k), mul_assoc a 256 (256 ^ k), ap (λ x. a * x) (pow-succ' 256 k), ap (λ x. n % x) (pow-succ' 256 k), mod-mul n {m = 256} {c = 256 ^ k} (omega arith) (pow_256_pos k))

pub reads_back : ReadsBack
reads_back k n h = omega (arith, number_after 0 k n, mod-eq_of_lt h)

pub writes_back : WritesBack
writes_back bs u = bytes_after 0 bs u

pub bytes8 : (n : ℕ) → bytes_of 8 n ≡ (n / 72057594037927936 % 256) ∷ (n / 281474976710656 % 256) ∷ (n / 1099511627776 % 256) ∷ (n / 4294967296 % 256) ∷ (n / 16777216 % 256) ∷ (n / 65536 % 256) ∷ (n / 256 % 256) ∷ (n % 256) ∷ []
unfolding bytes_of
bytes8 n = simp div-one

pub bytes4 : (n : ℕ) → bytes_of 4 n ≡ (n / 16777216 % 256) ∷ (n / 65536 % 256) ∷ (n / 256 % 256) ∷ (n % 256) ∷ []
unfolding bytes_of
bytes4 n = simp div-one

pub bytes1 : (n : ℕ) → n < 256 → bytes_of 1 n ≡ n ∷ []
unfolding bytes_of
bytes1 n h = ap (λ m. m ∷ []) (simp div-one (mod-eq_of_lt h))
