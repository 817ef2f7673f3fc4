-- Bytes and their hexadecimal digits.
use Rattle.std.proofs.Common.{◌≡◌, ℕ, ◌+◌, ◌/◌, ◌%◌, ◌<◌, false, List, [], ◌∷◌, ◌++◌, length, get_or, take, refl, ap, ◌∙◌, sym, arith}
use lib.Utf8.{encode}
use Rattle.std.specs.Fmt.{digit_glyph}
use Rattle.std.proofs.lemmas.Str.Ascii.{encode_ascii}
use Rattle.std.proofs.lemmas.List.{take_more}
use Rattle.std.proofs.lemmas.Bool.Decides.{nat_tests}
use Rattle.lines.specs.Hex.{hex_of}

-- a digit is one byte
pub encode-digit : (n c : ℕ) → n < 16 → c ≡ digit_glyph false n → encode c ≡ digit_glyph false n ∷ []
encode-digit n c small e = ap encode e ∙ encode_ascii (digit_glyph false n) (grind (arith, nat_tests))

hex_of-append : (xs ys : List ℕ) → hex_of (xs ++ ys) ≡ hex_of xs ++ hex_of ys
hex_of-append [] ys = refl
hex_of-append (x ∷ xs) ys = ap (λ l. digit_glyph false (x / 16) ∷ digit_glyph false (x % 16) ∷ l) (hex_of-append xs ys)

pub hex_of_more : (s : List ℕ) (i : ℕ) → i < length s → hex_of (take (i + 1) s) ≡ hex_of (take i s) ++ hex_of (get_or s i 0 ∷ [])
hex_of_more s i h = ap hex_of (take_more s i 0 h) ∙ hex_of-append (take i s) (get_or s i 0 ∷ [])

-- the two digits of byte i, behind those of the bytes before it
pub byte_digits : (s : List ℕ) (i high low : ℕ) → i < length s → get_or s i 0 < 256 → high ≡ digit_glyph false (get_or s i 0 / 16) → low ≡ digit_glyph false (get_or s i 0 % 16) → hex_of (take i s) ++ (encode high ++ encode low) ≡ hex_of (take (i + 1) s)
byte_digits s i high low within small h l =
    (λ k. hex_of (take i s) ++ (encode-digit (get_or s i 0 / 16) high (omega arith) h k ++ encode-digit (get_or s i 0 % 16) low (omega arith) l k))
    ∙ sym (hex_of_more s i within)
