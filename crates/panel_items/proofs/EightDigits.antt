-- Eight bytes as one number.
use Rattle.std.proofs.Common.{◌≡◌, ℕ, ◌+◌, ◌*◌, ◌<◌, List, length, get_or, take, ap, arith}
use Rattle.std.specs.Int.Digits.{number_from_digits}
use Rattle.std.proofs.lemmas.Int.Digits.{number_more}
use Rattle.std.proofs.lemmas.List.{take_all}

-- what a number of eight bytes is made of
pub eight_digits : (bytes : List ℕ) → length bytes ≡ 8 → get_or bytes 0 0 * 72057594037927936 + get_or bytes 1 0 * 281474976710656 + get_or bytes 2 0 * 1099511627776 + get_or bytes 3 0 * 4294967296 + get_or bytes 4 0 * 16777216 + get_or bytes 5 0 * 65536 + get_or bytes 6 0 * 256 + get_or bytes 7 0 ≡ number_from_digits 256 bytes
eight_digits bytes eight =
    let digit : (i : ℕ) → i < 8 → number_from_digits 256 (take (i + 1) bytes) ≡ number_from_digits 256 (take i bytes) * 256 + get_or bytes i 0 = λ i h. number_more 256 bytes i (omega arith) in
    let all : number_from_digits 256 (take 8 bytes) ≡ number_from_digits 256 bytes = ap (number_from_digits 256) (take_all 8 bytes (omega arith)) in
    omega (arith, digit 0 (omega arith), digit 1 (omega arith), digit 2 (omega arith), digit 3 (omega arith), digit 4 (omega arith), digit 5 (omega arith), digit 6 (omega arith), digit 7 (omega arith))
