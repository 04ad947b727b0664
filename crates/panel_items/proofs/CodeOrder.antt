-- Codes are in the order of the texts.
use Rattle.std.proofs.Common.{◌≡◌, ℕ, zero, suc, ◌+◌, ◌-◌, ◌*◌, ◌<◌, List, [], ◌∷◌, ◌++◌, length, replicate, Ordering, Less, Equal, Greater, sym, refl, ap, ◌∙◌, arith}
use Rattle.std.specs.Cmp.{tied_itself}
use Rattle.std.specs.Cmp.Lexicographic.{slice_cmp, nat_list_cmp_total}
use Rattle.std.specs.Ordering.{ordering_then, nat_cmp}
use Rattle.std.specs.Int.Digits.{number_from_digits_after, AllBelowBase}
use Rattle.std.specs.List.{AllByRecursion}
use Rattle.std.proofs.ByRecursion.{All-append, All-weaker}
use Rattle.std.proofs.lemmas.List.{length-append, length-replicate}
use Rattle.std.proofs.lemmas.Bool.Decides.{nat_tests}
use Rattle.panel_items.specs.Code.{padded}
use Rattle.panel_items.specs.CodeOrder.{Typed, CodesInTextOrder}

then_equal : (o : Ordering) → ordering_then o Equal ≡ o
then_equal Less = refl
then_equal Equal = refl
then_equal Greater = refl

then_assoc : (o p q : Ordering) → ordering_then (ordering_then o p) q ≡ ordering_then o (ordering_then p q)
then_assoc Less p q = refl
then_assoc Equal p q = refl
then_assoc Greater p q = refl

-- two numbers with one more digit each: the digits decide where the numbers are Equal
digit_order : (m n x y : ℕ) → x < 256 → y < 256 → nat_cmp (m * 256 + x) (n * 256 + y) ≡ ordering_then (nat_cmp m n) (nat_cmp x y)
digit_order m n x y p q = grind (arith, nat_tests)

digits_order : (m n : ℕ) (xs ys : List ℕ) → length xs ≡ length ys → AllBelowBase 256 xs → AllBelowBase 256 ys → nat_cmp (number_from_digits_after 256 m xs) (number_from_digits_after 256 n ys) ≡ ordering_then (nat_cmp m n) (slice_cmp nat_cmp xs ys)
digits_order m n [] [] e p q = sym (then_equal (nat_cmp m n))
digits_order m n [] (y ∷ ys) e p q = absurd (omega arith)
digits_order m n (x ∷ xs) [] e p q = absurd (omega arith)
digits_order m n (x ∷ xs) (y ∷ ys) e p q =
    digits_order (m * 256 + x) (n * 256 + y) xs ys (omega arith) p.1 q.1 ∙
    ap (λ o. ordering_then o (slice_cmp nat_cmp xs ys)) (digit_order m n x y p.0 q.0) ∙
    then_assoc (nat_cmp m n) (nat_cmp x y) (slice_cmp nat_cmp xs ys)

zeros_order : (a b : ℕ) → a ≡ b → slice_cmp nat_cmp (replicate a 0) (replicate b 0) ≡ Equal
zeros_order a b e = rw (← e) (tied_itself nat_list_cmp_total (replicate a 0))

-- zeros after two texts, up to one length, leave their order
pad_order : (xs ys : List ℕ) (a b : ℕ) → length xs + a ≡ length ys + b → AllByRecursion (λ x. 0 < x) xs → AllByRecursion (λ y. 0 < y) ys → slice_cmp nat_cmp (xs ++ replicate a 0) (ys ++ replicate b 0) ≡ slice_cmp nat_cmp xs ys
pad_order [] [] a b e p q = zeros_order a b (omega arith)
pad_order [] (y ∷ ys) zero b e p q = absurd (omega arith)
pad_order [] (y ∷ ys) (suc a) b e p q =
    let less : nat_cmp 0 y ≡ Less = grind (arith, nat_tests, q.0) in
    ap (λ o. ordering_then o (slice_cmp nat_cmp (replicate a 0) (ys ++ replicate b 0))) less
pad_order (x ∷ xs) [] a zero e p q = absurd (omega arith)
pad_order (x ∷ xs) [] a (suc b) e p q =
    let greater : nat_cmp x 0 ≡ Greater = grind (arith, nat_tests, p.0) in
    ap (λ o. ordering_then o (slice_cmp nat_cmp (xs ++ replicate a 0) (replicate b 0))) greater
pad_order (x ∷ xs) (y ∷ ys) a b e p q = ap (ordering_then (nat_cmp x y)) (pad_order xs ys a b (omega arith) p.1 q.1)

zeros_under : (n : ℕ) → AllBelowBase 256 (replicate n 0)
zeros_under zero = tt
zeros_under (suc n) = (omega arith, zeros_under n)

padded_under : (letters : List ℕ) → Typed letters → AllBelowBase 256 (padded letters)
padded_under letters typed =
    let letters-under = All-weaker (λ l. (0 < l) × (l < 256)) (λ l. l < 256) (λ l h. h.1) letters typed.1 in
    All-append (λ l. l < 256) letters _ letters-under (zeros_under (8 - length letters))

padded_length : (letters : List ℕ) → Typed letters → length (padded letters) ≡ 8
padded_length letters typed = simp (length-append, length-replicate) (omega arith)

above_zero : (letters : List ℕ) → Typed letters → AllByRecursion (λ l. 0 < l) letters
above_zero letters typed = All-weaker (λ l. (0 < l) × (l < 256)) (λ l. 0 < l) (λ l h. h.0) letters typed.1

pub codes_in_text_order : CodesInTextOrder
codes_in_text_order xs ys p q =
    let as_long = padded_length xs p ∙ sym (padded_length ys q) in
    digits_order 0 0 (padded xs) (padded ys) as_long (padded_under xs p) (padded_under ys q) ∙
    pad_order xs ys (8 - length xs) (8 - length ys) (omega arith) (above_zero xs p) (above_zero ys q)
