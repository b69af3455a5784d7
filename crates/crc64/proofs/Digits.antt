-- A list of bits and the number that has them: each determines the other, where the length is known. The laws go by induction on the
-- list, or on the count of bits; the parity of a number is the first bit, and its half has the rest. Assumes nothing.
use mathlib.Core.Path.{◌≡◌, refl, sym, ap, ap₂, ◌∙◌}
use mathlib.Core.Bool.{Bool, true, false}
use mathlib.Core.List.{List, [], ◌∷◌, ◌++◌, append_assoc}
use Prim.Native.Nat.{ℕ, zero, suc, ◌+◌, ◌*◌, ◌/◌, ◌%◌, ◌^◌, ◌<◌}
use native.Mathlib.Nat.{pow-suc, div-add-mod'}
use native.Mathlib.Omega.{arith}
use lib.Arith.{lt-one}
use lib.Bits.{bit_xor, differ}
use lib.Dec.{eqb}
use lib.ListN.{length, length-append}
use Rattle.crc64.specs.Crc64.{bits, bits_of, digit, number, xor}
use Rattle.crc64.specs.Damage.{Bytes}
use Rattle.crc64.proofs.Lists.{first_part, second_part}
use Rattle.crc64.proofs.Xor.{below_two, bit_lt, xor_parity}

-- the lowest bit of a number
abbrev pub odd : ℕ → Bool
odd x = eqb (x % 2) 1

-- ---- one bit

pub digit_odd : (x : ℕ) → digit (odd x) ≡ x % 2
digit_odd x = below_two (λ d. digit (eqb d 1) ≡ d) refl refl (x % 2) (bit_lt x)

odd_differ : (d e : ℕ) → d < 2 → e < 2 → eqb (differ d e) 1 ≡ xor (eqb d 1) (eqb e 1)
odd_differ d e hd he =
    below_two (λ d. eqb (differ d e) 1 ≡ xor (eqb d 1) (eqb e 1)) refl
    (below_two (λ e. eqb (differ 1 e) 1 ≡ xor true (eqb e 1)) refl refl e he) d hd

pub odd_xor : (a b : ℕ) → odd (bit_xor a b) ≡ xor (odd a) (odd b)
odd_xor a b = ap (λ (x : ℕ). eqb x 1) (xor_parity a b) ∙ odd_differ (a % 2) (b % 2) (bit_lt a) (bit_lt b)

pub xor_bits_assoc : (a b c : Bool) → xor a (xor b c) ≡ xor (xor a b) c
xor_bits_assoc false b c = refl
xor_bits_assoc true false c = refl
xor_bits_assoc true true false = refl
xor_bits_assoc true true true = refl

-- the first bit of a number that is put together, and the rest
pub odd_put : (n : ℕ) (b : Bool) → odd (n * 2 + digit b) ≡ b
odd_put n false = let e : (n * 2 + 0) % 2 ≡ 0 = omega arith in ap (λ (x : ℕ). eqb x 1) e
odd_put n true = let e : (n * 2 + 1) % 2 ≡ 1 = omega arith in ap (λ (x : ℕ). eqb x 1) e

pub half_put : (n : ℕ) (b : Bool) → (n * 2 + digit b) / 2 ≡ n
half_put n false = omega arith
half_put n true = omega arith

pub half_lt : (w x : ℕ) → x < 2 ^ suc w → x / 2 < 2 ^ w
half_lt w x h = omega (arith, pow-suc 2 w)

-- ---- a list of bits

pub length_bits : (w x : ℕ) → length (bits w x) ≡ w
unfolding bits
length_bits zero x = refl
length_bits (suc w) x = ap suc (length_bits w (x / 2))

pub number_bits : (w x : ℕ) → x < 2 ^ w → number (bits w x) ≡ x
unfolding bits number
number_bits zero x h = sym (lt-one h)
number_bits (suc w) x h =
    ap₂ (λ (n d : ℕ). n * 2 + d) (number_bits w (x / 2) (half_lt w x h)) (digit_odd x) ∙ div-add-mod' x 2

pub bits_number : (s : List Bool) → bits (length s) (number s) ≡ s
unfolding bits number
bits_number [] = refl
bits_number (b ∷ s) =
    ap₂ (λ (c : Bool) (n : ℕ). c ∷ bits (length s) n) (odd_put (number s) b) (half_put (number s) b)
    ∙ ap (λ (r : List Bool). b ∷ r) (bits_number s)

pub number_lt : (s : List Bool) → number s < 2 ^ length s
unfolding number
number_lt [] = omega arith
number_lt (false ∷ s) = omega (arith, number_lt s, pow-suc 2 (length s))
number_lt (true ∷ s) = omega (arith, number_lt s, pow-suc 2 (length s))

-- equally long lists that have the same number are equal
pub number_inj : (s t : List Bool) → length s ≡ length t → number s ≡ number t → s ≡ t
number_inj s t l e = sym (bits_number s) ∙ ap₂ bits l e ∙ bits_number t

-- ---- the bits of bytes

pub length_bits_of : (s : List ℕ) → length (bits_of s) ≡ length s * 8
unfolding bits_of
length_bits_of [] = omega arith
length_bits_of (b ∷ s) =
    length-append (bits 8 b) (bits_of s) ∙ ap₂ (λ (k n : ℕ). k + n) (length_bits 8 b) (length_bits_of s) ∙ omega arith

pub bits_of_append : (s t : List ℕ) → bits_of (s ++ t) ≡ bits_of s ++ bits_of t
unfolding bits_of
bits_of_append [] t = refl
bits_of_append (b ∷ s) t =
    ap (λ (r : List Bool). bits 8 b ++ r) (bits_of_append s t) ∙ sym (append_assoc (bits 8 b) (bits_of s) (bits_of t))

-- bytes that have the same bits are equal
pub bits_of_inj : (s t : List ℕ) → Bytes s → Bytes t → bits_of s ≡ bits_of t → s ≡ t
bits_of_inj [] [] hs ht e = refl
bits_of_inj [] (c ∷ t) hs ht e = absurd (omega (arith, length_bits_of [], length_bits_of (c ∷ t), ap length e))
bits_of_inj (b ∷ s) [] hs ht e = absurd (omega (arith, length_bits_of [], length_bits_of (b ∷ s), ap length e))
bits_of_inj (b ∷ s) (c ∷ t) hs ht e =
    let l : length (bits 8 b) ≡ length (bits 8 c) = length_bits 8 b ∙ sym (length_bits 8 c) in
    let f : bits 8 b ++ bits_of s ≡ bits 8 c ++ bits_of t = unfold bits_of in e in
    ap₂ (λ (x : ℕ) (r : List ℕ). x ∷ r)
    (sym (number_bits 8 b (hs 0)) ∙ ap number (first_part (bits 8 b) (bits_of s) (bits 8 c) (bits_of t) l f) ∙ number_bits 8 c (ht 0))
    (bits_of_inj s t (λ i. hs (suc i)) (λ i. ht (suc i)) (second_part (bits 8 b) (bits_of s) (bits 8 c) (bits_of t) l f))
