-- Few flipped bits: two right blocks of equal length never differ in an odd number of bits, and up to 4,095 bytes they are equal or differ in
-- eight bits or more. The difference of the two has the value 0 at seven powers of a root. At the 0th power the value is the parity; and by
-- `few_none` a list with these seven values has no ones, or more than seven. Assumes nothing.
use mathlib.Core.Path.{◌≡◌, refl, sym, ap, ap₂, ◌∙◌}
use mathlib.Core.Logic.{inl, inr}
use mathlib.Core.Bool.{Bool, true, false}
use mathlib.Core.List.{List, [], ◌∷◌, ◌++◌}
use Prim.Native.Nat.{ℕ, suc, ◌%◌, ◌≤◌}
use native.Mathlib.Nat.{zero-mul, add_comm}
use native.Mathlib.Decide.{dec_le}
use native.Mathlib.Omega.{arith}
use lib.Bits.{bit_xor}
use lib.ListN.{length, take, drop, length-take, length-drop, take-append-drop}
use Rattle.crc64.specs.Crc64.{bits_of, onto}
use Rattle.crc64.specs.Damage.{Block, distance, taken, flips, Odd, Few}
use Rattle.crc64.proofs.Xor.{below_two}
use Rattle.crc64.proofs.Register.{falls}
use Rattle.crc64.proofs.Linear.{total}
use Rattle.crc64.proofs.Period.{small}
use Rattle.crc64.proofs.Places.{count, few_none}
use Rattle.crc64.proofs.Digits.{length_bits_of, bits_of_append, bits_of_inj}
use Rattle.crc64.proofs.Distance.{distance_append, distance_count, distance_same}
use Rattle.crc64.proofs.Division.{length_onto}
use Rattle.crc64.proofs.Roots.{value, length_taken, taken_long, no_value}

parity : (s : List Bool) → value 0 s ≡ count s % 2
unfolding total count falls
parity [] = refl
parity (false ∷ s) = parity s
parity (true ∷ s) =
    ap₂ (λ (n x : ℕ). bit_xor (falls small n 1) x) (zero-mul (length s)) (parity s)
    ∙ below_two (λ d. d ≡ count s % 2 → bit_xor 1 d ≡ suc (count s) % 2) (λ e. omega arith) (λ e. omega arith) (count s % 2) (omega arith) refl

module _ (s t : List ℕ) (vs : Block s) (vt : Block t) (l : length s ≡ length t) where
  -- the distance is the same in the order in which the bits are stored and in which they are taken
  flipped : flips s t ≡ count (onto (taken s) (taken t))
  flipped =
      ap₂ distance (parts s) (parts t)
      ∙ distance_append (bits_of (take 8 s)) (bits_of (drop 8 s)) (bits_of (take 8 t)) (bits_of (drop 8 t)) front
      ∙ add_comm _ _
      ∙ sym (distance_append (bits_of (drop 8 s)) (bits_of (take 8 s)) (bits_of (drop 8 t)) (bits_of (take 8 t)) back)
      ∙ distance_count (taken s) (taken t) (taken_long s t vs vt l)
    where
      parts : (r : List ℕ) → bits_of r ≡ bits_of (take 8 r) ++ bits_of (drop 8 r)
      parts r = ap bits_of (sym (take-append-drop 8 r)) ∙ bits_of_append (take 8 r) (drop 8 r)

      front : length (bits_of (take 8 s)) ≡ length (bits_of (take 8 t))
      front = omega (arith, length_bits_of (take 8 s), length_bits_of (take 8 t), length-take 8 s, length-take 8 t)

      back : length (bits_of (drop 8 s)) ≡ length (bits_of (drop 8 t))
      back = omega (arith, length_bits_of (drop 8 s), length_bits_of (drop 8 t), length-drop 8 s, length-drop 8 t)

-- (c) ODD
pub odd : Odd
odd s t vs vt l =
    ap (λ (n : ℕ). n % 2) (flipped s t vs vt l)
    ∙ sym (parity (onto (taken s) (taken t)))
    ∙ no_value s t vs vt l 0 (omega arith)

-- (d) FEW
pub few : Few
few s t vs vt l short =
    elim (dec_le 8 (flips s t)) [
      | yes h ↦ inr (omega arith)
      | no h ↦
          inl (bits_of_inj s t vs.bytes vt.bytes (distance_same (bits_of s) (bits_of t) long (flipped s t vs vt l ∙ none (omega arith))))
    ]
  where
    long : length (bits_of s) ≡ length (bits_of t)
    long = omega (arith, length_bits_of s, length_bits_of t)

    none : flips s t ≤ 7 → count (onto (taken s) (taken t)) ≡ 0
    none h =
        few_none (onto (taken s) (taken t)) 7 (λ k. 1)
        (omega (arith, length_onto (taken s) (taken t), length_taken t vt))
        (λ k h. record { bound = omega arith; nonzero = λ e. omega arith })
        (no_value s t vs vt l)
        (omega (arith, flipped s t vs vt l))
