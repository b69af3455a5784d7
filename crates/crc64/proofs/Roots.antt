-- The powers a^0 to a^6 of the root a of x^15 + x + 1 are roots of the checksum's polynomial: so two right blocks of equal length, read as
-- polynomials in the order `taken`, have the same value at each. A division changes no such value, by the linearity of `total`;
-- what is left of a right block's value depends on its length alone. Assumes nothing.
use mathlib.Core.Path.{◌≡◌, refl, sym, ap, ap₂, ◌∙◌}
use mathlib.Core.Bool.{Bool, true, false}
use mathlib.Core.List.{List, [], ◌∷◌, ◌++◌}
use Prim.Native.Nat.{ℕ, zero, suc, ◌+◌, ◌-◌, ◌*◌, ◌<◌}
use native.Mathlib.Nat.{zero-add, add_comm, mul-zero, mul-add}
use native.Mathlib.Omega.{arith}
use lib.Bits.{bit_xor, xor_zero_r, xor_self, xor_comm}
use lib.Dec.{T, eqb, eqb→eq}
use lib.ListN.{length, take, drop, length-append, length-take, length-drop}
use Rattle.crc64.specs.Crc64.{bits, bits_of, xor, onto, divide, remainder, generator, ones, zeros, crc_of}
use Rattle.crc64.specs.Damage.{Block, taken}
use Rattle.crc64.proofs.Xor.{xor_assoc, xor_undo, xor_four}
use Rattle.crc64.proofs.Register.{only, falls}
use Rattle.crc64.proofs.Linear.{only_sum, only_map, falls_xor, falls_zero, falls_add, total, total_cong}
use Rattle.crc64.proofs.Period.{small, steps, falls_steps, every, every_one}
use Rattle.crc64.proofs.Places.{term}
use Rattle.crc64.proofs.Digits.{length_bits_of, number_inj}
use Rattle.crc64.proofs.Division.{length_onto}

-- the value of a polynomial, the highest power first, at a^m
abbrev pub value : ℕ → List Bool → ℕ
value m = total (term m (λ k. 1))

undo : (v a b : ℕ) → bit_xor v (bit_xor a (bit_xor b v)) ≡ bit_xor a b
undo v a b = ap (bit_xor v) (sym (xor_assoc a b v) ∙ xor_comm (bit_xor a b) v) ∙ xor_undo v (bit_xor a b)

module _ (m : ℕ) where
  -- a^(m * k)
  abbrev power : ℕ → ℕ
  power k = falls small (m * k) 1

  -- times a^(m * k)
  abbrev raised : ℕ → ℕ → ℕ
  raised k = falls small (m * k)

  raised_only : (b : Bool) (k l : ℕ) → raised k (only b (power l)) ≡ only b (power (k + l))
  raised_only b k l =
      sym (only_map (raised k) (falls_xor small (m * k)) b (power l))
      ∙ ap (only b)
      (sym (falls_add small (m * l) (m * k) 1) ∙ ap (λ (n : ℕ). falls small n 1) (add_comm (m * l) (m * k) ∙ sym (mul-add m k l)))

  raised_cons : (b : Bool) (k l v : ℕ) → raised k (bit_xor (only b (power l)) v) ≡ bit_xor (only b (power (k + l))) (raised k v)
  raised_cons b k l v =
      falls_xor small (m * k) (only b (power l)) v ∙ ap (λ (x : ℕ). bit_xor x (raised k v)) (raised_only b k l)

  value_onto : (g s : List Bool) (k : ℕ) → length s ≡ k + length g → value m (onto g s) ≡ bit_xor (raised k (value m g)) (value m s)
  unfolding onto total
  value_onto [] s k l = ap (λ (x : ℕ). bit_xor x (value m s)) (sym (falls_zero small (m * k)))
  value_onto (c ∷ g) [] k l = absurd (omega arith)
  value_onto (c ∷ g) (b ∷ s) k l =
      let l' : length s ≡ k + length g = omega arith in
      ap₂ (λ (x y : ℕ). bit_xor x y)
      (ap (λ (n : ℕ). only (xor c b) (power n)) (length_onto g s) ∙ only_sum c b (power (length s)))
      (value_onto g s k l')
      ∙ xor_four (only c (power (length s))) (only b (power (length s))) (raised k (value m g)) (value m s)
      ∙ ap (λ (x : ℕ). bit_xor x (value m (b ∷ s)))
      (ap (λ (n : ℕ). bit_xor (only c (power n)) (raised k (value m g))) l' ∙ sym (raised_cons c k (length g) (value m g)))

  value_append : (s t : List Bool) → value m (s ++ t) ≡ bit_xor (raised (length t) (value m s)) (value m t)
  unfolding total
  value_append [] t = ap (λ (x : ℕ). bit_xor x (value m t)) (sym (falls_zero small (m * length t)))
  value_append (b ∷ s) t =
      ap₂ (λ (n x : ℕ). bit_xor (only b (power n)) x) (length-append s t ∙ add_comm (length s) (length t)) (value_append s t)
      ∙ sym (xor_assoc (only b (power (length t + length s))) (raised (length t) (value m s)) (value m t))
      ∙ ap (λ (x : ℕ). bit_xor x (value m t)) (sym (raised_cons b (length t) (length s) (value m s)))

  -- a division by a polynomial that has the root leaves the value as it is
  module _ (g : List Bool) (root : value m g ≡ power (length g)) where
    value_divide : (n : ℕ) (s : List Bool) → length s ≡ n + length g → value m (divide n g s) ≡ value m s
    unfolding divide total
    value_divide zero s l = refl
    value_divide (suc n) [] l = absurd (omega arith)
    value_divide (suc n) (false ∷ s) l = value_divide n s (omega arith)
    value_divide (suc n) (true ∷ s) l =
        let l' : length s ≡ n + length g = omega arith in
        value_divide n (onto g s) (length_onto g s ∙ l')
        ∙ value_onto g s n l'
        ∙ ap (λ (x : ℕ). bit_xor x (value m s))
        (ap (raised n) root ∙ raised_only true n (length g) ∙ ap power (sym l'))

    length_divide : (n : ℕ) (s : List Bool) → length s ≡ n + length g → length (divide n g s) ≡ length g
    unfolding divide
    length_divide zero s l = l ∙ zero-add (length g)
    length_divide (suc n) [] l = absurd (omega arith)
    length_divide (suc n) (false ∷ s) l = length_divide n s (omega arith)
    length_divide (suc n) (true ∷ s) l = length_divide n (onto g s) (omega (arith, length_onto g s))

    -- a checksum like this one, over any g, ones o and zeros z
    module _ (o z b : List Bool) (lo : length o ≡ length g) (lz : length z ≡ length g) (nothing : value m z ≡ 0) where
      abbrev start : List Bool
      start = onto o (b ++ z)

      abbrev rest : List Bool
      rest = remainder g start

      length_start : length start ≡ length b + length g
      length_start = length_onto o (b ++ z) ∙ length-append b z ∙ ap (λ (n : ℕ). length b + n) lz

      long : length start ≡ (length start - length g) + length g
      long = omega (arith, length_start)

      length_rest : length rest ≡ length g
      unfolding remainder
      length_rest = length_divide (length start - length g) start long

      value_start : value m start ≡ bit_xor (raised (length b) (value m o)) (raised (length g) (value m b))
      value_start =
          value_onto o (b ++ z) (length b) (length-append b z ∙ ap (λ (n : ℕ). length b + n) (lz ∙ sym lo))
          ∙ ap (bit_xor (raised (length b) (value m o)))
          (value_append b z ∙ ap₂ (λ (n x : ℕ). bit_xor (raised n (value m b)) x) lz nothing ∙ xor_zero_r (raised (length g) (value m b)))

      value_rest : value m rest ≡ value m start
      unfolding remainder
      value_rest = value_divide (length start - length g) start long

      -- the value depends on the length alone
      value_whole : value m (b ++ onto o rest) ≡ bit_xor (raised 0 (value m o)) (raised (length b) (value m o))
      value_whole =
          value_append b (onto o rest)
          ∙ ap₂ (λ (n x : ℕ). bit_xor (raised n (value m b)) x) (length_onto o rest ∙ length_rest)
          (value_onto o rest 0 (omega (arith, lo, length_rest)) ∙ ap (bit_xor (raised 0 (value m o))) (value_rest ∙ value_start))
          ∙ undo (raised (length g) (value m b)) (raised 0 (value m o)) (raised (length b) (value m o))

-- ---- the seven roots

tested : T (every (λ m. eqb (total (λ k. steps (m * k) 1) generator) (steps (m * 64) 1)) 7)
unfolding every total steps generator bits
tested = tt

length_generator : length generator ≡ 64
unfolding generator bits
length_generator = refl

roots : (m : ℕ) → m < 7 → value m generator ≡ falls small (m * length generator) 1
roots m h =
    total_cong _ _ generator (λ k. falls_steps (m * k) 1 (omega arith))
    ∙ eqb→eq _ _ (every_one (λ m. eqb (total (λ k. steps (m * k) 1) generator) (steps (m * 64) 1)) 7 tested m h)
    ∙ sym (falls_steps (m * 64) 1 (omega arith))
    ∙ ap (λ (n : ℕ). falls small (m * n) 1) (sym length_generator)

value_zeros : (m : ℕ) → value m zeros ≡ 0
unfolding total
value_zeros m = refl

-- ---- right blocks

module _ (s : List ℕ) (v : Block s) where
  pub length_taken : length (taken s) ≡ length s * 8
  length_taken =
      omega (
        arith,
        v.long,
        length-append (bits_of (drop 8 s)) (bits_of (take 8 s)),
        length_bits_of (drop 8 s),
        length_bits_of (take 8 s),
        length-drop 8 s,
        length-take 8 s,
      )

  stored : bits_of (take 8 s) ≡ onto ones (remainder generator (onto ones (bits_of (drop 8 s) ++ zeros)))
  unfolding crc_of
  stored =
      number_inj _ _
      (let l : length (bits_of (take 8 s)) ≡ 64 = omega (arith, v.long, length_bits_of (take 8 s), length-take 8 s) in
      l ∙ sym (length_onto ones _
      ∙ length_rest 0 generator (roots 0 (omega arith)) ones zeros (bits_of (drop 8 s)) (sym length_generator) (sym length_generator)
      (value_zeros 0) ∙ length_generator))
      v.right

  value_taken : (m : ℕ) → m < 7
      → value m (taken s)
      ≡ bit_xor (falls small (m * 0) (value m ones)) (falls small (m * length (bits_of (drop 8 s))) (value m ones))
  value_taken m h =
      ap (λ (c : List Bool). value m (bits_of (drop 8 s) ++ c)) stored
      ∙ value_whole m generator (roots m h) ones zeros (bits_of (drop 8 s)) (sym length_generator) (sym length_generator) (value_zeros m)

no_falls : (m x : ℕ) → falls small (m * 0) x ≡ x
unfolding falls
no_falls m x = ap (λ (n : ℕ). falls small n x) (mul-zero m)

module _ (s t : List ℕ) (vs : Block s) (vt : Block t) (l : length s ≡ length t) where
  pub taken_long : length (taken s) ≡ length (taken t)
  taken_long = omega (arith, length_taken s vs, length_taken t vt)

  -- NO VALUE: the difference of two right blocks has the seven roots
  pub no_value : (m : ℕ) → m < 7 → value m (onto (taken s) (taken t)) ≡ 0
  no_value m h =
      value_onto m (taken s) (taken t) 0 (omega (arith, taken_long))
      ∙ ap (λ (x : ℕ). bit_xor x (value m (taken t)))
      (no_falls m (value m (taken s))
      ∙ value_taken s vs m h
      ∙ ap (λ (n : ℕ). bit_xor (falls small (m * 0) (value m ones)) (falls small (m * n) (value m ones))) same
      ∙ sym (value_taken t vt m h))
      ∙ xor_self (value m (taken t))
    where
      same : length (bits_of (drop 8 s)) ≡ length (bits_of (drop 8 t))
      same = omega (arith, length_bits_of (drop 8 s), length_bits_of (drop 8 t), length-drop 8 s, length-drop 8 t)
