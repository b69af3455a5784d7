-- The register's step is linear: it takes the exclusive or of two registers to the exclusive or of their images. So are n steps, and so is
-- `total`, which adds up a number for each place of a list that holds a one. Each law goes by induction on the steps or on the list.
-- Assumes nothing.
use mathlib.Core.Path.{◌≡◌, refl, sym, ap, ap₂, ◌∙◌, fun_ext}
use mathlib.Core.Bool.{Bool, true, false}
use mathlib.Core.List.{List, [], ◌∷◌}
use Prim.Native.Nat.{ℕ, zero, suc, ◌+◌, ◌/◌, ◌^◌, ◌<◌}
use native.Mathlib.Nat.{zero-add, suc-add, add_comm}
use lib.Bits.{bit_xor, xor_zero_r, xor_self, xor_lt}
use lib.Pow.{pow_pos}
use lib.ListN.{length}
use Rattle.crc64.specs.Crc64.{xor}
use Rattle.crc64.proofs.Digits.{odd, odd_xor}
use Rattle.crc64.proofs.Xor.{xor_half, xor_cancel, xor_four}
use Rattle.crc64.proofs.Register.{only, fall, falls}

-- a linear map keeps 0
pub linear_zero : (f : ℕ → ℕ) → ((x y : ℕ) → f (bit_xor x y) ≡ bit_xor (f x) (f y)) → f 0 ≡ 0
linear_zero f linear = linear 0 0 ∙ xor_self (f 0)

-- two numbers are equal if their sum is 0
pub xor_zero : (a b : ℕ) → bit_xor a b ≡ 0 → a ≡ b
xor_zero a b e = sym (xor_cancel a b a (e ∙ sym (xor_self a)))

-- `only` is linear in the number, and in the bit
pub only_xor : (b : Bool) (x y : ℕ) → only b (bit_xor x y) ≡ bit_xor (only b x) (only b y)
only_xor true x y = refl
only_xor false x y = refl

pub only_sum : (a b : Bool) (x : ℕ) → only (xor a b) x ≡ bit_xor (only a x) (only b x)
only_sum false b x = refl
only_sum true false x = sym (xor_zero_r x)
only_sum true true x = sym (xor_self x)

module _ (p : ℕ) where
  pub fall_xor : (x y : ℕ) → fall p (bit_xor x y) ≡ bit_xor (fall p x) (fall p y)
  unfolding fall
  fall_xor x y =
      ap₂ (λ (h o : ℕ). bit_xor h o) (xor_half x y) (ap (λ (b : Bool). only b p) (odd_xor x y) ∙ only_sum (odd x) (odd y) p)
      ∙ xor_four (x / 2) (y / 2) (only (odd x) p) (only (odd y) p)

  pub falls_xor : (n x y : ℕ) → falls p n (bit_xor x y) ≡ bit_xor (falls p n x) (falls p n y)
  unfolding falls
  falls_xor zero x y = refl
  falls_xor (suc n) x y = ap (falls p n) (fall_xor x y) ∙ falls_xor n (fall p x) (fall p y)

  pub falls_zero : (n : ℕ) → falls p n 0 ≡ 0
  falls_zero n = linear_zero (falls p n) (falls_xor n)

  pub falls_add : (m n x : ℕ) → falls p (m + n) x ≡ falls p n (falls p m x)
  unfolding falls
  falls_add zero n x = ap (λ (k : ℕ). falls p k x) (zero-add n)
  falls_add (suc m) n x = ap (λ (k : ℕ). falls p k x) (suc-add m n) ∙ falls_add m n (fall p x)

  pub falls_swap : (m n x : ℕ) → falls p m (falls p n x) ≡ falls p n (falls p m x)
  falls_swap m n x = sym (falls_add n m x) ∙ ap (λ (k : ℕ). falls p k x) (add_comm n m) ∙ falls_add m n x

  pub falls_fall : (n x : ℕ) → falls p n (fall p x) ≡ fall p (falls p n x)
  unfolding falls
  falls_fall n x = falls_swap n 1 x

-- the sum of h k over the places k of the ones; places are counted from the end
unfoldable pub total : (ℕ → ℕ) → List Bool → ℕ
total h [] = 0
total h (b ∷ s) = bit_xor (only b (h (length s))) (total h s)

pub total_cong : (h k : ℕ → ℕ) (s : List Bool) → ((i : ℕ) → h i ≡ k i) → total h s ≡ total k s
total_cong h k s e = ap (λ (f : ℕ → ℕ). total f s) (fun_ext e)

pub total_xor : (h k : ℕ → ℕ) (s : List Bool) → total (λ i. bit_xor (h i) (k i)) s ≡ bit_xor (total h s) (total k s)
unfolding total
total_xor h k [] = refl
total_xor h k (b ∷ s) =
    ap₂ (λ (x y : ℕ). bit_xor x y) (only_xor b (h (length s)) (k (length s))) (total_xor h k s)
    ∙ xor_four (only b (h (length s))) (only b (k (length s))) (total h s) (total k s)

pub total_lt : (h : ℕ → ℕ) (s : List Bool) (w : ℕ) → ((i : ℕ) → h i < 2 ^ w) → total h s < 2 ^ w
unfolding total
total_lt h [] w l = pow_pos w
total_lt h (false ∷ s) w l = total_lt h s w l
total_lt h (true ∷ s) w l = xor_lt w (h (length s)) (total h s) (l (length s)) (total_lt h s w l)

-- a linear map passes through `only` and through a total
module _ (f : ℕ → ℕ) (linear : (x y : ℕ) → f (bit_xor x y) ≡ bit_xor (f x) (f y)) where
  pub only_map : (b : Bool) (x : ℕ) → only b (f x) ≡ f (only b x)
  only_map true x = refl
  only_map false x = sym (linear_zero f linear)

  pub total_map : (h : ℕ → ℕ) (s : List Bool) → total (λ i. f (h i)) s ≡ f (total h s)
  unfolding total
  total_map h [] = sym (linear_zero f linear)
  total_map h (b ∷ s) =
      ap₂ (λ (x y : ℕ). bit_xor x y) (only_map b (h (length s))) (total_map h s)
      ∙ sym (linear (only b (h (length s))) (total h s))
