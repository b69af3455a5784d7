-- A register of 15 bits whose polynomial is x^15 + x + 1: 32,767 steps bring it back, and fewer bring back only 0.
-- If d steps bring x back, so do 32,767 % d steps; and where d divides 32,767, so do 217, 1,057 or 4,681 steps. For each of these n a polynomial in
-- the step, given by its bits, takes x with x after n steps added to it back to x: so x is 0 if the two are equal.
-- The tests compute with `step`, the same by plain arithmetic. Assumes nothing.
use mathlib.Core.Path.{◌≡◌, refl, sym, ap, ap₂, ◌∙◌, subst}
use mathlib.Core.Logic.{inl, inr}
use mathlib.Core.Bool.{Bool, true, false, ◌&&◌, ◌||◌, not}
use mathlib.Core.List.{List}
use Prim.Native.Nat.{ℕ, zero, suc, ◌+◌, ◌-◌, ◌*◌, ◌/◌, ◌%◌, ◌^◌, ◌≤◌, ◌<◌}
use native.Mathlib.Nat.{zero-mul, suc-mul, suc_inj, eq-or-lt_of_le, le_of_suc-le-suc, mod-lt, div-add-mod', eq-zero-or-pos}
use native.Mathlib.Omega.{arith}
use lib.Bits.{bit_xor, xor_zero_r, xor_self, xor_lt, xor_block, xor_shifted}
use lib.Arith.{bin_ind}
use lib.Dec.{T, eqb, eqb→eq, lit<, lit≤}
use Rattle.crc64.specs.Crc64.{bits}
use Rattle.crc64.proofs.Xor.{below_two, xor_four}
use Rattle.crc64.proofs.Register.{only, fall, falls}
use Rattle.crc64.proofs.RegisterLaws as laws
use Rattle.crc64.proofs.Linear.{xor_zero, fall_xor, falls_xor, falls_zero, falls_add, falls_fall, total, total_cong, total_xor, total_lt, total_map, linear_zero}

-- x^15 + x + 1, reflected
abbrev pub small : ℕ
small = 0x6000

-- ---- the step by arithmetic

abbrev step : ℕ → ℕ
step x = x / 2 + x % 2 * (0x6000 - x / 0x4000 * 0x4000)

unfoldable pub steps : ℕ → ℕ → ℕ
steps zero x = x
steps (suc n) x = steps n (step x)

-- the two highest bits of the sum, and the 13 lowest
add_small : (x : ℕ) → x < 0x4000 → bit_xor x small ≡ x + (0x6000 - x / 0x2000 * 0x4000)
add_small x h =
    ap (λ (y : ℕ). bit_xor y small) (sym (div-add-mod' x 0x2000))
    ∙ xor_block 13 (x / 0x2000) 3 (x % 0x2000) 0 (omega arith) (omega arith)
    ∙ ap (λ (y : ℕ). bit_xor (x / 0x2000) 3 * 0x2000 + y) (xor_zero_r (x % 0x2000))
    ∙ below_two (λ a. a ≡ x / 0x2000 → bit_xor a 3 * 0x2000 + x % 0x2000 ≡ x + (0x6000 - a * 0x4000)) (λ e. omega arith) (λ e. omega arith)
    (x / 0x2000) (omega arith) refl

fall_step : (x : ℕ) → x < 0x8000 → fall small x ≡ step x
unfolding fall
fall_step x h =
    below_two (λ b. bit_xor (x / 2) (only (eqb b 1) small) ≡ x / 2 + b * (0x6000 - x / 0x4000 * 0x4000))
    (xor_zero_r (x / 2) ∙ omega arith)
    (add_small (x / 2) (omega arith) ∙ omega arith)
    (x % 2) (omega arith)

-- ---- the laws of the register at 15 bits

small_lt : small < 2 ^ 15
small_lt = lit< tt

small_high : 2 ^ 14 ≤ small
small_high = lit≤ tt

pub falls_lt : (n x : ℕ) → x < 0x8000 → falls small n x < 0x8000
falls_lt = laws.falls_lt 14 small small_lt

pub falls_steps : (n x : ℕ) → x < 0x8000 → falls small n x ≡ steps n x
unfolding falls steps
falls_steps zero x h = refl
falls_steps (suc n) x h = falls_steps n (fall small x) (laws.fall_lt 14 small small_lt x h) ∙ ap (steps n) (fall_step x h)

pub falls_kernel : (n x : ℕ) → x < 0x8000 → falls small n x ≡ 0 → x ≡ 0
falls_kernel n x h e = laws.falls_inj 14 small small_lt small_high n x 0 h (omega arith) (e ∙ sym (falls_zero small n))

-- ---- a linear map that passes through the step and keeps 1 keeps every register

module _ (F : ℕ → ℕ) (linear : (x y : ℕ) → F (bit_xor x y) ≡ bit_xor (F x) (F y))
    (passes : (x : ℕ) → F (fall small x) ≡ fall small (F x)) (bound : (x : ℕ) → x < 0x8000 → F x < 0x8000) (one : F 1 ≡ 1) where
  keeps_bit : (b : ℕ) → b < 2 → F b ≡ b
  keeps_bit = below_two (λ b. F b ≡ b) (linear_zero F linear) one

  keeps_even : (x : ℕ) → x * 2 < 0x8000 → F x ≡ x → F (x * 2) ≡ x * 2
  unfolding falls
  keeps_even x h e =
      xor_zero (F (x * 2)) (x * 2)
      (falls_kernel 1 (bit_xor (F (x * 2)) (x * 2)) (xor_lt 15 (F (x * 2)) (x * 2) (bound (x * 2) h) h)
      (fall_xor small (F (x * 2)) (x * 2)
      ∙ ap₂ (λ (y z : ℕ). bit_xor y z) (sym (passes (x * 2)) ∙ ap F (laws.fall_double small x) ∙ e) (laws.fall_double small x)
      ∙ xor_self x))

  keeps : (x : ℕ) → x < 0x8000 → F x ≡ x
  keeps =
      bin_ind (λ x. x < 0x8000 → F x ≡ x) (λ h. keeps_bit 0 (omega arith))
      (λ x ih h.
      ap F (split x) ∙ linear (x / 2 * 2) (x % 2)
      ∙ ap₂ (λ (y z : ℕ). bit_xor y z) (keeps_even (x / 2) (omega arith) (ih (omega arith))) (keeps_bit (x % 2) (omega arith))
      ∙ sym (split x))
    where
      split : (x : ℕ) → x ≡ bit_xor (x / 2 * 2) (x % 2)
      split x = sym (xor_shifted (x / 2) 1 (x % 2) (omega arith) ∙ div-add-mod' x 2)

-- ---- 32,767 steps

whole_one : steps 32767 1 ≡ 1
unfolding steps
whole_one = refl

whole : (x : ℕ) → x < 0x8000 → falls small 32767 x ≡ x
whole =
    keeps (falls small 32767) (falls_xor small 32767) (falls_fall small 32767) (falls_lt 32767)
    (falls_steps 32767 1 (omega arith) ∙ whole_one)

-- ---- n steps that bring back only 0: u, a polynomial in the step, undoes `moved`, which adds to x what it is after n steps

module _ (n : ℕ) (u : List Bool) (test : total (λ j. steps j (bit_xor (steps n 1) 1)) u ≡ 1) where
  moved : ℕ → ℕ
  moved x = bit_xor (falls small n x) x

  undone : ℕ → ℕ
  undone x = total (λ j. falls small j (moved x)) u

  moved_xor : (x y : ℕ) → moved (bit_xor x y) ≡ bit_xor (moved x) (moved y)
  unfolding moved
  moved_xor x y = ap (λ (z : ℕ). bit_xor z (bit_xor x y)) (falls_xor small n x y) ∙ xor_four (falls small n x) (falls small n y) x y

  moved_fall : (x : ℕ) → moved (fall small x) ≡ fall small (moved x)
  unfolding moved
  moved_fall x = ap (λ (z : ℕ). bit_xor z (fall small x)) (falls_fall small n x) ∙ sym (fall_xor small (falls small n x) x)

  moved_lt : (x : ℕ) → x < 0x8000 → moved x < 0x8000
  unfolding moved
  moved_lt x h = xor_lt 15 (falls small n x) x (falls_lt n x h) h

  undone_xor : (x y : ℕ) → undone (bit_xor x y) ≡ bit_xor (undone x) (undone y)
  unfolding undone
  undone_xor x y =
      total_cong _ _ u (λ j. ap (falls small j) (moved_xor x y) ∙ falls_xor small j (moved x) (moved y))
      ∙ total_xor (λ j. falls small j (moved x)) (λ j. falls small j (moved y)) u

  undone_fall : (x : ℕ) → undone (fall small x) ≡ fall small (undone x)
  unfolding undone
  undone_fall x =
      total_cong _ _ u (λ j. ap (falls small j) (moved_fall x) ∙ falls_fall small j (moved x))
      ∙ total_map (fall small) (fall_xor small) (λ j. falls small j (moved x)) u

  undone_lt : (x : ℕ) → x < 0x8000 → undone x < 0x8000
  unfolding undone
  undone_lt x h = total_lt (λ j. falls small j (moved x)) u 15 (λ j. falls_lt j (moved x) (moved_lt x h))

  undone_one : undone 1 ≡ 1
  unfolding undone moved
  undone_one =
      total_cong _ _ u (λ j.
      falls_steps j (moved 1) (moved_lt 1 (omega arith)) ∙ ap (λ (z : ℕ). steps j (bit_xor z 1)) (falls_steps n 1 (omega arith)))
      ∙ test

  only_zero : (x : ℕ) → x < 0x8000 → falls small n x ≡ x → x ≡ 0
  unfolding undone moved
  only_zero x h e =
      sym (keeps undone undone_xor undone_fall undone_lt undone_one x h)
      ∙ ap (λ (z : ℕ). total (λ j. falls small j z) u)
      (ap (λ (z : ℕ). bit_xor z x) e ∙ xor_self x ∙ sym (linear_zero moved moved_xor))
      ∙ linear_zero undone undone_xor

-- ---- a test of every number below n

unfoldable pub every : (ℕ → Bool) → ℕ → Bool
every f zero = true
every f (suc n) = f n && every f n

pub both : (a b : Bool) → T (a && b) → T a × T b
both true b t = (tt, t)
both false b t = absurd t

pub every_one : (f : ℕ → Bool) (n : ℕ) → T (every f n) → (k : ℕ) → k < n → T (f k)
unfolding every
every_one f zero t k h = absurd (omega arith)
every_one f (suc n) t k h =
    elim (eq-or-lt_of_le h) [
      | inl e ↦ subst (λ (i : ℕ). T (f i)) (suc_inj (sym e)) (both (f n) (every f n) t).0
      | inr l ↦ every_one f n (both (f n) (every f n) t).1 k (le_of_suc-le-suc l)
    ]

-- ---- the period

-- steps that bring x back count for nothing
times : (d x : ℕ) → falls small d x ≡ x → (j : ℕ) → falls small (j * d) x ≡ x
unfolding falls
times d x e zero = ap (λ (k : ℕ). falls small k x) (zero-mul d)
times d x e (suc j) = ap (λ (k : ℕ). falls small k x) (suc-mul j d) ∙ falls_add small (j * d) d x ∙ ap (falls small d) (times d x e j) ∙ e

modulo : (n d x : ℕ) → falls small d x ≡ x → falls small n x ≡ falls small (n % d) x
modulo n d x e =
    ap (λ (k : ℕ). falls small k x) (sym (div-add-mod' n d))
    ∙ falls_add small (n / d * d) (n % d) x
    ∙ ap (falls small (n % d)) (times d x e (n / d))

multiple : (n d x : ℕ) → T (eqb (n % d) 0) → falls small d x ≡ x → falls small n x ≡ x
unfolding falls
multiple n d x t e = modulo n d x e ∙ ap (λ (k : ℕ). falls small k x) (eqb→eq (n % d) 0 t)

-- a divisor of 32,767 below it divides one of the three greatest
covered : ℕ → Bool
covered d = not (eqb (32767 % d) 0) || (eqb (217 % d) 0 || (eqb (1057 % d) 0 || eqb (4681 % d) 0))

cases : {X : Type 0} (z a b c : Bool) → T z → (T a → X) → (T b → X) → (T c → X) → T (not z || (a || (b || c))) → X
cases true true b c tz f g h t = f tt
cases true false true c tz f g h t = g tt
cases true false false true tz f g h t = h tt
cases true false false false tz f g h t = absurd t
cases false a b c tz f g h t = absurd tz

all_covered : T (every covered 32767)
unfolding every covered
all_covered = tt

module _ (x : ℕ) (hx : x < 0x8000) where
  217_steps : falls small 217 x ≡ x → x ≡ 0
  unfolding steps total bits
  217_steps = only_zero 217 (bits 15 0x5493) refl x hx

  1057_steps : falls small 1057 x ≡ x → x ≡ 0
  unfolding steps total bits
  1057_steps = only_zero 1057 (bits 15 0x5e40) refl x hx

  4681_steps : falls small 4681 x ≡ x → x ≡ 0
  unfolding steps total bits
  4681_steps = only_zero 4681 (bits 15 0x3954) refl x hx

  divisor : (d : ℕ) → d < 32767 → 32767 % d ≡ 0 → falls small d x ≡ x → x ≡ 0
  unfolding covered
  divisor d h z e =
      cases (eqb (32767 % d) 0) (eqb (217 % d) 0) (eqb (1057 % d) 0) (eqb (4681 % d) 0) (rw z tt)
      (λ t. 217_steps (multiple 217 d x t e))
      (λ t. 1057_steps (multiple 1057 d x t e))
      (λ t. 4681_steps (multiple 4681 d x t e))
      (every_one covered 32767 all_covered d h)

  below : (f d : ℕ) → d < f → 0 < d → d < 32767 → falls small d x ≡ x → x ≡ 0
  below zero d hf hp hd e = absurd (omega arith)
  below (suc f) d hf hp hd e =
      let l : 32767 % d < d = mod-lt 32767 hp in
      elim (eq-zero-or-pos (32767 % d)) [
        | inl z ↦ divisor d hd z e
        | inr p ↦ below f (32767 % d) (omega arith) p (omega arith) (sym (modulo 32767 d x e) ∙ whole x hx)
      ]

-- THE PERIOD: fewer than 32,767 steps, but some, bring back only 0
pub period : (d x : ℕ) → 0 < d → d < 32767 → x < 0x8000 → falls small d x ≡ x → x ≡ 0
period d x hp hd hx = below x hx (suc d) d (omega arith) hp hd
