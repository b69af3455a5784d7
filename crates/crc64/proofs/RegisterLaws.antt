-- Laws of the shift register at any width suc w, with p and the register below 2 ^ suc w: it stays in that range; feeding bits one at a
-- time is adding their number first and then letting as many bits fall (`pivot`); and where p has its highest bit, no two registers fall
-- to the same one, so none are taken to the same one by the same bits. Assumes nothing.
use mathlib.Core.Path.{◌≡◌, refl, sym, ap, ap₂, ◌∙◌, subst}
use mathlib.Core.Bool.{Bool, true, false}
use mathlib.Core.List.{List, [], ◌∷◌, ◌++◌}
use Prim.Native.Nat.{ℕ, zero, suc, ◌+◌, ◌*◌, ◌/◌, ◌%◌, ◌^◌, ◌≤◌, ◌<◌}
use native.Mathlib.Nat.{div-add-mod', zero-add}
use native.Mathlib.Omega.{arith}
use lib.Bits.{bit_xor, xor_lt, xor_comm, xor_zero_r}
use lib.Dec.{eqb}
use lib.ListN.{length}
use lib.Pow.{pow_pos}
use Rattle.crc64.specs.Crc64.{bits, digit, number, xor}
use Rattle.crc64.proofs.Digits.{odd, odd_xor, odd_put, half_put, half_lt, digit_odd, length_bits, number_bits}
use Rattle.crc64.proofs.Register.{only, fall, falls, feed, run}
use Rattle.crc64.proofs.Xor.{xor_assoc, xor_cancel, xor_half, xor_undo}

-- ---- what a step gives

pub fall_odd : (p x : ℕ) → x % 2 ≡ 1 → fall p x ≡ bit_xor (x / 2) p
unfolding fall
fall_odd p x h = ap (λ (d : ℕ). bit_xor (x / 2) (only (eqb d 1) p)) h

pub fall_even : (p x : ℕ) → (x % 2 ≡ 1 → ⊥) → fall p x ≡ x / 2
unfolding fall
fall_even p x h =
    let e : x % 2 ≡ 0 = omega arith in
    ap (λ (d : ℕ). bit_xor (x / 2) (only (eqb d 1) p)) e ∙ xor_zero_r (x / 2)

pub fall_double : (p x : ℕ) → fall p (x * 2) ≡ x
fall_double p x = fall_even p (x * 2) (λ e. omega arith) ∙ omega arith

xor_swap : (a b c : ℕ) → bit_xor (bit_xor a b) c ≡ bit_xor (bit_xor a c) b
xor_swap a b c = xor_assoc a b c ∙ ap (bit_xor a) (xor_comm b c) ∙ sym (xor_assoc a c b)

fall_put : (p r n : ℕ) (b : Bool)
    → fall p (bit_xor r (n * 2 + digit b)) ≡ bit_xor (bit_xor (r / 2) n) (only (xor (odd r) b) p)
unfolding fall
fall_put p r n b =
    ap₂ (λ (h : ℕ) (c : Bool). bit_xor h (only c p))
    (xor_half r (n * 2 + digit b) ∙ ap (bit_xor (r / 2)) (half_put n b))
    (odd_xor r (n * 2 + digit b) ∙ ap (xor (odd r)) (odd_put n b))

pub feed_step : (p r : ℕ) (b : Bool) → feed p r b ≡ bit_xor (r / 2) (only (xor (odd r) b) p)
unfolding feed
feed_step p r b =
    ap (λ (d : ℕ). fall p (bit_xor r d)) (sym (zero-add (digit b)))
    ∙ fall_put p r 0 b
    ∙ ap (λ (h : ℕ). bit_xor h (only (xor (odd r) b) p)) (xor_zero_r (r / 2))

pub run_append : (p r : ℕ) (s t : List Bool) → run p r (s ++ t) ≡ run p (run p r s) t
unfolding run
run_append p r [] t = refl
run_append p r (b ∷ s) t = run_append p (feed p r b) s t

-- bits that are fed one at a time may be added first
pub pivot : (p r : ℕ) (s : List Bool) → run p r s ≡ falls p (length s) (bit_xor r (number s))
unfolding run falls number
pivot p r [] = sym (xor_zero_r r)
pivot p r (b ∷ s) =
    pivot p (feed p r b) s
    ∙ ap (falls p (length s))
    (ap (λ (x : ℕ). bit_xor x (number s)) (feed_step p r b)
    ∙ xor_swap (r / 2) (only (xor (odd r) b) p) (number s)
    ∙ sym (fall_put p r (number s) b))

-- the bits of a number
pub run_bits : (p r k x : ℕ) → x < 2 ^ k → run p r (bits k x) ≡ falls p k (bit_xor r x)
run_bits p r k x h =
    pivot p r (bits k x) ∙ ap₂ (λ (n y : ℕ). falls p n (bit_xor r y)) (length_bits k x) (number_bits k x h)

-- ---- the range

module _ (w p : ℕ) (low : p < 2 ^ suc w) where
  only_lt : (b : Bool) → only b p < 2 ^ suc w
  only_lt true = low
  only_lt false = pow_pos (suc w)

  pub fall_lt : (x : ℕ) → x < 2 ^ suc w → fall p x < 2 ^ suc w
  unfolding fall
  fall_lt x h = xor_lt (suc w) (x / 2) (only (odd x) p) (omega arith) (only_lt (odd x))

  pub falls_lt : (n x : ℕ) → x < 2 ^ suc w → falls p n x < 2 ^ suc w
  unfolding falls
  falls_lt zero x h = h
  falls_lt (suc n) x h = falls_lt n (fall p x) (fall_lt x h)

  pub feed_lt : (r : ℕ) (b : Bool) → r < 2 ^ suc w → feed p r b < 2 ^ suc w
  feed_lt r b h =
      subst (λ (x : ℕ). x < 2 ^ suc w) (sym (feed_step p r b))
      (xor_lt (suc w) (r / 2) (only (xor (odd r) b) p) (omega arith) (only_lt (xor (odd r) b)))

  pub run_lt : (r : ℕ) (s : List Bool) → r < 2 ^ suc w → run p r s < 2 ^ suc w
  unfolding run
  run_lt r [] h = h
  run_lt r (b ∷ s) h = run_lt (feed p r b) s (feed_lt r b h)

  -- ---- no two are taken to the same one

  module _ (high : 2 ^ w ≤ p) where
    -- the highest bit of what a step gives says whether a 1 fell out
    apart : (x y : ℕ) → x < 2 ^ w → y < 2 ^ w → bit_xor x p ≡ y → ⊥
    apart x y hx hy e =
        let l : bit_xor x y < 2 ^ w = xor_lt w x y hx hy in
        let u : bit_xor x y ≡ p = ap (bit_xor x) (sym e) ∙ xor_undo x p in
        omega arith

    step_inj : (b c : Bool) (x y : ℕ) → x < 2 ^ w → y < 2 ^ w → bit_xor x (only b p) ≡ bit_xor y (only c p)
        → (x ≡ y) × (digit b ≡ digit c)
    step_inj false false x y hx hy e = (sym (xor_zero_r x) ∙ e ∙ xor_zero_r y, refl)
    step_inj false true x y hx hy e = absurd (apart y x hy hx (sym e ∙ xor_zero_r x))
    step_inj true false x y hx hy e = absurd (apart x y hx hy (e ∙ xor_zero_r y))
    step_inj true true x y hx hy e = (xor_cancel p x y (xor_comm p x ∙ e ∙ xor_comm y p), refl)

    pub fall_inj : (x y : ℕ) → x < 2 ^ suc w → y < 2 ^ suc w → fall p x ≡ fall p y → x ≡ y
    unfolding fall
    fall_inj x y hx hy e =
        let h : (x / 2 ≡ y / 2) × (digit (odd x) ≡ digit (odd y)) =
        step_inj (odd x) (odd y) (x / 2) (y / 2) (half_lt w x hx) (half_lt w y hy) e in
        sym (div-add-mod' x 2)
        ∙ ap₂ (λ (n d : ℕ). n * 2 + d) h.0 (sym (digit_odd x) ∙ h.1 ∙ digit_odd y)
        ∙ div-add-mod' y 2

    pub falls_inj : (n x y : ℕ) → x < 2 ^ suc w → y < 2 ^ suc w → falls p n x ≡ falls p n y → x ≡ y
    unfolding falls
    falls_inj zero x y hx hy e = e
    falls_inj (suc n) x y hx hy e =
        fall_inj x y hx hy (falls_inj n (fall p x) (fall p y) (fall_lt x hx) (fall_lt y hy) e)
