-- The laws of the tables. What the division leaves of a number is what it leaves of the k lowest bits and of those above, which have fewer
-- zeros behind them (`parts`, for every k). The entries are computed. Assumes nothing.
use mathlib.Core.Path.{◌≡◌, refl, sym, ap, ap₂, ◌∙◌}
use mathlib.Core.Bool.{Bool}
use mathlib.Core.List.{List, [], ◌∷◌, ◌++◌}
use Prim.Native.Nat.{ℕ, zero, suc, ◌+◌, ◌-◌, ◌*◌, ◌/◌, ◌%◌, ◌^◌, ◌<◌}
use native.Mathlib.Nat.{mul-one, pow-zero, pow-suc, mul_assoc, mod-lt, mod-mod, lt_of_lt_of_le, div-add-mod'}
use native.Mathlib.Decide.{dec_le}
use native.Mathlib.Omega.{arith}
use lib.Arith.{mod-mul}
use lib.Bits.{bit_xor, xor_shifted, xor_zero_l, xor_zero_r, xor_comm}
use lib.Dec.{T, eqb, eqb→eq}
use lib.ListN.{get_or}
use lib.Pow.{pow_pos, pow_mono}
use Rattle.std.proofs.Math.Pow.{mod-mod-pow}
use Rattle.std.proofs.lemmas.Nat.{mod-pow-add}
use Rattle.crc64.specs.Crc64.{bits, number, remainder, generator, zeros}
use Rattle.crc64.proofs.Division.{register_alone}
use Rattle.crc64.proofs.Linear.{falls_xor, falls_add}
use Rattle.crc64.proofs.Period.{every, every_one}
use Rattle.crc64.proofs.Register.{poly, fall, falls}
use Rattle.crc64.proofs.RegisterLaws.{fall_double, run_bits}
use Rattle.crc64_tables.specs.Leaves.{leaves}
use Rattle.crc64_tables.specs.declared.TheConstants.{TABLES}

-- ---- what falls of a number: only its n lowest bits count

falls_shifted : (p k x : ℕ) → falls p k (x * 2 ^ k) ≡ x
unfolding falls
falls_shifted p zero x = ap (λ (n : ℕ). x * n) (pow-zero 2) ∙ mul-one x
falls_shifted p (suc k) x =
    ap (falls p k) (ap (fall p) (ap (λ (n : ℕ). x * n) (pow-suc 2 k) ∙ sym (mul_assoc x (2 ^ k) 2)) ∙ fall_double p (x * 2 ^ k))
    ∙ falls_shifted p k x

pub bits_same : (n x y : ℕ) → x % 2 ^ n ≡ y % 2 ^ n → bits n x ≡ bits n y
unfolding bits
bits_same zero x y e = refl
bits_same (suc n) x y e =
    let digits : (z : ℕ) → z % 2 ^ suc n ≡ (z / 2 % 2 ^ n) * 2 + z % 2 =
    λ z. ap (λ (d : ℕ). z % d) (pow-suc 2 n) ∙ mod-mul z (pow_pos n) (pow_pos 1) in
    let f : (x / 2 % 2 ^ n) * 2 + x % 2 ≡ (y / 2 % 2 ^ n) * 2 + y % 2 = sym (digits x) ∙ e ∙ digits y in
    let head : x % 2 ≡ y % 2 = omega arith in
    let tail : x / 2 % 2 ^ n ≡ y / 2 % 2 ^ n = omega arith in
    ap₂ (λ (d : ℕ) (r : List Bool). eqb d 1 ∷ r) head (bits_same n (x / 2) (y / 2) tail)

pub leaves_same : (n x y : ℕ) → x % 2 ^ n ≡ y % 2 ^ n → leaves n x ≡ leaves n y
unfolding leaves
leaves_same n x y e = ap (λ (s : List Bool). number (remainder generator (s ++ zeros))) (bits_same n x y e)

pub leaves_falls : (n x : ℕ) → x < 2 ^ n → leaves n x ≡ falls poly n x
unfolding leaves
leaves_falls n x h =
    register_alone (bits n x) ∙ run_bits poly 0 n x h ∙ ap (falls poly n) (xor_zero_l x)

leaves_low : (n x : ℕ) → leaves n x ≡ falls poly n (x % 2 ^ n)
leaves_low n x =
    let h : x % 2 ^ n < 2 ^ n = mod-lt x (pow_pos n) in
    leaves_same n x (x % 2 ^ n) (sym (mod-mod x (2 ^ n))) ∙ leaves_falls n (x % 2 ^ n) h

-- ---- THE LAW OF THE TABLES: the k lowest bits, and those above

pub leaves_none : (x : ℕ) → leaves 0 x ≡ 0
unfolding falls
leaves_none x = leaves_low 0 x ∙ omega arith

parts_long : (k m x : ℕ) → leaves (m + k) x ≡ bit_xor (leaves (m + k) (x % 2 ^ k)) (leaves m (x / 2 ^ k))
parts_long k m x =
    let low : x % 2 ^ k < 2 ^ (m + k) = lt_of_lt_of_le (mod-lt x (pow_pos k)) (pow_mono {i = k} {j = m + k} (omega arith)) in
    let e : m + k ≡ k + m = omega arith in
    leaves_low (m + k) x
    ∙ ap (falls poly (m + k)) (mod-pow-add x m k ∙ sym (xor_shifted (x / 2 ^ k % 2 ^ m) k (x % 2 ^ k) (mod-lt x (pow_pos k))))
    ∙ falls_xor poly (m + k) (x / 2 ^ k % 2 ^ m * 2 ^ k) (x % 2 ^ k)
    ∙ xor_comm (falls poly (m + k) (x / 2 ^ k % 2 ^ m * 2 ^ k)) (falls poly (m + k) (x % 2 ^ k))
    ∙ ap₂ bit_xor
    (sym (leaves_falls (m + k) (x % 2 ^ k) low))
    (ap (λ (n : ℕ). falls poly n (x / 2 ^ k % 2 ^ m * 2 ^ k)) e
    ∙ falls_add poly k m (x / 2 ^ k % 2 ^ m * 2 ^ k)
    ∙ ap (falls poly m) (falls_shifted poly k (x / 2 ^ k % 2 ^ m))
    ∙ sym (leaves_low m (x / 2 ^ k)))

pub parts : (k n x : ℕ) → leaves n x ≡ bit_xor (leaves n (x % 2 ^ k)) (leaves (n - k) (x / 2 ^ k))
parts k n x =
    elim (dec_le n k) [
      | yes l ↦
          let e : 0 ≡ n - k = omega arith in
          let f : k - n + n ≡ k = omega arith in
          sym (leaves_same n (x % 2 ^ k) x (ap (λ (j : ℕ). x % 2 ^ j % 2 ^ n) (sym f) ∙ mod-mod-pow x (k - n) n))
          ∙ sym (xor_zero_r (leaves n (x % 2 ^ k)))
          ∙ ap (bit_xor (leaves n (x % 2 ^ k))) (sym (leaves_none (x / 2 ^ k)) ∙ ap (λ (j : ℕ). leaves j (x / 2 ^ k)) e)
      | no l ↦
          let e : n ≡ n - k + k = omega arith in
          ap (λ (j : ℕ). leaves j x) e
          ∙ parts_long k (n - k) x
          ∙ ap (λ (j : ℕ). bit_xor (leaves j (x % 2 ^ k)) (leaves (n - k) (x / 2 ^ k))) (sym e)
    ]

-- the same of what falls, for every polynomial
pub split : (p k m x : ℕ) → falls p (k + m) x ≡ bit_xor (falls p m (x / 2 ^ k)) (falls p (k + m) (x % 2 ^ k))
split p k m x =
    ap (falls p (k + m)) (sym (xor_shifted (x / 2 ^ k) k (x % 2 ^ k) (mod-lt x (pow_pos k)) ∙ div-add-mod' x (2 ^ k)))
    ∙ falls_xor p (k + m) (x / 2 ^ k * 2 ^ k) (x % 2 ^ k)
    ∙ ap (λ (y : ℕ). bit_xor y (falls p (k + m) (x % 2 ^ k)))
    (falls_add p k m (x / 2 ^ k * 2 ^ k) ∙ ap (falls p m) (falls_shifted p k (x / 2 ^ k)))

-- and of a word: the upper parts, which a are the sum of, and the lowest
pub join : (m x a b : ℕ) → a ≡ falls poly m (x / 64) → b ≡ leaves (6 + m) (x % 64) → bit_xor a b ≡ falls poly (6 + m) x
join m x a b ea eb =
    ap₂ bit_xor ea (eb ∙ leaves_falls (6 + m) (x % 64) (lt_of_lt_of_le (mod-lt x (pow_pos 6)) (pow_mono {i = 6} {j = 6 + m} (omega arith))))
    ∙ sym (split poly 6 m x)

-- ---- the entries

abbrev right : ℕ → ℕ → Bool
right i k = eqb (get_or (get_or TABLES i []) k 0) (falls poly (64 - 6 * i) (k % 2 ^ (64 - 6 * i)))

tested : T (every (λ i. every (right i) 64) 11)
unfolding every fall falls
tested = tt

-- the entry of the table i for k
pub entry : (i k : ℕ) → i < 11 → k < 64 → get_or (get_or TABLES i []) k 0 ≡ leaves (64 - 6 * i) k
entry i k h l =
    eqb→eq _ _ (every_one (right i) 64 (every_one (λ i. every (right i) 64) 11 tested i h) k l)
    ∙ sym (leaves_low (64 - 6 * i) k)
