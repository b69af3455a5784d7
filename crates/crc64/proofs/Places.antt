-- Few ones are none: if a^(m * k), added up over the places k of the ones of a list, gives 0 for each m < c, then the list has more than c ones
-- or none. Here a is the step of the register of 15 bits, and the list is no longer than its period. Each place k has a weight w k, at first 1.
-- By induction: with a one at the front, at the place l, the weights (a^k + a^l) * w k take it away and leave c - 1 sums that are 0.
-- Assumes nothing.
use mathlib.Core.Path.{◌≡◌, refl, sym, ap, ap₂, ◌∙◌}
use mathlib.Core.Bool.{Bool, true, false}
use mathlib.Core.List.{List, [], ◌∷◌}
use Prim.Native.Nat.{ℕ, zero, suc, ◌-◌, ◌*◌, ◌≤◌, ◌<◌}
use native.Mathlib.Nat.{zero-mul, suc-mul, add-sub_of_le}
use native.Mathlib.Omega.{arith}
use lib.Bits.{bit_xor, xor_self, xor_lt}
use lib.ListN.{length}
use Rattle.crc64.proofs.Register.{falls}
use Rattle.crc64.proofs.Linear.{xor_zero, falls_xor, falls_add, falls_swap, total, total_cong, total_xor, total_map}
use Rattle.crc64.proofs.Period.{small, falls_lt, falls_kernel, period}

-- how many bits are set
unfoldable pub count : List Bool → ℕ
count [] = 0
count (false ∷ s) = count s
count (true ∷ s) = suc (count s)

none : (h : ℕ → ℕ) (s : List Bool) → count s ≡ 0 → total h s ≡ 0
unfolding count total
none h [] e = refl
none h (false ∷ s) e = none h s e
none h (true ∷ s) e = absurd (omega arith)

-- a weight: a register that is not 0
pub record Weight (x : ℕ) : Type 0 where
  pub bound : x < 0x8000
  pub nonzero : x ≡ 0 → ⊥

-- (a^k + a^l) * x
apart : ℕ → ℕ → ℕ → ℕ
apart l k x = bit_xor (falls small k x) (falls small l x)

apart_weight : (l k x : ℕ) → k < l → l < 32767 → Weight x → Weight (apart l k x)
unfolding apart
apart_weight l k x hk hl v =
    record {
      bound = xor_lt 15 (falls small k x) (falls small l x) (falls_lt k x v.bound) (falls_lt l x v.bound);
      nonzero = λ e. v.nonzero (period (l - k) x (omega arith) (omega arith) v.bound (sym (same e)));
    }
  where
    y : ℕ
    y = falls small (l - k) x

    later : falls small l x ≡ falls small k y
    later =
        ap (λ (n : ℕ). falls small n x) (sym (add-sub_of_le {n = l} {m = k} (omega arith)))
        ∙ falls_add small k (l - k) x ∙ falls_swap small (l - k) k x

    same : bit_xor (falls small k x) (falls small l x) ≡ 0 → x ≡ y
    same e =
        xor_zero x y
        (falls_kernel k (bit_xor x y) (xor_lt 15 x y v.bound (falls_lt (l - k) x v.bound))
        (falls_xor small k x y ∙ ap (bit_xor (falls small k x)) (sym later) ∙ e))

-- a^(m * k) * w k
abbrev pub term : ℕ → (ℕ → ℕ) → ℕ → ℕ
term m w k = falls small (m * k) (w k)

term_suc : (m : ℕ) (w : ℕ → ℕ) (k : ℕ) → term (suc m) w k ≡ falls small k (term m w k)
term_suc m w k = ap (λ (n : ℕ). falls small n (w k)) (suc-mul m k) ∙ falls_add small (m * k) k (w k)

-- the sum with the new weights, by sums with the old ones
term_apart : (m : ℕ) (w : ℕ → ℕ) (l k : ℕ)
    → term m (λ i. apart l i (w i)) k ≡ bit_xor (term (suc m) w k) (falls small l (term m w k))
unfolding apart
term_apart m w l k =
    falls_xor small (m * k) (falls small k (w k)) (falls small l (w k))
    ∙ ap₂ (λ (x y : ℕ). bit_xor x y) (falls_swap small (m * k) k (w k) ∙ sym (term_suc m w k)) (falls_swap small (m * k) l (w k))

taken_away : (m : ℕ) (w : ℕ → ℕ) (s : List Bool)
    → total (term m w) (true ∷ s) ≡ 0 → total (term (suc m) w) (true ∷ s) ≡ 0
    → total (term m (λ k. apart (length s) k (w k))) s ≡ 0
unfolding total
taken_away m w s e e' =
    total_cong _ _ s (term_apart m w l)
    ∙ total_xor (term (suc m) w) (λ k. falls small l (term m w k)) s
    ∙ ap₂ (λ (x y : ℕ). bit_xor x y) (sym (xor_zero (term (suc m) w l) (total (term (suc m) w) s) e') ∙ term_suc m w l)
    (total_map (falls small l) (falls_xor small l) (term m w) s
    ∙ ap (falls small l) (sym (xor_zero (term m w l) (total (term m w) s) e)))
    ∙ xor_self (falls small l (term m w l))
  where
    l : ℕ
    l = length s

alone : (w : ℕ → ℕ) (s : List Bool) → count s ≡ 0 → total (term 0 w) (true ∷ s) ≡ 0 → w (length s) ≡ 0
unfolding total falls
alone w s n e =
    ap (λ (k : ℕ). falls small k (w (length s))) (sym (zero-mul (length s)))
    ∙ xor_zero (term 0 w (length s)) (total (term 0 w) s) e
    ∙ none (term 0 w) s n

-- FEW ONES ARE NONE
pub few_none : (s : List Bool) (c : ℕ) (w : ℕ → ℕ) → length s ≤ 32767 → ((k : ℕ) → k < length s → Weight (w k))
    → ((m : ℕ) → m < c → total (term m w) s ≡ 0) → count s ≤ c → count s ≡ 0
unfolding count total
few_none [] c w long weights zeros few = refl
few_none (false ∷ s) c w long weights zeros few =
    few_none s c w (omega arith) (λ k h. weights k (omega arith)) zeros few
few_none (true ∷ s) zero w long weights zeros few = absurd (omega arith)
few_none (true ∷ s) (suc c) w long weights zeros few =
    let rest : count s ≡ 0 =
    few_none s c (λ k. apart (length s) k (w k)) (omega arith)
    (λ k h. apart_weight (length s) k (w k) h (omega arith) (weights k (omega arith)))
    (λ m h. taken_away m w s (zeros m (omega arith)) (zeros (suc m) (omega arith)))
    (omega arith) in
    absurd ((weights (length s) (omega arith)).nonzero (alone w s rest (zeros 0 (omega arith))))
