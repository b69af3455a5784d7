-- Two strings of bits that differ only within as many consecutive bits as the register is wide, and that take a register to the same one,
-- are equal: the equal bits before leave equal registers, the equal bits behind come from equal registers, and between them the bits are a
-- number that is added to the register, so that the numbers are equal. At every width. Assumes nothing.
use mathlib.Core.Path.{◌≡◌, sym, ap, ap₂, ◌∙◌, subst}
use mathlib.Core.Bool.{Bool, true, false}
use mathlib.Core.List.{List, [], ◌∷◌, ◌++◌}
use Prim.Native.Nat.{ℕ, suc, ◌+◌, ◌-◌, ◌^◌, ◌≤◌, ◌<◌, min}
use native.Mathlib.Nat.{lt_of_lt_of_le}
use native.Mathlib.Omega.{arith}
use lib.Bits.{bit_xor, xor_lt, xor_comm}
use lib.ListN.{length, take, drop, length-take, length-drop}
use lib.Pow.{pow_mono, pow-lt}
use lib.Seq.{drop-drop}
use Rattle.crc64.specs.Crc64.{digit, number}
use Rattle.crc64.specs.Damage.{Within}
use Rattle.crc64.proofs.Digits.{number_lt, number_inj}
use Rattle.crc64.proofs.Lists.{three_parts, agree_take, agree_drop}
use Rattle.crc64.proofs.Register.{falls, feed, run}
use Rattle.crc64.proofs.RegisterLaws.{pivot, run_append, feed_lt, run_lt, fall_inj, falls_inj}
use Rattle.crc64.proofs.Xor.{xor_cancel}

digit_lt : (w : ℕ) (b : Bool) → digit b < 2 ^ suc w
digit_lt w false = pow_mono {i = 0} {j = suc w} (omega arith)
digit_lt w true = pow-lt {i = 0} {j = suc w} (omega arith)

module _ (w p : ℕ) (low : p < 2 ^ suc w) (high : 2 ^ w ≤ p) where
  feed_inj : (q r : ℕ) (b : Bool) → q < 2 ^ suc w → r < 2 ^ suc w → feed p q b ≡ feed p r b → q ≡ r
  unfolding feed
  feed_inj q r b hq hr e =
      let f : bit_xor q (digit b) ≡ bit_xor r (digit b) =
      fall_inj w p low high (bit_xor q (digit b)) (bit_xor r (digit b)) (xor_lt (suc w) q (digit b) hq (digit_lt w b))
      (xor_lt (suc w) r (digit b) hr (digit_lt w b)) e in
      xor_cancel (digit b) q r (xor_comm (digit b) q ∙ f ∙ xor_comm r (digit b))

  -- the same bits take no two registers to the same one
  run_inj : (s : List Bool) (q r : ℕ) → q < 2 ^ suc w → r < 2 ^ suc w → run p q s ≡ run p r s → q ≡ r
  unfolding run
  run_inj [] q r hq hr e = e
  run_inj (b ∷ s) q r hq hr e =
      feed_inj q r b hq hr (run_inj s (feed p q b) (feed p r b) (feed_lt w p low q b hq) (feed_lt w p low r b hr) e)

  -- and no two strings of the register's width take a register to the same one
  few_inj : (r : ℕ) (x y : List Bool) → r < 2 ^ suc w → length x ≡ length y → length x ≤ suc w → run p r x ≡ run p r y → x ≡ y
  few_inj r x y hr l h e =
      number_inj x y l
      (xor_cancel r (number x) (number y)
      (falls_inj w p low high (length x) (bit_xor r (number x)) (bit_xor r (number y))
      (xor_lt (suc w) r (number x) hr (lt_of_lt_of_le (number_lt x) (pow_mono h)))
      (xor_lt (suc w) r (number y) hr (lt_of_lt_of_le (number_lt y) (pow_mono (subst (λ (n : ℕ). n ≤ suc w) l h))))
      (sym (pivot p r x) ∙ e ∙ pivot p r y ∙ ap (λ (n : ℕ). falls p n (bit_xor r (number y))) (sym l))))

  run_parts : (r : ℕ) (a x b : List Bool) → run p r (a ++ (x ++ b)) ≡ run p (run p (run p r a) x) b
  run_parts r a x b = run_append p r a (x ++ b) ∙ run_append p (run p r a) x b

  pub window : (r : ℕ) (a x y b : List Bool) → r < 2 ^ suc w → length x ≡ length y → length x ≤ suc w
      → run p r (a ++ (x ++ b)) ≡ run p r (a ++ (y ++ b)) → x ≡ y
  window r a x y b hr l h e =
      let ha : run p r a < 2 ^ suc w = run_lt w p low r a hr in
      few_inj (run p r a) x y ha l h
      (run_inj b (run p (run p r a) x) (run p (run p r a) y) (run_lt w p low (run p r a) x ha) (run_lt w p low (run p r a) y ha)
      (sym (run_parts r a x b) ∙ e ∙ run_parts r a y b))

  pub within : (n r : ℕ) (s t : List Bool) → r < 2 ^ suc w → n ≤ suc w → Within n s t → run p r s ≡ run p r t → s ≡ t
  within n r s t hr h d e =
      let i : ℕ = d.start in
      let x : List Bool = take n (drop i s) in
      let y : List Bool = take n (drop i t) in
      let a : take i s ≡ take i t = agree_take false s t d.long i d.before in
      let b : drop n (drop i s) ≡ drop n (drop i t) =
      drop-drop n i s ∙ agree_drop false s t d.long (i + n) d.behind ∙ sym (drop-drop n i t) in
      let t' : take i s ++ (y ++ drop n (drop i s)) ≡ t =
      ap₂ (λ (a b : List Bool). a ++ (y ++ b)) a b ∙ three_parts i n t in
      let l : length x ≡ length y =
      length-take n (drop i s)
      ∙ ap (min n) (length-drop i s ∙ ap (λ (m : ℕ). m - i) d.long ∙ sym (length-drop i t))
      ∙ sym (length-take n (drop i t)) in
      let k : length x ≤ suc w = omega (arith, length-take n (drop i s)) in
      let same : x ≡ y =
      window r (take i s) x y (drop n (drop i s)) hr l k
      (ap (run p r) (three_parts i n s) ∙ e ∙ ap (run p r) (sym t')) in
      sym (three_parts i n s) ∙ ap (λ (z : List Bool). take i s ++ (z ++ drop n (drop i s))) same ∙ t'
