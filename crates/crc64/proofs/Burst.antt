-- The statements Burst, StoredBurst and OnePiece. A content and then its checksum take the register to the same one, whatever the content:
-- adding the checksum to the register that it was made from leaves the ones alone. So two of them fall under the law of `Window`, at the
-- width of 64, and one aligned piece of a stored block is such a window. Assumes nothing.
use mathlib.Core.Path.{◌≡◌, sym, ap, ap₂, ◌∙◌, subst}
use mathlib.Core.Logic.{inl, inr}
use mathlib.Core.Bool.{Bool}
use mathlib.Core.List.{List, [], ◌∷◌, ◌++◌, append_assoc, append-nil}
use Prim.Native.Nat.{ℕ, zero, suc, ◌+◌, ◌-◌, ◌*◌, ◌^◌, ◌≤◌, ◌<◌}
use native.Mathlib.Omega.{arith}
use lib.Bits.{bit_xor}
use lib.Dec.{lit<, lit≤}
use lib.ListN.{length, take, drop, length-append, length-take, length-drop, take-append-drop}
use lib.Seq.{get_or-drop, drop-drop}
use Rattle.crc64.specs.Crc64.{bits, bits_of, number, crc_of}
use Rattle.crc64.specs.Damage.{Bytes, Burst, Block, taken, StoredBurst, OnePiece}
use Rattle.crc64.proofs.Digits.{length_bits, number_bits, length_bits_of, bits_of_append, bits_of_inj}
use Rattle.crc64.proofs.Division.{ones64, ones64_lt, poly_lt, register, crc_of_lt}
use Rattle.crc64.proofs.Lists.{first_part, second_part, three_parts, agree_take, agree_drop}
use Rattle.crc64.proofs.Register.{poly, falls, run}
use Rattle.crc64.proofs.RegisterLaws.{pivot, run_append}
use Rattle.crc64.proofs.Window.{window, within}
use Rattle.crc64.proofs.Xor.{xor_undo}

-- the highest bit of poly is set
poly_high : 2 ^ 63 ≤ poly
poly_high = lit≤ tt

-- a content s, and then bits c that have its checksum
pub residue : (s : List ℕ) (c : List Bool) → length c ≡ 64 → number c ≡ crc_of s
    → run poly ones64 (bits_of s ++ c) ≡ falls poly 64 ones64
residue s c l e =
    let r : ℕ = run poly ones64 (bits_of s) in
    run_append poly ones64 (bits_of s) c
    ∙ pivot poly r c
    ∙ ap₂ (falls poly) l (ap (bit_xor r) (e ∙ register s) ∙ xor_undo r ones64)

-- ---- a content and its checksum

checked : (s : List ℕ) → run poly ones64 (bits_of s ++ bits 64 (crc_of s)) ≡ falls poly 64 ones64
checked s = residue s (bits 64 (crc_of s)) (length_bits 64 (crc_of s)) (number_bits 64 (crc_of s) (crc_of_lt s))

pub burst : Burst
burst s t hs ht d =
    let c : List Bool = bits 64 (crc_of s) in
    let k : List Bool = bits 64 (crc_of t) in
    let e : bits_of s ++ c ≡ bits_of t ++ k =
    within 63 poly poly_lt poly_high _ ones64 (bits_of s ++ c) (bits_of t ++ k) ones64_lt (lit≤ tt) d (checked s ∙ sym (checked t)) in
    let l : length (bits_of s) ≡ length (bits_of t) =
    omega (
      arith,
      d.long,
      length-append (bits_of s) c,
      length-append (bits_of t) k,
      length_bits 64 (crc_of s),
      length_bits 64 (crc_of t),
    ) in
    bits_of_inj s t hs ht (first_part (bits_of s) c (bits_of t) k l e)

-- ---- a stored block

bytes_take : (n : ℕ) (s : List ℕ) → Bytes s → Bytes (take n s)
bytes_take zero s h i = lit< tt
bytes_take (suc n) [] h i = lit< tt
bytes_take (suc n) (x ∷ s) h zero = h 0
bytes_take (suc n) (x ∷ s) h (suc i) = bytes_take n s (λ j. h (suc j)) i

bytes_drop : (n : ℕ) (s : List ℕ) → Bytes s → Bytes (drop n s)
bytes_drop n s h i = subst (λ (x : ℕ). x < 256) (sym (get_or-drop n s i 0)) (h (n + i))

length_sum : (s : List ℕ) → Block s → length (bits_of (take 8 s)) ≡ 64
length_sum s b = length_bits_of (take 8 s) ∙ omega (arith, length-take 8 s, b.long)

stored : (s : List ℕ) → Block s → run poly ones64 (taken s) ≡ falls poly 64 ones64
stored s b = residue (drop 8 s) (bits_of (take 8 s)) (length_sum s b) b.right

-- blocks that are taken as the same bits are equal
taken_inj : (s t : List ℕ) → Block s → Block t → taken s ≡ taken t → s ≡ t
taken_inj s t bs bt e =
    let l : length (bits_of (drop 8 s)) ≡ length (bits_of (drop 8 t)) =
    omega (
      arith,
      ap length e,
      length-append (bits_of (drop 8 s)) (bits_of (take 8 s)),
      length-append (bits_of (drop 8 t)) (bits_of (take 8 t)),
      length_sum s bs,
      length_sum t bt,
    ) in
    let front : take 8 s ≡ take 8 t =
    bits_of_inj (take 8 s) (take 8 t) (bytes_take 8 s bs.bytes) (bytes_take 8 t bt.bytes)
    (second_part (bits_of (drop 8 s)) (bits_of (take 8 s)) (bits_of (drop 8 t)) (bits_of (take 8 t)) l e) in
    let rest : drop 8 s ≡ drop 8 t =
    bits_of_inj (drop 8 s) (drop 8 t) (bytes_drop 8 s bs.bytes) (bytes_drop 8 t bt.bytes)
    (first_part (bits_of (drop 8 s)) (bits_of (take 8 s)) (bits_of (drop 8 t)) (bits_of (take 8 t)) l e) in
    sym (take-append-drop 8 s) ∙ ap₂ ◌++◌ front rest ∙ take-append-drop 8 t

pub stored_burst : StoredBurst
stored_burst s t bs bt d =
    taken_inj s t bs bt
    (within 63 poly poly_lt poly_high _ ones64 (taken s) (taken t) ones64_lt (lit≤ tt) d (stored s bs ∙ sym (stored t bt)))

-- ---- one piece of a stored block

-- blocks that differ in up to 64 bits x and y of the same place are equal
replaced : (s t : List ℕ) (a x y b : List Bool) → Block s → Block t → a ++ (x ++ b) ≡ taken s → a ++ (y ++ b) ≡ taken t
    → length x ≡ length y → length x ≤ 64 → s ≡ t
replaced s t a x y b bs bt es et l h =
    let e : x ≡ y =
    window 63 poly poly_lt poly_high ones64 a x y b ones64_lt l h
    (ap (run poly ones64) es ∙ stored s bs ∙ sym (stored t bt) ∙ ap (run poly ones64) (sym et)) in
    taken_inj s t bs bt (sym es ∙ ap (λ (z : List Bool). a ++ (z ++ b)) e ∙ et)

bits_parts : (a x b : List ℕ) (c : List Bool) → bits_of a ++ (bits_of x ++ (bits_of b ++ c)) ≡ bits_of (a ++ (x ++ b)) ++ c
bits_parts a x b c = simp (bits_of_append, append_assoc)

pub one_piece : OnePiece
one_piece s t zero bs bt l f =
    let rest : drop 8 s ≡ drop 8 t = agree_drop 0 s t l 8 (λ i h. f i (inr h)) in
    replaced s t (bits_of (drop 8 s)) (bits_of (take 8 s)) (bits_of (take 8 t)) [] bs bt
    (ap (λ (c : List Bool). bits_of (drop 8 s) ++ c) (append-nil (bits_of (take 8 s))))
    (ap₂ (λ (r : List ℕ) (c : List Bool). bits_of r ++ c) rest (append-nil (bits_of (take 8 t))))
    (length_sum s bs ∙ sym (length_sum t bt))
    (omega (arith, length_sum s bs))
one_piece s t (suc q) bs bt l f =
    let u : List ℕ = drop 8 s in
    let v : List ℕ = drop 8 t in
    let k : ℕ = 8 * q in
    let x : List ℕ = take 8 (drop k u) in
    let y : List ℕ = take 8 (drop k v) in
    let m : length u ≡ length v = length-drop 8 s ∙ ap (λ (n : ℕ). n - 8) l ∙ sym (length-drop 8 t) in
    let sum : take 8 s ≡ take 8 t = agree_take 0 s t l 8 (λ i h. f i (inl (omega arith))) in
    let a : take k u ≡ take k v =
    agree_take 0 u v m k (λ i h. get_or-drop 8 s i 0 ∙ f (8 + i) (inl (omega arith)) ∙ sym (get_or-drop 8 t i 0)) in
    let b : drop 8 (drop k u) ≡ drop 8 (drop k v) =
    drop-drop 8 k u
    ∙ agree_drop 0 u v m (k + 8) (λ i h. get_or-drop 8 s i 0 ∙ f (8 + i) (inr (omega arith)) ∙ sym (get_or-drop 8 t i 0))
    ∙ sym (drop-drop 8 k v) in
    replaced s t (bits_of (take k u)) (bits_of x) (bits_of y) (bits_of (drop 8 (drop k u)) ++ bits_of (take 8 s)) bs bt
    (bits_parts (take k u) x (drop 8 (drop k u)) (bits_of (take 8 s)) ∙ ap (λ (r : List ℕ). bits_of r ++ bits_of (take 8 s)) (three_parts k 8 u))
    (bits_parts (take k u) y (drop 8 (drop k u)) (bits_of (take 8 s))
    ∙ ap₂ (λ (r c : List ℕ). bits_of r ++ bits_of c) (ap₂ (λ (a b : List ℕ). a ++ (y ++ b)) a b ∙ three_parts k 8 v) sum)
    (omega (
      arith,
      length_bits_of x,
      length_bits_of y,
      length-take 8 (drop k u),
      length-take 8 (drop k v),
      length-drop k u,
      length-drop k v,
      m,
    ))
    (omega (arith, length_bits_of x, length-take 8 (drop k u)))
