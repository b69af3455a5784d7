-- The shift register computes the remainder of the long division. A register of the width of p holds what was added so far to the next
-- coefficients: a step of the division drops the first of them and adds p to the rest if it is 1, which is what the register does.
-- The law holds at every width; `register` is the law of the checksum. Assumes nothing.
use mathlib.Core.Path.{◌≡◌, refl, sym, ap, ap₂, ◌∙◌, subst}
use mathlib.Core.Bool.{Bool, true, false}
use mathlib.Core.List.{List, [], ◌∷◌, ◌++◌}
use Prim.Native.Nat.{ℕ, zero, suc, ◌-◌, ◌/◌, ◌^◌, ◌<◌}
use native.Mathlib.Omega.{arith}
use lib.Arith.{lt-one}
use lib.Bits.{bit_xor, xor_lt, xor_comm, xor_zero_r}
use lib.Dec.{lit<}
use lib.ListN.{length, replicate, length-append, length-replicate}
use Rattle.crc64.specs.Crc64.{bits, bits_of, number, xor, onto, divide, remainder, generator, ones, zeros, crc_of}
use Rattle.crc64.proofs.Digits.{odd, odd_xor, xor_bits_assoc, half_lt, length_bits, number_bits}
use Rattle.crc64.proofs.Register.{poly, only, feed, run}
use Rattle.crc64.proofs.RegisterLaws.{feed_step, feed_lt, run_lt}
use Rattle.crc64.proofs.Xor.{xor_back, xor_half}

-- ---- adding to the first coefficients

pub length_onto : (g s : List Bool) → length (onto g s) ≡ length s
unfolding onto
length_onto [] s = refl
length_onto (c ∷ g) [] = refl
length_onto (c ∷ g) (b ∷ s) = ap suc (length_onto g s)

onto_zero : (w : ℕ) (s : List Bool) → onto (bits w 0) s ≡ s
unfolding onto bits
onto_zero zero s = refl
onto_zero (suc w) [] = refl
onto_zero (suc w) (b ∷ s) = ap (λ (r : List Bool). b ∷ r) (onto_zero w s)

onto_cons : (v r : ℕ) (b : Bool) (s : List Bool) → onto (bits (suc v) r) (b ∷ s) ≡ xor (odd r) b ∷ onto (bits v (r / 2)) s
unfolding onto bits
onto_cons v r b s = refl

onto_onto : (v a b : ℕ) (s : List Bool) → b < 2 ^ v
    → onto (bits (suc v) a) (onto (bits v b) s) ≡ onto (bits (suc v) (bit_xor a b)) s
unfolding onto bits
onto_onto zero a b s h =
    ap (λ (x : ℕ). onto (bits 1 x) s) (sym (xor_zero_r a) ∙ ap (bit_xor a) (sym (lt-one h)))
onto_onto (suc v) a b [] h = refl
onto_onto (suc v) a b (d ∷ s) h =
    ap₂ (λ (c : Bool) (r : List Bool). c ∷ r)
    (xor_bits_assoc (odd a) (odd b) d ∙ ap (λ (c : Bool). xor c d) (sym (odd_xor a b)))
    (onto_onto v (a / 2) (b / 2) s (half_lt v b h) ∙ ap (λ (x : ℕ). onto (bits (suc v) x) s) (sym (xor_half a b)))

onto_bits : (w a b : ℕ) → onto (bits w a) (bits w b) ≡ bits w (bit_xor a b)
unfolding onto bits
onto_bits zero a b = refl
onto_bits (suc w) a b =
    ap₂ (λ (c : Bool) (r : List Bool). c ∷ r) (sym (odd_xor a b))
    (onto_bits w (a / 2) (b / 2) ∙ ap (bits w) (sym (xor_half a b)))

zeros_bits : (w : ℕ) → replicate w false ≡ bits w 0
unfolding bits
zeros_bits zero = refl
zeros_bits (suc w) = ap (λ (r : List Bool). false ∷ r) (zeros_bits w)

-- ---- the division

module _ (v p : ℕ) (low : p < 2 ^ suc v) where
  divide_step : (n : ℕ) (c : Bool) (s : List Bool)
      → divide (suc n) (bits (suc v) p) (c ∷ s) ≡ divide n (bits (suc v) p) (onto (bits (suc v) (only c p)) s)
  unfolding divide
  divide_step n false s = ap (divide n (bits (suc v) p)) (sym (onto_zero (suc v) s))
  divide_step n true s = refl

  divide_run : (m : List Bool) (r : ℕ) → r < 2 ^ suc v
      → divide (length m) (bits (suc v) p) (onto (bits (suc v) r) (m ++ replicate (suc v) false)) ≡ bits (suc v) (run p r m)
  unfolding divide run
  divide_run [] r h =
      ap (onto (bits (suc v) r)) (zeros_bits (suc v)) ∙ onto_bits (suc v) r 0 ∙ ap (bits (suc v)) (xor_zero_r r)
  divide_run (b ∷ m) r h =
      let s : List Bool = m ++ replicate (suc v) false in
      ap (divide (suc (length m)) (bits (suc v) p)) (onto_cons v r b s)
      ∙ divide_step (length m) (xor (odd r) b) (onto (bits v (r / 2)) s)
      ∙ ap (divide (length m) (bits (suc v) p))
      (onto_onto v (only (xor (odd r) b) p) (r / 2) s (half_lt v r h)
      ∙ ap (λ (x : ℕ). onto (bits (suc v) x) s) (xor_comm (only (xor (odd r) b) p) (r / 2) ∙ sym (feed_step p r b)))
      ∙ divide_run m (feed p r b) (feed_lt v p low r b h)

  length_left : (m : List Bool) (r : ℕ)
      → length (onto (bits (suc v) r) (m ++ replicate (suc v) false)) - length (bits (suc v) p) ≡ length m
  length_left m r =
      let s : List Bool = m ++ replicate (suc v) false in
      omega (
        arith,
        length_onto (bits (suc v) r) s,
        length-append m (replicate (suc v) false),
        length-replicate (suc v) false,
        length_bits (suc v) p,
      )

  -- the remainder of the bits m times x ^ suc v, with r added before and after, is the register
  remainder_run : (m : List Bool) (r : ℕ) → r < 2 ^ suc v
      → number (onto (bits (suc v) r) (remainder (bits (suc v) p) (onto (bits (suc v) r) (m ++ replicate (suc v) false))))
      ≡ bit_xor (run p r m) r
  unfolding remainder
  remainder_run m r h =
      let s : List Bool = onto (bits (suc v) r) (m ++ replicate (suc v) false) in
      ap (λ (t : List Bool). number (onto (bits (suc v) r) t))
      (ap (λ (n : ℕ). divide n (bits (suc v) p) s) (length_left m r) ∙ divide_run m r h)
      ∙ ap number (onto_bits (suc v) r (run p r m))
      ∙ number_bits (suc v) (bit_xor r (run p r m)) (xor_lt (suc v) r (run p r m) h (run_lt v p low r m h))
      ∙ xor_comm r (run p r m)

-- ---- the checksum

-- 64 ones
abbrev pub ones64 : ℕ
ones64 = 0xffff_ffff_ffff_ffff

pub ones64_lt : ones64 < 2 ^ 64
ones64_lt = lit< tt

pub poly_lt : poly < 2 ^ 64
poly_lt = lit< tt

-- the polynomial of the catalogue, highest bit first, is poly, lowest bit first
generator_bits : generator ≡ bits 64 poly
unfolding generator bits
generator_bits = refl

ones_bits : ones ≡ bits 64 ones64
unfolding bits
ones_bits = refl

pub register : (s : List ℕ) → crc_of s ≡ bit_xor (run poly ones64 (bits_of s)) ones64
unfolding crc_of
register s =
    ap₂ (λ (o g : List Bool). number (onto o (remainder g (onto o (bits_of s ++ zeros))))) ones_bits generator_bits
    ∙ remainder_run 63 poly poly_lt (bits_of s) ones64 ones64_lt

-- without the ones
pub register_alone : (m : List Bool) → number (remainder generator (m ++ zeros)) ≡ run poly 0 m
register_alone m =
    sym (ap (λ (s : List Bool). number s) (onto_zero 64 (remainder generator (m ++ zeros))))
    ∙ ap₂ (λ (s g : List Bool). number (onto (bits 64 0) (remainder g s))) (sym (onto_zero 64 (m ++ zeros))) generator_bits
    ∙ remainder_run 63 poly poly_lt m 0 (lit< tt)
    ∙ xor_zero_r (run poly 0 m)

-- the register that led to a checksum
pub register_of : (s : List ℕ) → bit_xor (crc_of s) ones64 ≡ run poly ones64 (bits_of s)
register_of s =
    ap (λ (x : ℕ). bit_xor x ones64) (register s) ∙ xor_back (run poly ones64 (bits_of s)) ones64

pub crc_of_lt : (s : List ℕ) → crc_of s < 2 ^ 64
crc_of_lt s =
    subst (λ (x : ℕ). x < 2 ^ 64) (sym (register s))
    (xor_lt 64 (run poly ones64 (bits_of s)) ones64 (run_lt 63 poly poly_lt ones64 (bits_of s) ones64_lt) ones64_lt)
