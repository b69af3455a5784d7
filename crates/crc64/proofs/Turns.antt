-- What the turns of the code's two loops do. The loop over the bits lets one bit fall in each turn, so after all of them the register is
-- what a byte leads to, by `run_bits`; the loop over the bytes keeps the checksum of the bytes so far in its register, with the ones taken
-- off. Assumes nothing.
use mathlib.Core.Path.{◌≡◌, sym, ap, ap₂, ◌∙◌}
use mathlib.Core.List.{List, [], ◌∷◌, ◌++◌, append_assoc, append-nil}
use Prim.Native.Nat.{ℕ, suc, ◌+◌, ◌-◌, ◌^◌, ◌≤◌, ◌<◌}
use native.Mathlib.Numerals.{add-one}
use native.Mathlib.Omega.{arith}
use lib.Bits.{bit_xor}
use lib.ListN.{length, get_or, take}
use lib.Seq.{take-suc, take_all}
use Rattle.crc64.specs.Crc64.{bits, bits_of, crc_of}
use Rattle.crc64.proofs.Digits.{bits_of_append}
use Rattle.crc64.proofs.Division.{ones64, register_of}
use Rattle.crc64.proofs.Register.{poly, fall, falls, run}
use Rattle.crc64.proofs.RegisterLaws.{run_append, run_bits}
use Rattle.crc64.proofs.Xor.{xor_back}

-- ---- the loop over the bits, i of n so far

pub falls_turn : (p n i x y g : ℕ) → i < n → falls p (n - i) x ≡ g → fall p x ≡ y → falls p (n - (i + 1)) y ≡ g
unfolding falls
falls_turn p n i x y g h e f =
    let k : n - i ≡ suc (n - (i + 1)) = omega arith in
    ap (falls p (n - (i + 1))) (sym f) ∙ ap (λ (m : ℕ). falls p m x) (sym k) ∙ e

pub falls_done : (p n i x g : ℕ) → n ≤ i → falls p (n - i) x ≡ g → x ≡ g
unfolding falls
falls_done p n i x g h e =
    let k : n - i ≡ 0 = omega arith in
    ap (λ (m : ℕ). falls p m x) (sym k) ∙ e

-- ---- the loop over the bytes s, i of them so far, after the bytes t

-- one byte more
pub register_byte : (r b : ℕ) (t : List ℕ) → b < 2 ^ 8 → r ≡ bit_xor (crc_of t) ones64
    → falls poly 8 (bit_xor r b) ≡ bit_xor (crc_of (t ++ b ∷ [])) ones64
unfolding bits_of
register_byte r b t h e =
    sym (run_bits poly r 8 b h)
    ∙ ap₂ (run poly) (e ∙ register_of t) (sym (append-nil (bits 8 b)))
    ∙ sym (run_append poly ones64 (bits_of t) (bits_of (b ∷ [])))
    ∙ ap (run poly ones64) (sym (bits_of_append t (b ∷ [])))
    ∙ sym (register_of (t ++ b ∷ []))

pub bytes_more : (r : ℕ) (s t : List ℕ) (i : ℕ) → i < length s
    → r ≡ bit_xor (crc_of ((t ++ take i s) ++ get_or s i 0 ∷ [])) ones64 → r ≡ bit_xor (crc_of (t ++ take (i + 1) s)) ones64
bytes_more r s t i h e =
    e ∙ ap (λ (u : List ℕ). bit_xor (crc_of u) ones64)
    (append_assoc t (take i s) (get_or s i 0 ∷ []) ∙ ap (λ (u : List ℕ). t ++ u) (sym (take-suc s i 0 h) ∙ ap (λ (k : ℕ). take k s) (sym (add-one i))))

pub bytes_all : (r : ℕ) (s t : List ℕ) (i : ℕ) → length s ≤ i → r ≡ bit_xor (crc_of (t ++ take i s)) ones64
    → bit_xor r ones64 ≡ crc_of (t ++ s)
bytes_all r s t i h e =
    ap (λ (x : ℕ). bit_xor x ones64) e ∙ xor_back (crc_of (t ++ take i s)) ones64 ∙ ap (λ (u : List ℕ). crc_of (t ++ u)) (take_all i s h)
