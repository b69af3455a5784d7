-- Laws of exclusive or on numbers that the kit lacks: it is associative, hence what is added twice is gone; and its parity.
-- Each goes by induction on the binary digits. Assumes nothing.
use mathlib.Core.Path.{◌≡◌, refl, sym, ap, ap₂, ◌∙◌}
use Prim.Native.Nat.{ℕ, zero, suc, ◌+◌, ◌*◌, ◌/◌, ◌%◌, ◌<◌}
use native.Mathlib.Omega.{arith}
use lib.Bits.{bit_xor, xor_step, xor_zero_l, xor_self, xor_comm, differ}
use lib.Arith.{bin_ind, digits_div, digits_mod}

pub below_two : (P : ℕ → Type 0) → P 0 → P 1 → (d : ℕ) → d < 2 → P d
below_two P z o zero h = z
below_two P z o (suc zero) h = o
below_two P z o (suc (suc d)) h = absurd (omega arith)

pub bit_lt : (x : ℕ) → x % 2 < 2
bit_lt x = omega arith

differ_lt : (d e : ℕ) → d < 2 → e < 2 → differ d e < 2
differ_lt d e hd he =
    below_two (λ d. differ d e < 2) he (below_two (λ e. differ 1 e < 2) (omega arith) (omega arith) e he) d hd

differ_assoc : (d e f : ℕ) → d < 2 → e < 2 → f < 2 → differ (differ d e) f ≡ differ d (differ e f)
differ_assoc d e f hd he hf =
    below_two (λ d. differ (differ d e) f ≡ differ d (differ e f)) refl
    (below_two (λ e. differ (differ 1 e) f ≡ differ 1 (differ e f)) refl
    (below_two (λ f. f ≡ differ 1 (differ 1 f)) refl refl f hf) e he) d hd

pub xor_half : (a b : ℕ) → bit_xor a b / 2 ≡ bit_xor (a / 2) (b / 2)
xor_half a b =
    ap (λ (x : ℕ). x / 2) (xor_step a b) ∙ digits_div (bit_xor (a / 2) (b / 2)) (differ_lt (a % 2) (b % 2) (bit_lt a) (bit_lt b))

pub xor_parity : (a b : ℕ) → bit_xor a b % 2 ≡ differ (a % 2) (b % 2)
xor_parity a b =
    ap (λ (x : ℕ). x % 2) (xor_step a b) ∙ digits_mod (bit_xor (a / 2) (b / 2)) (differ_lt (a % 2) (b % 2) (bit_lt a) (bit_lt b))

pub xor_assoc : (a b c : ℕ) → bit_xor (bit_xor a b) c ≡ bit_xor a (bit_xor b c)
xor_assoc =
    bin_ind (λ (a : ℕ). (b c : ℕ) → bit_xor (bit_xor a b) c ≡ bit_xor a (bit_xor b c))
    (λ b c. ap (λ (x : ℕ). bit_xor x c) (xor_zero_l b) ∙ sym (xor_zero_l (bit_xor b c)))
    (λ a ih b c.
    xor_step (bit_xor a b) c
    ∙ ap₂ (λ (x y : ℕ). x * 2 + y)
    (ap (λ (x : ℕ). bit_xor x (c / 2)) (xor_half a b) ∙ ih (b / 2) (c / 2) ∙ ap (bit_xor (a / 2)) (sym (xor_half b c)))
    (ap (λ (x : ℕ). differ x (c % 2)) (xor_parity a b)
    ∙ differ_assoc (a % 2) (b % 2) (c % 2) (bit_lt a) (bit_lt b) (bit_lt c)
    ∙ ap (differ (a % 2)) (sym (xor_parity b c)))
    ∙ sym (xor_step a (bit_xor b c)))

-- what is added twice is gone
pub xor_undo : (a b : ℕ) → bit_xor a (bit_xor a b) ≡ b
xor_undo a b = sym (xor_assoc a a b) ∙ ap (λ (x : ℕ). bit_xor x b) (xor_self a) ∙ xor_zero_l b

pub xor_back : (a b : ℕ) → bit_xor (bit_xor a b) b ≡ a
xor_back a b = xor_comm (bit_xor a b) b ∙ ap (bit_xor b) (xor_comm a b) ∙ xor_undo b a

-- the same number is added to both, so they were equal
pub xor_cancel : (a b c : ℕ) → bit_xor a b ≡ bit_xor a c → b ≡ c
xor_cancel a b c e = sym (xor_undo a b) ∙ ap (bit_xor a) e ∙ xor_undo a c

-- four numbers, the middle two exchanged
pub xor_four : (a b c d : ℕ) → bit_xor (bit_xor a b) (bit_xor c d) ≡ bit_xor (bit_xor a c) (bit_xor b d)
xor_four a b c d =
    xor_assoc a b (bit_xor c d)
    ∙ ap (bit_xor a) (sym (xor_assoc b c d) ∙ ap (λ (x : ℕ). bit_xor x d) (xor_comm b c) ∙ xor_assoc c b d)
    ∙ sym (xor_assoc a c (bit_xor b d))
