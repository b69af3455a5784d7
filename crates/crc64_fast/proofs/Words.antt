-- Words and bytes: eight bytes, the lowest first, have the bits of their word; so a word that is added to the register and passed takes the
-- checksum past its eight bytes. The laws go by induction on the bytes or the bits. Assumes nothing.
use mathlib.Core.Path.{◌≡◌, refl, sym, ap, ap₂, ◌∙◌, subst}
use mathlib.Core.Bool.{Bool}
use mathlib.Core.List.{List, [], ◌∷◌, ◌++◌, append_assoc, append-nil}
use Prim.Native.Nat.{ℕ, zero, suc, ◌+◌, ◌-◌, ◌*◌, ◌/◌, ◌%◌, ◌^◌, ◌≤◌, ◌<◌}
use native.Mathlib.Nat.{div-div-eq-div-mul}
use native.Mathlib.Numerals.{add-one}
use native.Mathlib.Omega.{arith}
use lib.Bits.{bit_xor, xor_lt, xor_zero_r}
use lib.ListN.{length, get_or, take, drop, length-drop, take-append-drop}
use lib.Seq.{take-suc, take_all}
use Rattle.std.specs.Int.{w64, from_le_bytes}
use Rattle.std.specs.List.{concat}
use Rattle.std.specs.Simd.{first_chunks}
use Rattle.std.proofs.lemmas.List.Folds.{concat-append}
use Rattle.std.proofs.lemmas.Nat.{le_bytes_8}
use Rattle.std.proofs.lemmas.Grind.{common_steps}
use Rattle.std.proofs.lemmas.List.{drop-drop, get_or-drop, length-take-le}
use Rattle.device.specs.Word.{low}
use Rattle.device.proofs.Stores.{chunk_at}
use Rattle.crc64.specs.Crc64.{bits, bits_of, crc_of}
use Rattle.crc64.proofs.Digits.{bits_of_append}
use Rattle.crc64.proofs.Division.{ones64, ones64_lt, register_of, crc_of_lt}
use Rattle.crc64.proofs.Register.{poly, run}
use Rattle.crc64.proofs.RegisterLaws.{run_append, run_bits}
use Rattle.crc64.proofs.Xor.{xor_assoc, xor_back}
use Rattle.crc64_tables.specs.Leaves.{leaves}
use Rattle.crc64_tables.proofs.Tables.{bits_same, leaves_falls, leaves_none, parts}

-- ---- the bits of a word

pub bits_low : (n x : ℕ) → bits (n * 8) x ≡ bits_of (low n x)
unfolding bits bits_of low
bits_low zero x =
    let e : zero * 8 ≡ 0 = omega arith in
    ap (λ (k : ℕ). bits k x) e
bits_low (suc n) x =
    let e : suc n * 8 ≡ suc (suc (suc (suc (suc (suc (suc (suc (n * 8)))))))) = omega arith in
    let f : x / 2 / 2 / 2 / 2 / 2 / 2 / 2 / 2 ≡ x / 256 = omega arith in
    let g : x % 256 ≡ x % 256 % 256 = omega arith in
    ap (λ (k : ℕ). bits k x) e
    ∙ ap₂ (λ (a b : List Bool). a ++ b) (bits_same 8 x (x % 256) g) (ap (bits (n * 8)) f ∙ bits_low n (x / 256))

-- ---- a word from its parts of six bits, i of them so far; r are the others

pub pass_part : (i s r y g : ℕ) → y ≡ leaves (64 - 6 * i) (r % 64) → bit_xor s (leaves (64 - 6 * i) r) ≡ g
    → bit_xor (bit_xor s y) (leaves (64 - 6 * (i + 1)) (r / 64)) ≡ g
pass_part i s r y g e f =
    let n : 64 - 6 * (i + 1) ≡ 64 - 6 * i - 6 = omega arith in
    xor_assoc s y (leaves (64 - 6 * (i + 1)) (r / 64))
    ∙ ap (bit_xor s) (ap₂ bit_xor e (ap (λ (k : ℕ). leaves k (r / 64)) n) ∙ sym (parts 6 (64 - 6 * i) r))
    ∙ f

pub pass_all : (i s r g : ℕ) → 11 ≤ i → bit_xor s (leaves (64 - 6 * i) r) ≡ g → s ≡ g
pass_all i s r g h f =
    let n : 64 - 6 * i ≡ 0 = omega arith in
    sym (xor_zero_r s) ∙ ap (bit_xor s) (sym (leaves_none r) ∙ ap (λ (k : ℕ). leaves k r) (sym n)) ∙ f

-- ---- a word more

pub word_more : (r w : ℕ) (t : List ℕ) → w < 2 ^ 64 → r ≡ bit_xor (crc_of t) ones64
    → leaves 64 (bit_xor r w) ≡ bit_xor (crc_of (t ++ low 8 w)) ones64
word_more r w t h e =
    let hr : r < 2 ^ 64 = subst (λ (x : ℕ). x < 2 ^ 64) (sym e) (xor_lt 64 (crc_of t) ones64 (crc_of_lt t) ones64_lt) in
    leaves_falls 64 (bit_xor r w) (xor_lt 64 r w hr h)
    ∙ sym (run_bits poly r 64 w h)
    ∙ ap₂ (run poly) (e ∙ register_of t) (bits_low 8 w)
    ∙ sym (run_append poly ones64 (bits_of t) (bits_of (low 8 w)))
    ∙ ap (run poly ones64) (sym (bits_of_append t (low 8 w)))
    ∙ sym (register_of (t ++ low 8 w))

-- ---- the loops over words, the bytes of which are the lists of ws: i of them so far, after the bytes t

pub words_more : (r w x i : ℕ) (ws : List (List ℕ)) (t : List ℕ) → i < length ws → w < 2 ^ 64 → low 8 w ≡ get_or ws i []
    → x ≡ leaves 64 (bit_xor r w) → r ≡ bit_xor (crc_of (t ++ concat (take i ws))) ones64
    → x ≡ bit_xor (crc_of (t ++ concat (take (i + 1) ws))) ones64
words_more r w x i ws t l h b ex e =
    ex ∙ word_more r w (t ++ concat (take i ws)) h e
    ∙ ap (λ (u : List ℕ). bit_xor (crc_of u) ones64)
    (append_assoc t (concat (take i ws)) (low 8 w)
    ∙ ap (λ (u : List ℕ). t ++ u)
    (ap (λ (u : List ℕ). concat (take i ws) ++ u) (b ∙ sym (append-nil (get_or ws i [])))
    ∙ sym (concat-append (take i ws) (get_or ws i [] ∷ []))
    ∙ ap concat (sym (take-suc ws i [] l) ∙ ap (λ (k : ℕ). take k ws) (sym (add-one i)))))

-- ---- a word from eight bytes

word_low : (bs : List ℕ) (w : ℕ) → length bs ≡ 8 → ((i : ℕ) → get_or bs i 0 < 256) → w ≡ from_le_bytes w64 bs → low 8 w ≡ bs
unfolding low
word_low bs w l h e = simp div-div-eq-div-mul (le_bytes_8 bs w l h e)

-- ---- the words of a list, and the rest

chunks : (k : ℕ) (s : List ℕ) → concat (first_chunks 8 k s) ++ drop (k * 8) s ≡ s
chunks zero s = refl
chunks (suc k) s =
    let e : suc k * 8 ≡ 8 + k * 8 = omega arith in
    append_assoc (take 8 s) (concat (first_chunks 8 k (drop 8 s))) (drop (suc k * 8) s)
    ∙ ap (λ (u : List ℕ). take 8 s ++ u)
    (ap (λ (j : ℕ). concat (first_chunks 8 k (drop 8 s)) ++ drop j s) e
    ∙ ap (λ (u : List ℕ). concat (first_chunks 8 k (drop 8 s)) ++ u) (sym (drop-drop (k * 8) 8 s))
    ∙ chunks k (drop 8 s))
    ∙ take-append-drop 8 s

small_take : (n j : ℕ) (s : List ℕ) → ((i : ℕ) → get_or s i 0 < 256) → get_or (take n s) j 0 < 256
small_take n j s h = grind (arith, common_steps)

pub chunk_low : (s : List ℕ) (ws : List (List ℕ)) (i w : ℕ) → ws ≡ first_chunks 8 (length s / 8) s → i < length s / 8
    → ((j : ℕ) → get_or s j 0 < 256) → w ≡ from_le_bytes w64 (get_or ws i []) → low 8 w ≡ get_or ws i []
chunk_low s ws i w e h small f =
    let at : get_or ws i [] ≡ take 8 (drop (i * 8) s) =
    let m : 8 * i ≡ i * 8 = omega arith in
    ap (λ (v : List (List ℕ)). get_or v i []) e ∙ rw m at (chunk_at 8 (length s / 8) s i [] h) in
    word_low (get_or ws i []) w
    (ap length at ∙ length-take-le 8 (drop (i * 8) s) (omega (arith, length-drop (i * 8) s)))
    (rw at (λ j. small_take 8 j (drop (i * 8) s) (λ m. rw get_or-drop (small (i * 8 + m)))))
    f

pub words_rest : (r x : ℕ) (s rest : List ℕ) (ws : List (List ℕ)) (i : ℕ) (t : List ℕ) → ws ≡ first_chunks 8 (length s / 8) s
    → rest ≡ drop (length s / 8 * 8) s → length ws ≤ i → r ≡ bit_xor (crc_of (t ++ concat (take i ws))) ones64
    → ((u : List ℕ) → bit_xor r ones64 ≡ crc_of u → x ≡ crc_of (u ++ rest)) → x ≡ crc_of (t ++ s)
words_rest r x s rest ws i t ews er h f g =
    let all : take i ws ≡ ws = take_all i ws h in
    let done : r ≡ bit_xor (crc_of (t ++ concat ws)) ones64 = subst (λ (v : List (List ℕ)). r ≡ bit_xor (crc_of (t ++ concat v)) ones64) all f in
    g (t ++ concat ws) (ap (λ (y : ℕ). bit_xor y ones64) done ∙ xor_back (crc_of (t ++ concat ws)) ones64)
    ∙ ap crc_of (append_assoc t (concat ws) rest
    ∙ ap (λ (u : List ℕ). t ++ u)
    (ap₂ (λ (v : List (List ℕ)) (u : List ℕ). concat v ++ u) ews er ∙ chunks (length s / 8) s))
