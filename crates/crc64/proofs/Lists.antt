-- Parts of lists: a list in three parts; the parts of two equal lists; and the parts at which two lists agree, index by index.
-- Each follows from the kit's laws of take and drop. Assumes nothing.
use mathlib.Core.Path.{◌≡◌, refl, sym, ap, ◌∙◌}
use mathlib.Core.List.{List, ◌++◌}
use Prim.Native.Nat.{ℕ, ◌+◌, ◌-◌, ◌≤◌, ◌<◌, min}
use native.Mathlib.Omega.{arith}
use lib.ListN.{length, get_or, take, drop, take-append-drop, length-take, length-drop}
use lib.Seq.{take_at, drop_at, get_or-take, get_or-drop, ext_get_or}

module _ {A : Type 0} where
  pub three_parts : (i n : ℕ) (l : List A) → take i l ++ (take n (drop i l) ++ drop n (drop i l)) ≡ l
  three_parts i n l = ap (λ (r : List A). take i l ++ r) (take-append-drop n (drop i l)) ∙ take-append-drop i l

  pub first_part : (a b c d : List A) → length a ≡ length c → a ++ b ≡ c ++ d → a ≡ c
  first_part a b c d l e = sym (take_at a b (length c) l) ∙ ap (take (length c)) e ∙ take_at c d (length c) refl

  pub second_part : (a b c d : List A) → length a ≡ length c → a ++ b ≡ c ++ d → b ≡ d
  second_part a b c d l e = sym (drop_at a b (length c) l) ∙ ap (drop (length c)) e ∙ drop_at c d (length c) refl

  -- the other way: where the parts are equal, so is what stands there
  pub take_agree : (d : A) (s t : List A) (n : ℕ) → take n s ≡ take n t → (i : ℕ) → i < n → get_or s i d ≡ get_or t i d
  take_agree d s t n e i h =
      sym (get_or-take n s i d h) ∙ ap (λ (l : List A). get_or l i d) e ∙ get_or-take n t i d h

  pub drop_agree : (d : A) (s t : List A) (n : ℕ) → drop n s ≡ drop n t → (i : ℕ) → n ≤ i → get_or s i d ≡ get_or t i d
  drop_agree d s t n e i h =
      let k : n + (i - n) ≡ i = omega arith in
      ap (λ (j : ℕ). get_or s j d) (sym k)
      ∙ sym (get_or-drop n s (i - n) d)
      ∙ ap (λ (l : List A). get_or l (i - n) d) e
      ∙ get_or-drop n t (i - n) d
      ∙ ap (λ (j : ℕ). get_or t j d) k

  module _ (d : A) (s t : List A) (long : length s ≡ length t) where
    pub agree_take : (n : ℕ) → ((i : ℕ) → i < n → get_or s i d ≡ get_or t i d) → take n s ≡ take n t
    agree_take n f =
        ext_get_or d (take n s) (take n t) (length-take n s ∙ ap (min n) long ∙ sym (length-take n t))
        (λ i h.
        let k : i < n = omega (arith, length-take n s) in
        get_or-take n s i d k ∙ f i k ∙ sym (get_or-take n t i d k))

    pub agree_drop : (n : ℕ) → ((i : ℕ) → n ≤ i → get_or s i d ≡ get_or t i d) → drop n s ≡ drop n t
    agree_drop n f =
        ext_get_or d (drop n s) (drop n t) (length-drop n s ∙ ap (λ (m : ℕ). m - n) long ∙ sym (length-drop n t))
        (λ i h. get_or-drop n s i d ∙ f (n + i) (omega arith) ∙ sym (get_or-drop n t i d))
