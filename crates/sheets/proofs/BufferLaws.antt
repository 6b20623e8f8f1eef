-- A buffer whose first elements are overwritten keeps its length, and what lies beyond is untouched; no other buffer is
-- so. Of two such writings of one length the later stands. A part that goes to the end is all that is left.
-- Assumes nothing.
use mathlib.Core.Path.{◌≡◌, sym, ◌∙◌, ap, ap₂, subst}
use mathlib.Core.List.{List, ◌++◌}
use Prim.Native.Nat.{ℕ, ◌+◌, ◌-◌, ◌≤◌}
use native.Mathlib.Omega.{arith}
use lib.ListN.{length, get_or, take, drop, length-append, length-drop, take-append-drop}
use lib.Seq.{get_or-append-add, get_or-drop, take_all, ext_get_or, drop_at}
use Rattle.terms.specs.Buffers.{over}

module _ (xs buffer : List ℕ) where
  pub over_length : length xs ≤ length buffer → length (over xs buffer) ≡ length buffer
  over_length h = omega (arith, length-append xs (drop (length xs) buffer), length-drop (length xs) buffer)

  pub over_beyond : (i : ℕ) → length xs ≤ i → get_or (over xs buffer) i 0 ≡ get_or buffer i 0
  over_beyond i h =
      let e : i ≡ length xs + (i - length xs) = omega arith in
      subst (λ m. get_or (over xs buffer) m 0 ≡ get_or buffer m 0) (sym e)
      (get_or-append-add xs (drop (length xs) buffer) (i - length xs) 0 ∙ get_or-drop (length xs) buffer (i - length xs) 0)

  pub over_only : (after : List ℕ) (n : ℕ) → length xs ≡ n → take n after ≡ xs → length after ≡ length buffer
      → ((i : ℕ) → n ≤ i → get_or after i 0 ≡ get_or buffer i 0) → after ≡ over xs buffer
  over_only after n size head long beyond =
      sym (take-append-drop n after) ∙ ap₂ ◌++◌ head (rest ∙ ap (λ m. drop m buffer) (sym size))
    where
      rest : drop n after ≡ drop n buffer
      rest =
          ext_get_or 0 (drop n after) (drop n buffer)
          (length-drop n after ∙ ap (λ m. m - n) long ∙ sym (length-drop n buffer))
          (λ i h. get_or-drop n after i 0 ∙ beyond (n + i) (omega arith) ∙ sym (get_or-drop n buffer i 0))

pub over_again : (xs ys buffer : List ℕ) → length ys ≡ length xs → over xs (over ys buffer) ≡ over xs buffer
over_again xs ys buffer e =
    ap (λ l. xs ++ l) (drop_at ys (drop (length ys) buffer) (length xs) e ∙ ap (λ n. drop n buffer) e)

pub part_to_end : (xs : List ℕ) (a : ℕ) → take (length xs - a) (drop a xs) ≡ drop a xs
part_to_end xs a = take_all (length xs - a) (drop a xs) (omega (arith, length-drop a xs))
