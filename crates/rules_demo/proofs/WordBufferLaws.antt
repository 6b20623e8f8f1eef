-- Words put into a buffer: none, one, and some behind others.
-- Assumes nothing.
use mathlib.Core.Path.{◌≡◌, refl, sym, ◌∙◌, ap}
use mathlib.Core.List.{List, [], ◌∷◌, ◌++◌, append_assoc, append-nil}
use Prim.Native.Nat.{ℕ, zero, suc, ◌+◌, ◌-◌, ◌*◌, ◌/◌, ◌%◌, ◌≤◌, ◌<◌}
use native.Mathlib.Numerals.{add-one}
use native.Mathlib.Omega.{arith}
use lib.ListN.{length, take, drop, set, length-append, length-set}
use lib.Seq.{drop-drop, length-take-le, take_at, drop_at, take-nil, sets-eq}
use Rattle.rules_demo.specs.WordBuffer.{bytes_of, fitting, WordsPut}

bytes_append : (a b : List ℕ) → bytes_of (a ++ b) ≡ bytes_of a ++ bytes_of b
unfolding bytes_of
bytes_append [] b = refl
bytes_append (word ∷ a) b = ap (λ l. word % 256 ∷ word / 256 % 256 ∷ l) (bytes_append a b)

-- the first n elements of two lists, one behind the other
take-append : (n : ℕ) (a b : List ℕ) → take n (a ++ b) ≡ take n a ++ take (n - length (take n a)) b
take-append zero a b = refl
take-append (suc n) [] b = ap (λ m. take m b) all
  where
    all : suc n ≡ suc n - 0
    all = omega arith
take-append (suc n) (x ∷ a) b = ap (λ l. x ∷ l) (take-append n a b ∙ ap (λ m. take n a ++ take m b) less)
  where
    less : n - length (take n a) ≡ suc n - suc (length (take n a))
    less = omega arith

module _ (out : List ℕ) (count : ℕ) (within : 2 * count ≤ length out) where
  nothing : (words : List ℕ) → fitting out count words ≡ [] → WordsPut out count words out count
  unfolding bytes_of
  nothing words none = record {
    count = rw none (omega arith);
    room = within;
    whole = refl;
    text = rw none (sym (append-nil (take (2 * count) out)));
    rest = refl;
  }

  pub none_put : WordsPut out count [] out count
  none_put = nothing [] (take-nil (length out / 2 - count))

  -- no room for a word
  pub full : (words : List ℕ) → length out - 2 * count < 2 → WordsPut out count words out count
  full words short = nothing words (ap (λ n. take n words) none)
    where
      none : length out / 2 - count ≡ 0
      none = omega arith

  pub one_put : (word : ℕ) → 2 ≤ length out - 2 * count → WordsPut out count (word ∷ [])
      (set (set out (2 * count) (word % 256)) (2 * count + 1) (word / 256 % 256)) (count + 1)
  unfolding bytes_of
  one_put word space = record {
    count = rw fits (omega arith);
    room = simp length-set (omega arith);
    whole = simp length-set;
    text = rw (stored, fits) (take_at head tail (2 * (count + 1)) long);
    rest = rw stored (drop_at head tail (2 * (count + 1)) long ∙ ap (λ n. drop n out) (sym next));
  }
    where
      head : List ℕ
      head = take (2 * count) out ++ (word % 256 ∷ word / 256 % 256 ∷ [])

      tail : List ℕ
      tail = drop (2 * count + 2) out

      next : 2 * (count + 1) ≡ 2 * count + 2
      next = omega arith

      fits : fitting out count (word ∷ []) ≡ word ∷ []
      fits = some (length out / 2 - count) (omega arith)
        where
          some : (n : ℕ) → 0 < n → take n (word ∷ []) ≡ word ∷ []
          some zero h = absurd (omega arith)
          some (suc n) h = ap (λ l. word ∷ l) (take-nil n)

      stored : set (set out (2 * count) (word % 256)) (2 * count + 1) (word / 256 % 256) ≡ head ++ tail
      stored = rw add-one (sets-eq (word % 256 ∷ word / 256 % 256 ∷ []) out (2 * count) (omega arith))

      long : length head ≡ 2 * (count + 1)
      long =
          length-append (take (2 * count) out) (word % 256 ∷ word / 256 % 256 ∷ [])
          ∙ ap (λ n. n + 2) (length-take-le (2 * count) out within) ∙ sym next

-- words put behind others are put with them
pub joined : {a b c x y : List ℕ} {first mid all : ℕ} → WordsPut a first x b mid → WordsPut b mid y c all
    → WordsPut a first (x ++ y) c all
joined {a} {b} {c} {x} {y} {first} {mid} {all} p q = record {
  count = rw both (omega (arith, p.count, q.count, length-append (fitting a first x) (fitting b mid y)));
  room = q.room;
  whole = q.whole ∙ p.whole;
  text = q.text ∙ ap (λ l. l ++ bytes_of (fitting b mid y)) p.text
      ∙ append_assoc (take (2 * first) a) (bytes_of (fitting a first x)) (bytes_of (fitting b mid y))
      ∙ ap (λ l. take (2 * first) a ++ l) (sym (ap bytes_of both ∙ bytes_append (fitting a first x) (fitting b mid y)));
  rest = q.rest ∙ beyond b ∙ ap (drop (2 * length (fitting b mid y))) p.rest ∙ sym (beyond a);
}
  where
    left : length a / 2 - first - length (fitting a first x) ≡ length b / 2 - mid
    left = omega (arith, p.count, p.whole)

    both : fitting a first (x ++ y) ≡ fitting a first x ++ fitting b mid y
    both = take-append (length a / 2 - first) x y ∙ ap (λ n. fitting a first x ++ take n y) left

    further : 2 * all ≡ 2 * mid + 2 * length (fitting b mid y)
    further = omega (arith, q.count)

    beyond : (l : List ℕ) → drop (2 * all) l ≡ drop (2 * length (fitting b mid y)) (drop (2 * mid) l)
    beyond l = ap (λ n. drop n l) further ∙ sym (drop-drop (2 * length (fitting b mid y)) (2 * mid) l)
