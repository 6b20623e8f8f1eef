-- A buffer that is filled from its beginning: element by element, word by word, or part by part, each to the tail
-- behind what is written; and words that are written once more, some of them changed.
-- Assumes nothing.
use mathlib.Core.Path.{◌≡◌, refl, sym, ◌∙◌, ap}
use mathlib.Core.Bool.{true, false}
use mathlib.Core.List.{List, [], ◌∷◌, ◌++◌, append-nil, append_assoc}
use Prim.Native.Nat.{ℕ, zero, suc, ◌+◌, ◌-◌, ◌*◌, ◌/◌, ◌%◌, ◌≤◌, ◌<◌}
use native.Mathlib.Numerals.{add-one}
use native.Mathlib.Decide.{dec_lt}
use native.Mathlib.Omega.{arith}
use lib.Dec.{ltb}
use lib.ListN.{length, get_or, set, take, drop, length-append, length-drop, length-set, drop_of_length-le}
use lib.Seq.{set_at, set-append_left, take_at, drop_at, drop-drop, drop-cons, take-suc, append_snoc, length-take-le}
use borrow.Author.Tests.{lt-ltb, le-ltb}
use Rattle.terms.specs.Words.{bytes_of}
use Rattle.terms.specs.Lists.{listed}
use Rattle.terms.specs.Buffers.{over}
use Rattle.sheets.specs.MotiveSteps.{with_word}
use Rattle.sheets.proofs.ListedLaws.{listed-length, listed_next}
use Rattle.sheets.proofs.BufferLaws.{over_length, over_again, part_to_end}
use Rattle.sheets.proofs.SheetWithout.{listed_same}
use Rattle.sheets.proofs.WrittenLaws.{written, written_length, written_next}

-- the buffer behind its first n elements, and the buffer with other elements there
abbrev pub tail_of : ℕ → List ℕ → List ℕ
tail_of n out = take (length out - n) (drop n out)

abbrev pub with_tail : ℕ → List ℕ → List ℕ → List ℕ
with_tail n out tail = take n out ++ (tail ++ drop (length out - n) (drop n out))

-- behind the elements xs, which are written
module _ (xs before : List ℕ) (n : ℕ) (size : length xs ≡ n) where
  -- one more
  over_one : (x : ℕ) → n < length before → set (over xs before) n x ≡ over (xs ++ x ∷ []) before
  over_one x h =
      ap (λ l. set (xs ++ l) n x) behind ∙ set_at xs _ (drop (suc n) before) x n size
      ∙ sym (append_snoc xs x (drop (suc n) before)) ∙ ap (λ m. (xs ++ x ∷ []) ++ drop m before) longer
    where
      behind : drop (length xs) before ≡ get_or before n 0 ∷ drop (suc n) before
      behind = ap (λ m. drop m before) size ∙ drop-cons before n 0 h

      longer : suc n ≡ length (xs ++ x ∷ [])
      longer = omega (arith, length-append xs (x ∷ []))

  -- those that are written to the tail
  pub over_tail : (out tail ys : List ℕ) → out ≡ over xs before → tail ≡ over ys (tail_of n out)
      → with_tail n out tail ≡ over (xs ++ ys) before
  over_tail out tail ys filled written =
      (λ i. head i ++ end i) ∙ sym (append_assoc xs ys (drop (n + length ys) before))
      ∙ ap (λ m. (xs ++ ys) ++ drop m before) longer
    where
      head : take n out ≡ xs
      head = ap (take n) filled ∙ take_at xs (drop (length xs) before) n size

      rest : drop n out ≡ drop n before
      rest = ap (drop n) filled ∙ drop_at xs (drop (length xs) before) n size ∙ ap (λ m. drop m before) size

      none : drop (length out - n) (drop n out) ≡ []
      none = drop_of_length-le (drop n out) {i = length out - n} (omega (arith, length-drop n out))

      new : tail ≡ ys ++ drop (n + length ys) before
      new = written ∙ ap (over ys) (part_to_end out n ∙ rest) ∙ ap (λ l. ys ++ l) (drop-drop (length ys) n before)

      end : tail ++ drop (length out - n) (drop n out) ≡ ys ++ drop (n + length ys) before
      end = (λ i. new i ++ none i) ∙ append-nil (ys ++ drop (n + length ys) before)

      longer : n + length ys ≡ length (xs ++ ys)
      longer = omega (arith, length-append xs ys)

-- f i behind f 0 to f (i - 1), which are written
pub over_next : (f : ℕ → ℕ) (before : List ℕ) (i : ℕ) → i < length before
    → set (over (listed f i) before) i (f i) ≡ over (listed f (suc i)) before
over_next f before i h =
    over_one (listed f i) before i (listed-length f i) (f i) h ∙ ap (λ l. over l before) (sym (listed_next f i))

-- the first i of the steps are done, and `steps i` is written
module _ (steps : ℕ → List ℕ) (count : ℕ) (before : List ℕ) where
  pub record Filling (out : List ℕ) (i : ℕ) : Type 0 where
    pub within : i ≤ count
    pub long : length out ≡ length before
    pub filled : out ≡ over (steps i) before

  pub filling_start : steps 0 ≡ [] → Filling before 0
  filling_start e = record { within = omega arith; long = refl; filled = ap (λ l. over l before) (sym e) }

  module _ {out : List ℕ} {i : ℕ} (at : Filling out i) where
    pub filling_end : count ≤ i → out ≡ over (steps count) before
    filling_end h = at.filled ∙ ap (λ m. over (steps m) before) same
      where
        same : i ≡ count
        same = omega (arith, at.within)

    filling_next : {new : List ℕ} (ys : List ℕ) → i < count → length (steps i) + length ys ≤ length before
        → new ≡ over (steps i ++ ys) before → steps (suc i) ≡ steps i ++ ys → Filling new (i + 1)
    filling_next ys h room done next =
        record {
          within = omega arith;
          long = ap length done ∙ over_length (steps i ++ ys) before (omega (arith, length-append (steps i) ys));
          filled = done ∙ ap (λ l. over l before) (sym next ∙ ap steps (sym (add-one i)));
        }

    -- a part is written to the tail behind n elements
    pub filling_part : {tail : List ℕ} (n : ℕ) (ys : List ℕ) → i < count → length (steps i) ≡ n
        → n + length ys ≤ length before → steps (suc i) ≡ steps i ++ ys → tail ≡ over ys (tail_of n out)
        → Filling (with_tail n out tail) (i + 1)
    filling_part {tail} n ys h size room next done =
        filling_next ys h (omega arith) (over_tail (steps i) before n size out tail ys at.filled done) next

-- a list is copied
module _ {xs before out : List ℕ} {count i : ℕ} where
  pub filling_byte : count ≤ length xs → count ≤ length before → Filling (λ k. take k xs) count before out i
      → i < count → Filling (λ k. take k xs) count before (set out i (get_or xs i 0)) (i + 1)
  filling_byte long room at h =
      filling_next _ _ _ at (get_or xs i 0 ∷ []) h (omega (arith, size))
      (ap (λ o. set o i (get_or xs i 0)) at.filled ∙ over_one (take i xs) before i size (get_or xs i 0) (omega arith))
      (take-suc xs i 0 (omega arith))
    where
      size : length (take i xs) ≡ i
      size = length-take-le i xs (omega arith)

-- elements are written
module _ (f : ℕ → ℕ) {before out : List ℕ} {count i x : ℕ} where
  pub filling_element : count ≤ length before → Filling (listed f) count before out i → i < count → x ≡ f i
      → Filling (listed f) count before (set out i x) (i + 1)
  filling_element room at h e =
      filling_next _ _ _ at (f i ∷ []) h (omega (arith, listed-length f i))
      ((λ k. set (at.filled k) i (e k)) ∙ over_one (listed f i) before i (listed-length f i) (f i) (omega arith))
      (listed_next f i)

-- words are written
module _ (f : ℕ → ℕ) {before out new : List ℕ} {count i w : ℕ} where
  pub filling_word : 2 * count ≤ length before → Filling (written f) count before out i → i < count → w ≡ f i
      → new ≡ set (set out (2 * i) (w % 256)) (2 * i + 1) (w / 256) → Filling (written f) count before new (i + 1)
  filling_word room at h e done =
      filling_next _ _ _ at (w % 256 ∷ w / 256 ∷ []) h (omega (arith, size))
      (done ∙ ap (λ o. set (set o (2 * i) (w % 256)) (2 * i + 1) (w / 256)) at.filled
      ∙ ap (λ o. set o (2 * i + 1) (w / 256)) (over_one (written f i) before (2 * i) size (w % 256) (omega arith))
      ∙ over_one (written f i ++ w % 256 ∷ []) before (2 * i + 1) longer (w / 256) (omega arith)
      ∙ ap (λ l. over l before) (append_snoc (written f i) (w % 256) (w / 256 ∷ [])))
      (written_next f i ∙ ap (λ v. written f i ++ v % 256 ∷ v / 256 ∷ []) (sym e))
    where
      size : length (written f i) ≡ 2 * i
      size = written_length f i

      longer : length (written f i ++ w % 256 ∷ []) ≡ 2 * i + 1
      longer = omega (arith, size, length-append (written f i) (w % 256 ∷ []))

-- words in two parts, the second of which may be given otherwise
pub written_append : (f g : ℕ → ℕ) (i n : ℕ) → ((j : ℕ) → j < n → f (i + j) ≡ g j)
    → written f (i + n) ≡ written f i ++ written g n
unfolding bytes_of listed
written_append f g zero n same =
    ap (written f) none ∙ ap bytes_of (listed_same f g n (λ j h. ap f (omega arith) ∙ same j h))
  where
    none : 0 + n ≡ n
    none = omega arith
written_append f g (suc i) n same =
    ap (written f) more
    ∙ ap (λ l. f 0 % 256 ∷ f 0 / 256 ∷ l)
    (written_append (λ k. f (suc k)) g i n (λ j h. ap f (omega arith) ∙ same j h))
  where
    more : suc i + n ≡ suc (i + n)
    more = omega arith

-- one of the words that are written is changed
written_word : (f g : ℕ → ℕ) (n i w : ℕ) → i < n → w ≡ g i → ((k : ℕ) → k < n → (k ≡ i → ⊥) → f k ≡ g k)
    → with_word (written f n) i w ≡ written g n
unfolding bytes_of listed
written_word f g zero i w h here others = absurd (omega arith)
written_word f g (suc n) zero w h here others = λ j. here j % 256 ∷ here j / 256 ∷ rest j
  where
    rest : written (λ k. f (suc k)) n ≡ written (λ k. g (suc k)) n
    rest =
        ap bytes_of
        (listed_same (λ k. f (suc k)) (λ k. g (suc k)) n (λ k l. others (suc k) (omega arith) (λ e. omega arith)))
written_word f g (suc n) (suc i) w h here others =
    let first : f 0 ≡ g 0 = others 0 (omega arith) (λ e. omega arith) in
    let rest = written_word (λ k. f (suc k)) (λ k. g (suc k)) n i w (omega arith) here
    (λ k l d. others (suc k) (omega arith) (λ e. d (omega arith))) in
    (λ j. set (set (written f (suc n)) (low j) (w % 256)) (high j) (w / 256))
    ∙ (λ j. first j % 256 ∷ first j / 256 ∷ rest j)
  where
    low : 2 * suc i ≡ suc (suc (2 * i))
    low = omega arith

    high : 2 * suc i + 1 ≡ suc (suc (2 * i + 1))
    high = omega arith

pub over_word : (f g : ℕ → ℕ) (before : List ℕ) (n i w : ℕ) → i < n → w ≡ g i
    → ((k : ℕ) → k < n → (k ≡ i → ⊥) → f k ≡ g k)
    → with_word (over (written f n) before) i w ≡ over (written g n) before
over_word f g before n i w h here others =
    ap (λ l. set l (2 * i + 1) (w / 256))
    (set-append_left (written f n) rest (2 * i) (w % 256) (omega (arith, written_length f n)))
    ∙ set-append_left (set (written f n) (2 * i) (w % 256)) rest (2 * i + 1) (w / 256)
    (omega (arith, written_length f n, length-set (written f n) (2 * i) (w % 256)))
    ∙ (λ j. written_word f g n i w h here others j ++ drop (same j) before)
  where
    rest : List ℕ
    rest = drop (length (written f n)) before

    same : length (written f n) ≡ length (written g n)
    same = written_length f n ∙ sym (written_length g n)

-- the words of g before word c, and those of f from there on
pub changed_to : (ℕ → ℕ) → (ℕ → ℕ) → ℕ → ℕ → ℕ
changed_to f g c k = elim (ltb k c) [ true ↦ g k | false ↦ f k ]

module _ (f g : ℕ → ℕ) where
  changed_new : (c k : ℕ) → k < c → changed_to f g c k ≡ g k
  unfolding changed_to
  changed_new c k h = rw (lt-ltb k c h, changed_to)

  changed_old : (c k : ℕ) → c ≤ k → changed_to f g c k ≡ f k
  unfolding changed_to
  changed_old c k h = rw (le-ltb k c h, changed_to)

  changed_same : (c d k : ℕ) → c ≤ d → (c ≤ k → k < d → f k ≡ g k) → changed_to f g c k ≡ changed_to f g d k
  changed_same c d k h same = at (dec_lt k c) (dec_lt k d)
    where
      at : Dec (k < c) → Dec (k < d) → changed_to f g c k ≡ changed_to f g d k
      at (yes l) m = changed_new c k l ∙ sym (changed_new d k (omega arith))
      at (no l) (yes m) = changed_old c k (omega arith) ∙ same (omega arith) m ∙ sym (changed_new d k m)
      at (no l) (no m) = changed_old c k (omega arith) ∙ sym (changed_old d k (omega arith))

-- the words of f, which are written, are changed to those of g in order: those before word c are
module _ (f g : ℕ → ℕ) (count : ℕ) (before : List ℕ) where
  pub record Changing (out : List ℕ) (c : ℕ) : Type 0 where
    pub within : c ≤ count
    pub long : length out ≡ length before
    pub words : out ≡ over (written (changed_to f g c) count) before

  module _ (buffer : List ℕ) (start : before ≡ over (written f count) buffer) where
    -- what is written over words that are written already
    again : (h : ℕ → ℕ) → over (written h count) before ≡ over (written h count) buffer
    again h =
        ap (over (written h count)) start
        ∙ over_again (written h count) (written f count) buffer (written_length f count ∙ sym (written_length h count))

    pub changing_start : Changing before 0
    changing_start =
        record {
          within = omega arith;
          long = refl;
          words =
              start ∙ sym (again f)
              ∙ ap (λ l. over (bytes_of l) before)
              (listed_same f (changed_to f g 0) count (λ k h. sym (changed_old f g 0 k (omega arith))));
        }

    pub changing_end : {out : List ℕ} → Changing out count → out ≡ over (written g count) buffer
    changing_end at =
        at.words
        ∙ ap (λ l. over (bytes_of l) before)
        (listed_same (changed_to f g count) g count (λ k h. changed_new f g count k h)) ∙ again g

  module _ {out : List ℕ} {c : ℕ} (at : Changing out c) where
    -- where both have the same words nothing is to be written
    pub changing_on : (d : ℕ) → c ≤ d → d ≤ count → ((k : ℕ) → c ≤ k → k < d → f k ≡ g k) → Changing out d
    changing_on d h room same =
        record {
          within = room;
          long = at.long;
          words =
              at.words
              ∙ ap (λ l. over (bytes_of l) before)
              (listed_same (changed_to f g c) (changed_to f g d) count (λ k l. changed_same f g c d k h (same k)));
        }

    -- the next word is written
    pub changing_word : (i w : ℕ) → i ≡ c → i < count → w ≡ g i → Changing (with_word out i w) (suc i)
    changing_word i w e h here =
        record {
          within = h;
          long =
              length-set (set out (2 * i) (w % 256)) (2 * i + 1) (w / 256) ∙ length-set out (2 * i) (w % 256)
              ∙ at.long;
          words =
              ap (λ o. with_word o i w) at.words
              ∙ over_word (changed_to f g c) (changed_to f g (suc i)) before count i w h
              (here ∙ sym (changed_new f g (suc i) i (omega arith)))
              (λ k l d. changed_same f g c (suc i) k (omega arith) (λ low high. absurd (d (omega arith))));
        }
