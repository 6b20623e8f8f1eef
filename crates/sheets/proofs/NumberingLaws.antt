-- The numbers of lines, found one line after the other: how many listed numbers are below the next line, and what the
-- loop over the lines keeps.
-- Assumes nothing.
use mathlib.Core.Path.{◌≡◌, sym, ◌∙◌, ap}
use mathlib.Core.List.{List, [], ◌∷◌}
use Prim.Native.Nat.{ℕ, zero, suc, ◌+◌, ◌-◌, ◌≤◌, ◌<◌}
use native.Mathlib.Numerals.{add-one}
use native.Mathlib.Omega.{arith}
use lib.ListN.{length, get_or, set as write, length-set}
use lib.Seq.{get_or-set_same, get_or-set_other}
use Rattle.terms.proofs.Shape.{below_or_last}
use Rattle.sheets.specs.LineSets.{Rises, Listed, Stays, count_below, new_number}
use Rattle.sheets.specs.Numbering.{Numbering}
use Rattle.sheets.proofs.LineSetLaws.{rises_later, rises_above, count_more, count_same, count_rest, count_within}
use Rattle.sheets.proofs.LineSetLaws.{count_here, count_there, new_less}

-- as many numbers are below a listed one as stand before it
count_place : (set : List ℕ) → Rises set → (k : ℕ) (l : Listed set k) → count_below set k ≡ l.0
count_place [] r k l = absurd (omega (arith, l.1))
count_place (n ∷ set) r k (zero, h, e) = omega (arith, e, count_same n set k (omega arith), count_rest n set r k)
count_place (n ∷ set) r k (suc i, h, e) =
    omega (
      arith,
      count_more n set k (rises_above n set r k (i, omega arith, e)),
      count_place set (rises_later n set r) k (i, omega arith, e),
    )

module _ (set : List ℕ) (r : Rises set) (count k : ℕ) (counted : count ≡ count_below set k) where
  -- what is answered for the next line: k is listed exactly if number `count` of the list is k
  pub next_more : count < length set → get_or set count 0 ≡ k → count + 1 ≡ count_below set (suc k)
  next_more h e = omega (arith, counted, count_here set r k (count, h, e))

  pub next_same : (count < length set → get_or set count 0 ≡ k → ⊥) → count ≡ count_below set (suc k)
  next_same f = counted ∙ sym (count_there set k stays)
    where
      stays : Stays set k
      stays l =
          let place : l.0 ≡ count = sym (counted ∙ count_place set r k l) in
          f (omega (arith, l.1)) (ap (λ i. get_or set i 0) (sym place) ∙ l.2)

-- the lines before line k, of the first `lines`, have their numbers in the two arrays
pub record Numbered (set : List ℕ) (lines : ℕ) (below kept : List ℕ) (count k : ℕ) : Type 0 where
  pub within : k ≤ suc lines
  pub counted : count ≡ count_below set k
  pub room_below : length below ≡ 1025
  pub room_kept : length kept ≡ 1025
  pub counts : (m : ℕ) → m < k → get_or below m 0 ≡ count_below set m
  pub numbers : (m : ℕ) → m < k → Stays set m → get_or kept (new_number set m) 0 ≡ m

module _ (set : List ℕ) (r : Rises set) (lines : ℕ) (below kept : List ℕ) where
  pub numbered_start : length below ≡ 1025 → length kept ≡ 1025 → Numbered set lines below kept 0 0
  numbered_start a c =
      record {
        within = omega arith;
        counted = omega (arith, count_within set r 0);
        room_below = a;
        room_kept = c;
        counts = λ m h. absurd (omega arith);
        numbers = λ m h. absurd (omega arith);
      }

  module _ (count k : ℕ) (x : Numbered set lines below kept count k) where
    pub numbered_end : lines < k → Numbering set lines below kept
    numbered_end h =
        record { counts = λ m l. x.counts m (omega arith); numbers = λ m l. x.numbers m (omega arith) }

    -- a line that stays is written behind the places of all earlier ones that stay
    pub numbered_next : (next : ℕ) → lines ≤ 1024 → k ≤ lines → next ≡ count_below set (suc k)
        → Numbered set lines (write below k count) (write kept (k - count) k) next (k + 1)
    numbered_next next few more e =
        record {
          within = omega arith;
          counted = e ∙ ap (count_below set) (sym (add-one k));
          room_below = length-set below k count ∙ x.room_below;
          room_kept = length-set kept (k - count) k ∙ x.room_kept;
          counts = λ m h. below_or_last Counted k m (omega arith) (counted_before m) counted_here;
          numbers = λ m h. below_or_last Numbers k m (omega arith) (numbers_before m) number_here;
        }
      where
        Counted : ℕ → Type 0
        Counted m = get_or (write below k count) m 0 ≡ count_below set m

        counted_before : (m : ℕ) → m < k → Counted m
        counted_before m l = get_or-set_other below k m count 0 (λ f. omega arith) ∙ x.counts m l

        counted_here : Counted k
        counted_here = get_or-set_same below k count 0 (omega (arith, x.room_below)) ∙ x.counted

        Numbers : ℕ → Type 0
        Numbers m = Stays set m → get_or (write kept (k - count) k) (new_number set m) 0 ≡ m

        numbers_before : (m : ℕ) → m < k → Numbers m
        numbers_before m l stays =
            get_or-set_other kept (k - count) (new_number set m) k 0
            (λ f. omega (arith, x.counted, new_less set r m k stays l))
            ∙ x.numbers m l stays

        number_here : Numbers k
        number_here stays =
            ap (λ c. get_or (write kept (k - count) k) (k - c) 0) (sym x.counted)
            ∙ get_or-set_same kept (k - count) k 0 (omega (arith, x.room_kept))
