-- The index of rows: what a bucket's chain passes over cannot hold the words looked for.
-- Assumes nothing.
use mathlib.Core.Path.{◌≡◌, refl, sym, ◌∙◌, ap, subst}
use mathlib.Core.Bool.{true, false}
use mathlib.Core.List.{List}
use Prim.Native.Nat.{ℕ, zero, suc, ◌+◌, ◌-◌, ◌≤◌, ◌<◌}
use native.Mathlib.Numerals.{add-one}
use native.Mathlib.Omega.{arith}
use Rattle.std.proofs.lemmas.Grind.{common_steps}
use native.Mathlib.Decide.{ℕ_discrete}
use lib.ListN.{length, get_or, set, replicate, length-set, length-replicate, get_or-replicate}
use lib.Seq.{get_or-set_same, get_or-set_other}
use Rattle.terms.specs.Decides.{Decides}
use Rattle.terms.specs.Sizes.{repeated_below}
use Rattle.terms.specs.Rows.{row_of, holds_row}
use Rattle.terms.specs.Repetition.{OlderRowHolds}
use Rattle.terms.specs.RowIndex.{bucket_of, latest, Indexed}
use Rattle.terms.specs.declared.row_index.RowIndex.{RowIndex}
use Rattle.terms.specs.declared.rows.Row.{Row}
use Rattle.terms.proofs.Tests.{says_yes}
use Rattle.terms.proofs.RepetitionLaws.{holds_row_lem, repeated_any}

-- there are 2,048 buckets
pub bucket_below : (b : ℕ) (r : Row) → b ≡ bucket_of r → b < 2048
unfolding bucket_of
bucket_below b r e = omega arith

-- five words that are held lie in the row's bucket
same_bucket : (bytes : List ℕ) (i : ℕ) (r : Row) → holds_row bytes i r ≡ true → bucket_of (row_of bytes i) ≡ bucket_of r
same_bucket bytes i r h = ap bucket_of ((holds_row_lem bytes i r).0 h)

module _ (bytes : List ℕ) where
  module _ (b : ℕ) where
    here : (n : ℕ) → bucket_of (row_of bytes n) ≡ b → latest bytes b (suc n) ≡ suc n
    unfolding latest
    here n e = grind (arith, common_steps)

    past : (n : ℕ) → (bucket_of (row_of bytes n) ≡ b → ⊥) → latest bytes b (suc n) ≡ latest bytes b n
    unfolding latest
    past n e = grind (arith, common_steps)

    low : (n : ℕ) → latest bytes b n ≤ n
    unfolding latest
    low zero = omega arith
    low (suc n) = let l = low n in grind (arith, common_steps)

    -- where a chain stands at a row, the row lies in its bucket
    top : (i : ℕ) → latest bytes b (suc i) ≡ suc i → bucket_of (row_of bytes i) ≡ b
    unfolding latest
    top i e = let l = low i in grind (arith, common_steps)

    again : (n : ℕ) → latest bytes b (latest bytes b n) ≡ latest bytes b n
    unfolding latest
    again zero = refl
    again (suc n) = let l = again n in grind (arith, common_steps)

  module _ (r : Row) where
    not_here : (n : ℕ) → holds_row bytes n r ≡ false → repeated_below bytes r (suc n) ≡ repeated_below bytes r n
    unfolding repeated_below
    not_here n e = grind (arith, common_steps)

    -- rows of other buckets are passed over
    passed : (n : ℕ) → repeated_below bytes r n ≡ repeated_below bytes r (latest bytes (bucket_of r) n)
    unfolding repeated_below latest
    passed zero = refl
    passed (suc n) = let before = passed n in let held = same_bucket bytes n r in grind (arith, common_steps)

    -- `repeated`: the rows before `at` answer for the first n
    pub record Searching (n at : ℕ) : Type 0 where
      pub within : at ≤ n
      pub chained : latest bytes (bucket_of r) at ≡ at
      pub answer : repeated_below bytes r n ≡ repeated_below bytes r at

    pub search_start : (n at b : ℕ) (index : RowIndex) → Indexed bytes n index → b ≡ bucket_of r → at ≡ get_or index.heads b 0 → Searching n at
    search_start n at b index x e h =
        record {
          within = omega (arith, low (bucket_of r) n, stands);
          chained = ap (latest bytes (bucket_of r)) stands ∙ again (bucket_of r) n ∙ sym stands;
          answer = passed n ∙ ap (repeated_below bytes r) (sym stands);
        }
      where
        stands : at ≡ latest bytes (bucket_of r) n
        stands = h ∙ x.head b (bucket_below b r e) ∙ ap (λ c. latest bytes c n) e

    module _ (n at : ℕ) (s : Searching n at) where
      pub search_found : 0 < at → holds_row bytes (at - 1) r ≡ true → Decides true (OlderRowHolds bytes r n)
      search_found l h = says_yes (at - 1, omega (arith, s.within), (holds_row_lem bytes (at - 1) r).0 h)

      pub search_done : at ≤ 0 → Decides false (OlderRowHolds bytes r n)
      unfolding repeated_below
      search_done l = subst (λ b. Decides b (OlderRowHolds bytes r n)) (s.answer ∙ ap (repeated_below bytes r) end) (repeated_any bytes r n)
        where
          end : at ≡ 0
          end = omega arith

      pub search_next : 0 < at → holds_row bytes (at - 1) r ≡ false → (next : ℕ) (index : RowIndex) → Indexed bytes n index → next ≡ get_or index.links (at - 1) 0
          → Searching n next × (next < at)
      search_next l h next index x e = (
        record {
          within = omega (arith, s.within, stands, low (bucket_of r) (at - 1));
          chained = ap (latest bytes (bucket_of r)) stands ∙ again (bucket_of r) (at - 1) ∙ sym stands;
          answer = s.answer ∙ ap (repeated_below bytes r) up ∙ not_here (at - 1) h ∙ passed (at - 1) ∙ ap (repeated_below bytes r) (sym stands);
        },
        omega (arith, stands, low (bucket_of r) (at - 1)),
      )
        where
          up : at ≡ suc (at - 1)
          up = omega arith

          stands : next ≡ latest bytes (bucket_of r) (at - 1)
          stands =
              e ∙ x.link (at - 1) (omega (arith, s.within))
              ∙ ap (λ c. latest bytes c (at - 1)) (top (bucket_of r) (at - 1) (ap (latest bytes (bucket_of r)) (sym up) ∙ s.chained ∙ up))

  -- `RowIndex::new`
  pub index_start : Indexed bytes 0 (record { heads = replicate 2048 0; links = replicate 3072 0 })
  unfolding latest
  index_start = record {
    buckets = length-replicate {A = ℕ} 2048 0;
    room = length-replicate {A = ℕ} 3072 0;
    head = λ b l. get_or-replicate 2048 b 0 0 l;
    link = λ i l. absurd (omega arith);
  }

  -- `RowIndex::add`, where x is the index before: row n heads its bucket's chain
  pub index_added : (n b : ℕ) (r : Row) (x y : RowIndex) → Indexed bytes n x → n < 3072 → r ≡ row_of bytes n → b ≡ bucket_of r
      → y.heads ≡ set x.heads b (n + 1) → y.links ≡ set x.links n (get_or x.heads b 0) → Indexed bytes (n + 1) y
  index_added n b r x y known small d e f g =
      subst (λ m. Indexed bytes m y) (sym (add-one n))
      (record {
        buckets = ap length f ∙ length-set x.heads b (n + 1) ∙ known.buckets;
        room = ap length g ∙ length-set x.links n (get_or x.heads b 0) ∙ known.room;
        head = λ c k. ap (λ l. get_or l c 0) f ∙ head_of c k (ℕ_discrete c b);
        link = λ i k. ap (λ l. get_or l i 0) g ∙ link_of i k (ℕ_discrete i n);
      })
    where
      own : b ≡ bucket_of (row_of bytes n)
      own = e ∙ ap bucket_of d

      low_bucket : b < 2048
      low_bucket = bucket_below b r e

      head_of : (c : ℕ) → c < 2048 → Dec (c ≡ b) → get_or (set x.heads b (n + 1)) c 0 ≡ latest bytes c (suc n)
      head_of c k (yes h) =
          ap (λ m. get_or (set x.heads b (n + 1)) m 0) h ∙ get_or-set_same x.heads b (n + 1) 0 (omega (arith, known.buckets)) ∙ add-one n ∙ sym (here c n (sym own ∙ sym h))
      head_of c k (no h) = get_or-set_other x.heads b c (n + 1) 0 h ∙ known.head c k ∙ sym (past c n (λ o. h (sym (own ∙ o))))

      link_of : (i : ℕ) → i < suc n → Dec (i ≡ n) → get_or (set x.links n (get_or x.heads b 0)) i 0 ≡ latest bytes (bucket_of (row_of bytes i)) i
      link_of i k (yes h) =
          subst (λ m. get_or (set x.links n (get_or x.heads b 0)) m 0 ≡ latest bytes (bucket_of (row_of bytes m)) m) (sym h)
          (get_or-set_same x.links n (get_or x.heads b 0) 0 (omega (arith, known.room)) ∙ known.head b low_bucket ∙ ap (λ c. latest bytes c n) own)
      link_of i k (no h) = get_or-set_other x.links n i (get_or x.heads b 0) 0 h ∙ known.link i (omega arith)
