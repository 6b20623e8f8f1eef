-- Numbers 1 to 4 answer for their declarative reading.
-- Assumes nothing.
use Rattle.std.specs.Prelude.{Result, Ok, Err}
use Rattle.sheets.specs.declared.refusals.Counts.{Counts}
use Rattle.sheets.specs.declared.refusals.Fault.{Fault}
use Rattle.sheets.specs.declared.refusals.Fault.TheVariants.{Length, Mark, Counts as CountsFault, WorkBuffer}
use Rattle.sheets.specs.Refusals.{counts}
use mathlib.Core.Path.{◌≡◌, refl, sym, ◌∙◌, ap, subst}
use mathlib.Core.Logic.{◌↔◌, ◌⊎◌, inl, inr}
use mathlib.Core.Bool.{Bool, true, false}
use mathlib.Core.List.{List}
use Prim.Native.Nat.{ℕ, ◌+◌, ◌-◌, ◌≤◌, ◌<◌}
use native.Mathlib.Omega.{arith}
use lib.Dec.{leb}
use lib.ListN.{length, take, drop, length-drop}
use lib.Seq.{take_all}
use borrow.Author.Tests.{leb-true, leb-false, le-leb, lt-leb}
use Rattle.terms.specs.Decides.{Decides}
use Rattle.terms.specs.Words.{word_at}
use Rattle.terms.proofs.Tests.{either, refutes, says_le, says_eq, refuted, ◌&◌}
use Rattle.rules.proofs.EditionLaws.{says_edition}
use Rattle.sheets.specs.declared.layout.Trailer.{Trailer}
use Rattle.sheets.specs.Layout.{trailer_word, trailer_of, edition_of, distance_to_lines, distance_to_contexts, distance_to_terms, length_fits, mark_fits, limits_fit, distances_fit, counts_fit, trailer_answer, layout_of}
use Rattle.sheets.specs.GoodLayout.{trailer_for, LaidOut, RightLength, Marked, LayoutFault, wrong_length, not_marked, disagreeing, short_work}

-- a trailer whose words are those of these counts
pub trailer_words_lem : (s : List ℕ) (T C L : ℕ) → trailer_word s 0 ≡ T → trailer_word s 1 ≡ C → trailer_word s 2 ≡ L
    → trailer_word s 4 ≡ distance_to_terms T C L → trailer_word s 5 ≡ distance_to_contexts C L → trailer_word s 6 ≡ distance_to_lines L
    → trailer_word s 7 ≡ 0x4C44 → trailer_of s ≡ trailer_for (edition_of s) T C L
unfolding trailer_of trailer_for edition_of
trailer_words_lem s T C L e0 e1 e2 e4 e5 e6 e7 =
    λ i. record {
      terms = e0 i;
      contexts = e1 i;
      lines = e2 i;
      edition = edition_of s;
      to_terms = e4 i;
      to_contexts = e5 i;
      to_lines = e6 i;
      mark = e7 i;
    }

pub length_says : (n : ℕ) → Decides (length_fits n) ((16 ≤ n) × (n ≤ 52240))
unfolding length_fits
length_says n = says_le 16 n & says_le n 52240

pub mark_says : (t : Trailer) → Decides (mark_fits t) (Marked t)
unfolding mark_fits
mark_says t = says_eq t.mark 0x4C44 & says_edition t.edition

-- number 3, limits
abbrev Limited : Trailer → Type 0
Limited t = ((t.terms ≤ 3072) × (t.contexts ≤ 256)) × (t.lines ≤ 1024)

pub limits_say : (t : Trailer) → Decides (limits_fit t) (Limited t)
unfolding limits_fit
limits_say t =
    says_le t.terms 3072 & says_le t.contexts 256 & says_le t.lines 1024

-- number 3, distances and length
abbrev Agreeing : Trailer → ℕ → Type 0
Agreeing t n =
    (((t.to_terms ≡ distance_to_terms t.terms t.contexts t.lines) × (t.to_contexts ≡ distance_to_contexts t.contexts t.lines))
    × (t.to_lines ≡ distance_to_lines t.lines)) × (n ≡ distance_to_terms t.terms t.contexts t.lines + 16)

pub distances_say : (t : Trailer) (n : ℕ) → Decides (distances_fit t n) (Agreeing t n)
unfolding distances_fit
distances_say t n =
    says_eq t.to_terms _ & says_eq t.to_contexts _ & says_eq t.to_lines _ & says_eq n _

pub counts_say : (t : Trailer) (n : ℕ) → Decides (counts_fit t n) (Limited t × Agreeing t n)
unfolding counts_fit
counts_say t n = limits_say t & distances_say t n

-- `read_trailer`: the words are read from the end of the sheet, as a part of it
module _ (bytes : List ℕ) where
  abbrev ending : List ℕ
  ending = take (length bytes - (length bytes - 16)) (drop (length bytes - 16) bytes)

  at_end : (i r : ℕ) → r ≡ word_at ending i → r ≡ trailer_word bytes i
  unfolding trailer_word
  at_end i r e = e ∙ ap (λ l. word_at l i) (take_all (length bytes - (length bytes - 16)) (drop (length bytes - 16) bytes) (omega (arith, length-drop (length bytes - 16) bytes)))

  pub trailer_read : (a b c d e f g h : ℕ) → a ≡ word_at ending 0 → b ≡ word_at ending 1 → c ≡ word_at ending 2 → d ≡ word_at ending 3
      → e ≡ word_at ending 4 → f ≡ word_at ending 5 → g ≡ word_at ending 6 → h ≡ word_at ending 7
      → ◌≡◌ {A = Trailer} (record { terms = a; contexts = b; lines = c; edition = d; to_terms = e; to_contexts = f; to_lines = g; mark = h }) (trailer_of bytes)
  unfolding trailer_of
  trailer_read a b c d e f g h p q r s t u v w =
      λ i. record {
        terms = at_end 0 a p i;
        contexts = at_end 1 b q i;
        lines = at_end 2 c r i;
        edition = at_end 3 d s i;
        to_terms = at_end 4 e t i;
        to_contexts = at_end 5 f u i;
        to_lines = at_end 6 g v i;
        mark = at_end 7 h w i;
      }

-- the ways out of numbers 2, 3 and 4
module _ (t : Trailer) (n work : ℕ) where
  pub trailer_2 : mark_fits t ≡ false → trailer_answer t n work ≡ Err Mark
  unfolding trailer_answer
  trailer_2 e = rw (e, trailer_answer)

  module _ (m : mark_fits t ≡ true) where
    pub trailer_3 : counts_fit t n ≡ false → trailer_answer t n work ≡ Err CountsFault
    unfolding trailer_answer
    trailer_3 e = rw (m, e, trailer_answer)

    module _ (l : counts_fit t n ≡ true) where
      pub trailer_4 : work < t.terms → trailer_answer t n work ≡ Err WorkBuffer
      unfolding trailer_answer
      trailer_4 h = rw (m, l, lt-leb t.terms work h, trailer_answer)

      pub trailer_counted : t.terms ≤ work → trailer_answer t n work ≡ Ok (counts t.terms t.contexts t.lines)
      unfolding trailer_answer
      trailer_counted h = rw (m, l, le-leb t.terms work h, trailer_answer)

module _ (bytes : List ℕ) (work : ℕ) where
  pub layout_1 : length_fits (length bytes) ≡ false → layout_of bytes work ≡ Err Length
  unfolding layout_of
  layout_1 e = rw (e, layout_of)

  -- where t is the trailer and a what it answers
  pub layout_read : (t : Trailer) (a : Result Counts Fault) → length_fits (length bytes) ≡ true → t ≡ trailer_of bytes → a ≡ trailer_answer t (length bytes) work → a ≡ layout_of bytes work
  unfolding layout_of
  layout_read t a h e f = f ∙ ap (λ u. trailer_answer u (length bytes) work) e ∙ sym (rw (h, layout_of))

  pub layout_rest : length_fits (length bytes) ≡ true → layout_of bytes work ≡ trailer_answer (trailer_of bytes) (length bytes) work
  unfolding layout_of
  layout_rest e = rw (e, layout_of)

module _ (bytes : List ℕ) where
  -- numbers 1, 2 and 3 pass exactly if the sheet is laid out with the counts that its trailer gives
  laid_passes : (T C L : ℕ) → LaidOut bytes T C L → RightLength bytes × Marked (trailer_of bytes) × Limited (trailer_of bytes) × Agreeing (trailer_of bytes) (length bytes)
  unfolding trailer_for
  laid_passes T C L h =
      subst (λ t. RightLength bytes × Marked t × Limited t × Agreeing t (length bytes)) (sym h.trailer) (
        (omega (arith, h.long, h.few_terms, h.few_contexts, h.few_lines), omega (arith, h.long, h.few_terms, h.few_contexts, h.few_lines)),
        (refl, h.edition),
        ((h.few_terms, h.few_contexts), h.few_lines),
        (((refl, refl), refl), h.long),
      )

  passes_laid : Marked (trailer_of bytes) → Limited (trailer_of bytes) → Agreeing (trailer_of bytes) (length bytes)
      → LaidOut bytes (trailer_of bytes).terms (trailer_of bytes).contexts (trailer_of bytes).lines
  unfolding trailer_for trailer_of edition_of
  passes_laid m l a =
      record {
        trailer = λ i. record {
          terms = (trailer_of bytes).terms;
          contexts = (trailer_of bytes).contexts;
          lines = (trailer_of bytes).lines;
          edition = edition_of bytes;
          to_terms = a.0.0.0 i;
          to_contexts = a.0.0.1 i;
          to_lines = a.0.1 i;
          mark = m.0 i;
        };
        edition = m.1;
        few_terms = l.0.0;
        few_contexts = l.0.1;
        few_lines = l.1;
        long = a.1;
      }

  module _ (work : ℕ) where
    -- what an answer means
    pub data LayoutMeans : Result Counts Fault → Type 0 where
      counted : {T C L : ℕ} → LaidOut bytes T C L → T ≤ work → LayoutMeans (Ok (counts T C L))
      wrong : {fault : Fault} → LayoutFault bytes work fault → LayoutMeans (Err fault)

    abbrev Either : Bool → Type 0
    Either b = (b ≡ true) ⊎ (b ≡ false)

    module _ (h : length_fits (length bytes) ≡ true) where
      means : {A : Result Counts Fault} → trailer_answer (trailer_of bytes) (length bytes) work ≡ A → LayoutMeans A → LayoutMeans (layout_of bytes work)
      means e a = subst LayoutMeans (sym (layout_rest bytes work h ∙ e)) a

      module _ (m : mark_fits (trailer_of bytes) ≡ true) where
        at_work : counts_fit (trailer_of bytes) (length bytes) ≡ true → Either (leb (trailer_of bytes).terms work) → LayoutMeans (layout_of bytes work)
        at_work l (inl e) =
            let k = leb-true _ _ e in
            let c = (counts_say _ _).0 l in
            means (trailer_counted _ _ _ m l k) (counted (passes_laid ((mark_says _).0 m) c.0 c.1) k)
        at_work l (inr e) =
            let k = leb-false _ _ e in
            let c = (counts_say _ _).0 l in
            means (trailer_4 _ _ _ m l k) (wrong (short_work _ _ _ (passes_laid ((mark_says _).0 m) c.0 c.1) k))

        at_counts : Either (counts_fit (trailer_of bytes) (length bytes)) → LayoutMeans (layout_of bytes work)
        at_counts (inl l) = at_work l (either _)
        at_counts (inr l) =
            means (trailer_3 _ _ _ m l)
            (wrong (disagreeing ((length_says _).0 h) ((mark_says _).0 m) (λ T C L laid. let p = laid_passes T C L laid in refuted (counts_say _ _) l (p.2, p.3))))

      at_mark : Either (mark_fits (trailer_of bytes)) → LayoutMeans (layout_of bytes work)
      at_mark (inl m) = at_counts m (either _)
      at_mark (inr m) = means (trailer_2 _ _ _ m) (wrong (not_marked ((length_says _).0 h) (refuted (mark_says _) m)))

    at_length : Either (length_fits (length bytes)) → LayoutMeans (layout_of bytes work)
    at_length (inl h) = at_mark h (either _)
    at_length (inr h) = subst LayoutMeans (sym (layout_1 bytes work h)) (wrong (wrong_length (refuted (length_says _) h)))

    pub layout_means : LayoutMeans (layout_of bytes work)
    layout_means = at_length (either _)

    -- the counts are answered exactly if the sheet is laid out with them and the work buffer has that many words
    pub counted_is : (T C L : ℕ) → (layout_of bytes work ≡ Ok (counts T C L)) ↔ (LaidOut bytes T C L × (T ≤ work))
    unfolding trailer_for
    counted_is T C L = (λ e. from (subst LayoutMeans e layout_means), λ h. to h.0 h.1)
      where
        from : LayoutMeans (Ok (counts T C L)) → LaidOut bytes T C L × (T ≤ work)
        from (counted h k) = (h, k)

        to : LaidOut bytes T C L → T ≤ work → layout_of bytes work ≡ Ok (counts T C L)
        to h k =
            let p = laid_passes T C L h in
            layout_rest bytes work ((length_says _).1 p.0)
            ∙ trailer_counted _ _ _ ((mark_says _).1 p.1) ((counts_say _ _).1 (p.2, p.3)) (subst (λ t. t.terms ≤ work) (sym h.trailer) k)
            ∙ ap (λ t. Ok (counts t.terms t.contexts t.lines)) h.trailer

    -- and a fault exactly if its check is the first to fail
    pub wrong_is : (fault : Fault) → (layout_of bytes work ≡ Err fault) ↔ LayoutFault bytes work fault
    unfolding trailer_for
    wrong_is fault = (λ e. from (subst LayoutMeans e layout_means), to)
      where
        from : {f : Fault} → LayoutMeans (Err f) → LayoutFault bytes work f
        from (wrong f) = f

        disagree : Marked (trailer_of bytes) → ((T C L : ℕ) → LaidOut bytes T C L → ⊥) → trailer_answer (trailer_of bytes) (length bytes) work ≡ Err CountsFault
        disagree m f = trailer_3 _ _ _ ((mark_says _).1 m) (refutes _ (counts_say _ _) (λ c. f _ _ _ (passes_laid m c.0 c.1)))

        to : {f : Fault} → LayoutFault bytes work f → layout_of bytes work ≡ Err f
        to (wrong_length f) = layout_1 bytes work (refutes _ (length_says _) f)
        to (not_marked r f) = layout_rest bytes work ((length_says _).1 r) ∙ trailer_2 _ _ _ (refutes _ (mark_says _) f)
        to (disagreeing r m f) = layout_rest bytes work ((length_says _).1 r) ∙ disagree m f
        to (short_work T C L h k) =
            let p = laid_passes T C L h in
            layout_rest bytes work ((length_says _).1 p.0)
            ∙ trailer_4 _ _ _ ((mark_says _).1 p.1) ((counts_say _ _).1 (p.2, p.3)) (subst (λ t. work < t.terms) (sym h.trailer) k)
