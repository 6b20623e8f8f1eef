-- Which lines spell a judgment: five numerals below 2^32 parted by single spaces, and no other.
-- Assumes nothing.
use mathlib.Core.Path.{◌≡◌, refl, sym, ◌∙◌, ap}
use mathlib.Core.Logic.{◌↔◌}
use mathlib.Core.Bool.{Bool, true, false, cond, ◌&&◌}
use mathlib.Core.List.{List, ◌∷◌, ◌++◌}
use Prim.Native.Nat.{ℕ}
use native.Mathlib.Omega.{arith}
use lib.Dec.{ltb}
use borrow.Author.Tests.{lt-ltb, le-ltb, ltb-false}
use Rattle.std.specs.Prelude.{Option, Some, None, unwrap_or}
use Rattle.std.proofs.lemmas.Option.{none-some}
use Rattle.sheets.specs.declared.finding.Wanted.{Wanted}
use Rattle.answers.specs.Numbers.{is_digit, is_numeral, spelled, field_of, request_of}
use Rattle.answers.specs.Parts.{up_to, past}
use Rattle.answers.specs.Listing.{field_in, request_in, SpellsWord, SpellsJudgment}
use Rattle.answers.proofs.NumberLaws.{number_is}
use Rattle.answers.proofs.PartedLaws.{parted, some_before, digits_before}
use Rattle.answers.proofs.DateTextLaws.{numeral_is}

-- the field of a numeral or of another text, below 2^64 or not, and so for 2^32
abbrev field_by : Bool → Bool → ℕ → Option ℕ
field_by read large n = cond read (cond large None (Some n)) None

module _ (text : List ℕ) where
  abbrev n₀ : ℕ
  n₀ = spelled 0 text

  field_by_lem : field_in text ≡ field_by (is_numeral text && ltb n₀ 18446744073709551616) (ltb 4294967295 n₀) n₀
  unfolding field_of
  field_by_lem = ap field_of (number_is text) ∙ pick (is_numeral text && ltb n₀ 18446744073709551616)
    where
      pick : (read : Bool) → field_of (cond read (Some n₀) None) ≡ field_by read (ltb 4294967295 n₀) n₀
      pick true = refl
      pick false = refl

  word-spelled : {n : ℕ} → field_in text ≡ Some n → SpellsWord text n
  word-spelled {n} e =
      pick (is_numeral text) (ltb n₀ 18446744073709551616) (ltb 4294967295 n₀) refl refl (sym field_by_lem ∙ e)
    where
      pick : (a b c : Bool) → is_numeral text ≡ a → ltb 4294967295 n₀ ≡ c → field_by (a && b) c n₀ ≡ Some n
          → SpellsWord text n
      pick true true true is s e = absurd (none-some _ e)
      pick true true false is s e = record {
        numeral = (numeral_is text).0 is;
        value = sym (ap (λ r. unwrap_or r n) e);
        small = omega (arith, ltb-false 4294967295 n₀ s, ap (λ r. unwrap_or r n) e);
      }
      pick true false c is s e = absurd (none-some _ e)
      pick false b c is s e = absurd (none-some _ e)

  word_read : {n : ℕ} → SpellsWord text n → field_in text ≡ Some n
  word_read {n} s =
      field_by_lem
      ∙ rw (
        (numeral_is text).1 s.numeral,
        lt-ltb n₀ 18446744073709551616 (omega (arith, s.small, s.value)),
        le-ltb 4294967295 n₀ (omega (arith, s.small, s.value)),
        s.value,
      )

-- five fields make a judgment if all are numbers
abbrev AreWords : Option ℕ → Option ℕ → Option ℕ → Option ℕ → Option ℕ → Wanted → Type 0
AreWords f₀ f₁ f₂ f₃ f₄ w =
    (f₀ ≡ Some w.form) × (f₁ ≡ Some w.context) × (f₂ ≡ Some w.s1) × (f₃ ≡ Some w.s2) × (f₄ ≡ Some w.s3)

all_words : (f₀ f₁ f₂ f₃ f₄ : Option ℕ) (w : Wanted) → request_of f₀ f₁ f₂ f₃ f₄ ≡ Some w → AreWords f₀ f₁ f₂ f₃ f₄ w
unfolding request_of
all_words (Some a) (Some b) (Some c) (Some d) (Some f) w e =
    let same = ap (λ r. unwrap_or r w) e in (
      ap (λ v. Some v.form) same,
      ap (λ v. Some v.context) same,
      ap (λ v. Some v.s1) same,
      ap (λ v. Some v.s2) same,
      ap (λ v. Some v.s3) same,
    )
all_words (Some a) (Some b) (Some c) (Some d) None w e = absurd (none-some _ e)
all_words (Some a) (Some b) (Some c) None f₄ w e = absurd (none-some _ e)
all_words (Some a) (Some b) None f₃ f₄ w e = absurd (none-some _ e)
all_words (Some a) None f₂ f₃ f₄ w e = absurd (none-some _ e)
all_words None f₁ f₂ f₃ f₄ w e = absurd (none-some _ e)

-- a number behind the first space shows that there is one
next_part : (text : List ℕ) {n : ℕ} → SpellsWord (up_to 32 (past 32 text)) n
    → text ≡ up_to 32 text ++ (32 ∷ past 32 text)
next_part text s = parted 32 text (some_before 32 (past 32 text) s.numeral.some)

forth : (line : List ℕ) (w : Wanted) → request_in line ≡ Some w → SpellsJudgment line w
unfolding request_in
forth line w e =
    let context = past 32 line in
    let s1 = past 32 context in
    let s2 = past 32 s1 in
    let s3 = past 32 s2 in
    let words = all_words _ _ _ _ _ w e in
    let context_word = word-spelled (up_to 32 (past 32 line)) words.1 in
    let s1_word = word-spelled (up_to 32 (past 32 (past 32 line))) words.2 in
    let s2_word = word-spelled (up_to 32 (past 32 (past 32 (past 32 line)))) words.3 in
    let s3_word = word-spelled (past 32 (past 32 (past 32 (past 32 line)))) words.4 in
    record {
      form = up_to 32 line;
      context = up_to 32 context;
      s1 = up_to 32 s1;
      s2 = up_to 32 s2;
      s3 = s3;
      parted =
          next_part line context_word
          ∙ ap (λ l. up_to 32 line ++ (32 ∷ l)) (next_part context s1_word
          ∙ ap (λ l. up_to 32 context ++ (32 ∷ l)) (next_part s1 s2_word
          ∙ ap (λ l. up_to 32 s1 ++ (32 ∷ l)) (parted 32 s2 s3_word.numeral.some)));
      form_word = word-spelled (up_to 32 line) words.0;
      context_word = context_word;
      s1_word = s1_word;
      s2_word = s2_word;
      s3_word = s3_word;
    }

-- the number before a space, and what is behind it
before_space : (text rest all : List ℕ) {n : ℕ} → SpellsWord text n → all ≡ text ++ (32 ∷ rest)
    → (field_in (up_to 32 all) ≡ Some n) × (past 32 all ≡ rest)
unfolding is_digit
before_space text rest all s e =
    let parts = digits_before 32 refl text rest s.numeral.digits in
    (ap (λ l. field_in (up_to 32 l)) e ∙ ap field_in parts.0 ∙ word_read text s, ap (past 32) e ∙ parts.1)

back : (line : List ℕ) (w : Wanted) → SpellsJudgment line w → request_in line ≡ Some w
unfolding request_in request_of
back line w s =
    let form = before_space s.form _ line s.form_word s.parted in
    let context = before_space s.context _ (past 32 line) s.context_word form.1 in
    let s1 = before_space s.s1 _ (past 32 (past 32 line)) s.s1_word context.1 in
    let s2 = before_space s.s2 _ (past 32 (past 32 (past 32 line))) s.s2_word s1.1 in
    let s3 = ap field_in s2.1 ∙ word_read s.s3 s.s3_word in
    (λ i. request_of (form.0 i) (context.0 i) (s1.0 i) (s2.0 i) (s3 i))

-- a judgment is read exactly if the line spells it
pub request_in_is : (line : List ℕ) (w : Wanted) → (request_in line ≡ Some w) ↔ SpellsJudgment line w
request_in_is line w = (forth line w, back line w)

-- and none exactly if it spells none
pub no_request_is : (line : List ℕ) → (request_in line ≡ None) ↔ ((w : Wanted) → SpellsJudgment line w → ⊥)
no_request_is line = (λ e w s. none-some _ (sym e ∙ back line w s), λ none. pick none (request_in line) refl)
  where
    pick : ((w : Wanted) → SpellsJudgment line w → ⊥) → (r : Option Wanted) → request_in line ≡ r → r ≡ None
    pick none (Some w) e = absurd (none w (forth line w e))
    pick none None e = refl
