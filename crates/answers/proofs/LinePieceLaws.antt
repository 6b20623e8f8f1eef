-- A piece of a text that std's `split_inclusive` gives is the text's first line and its end, which is then taken off.
-- Assumes nothing.
use mathlib.Core.Path.{◌≡◌, refl, sym, ◌∙◌, ap}
use mathlib.Core.Bool.{Bool, true, false, cond}
use mathlib.Core.List.{List, [], ◌∷◌, ◌++◌}
use Prim.Native.Nat.{ℕ, zero, suc, ◌+◌, ◌-◌, ◌<◌, min}
use native.Mathlib.Omega.{arith}
use lib.Dec.{eqb}
use lib.ListN.{length, take, drop}
use lib.Pointwise.{pointwise}
use lib.Seq.{take_at, drop_at}
use denote.Param.Members.{Called, Mut}
use Rattle.std.proofs.Common.{Bor}
use Rattle.std.proofs.lemmas.Fn.{always_returns_same}
use Rattle.std.specs.Prelude.{Option, Some, None, MatchOption}
use Rattle.std.specs.Option.{unwrap_or}
use Rattle.std.specs.Fn.{ComputesKey}
use Rattle.std.specs.List.{IsFirstMatchOrLen}
use Rattle.answers.specs.Parts.{up_to, past}
use Rattle.answers.proofs.PartLaws.{past_is}

-- the first line is as long as what std's search for its end passes over
line_long : (text : List ℕ) (i : ℕ) → IsFirstMatchOrLen (λ b. eqb b 10) text i
    → min (i + 1) (length text) ≡ min (length (up_to 10 text) + 1) (length text)
unfolding up_to
line_long [] i first = omega arith
line_long (byte ∷ text) zero first =
    ap (λ same. min (length (cond same [] (byte ∷ up_to 10 text)) + 1) (suc (length text)))
    (sym (first.1 (omega arith) 0))
line_long (byte ∷ text) (suc i) first =
    more (line_long text i behind)
    ∙ ap (λ same. min (length (cond same [] (byte ∷ up_to 10 text)) + 1) (suc (length text)))
    (sym (first.0 0 0 (omega arith) (omega arith)))
  where
    behind : IsFirstMatchOrLen (λ b. eqb b 10) text i
    behind = (
      (λ k d low high. first.0 (suc k) d (omega arith) (omega (arith, high))),
      (λ inside. first.1 (omega (arith, inside))),
    )

    more : min (i + 1) (length text) ≡ min (length (up_to 10 text) + 1) (length text)
        → min (suc i + 1) (suc (length text)) ≡ min (suc (length (up_to 10 text)) + 1) (suc (length text))
    more e = omega (arith, e)

-- whether a piece's last byte is a line end, as std's `strip_suffix` finds it
abbrev ended : List ℕ → Bool
ended piece = pointwise eqb (drop (length piece - 1) piece) (10 ∷ [])

-- a piece up to a place, if a line end alone is behind it
up_to_end : ℕ → List ℕ → List ℕ
up_to_end place piece = cond (pointwise eqb (drop place piece) (10 ∷ [])) (take place piece) piece

-- a piece without its line end
abbrev trimmed : List ℕ → List ℕ
trimmed piece = up_to_end (length piece - 1) piece

trimmed_more : (byte : ℕ) (piece : List ℕ) → eqb byte 10 ≡ false → trimmed (byte ∷ piece) ≡ byte ∷ trimmed piece
unfolding up_to_end
trimmed_more byte [] other = rw other
trimmed_more byte (b ∷ piece) other =
    ap (λ n. up_to_end n (byte ∷ b ∷ piece)) (less (suc (length piece)))
    ∙ pick (pointwise eqb (drop (length piece) (b ∷ piece)) (10 ∷ []))
    ∙ ap (λ n. byte ∷ up_to_end n (b ∷ piece)) (sym (less (length piece)))
  where
    less : (n : ℕ) → suc n - 1 ≡ n
    less n = omega arith

    pick : (e : Bool) → cond e (byte ∷ take (length piece) (b ∷ piece)) (byte ∷ b ∷ piece)
        ≡ byte ∷ cond e (take (length piece) (b ∷ piece)) (b ∷ piece)
    pick true = refl
    pick false = refl

trimmed_is : (text : List ℕ) → trimmed (take (min (length (up_to 10 text) + 1) (length text)) text) ≡ up_to 10 text
unfolding up_to up_to_end
trimmed_is [] = refl
trimmed_is (byte ∷ text) = pick (eqb byte 10) refl (trimmed_is text)
  where
    short : ℕ
    short = min (length (up_to 10 text) + 1) (length text)

    more : min (suc (length (up_to 10 text)) + 1) (suc (length text)) ≡ suc short
    more = omega arith

    one : min (0 + 1) (suc (length text)) ≡ 1
    one = omega arith

    alone : eqb byte 10 ≡ true → trimmed (byte ∷ []) ≡ []
    alone e = rw e

    pick : (same : Bool) → eqb byte 10 ≡ same → trimmed (take short text) ≡ up_to 10 text
        → trimmed (take (min (length (cond same [] (byte ∷ up_to 10 text)) + 1) (suc (length text))) (byte ∷ text))
        ≡ cond same [] (byte ∷ up_to 10 text)
    pick true e rest = ap (λ n. trimmed (take n (byte ∷ text))) one ∙ alone e
    pick false e rest =
        ap (λ n. trimmed (take n (byte ∷ text))) more
        ∙ trimmed_more byte (take short text) e
        ∙ ap (λ l. byte ∷ l) rest

-- what std's `strip_suffix` leaves of a piece
abbrev IsStripped : List ℕ → Option (Bor (List ℕ)) → Type 0
IsStripped piece left =
    MatchOption left (ended piece ≡ false)
    (λ x. (ended piece ≡ true) × (x.now ≡ take (length piece - 1) piece) × (length x.now + 1 ≡ length piece))

stripped : (piece : Bor (List ℕ)) (left : Option (Bor (List ℕ))) → IsStripped piece.now left
    → (unwrap_or left piece).now ≡ trimmed piece.now
unfolding up_to_end
stripped piece None is = ap (λ e. cond e (take (length piece.now - 1) piece.now) piece.now) (sym is)
stripped piece (Some x) is = is.1 ∙ ap (λ e. cond e (take (length piece.now - 1) piece.now) piece.now) (sym is.0)

-- a step of std's iterator: its piece is the first line of what it has left, and it goes on behind that
pub piece_line : {F : Type 0} {g : Mut F (Bor ℕ × Unit {0}) Bool} {f f' : F} {rest next : List ℕ} (piece : Bor (List ℕ))
    (left : Option (Bor (List ℕ))) {line : Bor (List ℕ)}
    → (rest ≡ piece.now ++ next) × ((i : ℕ) × (length piece.now ≡ min (i + 1) (length rest))
    × ((p : ℕ → Bool) → ComputesKey g p f → ComputesKey g p f' × IsFirstMatchOrLen p rest i)) × (0 < length rest)
    → ((a : Bor ℕ × Unit {0}) (r : Bool) (k : F) → Called g f a r k → (r ≡ eqb a.0.now 10) × (k ≡ f))
    → IsStripped piece.now left → line ≡ unwrap_or left piece
    → (line.now ≡ up_to 10 rest) × (next ≡ past 10 rest)
piece_line {g = g} {f = f} {rest = rest} {next = next} piece left step asks strip is = (
  ap (λ l. l.now) is ∙ stripped piece left strip
      ∙ ap trimmed (sym (ap (take (length piece.now)) step.0 ∙ take_at piece.now next (length piece.now) refl))
      ∙ ap (λ n. trimmed (take n rest)) long ∙ trimmed_is rest,
  sym (ap (drop (length piece.now)) step.0 ∙ drop_at piece.now next (length piece.now) refl)
      ∙ ap (λ n. drop n rest) long ∙ past_is 10 rest,
)
  where
    long : length piece.now ≡ min (length (up_to 10 rest) + 1) (length rest)
    long = step.1.1 ∙ line_long rest step.1.0 (step.1.2 (λ b. eqb b 10) (always_returns_same g _ f asks)).1
