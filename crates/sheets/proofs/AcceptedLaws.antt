-- Accepted sheets are the good ones; what they state.
-- Assumes nothing.
use mathlib.Core.Path.{◌≡◌, ap}
use mathlib.Core.List.{List}
use Prim.Native.Nat.{ℕ}
use native.Mathlib.Omega.{arith}
use Rattle.sheets.specs.Lines.{stated_at}
use Rattle.sheets.specs.Good.{Good}
use Rattle.sheets.specs.GoodLayout.{trailer_for}
use Rattle.terms.specs.Lists.{listed}
use Rattle.sheets.specs.Accepted.{IsAccepted, stated_by}
use Rattle.sheets.proofs.AdmissionLaws.{accepted_is}

pub good_accepted : {b : List ℕ} {T C L : ℕ} → Good b T C L → IsAccepted b
good_accepted {b} {T} {C} {L} g = record { T = T; C = C; L = L; answer = λ work h. (accepted_is b work T C L).1 (g, h) }

pub accepted_good : (b : List ℕ) (a : IsAccepted b) → Good b a.T a.C a.L
accepted_good b a = ((accepted_is b a.T a.T a.C a.L).0 (a.answer a.T (omega arith))).0

pub stated_is : {b : List ℕ} {T C L : ℕ} → Good b T C L → stated_by b ≡ listed (stated_at b T C) L
unfolding stated_by trailer_for
stated_is {b} g = ap (λ t. listed (stated_at b t.terms t.contexts) t.lines) g.tables.laid.trailer
