-- Each word is the one that stands at its place.
-- Assumes nothing.
use Rattle.rules_demo.specs.Cases.{judgment_from, case_judgment}
use Rattle.rules_demo.proofs.cases.judgment_at.Goals as goal

pub returns : goal.returns
unfolding case_judgment judgment_from
returns c = λ i. record {
  form = c.word_at.ensures.value i;
  context = c.word_at-2.ensures.value i;
  s1 = c.word_at-3.ensures.value i;
  s2 = c.word_at-4.ensures.value i;
  s3 = c.word_at-5.ensures.value i;
}
