-- The numbers of many queries: each answer is that of the single call, and an example by computing on the bytes. The book is document 01's office: Monday to
-- Friday, 09:00 to 17:00 in UTC.
use Rattle.std.specs.Prelude.{◌≡◌, List, [], ◌∷◌, ◌++◌, ℕ, ℤ, pos, neg_ℤ, replicate}
use Rattle.std.proofs.Math.Path.{refl}
use Rattle.model.specs.All.{everything}
use Rattle.model.specs.Build.{build}
use Rattle.model.specs.Calls.{between, add, sub, next_period, previous_period}
use Rattle.model.specs.Label.{office, no_zones, hour}
use Rattle.model.specs.Lines.{reply_to}
use Rattle.answer_numbers.specs.Outcomes.{Outcome, written}
use Rattle.query_numbers.specs.Batch.{query_for, query_at, answers_from, six_of, answer_to, batch}

-- ---- "the number that the single call returns", its place or windows, its numbers

module _ (book pack : List ℕ) (a b c d : ℤ) where
  pub record AsSingle : Type 0 where
    pub betweens : answer_to (build book pack) (query_for (pos 0) a b c d) ≡ six_of (between book pack a b c d)
    pub adds : answer_to (build book pack) (query_for (pos 1) a b c d) ≡ six_of (add book pack a b c d)
    pub subs : answer_to (build book pack) (query_for (pos 2) a b c d) ≡ six_of (sub book pack a b c d)
    pub nexts : answer_to (build book pack) (query_for (pos 3) a b c d) ≡ six_of (next_period book pack a b)
    pub previouses : answer_to (build book pack) (query_for (pos 4) a b c d) ≡ six_of (previous_period book pack a b)

  pub as-single : AsSingle
  unfolding query_for reply_to
  as-single = record { betweens = refl; adds = refl; subs = refl; nexts = refl; previouses = refl }

-- ---- an example

-- January 2026: from Friday 9th 16:00 to Monday 12th 10:00; two hours on from that Friday; the period before Saturday 10th 10:00; past the range's end; a
-- kind that there is not
abbrev queries : List ℤ
queries =
    (pos 0 ∷ hour 9 16 ∷ pos 0 ∷ hour 12 10 ∷ pos 0 ∷ []) ++ (pos 1 ∷ hour 9 16 ∷ pos 0 ∷ pos 7200 ∷ pos 0 ∷ []) ++
    (pos 4 ∷ hour 10 10 ∷ pos 0 ∷ pos 0 ∷ pos 0 ∷ []) ++ (pos 1 ∷ pos 253402207200 ∷ pos 999999999 ∷ pos 0 ∷ pos 1 ∷ []) ++
    (pos 7 ∷ pos 0 ∷ pos 0 ∷ pos 0 ∷ pos 0 ∷ [])

abbrev answers : List ℤ
answers =
    (pos 0 ∷ pos 1 ∷ pos 7200 ∷ pos 0 ∷ pos 0 ∷ pos 0 ∷ []) ++ (pos 0 ∷ pos 1 ∷ hour 12 10 ∷ pos 0 ∷ pos 0 ∷ pos 0 ∷ []) ++
    (pos 0 ∷ pos 0 ∷ hour 9 9 ∷ pos 0 ∷ hour 9 17 ∷ pos 0 ∷ []) ++ (pos 7 ∷ pos 0 ∷ pos 0 ∷ pos 0 ∷ pos 0 ∷ pos 0 ∷ []) ++
    (pos 101 ∷ pos 0 ∷ pos 0 ∷ pos 0 ∷ pos 0 ∷ pos 0 ∷ [])

-- lent numbers
abbrev lent : ℕ → List ℤ
lent n = replicate n (neg_ℤ (pos 1))

abbrev asked : List ℤ → ℕ → Outcome
asked q n = batch (build office no_zones) q (lent n)

pub record BatchExamples : Type 0 where
  -- with one number more than the answers need, which stays; with one less; and a number behind the last query
  pub answered : asked queries 31 ≡ record { returned = 0; numbers = answers ++ lent 1 }
  pub one-short : asked queries 29 ≡ record { returned = 100; numbers = lent 29 }
  pub not-whole : asked (queries ++ pos 0 ∷ []) 31 ≡ record { returned = 101; numbers = lent 31 }
  pub none-asked : asked [] 3 ≡ record { returned = 0; numbers = lent 3 }

pub batch-examples : BatchExamples
unfolding everything written query_for query_at answers_from batch
batch-examples = record { answered = refl; one-short = refl; not-whole = refl; none-asked = refl }
