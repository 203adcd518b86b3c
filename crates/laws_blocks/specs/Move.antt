-- Blocks moved by a constant: `clipped`, `union` and `subtract` move with them, and the sum of the lengths stays.
use Rattle.std.specs.Prelude.{ℕ, ◌+◌, min, max, ◌≡◌, ltb, leb}
use Rattle.std.proofs.Math.Path.{refl, ap}
use Rattle.std.proofs.Common.{sym, ◌∙◌, arith, ltb-true, ltb-false, lt-ltb, le-ltb, leb-true, leb-false, le-leb}
use mathlib.Core.List.{List, [], ◌∷◌, ◌++◌}
use Rattle.std.proofs.lemmas.Bool.{lt-leb}
use Rattle.model.specs.Blocks.{Block, block, put, clipped, insert, sorted, merged_from, merged, union, cut, subtract, total}
use Rattle.laws_base.specs.Test.{by-test}

abbrev pub moved_block : ℕ → Block → Block
moved_block w b = block (b.start + w) (b.end + w)

unfoldable pub moves : ℕ → List Block → List Block
moves w [] = []
moves w (b ∷ l) = moved_block w b ∷ moves w l

max-moved : (w a b : ℕ) → max (a + w) (b + w) ≡ max a b + w
max-moved w a b = omega arith

min-moved : (w a b : ℕ) → min (a + w) (b + w) ≡ min a b + w
min-moved w a b = omega arith

module _ (w : ℕ) where
  pub ltb-moved : (a b : ℕ) → ltb (a + w) (b + w) ≡ ltb a b
  ltb-moved a b =
      by-test (ltb a b)
      (λ p. let h = ltb-true a b p in lt-ltb (a + w) (b + w) (omega arith) ∙ sym p)
      (λ p. let h = ltb-false a b p in le-ltb (a + w) (b + w) (omega arith) ∙ sym p)

  pub leb-moved : (a b : ℕ) → leb (a + w) (b + w) ≡ leb a b
  leb-moved a b =
      by-test (leb a b)
      (λ p. let h = leb-true a b p in le-leb (a + w) (b + w) (omega arith) ∙ sym p)
      (λ p. let h = leb-false a b p in lt-leb (a + w) (b + w) (omega arith) ∙ sym p)

  pub moves-append : (l k : List Block) → moves w (l ++ k) ≡ moves w l ++ moves w k
  unfolding moves
  moves-append [] k = refl
  moves-append (b ∷ l) k = rw (moves-append l k)

  put-moved : (s e : ℕ) (l : List Block) → put (s + w) (e + w) (moves w l) ≡ moves w (put s e l)
  unfolding moves
  put-moved s e l = by-test (ltb s e) (λ p. rw (p, ltb-moved s e ∙ p)) (λ p. rw (p, ltb-moved s e ∙ p))

  pub clipped-moved : (lo hi s e : ℕ) → clipped (lo + w) (hi + w) (s + w) (e + w) ≡ moves w (clipped lo hi s e)
  unfolding clipped moves
  clipped-moved lo hi s e = rw (max-moved w s lo, min-moved w e hi) (put-moved (max s lo) (min e hi) [])

  insert-moved : (b : Block) (l : List Block) → insert (moved_block w b) (moves w l) ≡ moves w (insert b l)
  unfolding insert moves
  insert-moved b [] = refl
  insert-moved b (c ∷ l) =
      by-test (leb b.start c.start)
      (λ p. rw (p, leb-moved b.start c.start ∙ p))
      (λ p. rw (p, leb-moved b.start c.start ∙ p, insert-moved b l))

  sorted-moved : (l : List Block) → sorted (moves w l) ≡ moves w (sorted l)
  unfolding sorted moves
  sorted-moved [] = refl
  sorted-moved (b ∷ l) = ap (insert (moved_block w b)) (sorted-moved l) ∙ insert-moved b (sorted l)

  merged-from-moved : (b : Block) (l : List Block) → merged_from (moved_block w b) (moves w l) ≡ moves w (merged_from b l)
  unfolding merged_from moves
  merged-from-moved b [] = refl
  merged-from-moved b (c ∷ l) =
      by-test (leb c.start b.end)
      (λ p. rw (p, leb-moved c.start b.end ∙ p, max-moved w b.end c.end) (merged-from-moved (block b.start (max b.end c.end)) l))
      (λ p. rw (p, leb-moved c.start b.end ∙ p, merged-from-moved c l))

  pub merged-moved : (l : List Block) → merged (moves w l) ≡ moves w (merged l)
  unfolding merged moves
  merged-moved [] = refl
  merged-moved (b ∷ l) = merged-from-moved b l

  pub union-moved : (l : List Block) → union (moves w l) ≡ moves w (union l)
  unfolding union
  union-moved l = ap merged (sorted-moved l) ∙ merged-moved (sorted l)

  cut_moved : (s e : ℕ) (off : List Block) → cut (s + w) (e + w) (moves w off) ≡ moves w (cut s e off)
  unfolding cut moves
  cut_moved s e [] = put-moved s e []
  cut_moved s e (g ∷ off) =
      by-test (leb g.end s)
      (λ p. rw (p, leb-moved g.end s ∙ p) (cut_moved s e off))
      (λ p. by-test (leb e g.start)
      (λ q. rw (p, leb-moved g.end s ∙ p, q, leb-moved e g.start ∙ q) (put-moved s e []))
      (λ q.
      rw (p, leb-moved g.end s ∙ p, q, leb-moved e g.start ∙ q, cut_moved g.end e off) (put-moved s g.start (cut g.end e off))))

  pub subtract-moved : (on off : List Block) → subtract (moves w on) (moves w off) ≡ moves w (subtract on off)
  unfolding subtract moves
  subtract-moved [] off = refl
  subtract-moved (b ∷ on) off =
      rw (moves-append (cut b.start b.end off) (subtract on off), cut_moved b.start b.end off, subtract-moved on off)

  pub total-moved : (l : List Block) → total (moves w l) ≡ total l
  unfolding total moves
  total-moved [] = refl
  total-moved (b ∷ l) = rw (total-moved l) (omega arith)
