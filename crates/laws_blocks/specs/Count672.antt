-- How many blocks there are: a union has no more than its list, and a difference no more than its two lists together. With bounds on the blocks
-- of the rules they say that an array of `most_blocks` suffices.
use Rattle.std.specs.Prelude.{ℕ, suc, ◌+◌, ◌<◌, ◌≤◌, max, ◌≡◌, refl, ◌&&◌, List, [], ◌∷◌, ltb, leb, length}
use Rattle.std.proofs.Common.{◌∙◌, ap, arith, length-append, ltb-true, ltb-false, leb-false, lt-ltb, le-ltb}
use Rattle.model.specs.Blocks.{Block, block, put, insert, sorted, merged_from, merged, union, cut, subtract}
use Rattle.laws_base.specs.Test.{by-test}
use Rattle.laws_blocks.specs.Count.{bit}
use Rattle.laws_blocks.specs.Members.{NonEmpty, Chain, Normal, union-normal}

-- no window has more blocks than this
abbrev pub most_blocks : ℕ
most_blocks = 672

-- ---- union

insert-length : (b : Block) (l : List Block) → length (insert b l) ≡ suc (length l)
unfolding insert
insert-length b [] = refl
insert-length b (c ∷ l) = by-test (leb b.start c.start) (λ e. rw e) (λ e. rw e (ap suc (insert-length b l)))

pub sorted-length : (l : List Block) → length (sorted l) ≡ length l
unfolding sorted
sorted-length [] = refl
sorted-length (b ∷ l) = insert-length b (sorted l) ∙ ap suc (sorted-length l)

merged-from-length : (b : Block) (l : List Block) → length (merged_from b l) ≤ suc (length l)
unfolding merged_from
merged-from-length b [] = omega arith
merged-from-length b (c ∷ l) =
    by-test (leb c.start b.end)
    (λ e. let h = merged-from-length (block b.start (max b.end c.end)) l in rw e (omega arith))
    (λ e. let h = merged-from-length c l in rw e (omega arith))

pub merged-length : (l : List Block) → length (merged l) ≤ length l
unfolding merged
merged-length [] = omega arith
merged-length (b ∷ l) = merged-from-length b l

pub union-length : (l : List Block) → length (union l) ≤ length l
unfolding union
union-length l = let h = merged-length (sorted l) in let e = sorted-length l in omega arith

-- ---- subtract

-- an end strictly inside [s, e) splits it; one beyond m is still to be met
abbrev splits : ℕ → ℕ → ℕ → ℕ
splits s e x = bit (ltb s x && ltb x e)

-- how many of off do so
unfoldable cuts : ℕ → ℕ → List Block → ℕ
cuts s e [] = 0
cuts s e (g ∷ off) = splits s e g.end + cuts s e off

unfoldable beyond : ℕ → List Block → ℕ
beyond m [] = 0
beyond m (g ∷ off) = bit (ltb m g.end) + beyond m off

splits-less : (s r e x : ℕ) → s ≤ r → splits r e x ≤ splits s e x
splits-less s r e x h =
    by-test (ltb r x)
    (λ p. let k = ltb-true r x p in rw (p, lt-ltb s x (omega arith)) (omega arith))
    (λ p. rw p (omega arith))

-- an end is inside [s, e) or beyond e, not both
splits-apart : (m s e x : ℕ) → m ≤ s → s ≤ e → splits s e x + bit (ltb (suc e) x) ≤ bit (ltb m x)
splits-apart m s e x h i =
    by-test (ltb s x)
    (λ p. let k = ltb-true s x p in
    by-test (ltb x e)
    (λ q. let o = ltb-true x e q in rw (p, q, le-ltb (suc e) x (omega arith), lt-ltb m x (omega arith)) (omega arith))
    (λ q. rw (p, q, lt-ltb m x (omega arith)) (by-test (ltb (suc e) x) (λ r. rw r (omega arith)) (λ r. rw r (omega arith)))))
    (λ p. rw p (by-test (ltb (suc e) x) (λ r. absurd (omega (arith, ltb-true (suc e) x r, ltb-false s x p))) (λ r. rw r (omega arith))))

cuts-less : (s r e : ℕ) (off : List Block) → s ≤ r → cuts r e off ≤ cuts s e off
unfolding cuts
cuts-less s r e [] h = omega arith
cuts-less s r e (g ∷ off) h = omega (arith, splits-less s r e g.end h, cuts-less s r e off h)

cuts-apart : (m s e : ℕ) (off : List Block) → m ≤ s → s ≤ e → cuts s e off + beyond (suc e) off ≤ beyond m off
unfolding cuts beyond
cuts-apart m s e [] h k = omega arith
cuts-apart m s e (g ∷ off) h k = omega (arith, splits-apart m s e g.end h k, cuts-apart m s e off h k)

beyond-length : (m : ℕ) (off : List Block) → beyond m off ≤ length off
unfolding beyond
beyond-length m [] = omega arith
beyond-length m (g ∷ off) =
    let h = beyond-length m off in
    by-test (ltb m g.end) (λ e. rw e (omega arith)) (λ e. rw e (omega arith))

put-length : (s e : ℕ) (l : List Block) → length (put s e l) ≤ suc (length l)
put-length s e l = by-test (ltb s e) (λ p. rw p (omega arith)) (λ p. rw p (omega arith))

put-none : (s e : ℕ) (l : List Block) → e ≤ s → put s e l ≡ l
put-none s e l h = rw (le-ltb s e h)

-- nothing is left of an empty stretch
cut-none : (s e : ℕ) (off : List Block) → e ≤ s → cut s e off ≡ []
unfolding cut
cut-none s e [] h = put-none s e [] h
cut-none s e (g ∷ off) h =
    by-test (leb g.end s)
    (λ p. rw p (cut-none s e off h))
    (λ p. by-test (leb e g.start)
    (λ q. rw (p, q) (put-none s e [] h))
    (λ q.
    let a : s < g.end = leb-false g.end s p in
    let b : g.start < e = leb-false e g.start q in
    rw (p, q) (put-none s g.start (cut g.end e off) (omega arith) ∙ cut-none g.end e off (omega arith))))

cut-length : (s e : ℕ) (off : List Block) → length (cut s e off) ≤ suc (cuts s e off)
unfolding cut cuts
cut-length s e [] = put-length s e []
cut-length s e (g ∷ off) =
    by-test (leb g.end s)
    (λ p. let h = cut-length s e off in rw p (omega arith))
    (λ p. by-test (leb e g.start)
    (λ q. let h = put-length s e [] in rw (p, q) (omega arith))
    (λ q.
    let a : s < g.end = leb-false g.end s p in
    let w = put-length s g.start (cut g.end e off) in
    by-test (ltb g.end e)
    (λ r.
    let h = cut-length g.end e off in
    let k = cuts-less s g.end e off (omega arith) in
    rw (p, q) (rw (lt-ltb s g.end a, r) (omega arith)))
    (λ r.
    let n : length (cut g.end e off) ≡ 0 = ap length (cut-none g.end e off (ltb-false g.end e r)) in
    rw (p, q) (omega arith))))

subtract-count : (m : ℕ) (on off : List Block) → Chain m on → length (subtract on off) ≤ length on + beyond m off
unfolding subtract
subtract-count m [] off c = omega arith
subtract-count m (b ∷ on) off c =
    let h = cut-length b.start b.end off in
    let k = subtract-count (suc b.end) on off c.2 in
    let a = cuts-apart m b.start b.end off c.0 (omega arith) in
    rw length-append (omega arith)

pub subtract-length : (on off : List Block) → Normal on → length (subtract on off) ≤ length on + length off
subtract-length on off c = omega (arith, subtract-count 0 on off c, beyond-length 0 off)

-- what is left of two lists of blocks that need not be in order
pub left-length : (on off : List Block) → NonEmpty on → length (subtract (union on) (union off)) ≤ length on + length off
left-length on off n = omega (arith, subtract-length (union on) (union off) (union-normal on n), union-length on, union-length off)
