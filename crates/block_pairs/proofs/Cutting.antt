-- Blocks taken away by one walk, and the sum: what a turn of each loop keeps. Assumes nothing.
use mathlib.Core.Path.{◌≡◌, refl, sym, ◌∙◌, ap, ap₂}
use mathlib.Core.Bool.{false}
use mathlib.Core.List.{List, [], ◌∷◌, ◌++◌, append_assoc, append-nil}
use Prim.Native.Nat.{ℕ, suc, ◌+◌, ◌*◌, ◌-◌, ◌≤◌, ◌<◌}
use native.Mathlib.Omega.{arith}
use borrow.Author.Tests.{leb-false, lt-ltb, le-ltb, le-leb, lt-leb}
use lib.Dec.{ltb, leb}
use lib.ListN.{length, get_or}
use Rattle.model.specs.Blocks.{Block, put, cut, subtract, total}
use Rattle.laws_base.specs.Test.{by-test}
use Rattle.laws_blocks.specs.Members.{NonEmpty, Chain, Normal, From, from-weaken, chain-weaken, chain-sorted}
use Rattle.block_pairs.specs.Pairs.{part, pairs, CutTo}
use Rattle.block_pairs.proofs.Parts.{block_at, from_first, from-none, stored, stored-front, stored-push}

-- ---- a piece stored

pub emit-kept : (l : List ℕ) (w s e : ℕ) → s < e → 2 * w + 2 ≤ length l → pairs (w + 1) (stored l w s e) ≡ pairs w l ++ put s e []
emit-kept l w s e h k = rw (lt-ltb s e h) (stored-push l w s e k)

pub emit-none : (l : List ℕ) (w s e : ℕ) → e ≤ s → pairs w (stored l w s e) ≡ pairs w l ++ put s e []
emit-none l w s e h = rw (le-ltb s e h, append-nil (pairs w l)) (stored-front l w s e w (omega arith))

-- ---- one block without the gaps

put-append : (s e : ℕ) (l : List Block) → put s e l ≡ put s e [] ++ l
put-append s e l = by-test (ltb s e) (λ t. rw t) (λ t. rw t)

module _ (s e : ℕ) (g : Block) (l : List Block) where
  cut-passed : g.end ≤ s → cut s e (g ∷ l) ≡ cut s e l
  unfolding cut
  cut-passed h = rw (le-leb g.end s h)

  cut-breaks : s < g.end → e ≤ g.start → cut s e (g ∷ l) ≡ put s e []
  unfolding cut
  cut-breaks h k = rw (lt-leb g.end s h, le-leb e g.start k)

  cut-goes : s < g.end → g.start < e → cut s e (g ∷ l) ≡ put s g.start [] ++ cut g.end e l
  unfolding cut
  cut-goes h k = rw (lt-leb g.end s h, lt-leb e g.start k) (put-append s g.start (cut g.end e l))

-- nothing is left of what holds nothing
cut-empty : (s e : ℕ) (off : List Block) → e ≤ s → cut s e off ≡ []
unfolding cut
cut-empty s e [] h = rw (le-ltb s e h)
cut-empty s e (g ∷ gs) h =
    by-test (leb g.end s)
    (λ p. rw p (cut-empty s e gs h))
    (λ p. by-test (leb e g.start)
    (λ q. rw (p, q, le-ltb s e h))
    (λ q.
    let z : ltb s g.start ≡ false = le-ltb s g.start (omega (arith, leb-false e g.start q)) in
    rw (p, q, z) (cut-empty g.end e gs (omega (arith, leb-false g.end s p)))))

-- of [s, e), what is behind `from` and the gaps from k on are to come
pub record Cutting (off : List ℕ) (j m s e : ℕ) (out₀ : List ℕ) (w : ℕ) (out : List ℕ) (from k n : ℕ) : Type 0 where
  pub same : pairs n out ++ cut from e (part k (m - k) off) ≡ pairs w out₀ ++ cut s e (part j (m - j) off)
  pub rest : (s' e' : ℕ) → e ≤ s' → cut s' e' (part k (m - k) off) ≡ cut s' e' (part j (m - j) off)
  pub order : from ≤ e
  pub ahead : j ≤ k
  pub upto : k ≤ m
  pub count : n + j ≤ w + k
  pub long : length out ≡ length out₀

pub cut-starts : (off : List ℕ) (j m s e : ℕ) (out : List ℕ) (w : ℕ) → s ≤ e → j ≤ m → Cutting off j m s e out w out s j w
cut-starts off j m s e out w h k = record { same = refl; rest = λ s' e' u. refl; order = h; ahead = omega arith; upto = k; count = omega arith; long = refl }

module _ (off : List ℕ) (j m s e : ℕ) (out₀ : List ℕ) (w : ℕ) (out : List ℕ) (from k n : ℕ) (c : Cutting off j m s e out₀ w out from k n) where
  -- the gap at k
  here : ℕ → ℕ → List Block
  here a b = part (k + 1) (m - (k + 1)) off

  -- no gap is left, or the next one starts at e or later: the last piece goes up to e
  pub cut-runs-out : m ≤ k → (out' : List ℕ) (n' : ℕ) → pairs n' out' ≡ pairs n out ++ put from e [] → n' ≤ n + 1 → length out' ≡ length out → CutTo off j m s e out₀ w out' n' k
  unfolding cut
  cut-runs-out h out' n' p q l =
      let u = c.upto in let v = c.count in let z : k ≡ m = omega arith in
      let g : part k (m - k) off ≡ [] = ap (λ (x : ℕ). part x (m - x) off) z ∙ from-none m off in
      record {
        same = p ∙ ap (λ (t : List Block). pairs n out ++ cut from e t) (sym g) ∙ c.same;
        rest = c.rest;
        from = c.ahead;
        upto = c.upto;
        count = omega arith;
        long = l ∙ c.long;
      }

  module _ (h : k < m) where
    first : part k (m - k) off ≡ block_at off k ∷ part (k + 1) (m - (k + 1)) off
    first = from_first k m off h

    pub cut-past : get_or off (2 * k + 1) 0 ≤ from → Cutting off j m s e out₀ w out from (k + 1) n
    cut-past p =
        let u = c.order in let v = c.count in let d = c.ahead in record {
          same = ap (λ (t : List Block). pairs n out ++ t) (sym (ap (cut from e) first ∙ cut-passed from e (block_at off k) (part (k + 1) (m - (k + 1)) off) p)) ∙ c.same;
          rest = λ s' e' x. sym (ap (cut s' e') first ∙ cut-passed s' e' (block_at off k) (part (k + 1) (m - (k + 1)) off) (omega arith)) ∙ c.rest s' e' x;
          order = u;
          ahead = omega arith;
          upto = omega arith;
          count = omega arith;
          long = c.long;
        }

    module _ (p : from < get_or off (2 * k + 1) 0) where
      pub cut-stops : e ≤ get_or off (2 * k) 0 → (out' : List ℕ) (n' : ℕ) → pairs n' out' ≡ pairs n out ++ put from e [] → n' ≤ n + 1 → length out' ≡ length out
          → CutTo off j m s e out₀ w out' n' k
      cut-stops q out' n' r x l =
          let v = c.count in record {
            same = r ∙ ap (λ (t : List Block). pairs n out ++ t) (sym (ap (cut from e) first ∙ cut-breaks from e (block_at off k) (part (k + 1) (m - (k + 1)) off) p q)) ∙ c.same;
            rest = c.rest;
            from = c.ahead;
            upto = c.upto;
            count = omega arith;
            long = l ∙ c.long;
          }

      module _ (q : get_or off (2 * k) 0 < e) (out' : List ℕ) (n' : ℕ) (r : pairs n' out' ≡ pairs n out ++ put from (get_or off (2 * k) 0) []) (x : n' ≤ n + 1) (l : length out' ≡ length out) where
        goes : pairs n' out' ++ cut (get_or off (2 * k + 1) 0) e (part (k + 1) (m - (k + 1)) off) ≡ pairs w out₀ ++ cut s e (part j (m - j) off)
        goes =
            ap (λ (t : List Block). t ++ cut (get_or off (2 * k + 1) 0) e (part (k + 1) (m - (k + 1)) off)) r
            ∙ append_assoc (pairs n out) (put from (get_or off (2 * k) 0) []) (cut (get_or off (2 * k + 1) 0) e (part (k + 1) (m - (k + 1)) off))
            ∙ ap (λ (t : List Block). pairs n out ++ t) (sym (ap (cut from e) first ∙ cut-goes from e (block_at off k) (part (k + 1) (m - (k + 1)) off) p q)) ∙ c.same

        pub cut-ends : e ≤ get_or off (2 * k + 1) 0 → CutTo off j m s e out₀ w out' n' k
        cut-ends y =
            let v = c.count in
            let z : pairs n' out' ++ [] ≡ pairs n' out' = append-nil (pairs n' out') in
            record {
              same = sym z ∙ ap (λ (t : List Block). pairs n' out' ++ t) (sym (cut-empty (get_or off (2 * k + 1) 0) e (part (k + 1) (m - (k + 1)) off) y)) ∙ goes;
              rest = c.rest;
              from = c.ahead;
              upto = c.upto;
              count = omega arith;
              long = l ∙ c.long;
            }

        pub cut_on : get_or off (2 * k + 1) 0 < e → Cutting off j m s e out₀ w out' (get_or off (2 * k + 1) 0) (k + 1) n'
        cut_on y =
            let v = c.count in let d = c.ahead in record {
              same = goes;
              rest = λ s' e' z. sym (ap (cut s' e') first ∙ cut-passed s' e' (block_at off k) (part (k + 1) (m - (k + 1)) off) (omega arith)) ∙ c.rest s' e' z;
              order = omega arith;
              ahead = omega arith;
              upto = omega arith;
              count = omega arith;
              long = l ∙ c.long;
            }

-- ---- all blocks

-- gaps that reach no block from e on take nothing from blocks that start there
subtract-rest : (e : ℕ) (l p q : List Block) → From e l → ((s' e' : ℕ) → e ≤ s' → cut s' e' p ≡ cut s' e' q) → subtract l p ≡ subtract l q
unfolding subtract
subtract-rest e [] p q f h = refl
subtract-rest e (b ∷ l) p q f h = ap₂ ◌++◌ (h b.start b.end f.0) (subtract-rest e l p q f.1 h)

-- the blocks from i on and the gaps from j on are to come
pub record Subtracting (on : List ℕ) (n : ℕ) (off : List ℕ) (m : ℕ) (out₀ out : List ℕ) (w j i : ℕ) : Type 0 where
  pub same : pairs w out ++ subtract (part i (n - i) on) (part j (m - j) off) ≡ subtract (pairs n on) (pairs m off)
  pub normal : Chain 0 (part i (n - i) on)
  pub within : i ≤ n
  pub gaps : j ≤ m
  pub count : w ≤ i + j
  pub long : length out ≡ length out₀

pub subtract-starts : (on : List ℕ) (n : ℕ) (off : List ℕ) (m : ℕ) (out : List ℕ) → Normal (pairs n on) → Subtracting on n off m out out 0 0 0
unfolding part
subtract-starts on n off m out c =
    let e : n - 0 ≡ n = omega arith in let f : m - 0 ≡ m = omega arith in
    record { same = rw (e, f); normal = rw e c; within = omega arith; gaps = omega arith; count = omega arith; long = refl }

module _ (on : List ℕ) (n : ℕ) (off : List ℕ) (m : ℕ) (out₀ out : List ℕ) (w j i : ℕ) (t : Subtracting on n off m out₀ out w j i) where
  pub subtract-order : i < n → get_or on (2 * i) 0 ≤ get_or on (2 * i + 1) 0
  subtract-order h = let c = rw (from_first i n on h) at t.normal in let d = c.1 in omega arith

  pub subtract-turn : i < n → (out' : List ℕ) (w' j' : ℕ) → CutTo off j m (get_or on (2 * i) 0) (get_or on (2 * i + 1) 0) out w out' w' j' → Subtracting on n off m out₀ out' w' j' (i + 1)
  unfolding subtract
  subtract-turn h out' w' j' c =
      let f = from_first i n on h in
      let d : Chain 0 (block_at on i ∷ part (i + 1) (n - (i + 1)) on) = rw f at t.normal in
      let r : List Block = part (i + 1) (n - (i + 1)) on in
      let k : List Block = cut (get_or on (2 * i) 0) (get_or on (2 * i + 1) 0) (part j (m - j) off) in
      let a = t.count in let b = c.count in
      let g : From (get_or on (2 * i + 1) 0) r = from-weaken (get_or on (2 * i + 1) 0) (suc (get_or on (2 * i + 1) 0)) r (omega arith) (chain-sorted (suc (get_or on (2 * i + 1) 0)) r d.2).1 in
      record {
        same =
            ap (λ (x : List Block). pairs w' out' ++ x) (subtract-rest (get_or on (2 * i + 1) 0) r (part j' (m - j') off) (part j (m - j) off) g c.rest)
            ∙ ap (λ (x : List Block). x ++ subtract r (part j (m - j) off)) c.same
            ∙ append_assoc (pairs w out) k (subtract r (part j (m - j) off))
            ∙ ap (λ (x : List Block). pairs w out ++ x) (sym (ap (λ (x : List Block). subtract x (part j (m - j) off)) f)) ∙ t.same;
        normal = chain-weaken 0 (suc (get_or on (2 * i + 1) 0)) r (omega arith) d.2;
        within = omega arith;
        gaps = c.upto;
        count = omega arith;
        long = c.long ∙ t.long;
      }

  pub subtract-done : n ≤ i → pairs w out ≡ subtract (pairs n on) (pairs m off)
  unfolding subtract
  subtract-done h =
      let a = t.within in let z : i ≡ n = omega arith in
      let g : part i (n - i) on ≡ [] = ap (λ (x : ℕ). part x (n - x) on) z ∙ from-none n on in
      sym (append-nil (pairs w out)) ∙ ap (λ (x : List Block). pairs w out ++ subtract x (part j (m - j) off)) (sym g) ∙ t.same

-- ---- the sum

-- the blocks from i on are to come
pub record Summing (l : List ℕ) (n sum i : ℕ) : Type 0 where
  pub same : sum + total (part i (n - i) l) ≡ total (pairs n l)
  pub full : NonEmpty (part i (n - i) l)
  pub within : i ≤ n

pub sum-starts : (l : List ℕ) (n : ℕ) → NonEmpty (pairs n l) → Summing l n 0 0
sum-starts l n f = let e : n - 0 ≡ n = omega arith in record { same = rw e (omega arith); full = rw e f; within = omega arith }

module _ (l : List ℕ) (n sum i : ℕ) (m : Summing l n sum i) where
  pub sum-order : i < n → get_or l (2 * i) 0 ≤ get_or l (2 * i + 1) 0
  sum-order h = let c = rw (from_first i n l h) at m.full in let d = c.0 in omega arith

  sum-part : i < n → (sum + (get_or l (2 * i + 1) 0 - get_or l (2 * i) 0)) + total (part (i + 1) (n - (i + 1)) l) ≡ total (pairs n l)
  unfolding total
  sum-part h = let e = rw (from_first i n l h) at m.same in omega arith

  pub sum_below : i < n → sum + (get_or l (2 * i + 1) 0 - get_or l (2 * i) 0) ≤ total (pairs n l)
  sum_below h = let e = sum-part h in omega arith

  pub sum-turn : i < n → Summing l n (sum + (get_or l (2 * i + 1) 0 - get_or l (2 * i) 0)) (i + 1)
  sum-turn h = record { same = sum-part h; full = (rw (from_first i n l h) at m.full).1; within = omega arith }

  pub sum_done : n ≤ i → sum ≡ total (pairs n l)
  unfolding total
  sum_done h =
      let a = m.within in let z : i ≡ n = omega arith in
      let g : part i (n - i) l ≡ [] = ap (λ (x : ℕ). part x (n - x) l) z ∙ from-none n l in
      let e = rw g at m.same in omega arith
