-- What is left of blocks `on` without blocks `off`, in terms of `Lists`: a normal list lists what it covers.
use Rattle.std.specs.Prelude.{ℕ, suc, ◌-◌, ◌<◌, ◌≤◌, ◌≡◌, Bool, true, ◌&&◌, not, ◌⊎◌, ◌↔◌, List, [], ◌∷◌}
use Rattle.std.proofs.Common.{sym, ◌∙◌, inl, inr, ⊎_elim, arith}
use Rattle.model.specs.Blocks.{Block, union, subtract}
use Rattle.laws_base.specs.Test.{by-test, and_both, both-and, not-true, true-not, clash}
use Rattle.laws_blocks.specs.Lists.{Lists, none, next}
use Rattle.laws_blocks.specs.Members.{halves, InBlocks, covers, NonEmpty, Chain, Ends, covers-in, in-covers, not-covers, covers-not, chain-from, chain-weaken, union-in, union-normal, subtract-in, subtract-normal}

-- a normal list lists what it covers
pub chain-lists : (W : ℕ → Bool) (lo hi : ℕ) (l : List Block) → lo ≤ hi → Chain lo l → Ends hi l → ((u : ℕ) → lo ≤ u → u < hi → W u ≡ covers l u) → Lists W lo hi l
chain-lists W lo hi [] h c e w = none h (λ u a b. w u a b)
chain-lists W lo hi (b ∷ l) h c e w =
    next b.start b.end c.0 c.1 e.0
    (λ u p q. w u p (omega arith) ∙ not-covers u (b ∷ l) (⊎_elim (λ k. omega arith) (λ k. later u k (omega arith))))
    (λ u p q. w u (omega arith) (omega arith) ∙ in-covers u (b ∷ l) (inl (p, q)))
    (chain-lists W b.end hi l e.0 (chain-weaken b.end (suc b.end) l (omega arith) c.2) e.1
    (λ u p q. w u (omega arith) q ∙ same u p))
  where
    later : (u : ℕ) → InBlocks u l → u ≤ b.end → ⊥
    later u k h = omega (arith, chain-from u (suc b.end) l c.2 k)

    same : (u : ℕ) → b.end ≤ u → covers (b ∷ l) u ≡ covers l u
    same u p =
        by-test (covers l u)
        (λ f. in-covers u (b ∷ l) (inr (covers-in u l f)) ∙ sym f)
        (λ f. not-covers u (b ∷ l) (⊎_elim (λ k. omega arith) (λ k. covers-not u l f k)) ∙ sym f)

-- a normal list whose instants are in [lo, hi)
pub chain-at : (m lo hi : ℕ) (l : List Block) → Chain m l → ((t : ℕ) → InBlocks t l → (lo ≤ t) × (t < hi)) → Chain lo l × Ends hi l
chain-at m lo hi [] c h = (tt, tt)
chain-at m lo hi (b ∷ l) c h =
    let r = chain-at (suc b.end) lo hi l c.2 (λ t k. h t (inr k)) in
    (((h b.start (inl (omega arith))).0, c.1, c.2), (let k = (h (b.end - 1) (inl (omega arith))).1 in omega arith, r.1))

-- a list that `Lists` has exactly the instants of the window that pass
pub lists-in : (W : ℕ → Bool) (lo hi : ℕ) {l : List Block} → Lists W lo hi l → (t : ℕ) → InBlocks t l ↔ (((lo ≤ t) × (t < hi)) × (W t ≡ true))
lists-in W lo hi (none h e) t = (λ i. absurd i, λ m. clash (W t) m.1 (e t m.0.0 m.0.1))
lists-in W lo hi (next s e a b c idle full rest) t =
    let ih = lists-in W e hi rest t in (
      ⊎_elim (λ k. ((omega arith, omega arith), full t k.0 k.1)) (λ k. let m = ih.0 k in ((omega arith, omega arith), m.1)),
      λ m.
          ⊎_elim
          (λ k. clash (W t) m.1 (idle t m.0.0 k))
          (λ k. ⊎_elim (λ o. inl (k, o)) (λ o. inr (ih.1 ((o, m.0.1), m.1))) (halves t e))
          (halves t s),
    )

-- so its test is W there
pub in-test : (W : ℕ → Bool) (lo hi : ℕ) (l : List Block) (u : ℕ) → InBlocks u l ↔ (((lo ≤ u) × (u < hi)) × (W u ≡ true)) → lo ≤ u → u < hi → W u ≡ covers l u
in-test W lo hi l u m a b =
    by-test (W u)
    (λ e. e ∙ sym (in-covers u l (m.1 ((a, b), e))))
    (λ e. e ∙ sym (not-covers u l (λ i. clash (W u) (m.0 i).1 e)))

module _ (lo hi : ℕ) (on off : List Block) (p : NonEmpty on) (q : NonEmpty off) (inside : (t : ℕ) → InBlocks t on → (lo ≤ t) × (t < hi)) where
  abbrev left_over : List Block
  left_over = subtract (union on) (union off)

  pub left_in : (t : ℕ) → InBlocks t left_over ↔ (InBlocks t on × (InBlocks t off → ⊥))
  left_in t =
      let s = subtract-in t (union on) (union off) (union-normal off q) in
      let a = union-in t on in
      let b = union-in t off in
      (λ m. let k = s.0 m in (a.0 k.0, λ i. k.1 (b.1 i)), λ m. s.1 (a.1 m.0, λ i. m.1 (b.0 i)))

  covered : (u : ℕ) → covers left_over u ≡ (covers on u && not (covers off u))
  covered u =
      by-test (covers on u && not (covers off u))
      (λ e. let k = and_both (covers on u) (not (covers off u)) e in
      in-covers u left_over ((left_in u).1 (covers-in u on k.0, covers-not u off (not-true (covers off u) k.1))) ∙ sym e)
      (λ e. not-covers u left_over (λ m. let k = (left_in u).0 m in
      clash (covers on u && not (covers off u)) (both-and (covers on u) (not (covers off u)) (in-covers u on k.0) (true-not (covers off u) (not-covers u off k.1))) e) ∙ sym e)

  -- what is left starts at lo or later and ends by hi, in order and with gaps
  pub left-chain : Chain lo left_over × Ends hi left_over
  left-chain = chain-at 0 lo hi left_over (subtract-normal (union on) (union off) (union-normal on p) (union-normal off q)) (λ t m. inside t ((left_in t).0 m).0)

  -- what is left lists "some block of on holds it, and none of off"
  pub left-lists : lo ≤ hi → (W : ℕ → Bool) → ((u : ℕ) → lo ≤ u → u < hi → W u ≡ (covers on u && not (covers off u))) → Lists W lo hi left_over
  left-lists o W w = chain-lists W lo hi left_over o left-chain.0 left-chain.1 (λ u a b. w u a b ∙ sym (covered u))
