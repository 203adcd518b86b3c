-- What `parts_of` takes for a directory, by the numbers that the bytes write. Document 01, "Zone pack and zone": "a 4-byte count, then that many
-- pairs of offset and length (4 bytes each, offsets from the pack's start), sorted by offset. Records start behind the directory, don't overlap
-- and end inside the pack; bytes between them are ignored."
use Rattle.std.specs.Prelude.{◌≡◌, List, ◌∷◌, map, leb, take, drop}
use Rattle.std.proofs.Math.Path.{refl}
use Rattle.std.proofs.Common.{sym, ◌∙◌, le_of_suc-le-suc, not-suc-le-zero, add-zero, zero-add, arith}
use Rattle.std.proofs.Math.Option.{Option, none, some, none-ne-some, some-injective}
use Prim.Native.Nat.{ℕ, zero, suc, ◌+◌, ◌*◌, ◌-◌, ◌≤◌, ◌<◌}
use borrow.Author.Tests.{leb-true, le-leb}
use Rattle.std.proofs.Math.ListN.{length}
use Rattle.std.proofs.Math.Seq.{drop-drop}
use Rattle.model.specs.Basic.{◌>>=◌, run}
use Rattle.model.specs.Bytes.{be}
use Rattle.model.specs.Directory.{Part, count_of, parts_from, parts_of}
use Rattle.laws_base.specs.Test.{by-test}

-- "a 4-byte count, then that many pairs": where the directory ends
abbrev pub directory_end : List ℕ → ℕ
directory_end b = 4 + 8 * count_of b

-- "pairs of offset and length (4 bytes each, ..)": where record i starts, how long it is, and where it ends
abbrev pub record_start : List ℕ → ℕ → ℕ
record_start b i = be 4 (drop (4 + 8 * i) b)

abbrev pub record_length : List ℕ → ℕ → ℕ
record_length b i = be 4 (drop (8 + 8 * i) b)

abbrev pub record_end : List ℕ → ℕ → ℕ
record_end b i = record_start b i + record_length b i

-- "offsets from the pack's start": record i
abbrev pub record_of : List ℕ → ℕ → Part
record_of b i = record { place = record_start b i; bytes = take (record_length b i) (drop (record_start b i) b) }

-- the layout
pub record Laid (b : List ℕ) : Type 0 where
  -- count and pairs are there
  pub whole : directory_end b ≤ length b
  -- "Records start behind the directory"
  pub behind : (i : ℕ) → i < count_of b → directory_end b ≤ record_start b i
  -- "sorted by offset", "don't overlap": each ends at or before the start of any later one
  pub apart : (i j : ℕ) → i < j → j < count_of b → record_end b i ≤ record_start b j
  -- "end inside the pack"
  pub inside : (i : ℕ) → i < count_of b → record_end b i ≤ length b

-- what a value was made of
taken : {A B : Type 0} (o : Option A) (f : A → B) (m : B) → (o >>= λ a. some (f a)) ≡ some m → (a : A) × (o ≡ some a)
taken none f m e = absurd (none-ne-some m e)
taken (some a) f m e = (a, refl)

-- ---- the layout as `parts_from` walks it

module _ (b : List ℕ) where
  -- the k records from record i on are in order, the first not before lo
  abbrev Chain : ℕ → ℕ → ℕ → Type 0
  Chain lo i zero = Unit {0}
  Chain lo i (suc k) = (lo ≤ record_start b i) × (record_end b i ≤ length b) × Chain (record_end b i) (suc i) k

  -- what follows record i: its length, the rest of the directory, the bytes from its start on and from its end on
  length-is : (i : ℕ) → be 4 (drop 4 (drop (4 + 8 * i) b)) ≡ record_length b i
  length-is i = let e : 4 + 8 * i + 4 ≡ 8 + 8 * i = omega arith in rw (drop-drop, e)

  next-is : (i : ℕ) → drop 8 (drop (4 + 8 * i) b) ≡ drop (4 + 8 * suc i) b
  next-is i = let e : 4 + 8 * i + 8 ≡ 4 + 8 * suc i = omega arith in rw (drop-drop, e)

  from_start : (lo o : ℕ) → lo ≤ o → drop (o - lo) (drop lo b) ≡ drop o b
  from_start lo o h = let e : lo + (o - lo) ≡ o = omega arith in rw (drop-drop, e)

  -- one record
  turn : (k lo i : ℕ) → lo ≤ record_start b i → record_end b i ≤ length b →
      parts_from (length b) (suc k) lo (drop (4 + 8 * i) b) (drop lo b) ≡
      (parts_from (length b) k (record_end b i) (drop (4 + 8 * suc i) b) (drop (record_end b i) b) >>= λ rest. some (record_of b i ∷ rest))
  unfolding parts_from
  turn k lo i h g =
      rw (length-is i, next-is i, from_start lo (record_start b i) h, drop-drop (record_length b i) (record_start b i) b, le-leb _ _ h, le-leb _ _ g)

  chain-parts : (k lo i : ℕ) → Chain lo i k → parts_from (length b) k lo (drop (4 + 8 * i) b) (drop lo b) ≡ some (map (record_of b) (run i k))
  unfolding parts_from run
  chain-parts zero lo i c = refl
  chain-parts (suc k) lo i c = turn k lo i c.0 c.1 ∙ rw (chain-parts k (record_end b i) (suc i) c.2)

  parts-chain : (k lo i : ℕ) (l : List Part) → parts_from (length b) k lo (drop (4 + 8 * i) b) (drop lo b) ≡ some l → Chain lo i k
  unfolding parts_from
  parts-chain zero lo i l e = tt
  parts-chain (suc k) lo i l e =
      let o = record_start b i in
      by-test (leb lo o)
      (λ p. by-test (leb (record_end b i) (length b))
      (λ q.
      let h : lo ≤ o = leb-true lo o p in
      let g : record_end b i ≤ length b = leb-true (record_end b i) (length b) q in
      let r = taken (parts_from (length b) k (record_end b i) (drop (4 + 8 * suc i) b) (drop (record_end b i) b)) _ l (sym (turn k lo i h g) ∙ e) in
      (h, g, parts-chain k (record_end b i) (suc i) r.0 r.1))
      (λ q. absurd (none-ne-some l (rw (length-is i, p, q) at e))))
      (λ p. absurd (none-ne-some l (rw p at e)))

  chain-behind : (k lo i j : ℕ) → Chain lo i k → j < k → lo ≤ record_start b (i + j)
  chain-behind zero lo i j c h = absurd (not-suc-le-zero h)
  chain-behind (suc k) lo i zero c h = rw add-zero c.0
  chain-behind (suc k) lo i (suc j) c h =
      let e : i + suc j ≡ suc i + j = omega arith in
      let n : record_end b i ≤ record_start b (suc i + j) = chain-behind k (record_end b i) (suc i) j c.2 (le_of_suc-le-suc h) in
      rw e (omega (arith, c.0))

  chain-inside : (k lo i j : ℕ) → Chain lo i k → j < k → record_end b (i + j) ≤ length b
  chain-inside zero lo i j c h = absurd (not-suc-le-zero h)
  chain-inside (suc k) lo i zero c h = rw add-zero c.1
  chain-inside (suc k) lo i (suc j) c h =
      let e : i + suc j ≡ suc i + j = omega arith in
      rw e (chain-inside k (record_end b i) (suc i) j c.2 (le_of_suc-le-suc h))

  chain-apart : (k lo i j m : ℕ) → Chain lo i k → j < m → m < k → record_end b (i + j) ≤ record_start b (i + m)
  chain-apart zero lo i j m c g h = absurd (not-suc-le-zero h)
  chain-apart (suc k) lo i j zero c g h = absurd (not-suc-le-zero g)
  chain-apart (suc k) lo i zero (suc m) c g h =
      let e : i + suc m ≡ suc i + m = omega arith in
      rw (e, add-zero) (chain-behind k (record_end b i) (suc i) m c.2 (le_of_suc-le-suc h))
  chain-apart (suc k) lo i (suc j) (suc m) c g h =
      let e : i + suc m ≡ suc i + m = omega arith in
      let f : i + suc j ≡ suc i + j = omega arith in
      rw (e, f) (chain-apart k (record_end b i) (suc i) j m c.2 (le_of_suc-le-suc g) (le_of_suc-le-suc h))

  chain-of : (k lo i : ℕ) → ((j : ℕ) → j < k → lo ≤ record_start b (i + j)) → ((j m : ℕ) → j < m → m < k → record_end b (i + j) ≤ record_start b (i + m)) →
      ((j : ℕ) → j < k → record_end b (i + j) ≤ length b) → Chain lo i k
  chain-of zero lo i f g h = tt
  chain-of (suc k) lo i f g h =
      let z : i + 0 ≡ i = omega arith in
      let s : (j : ℕ) → i + suc j ≡ suc i + j = λ j. omega arith in (
        rw z at (f 0 (omega arith)),
        rw z at (h 0 (omega arith)),
        chain-of k (record_end b i) (suc i)
            (λ j p. rw (z, s j) at (g 0 (suc j) (omega arith) (omega arith)))
            (λ j m p q. rw (s j, s m) at (g (suc j) (suc m) (omega arith) (omega arith)))
            (λ j p. rw (s j) at (h (suc j) (omega arith))),
      )

-- ---- the two directions

-- where the bytes are laid out so, the records are there, those that the directory names, in its order
pub laid-parts : (b : List ℕ) → Laid b → parts_of b ≡ some (map (record_of b) (run 0 (count_of b)))
unfolding parts_of
laid-parts b l =
    let z : (j : ℕ) → 0 + j ≡ j = zero-add in
    let c : Chain b (directory_end b) 0 (count_of b) =
    chain-of b (count_of b) (directory_end b) 0
    (λ j p. rw (z j) (l.behind j p)) (λ j m p q. rw (z j, z m) (l.apart j m p q)) (λ j p. rw (z j) (l.inside j p)) in
    rw (le-leb 4 (length b) (omega (arith, l.whole)), le-leb _ _ l.whole) (chain-parts b (count_of b) (directory_end b) 0 c)

-- where there are records, the bytes are laid out so
pub parts-laid : (b : List ℕ) (l : List Part) → parts_of b ≡ some l → Laid b
unfolding parts_of
parts-laid b l e =
    by-test (leb 4 (length b))
    (λ p. by-test (leb (directory_end b) (length b))
    (λ q.
    let z : (j : ℕ) → 0 + j ≡ j = zero-add in
    let n = count_of b in
    let c : Chain b (directory_end b) 0 n = parts-chain b n (directory_end b) 0 l (rw (p, q) at e) in
    record {
      whole = leb-true _ _ q;
      behind = λ i h. rw (z i) at (chain-behind b n (directory_end b) 0 i c h);
      apart = λ i j g h. rw (z i, z j) at (chain-apart b n (directory_end b) 0 i j c g h);
      inside = λ i h. rw (z i) at (chain-inside b n (directory_end b) 0 i c h);
    })
    (λ q. absurd (none-ne-some l (rw (p, q) at e))))
    (λ p. absurd (none-ne-some l (rw p at e)))

-- and the records are those that the directory names
pub parts_are : (b : List ℕ) (l : List Part) → parts_of b ≡ some l → l ≡ map (record_of b) (run 0 (count_of b))
parts_are b l e = some-injective _ _ (sym e ∙ laid-parts b (parts-laid b l e))

-- there are none exactly where the bytes are not laid out so
pub none-unlaid : (b : List ℕ) → parts_of b ≡ none → ¬ Laid b
none-unlaid b e l = none-ne-some _ (sym e ∙ laid-parts b l)

pub unlaid-none : (b : List ℕ) → ¬ Laid b → parts_of b ≡ none
unlaid-none b f = go (parts_of b) refl
  where
    go : (o : Option (List Part)) → parts_of b ≡ o → o ≡ none
    go none e = refl
    go (some l) e = absurd (f (parts-laid b l e))
