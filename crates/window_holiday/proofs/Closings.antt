-- The dates of a holiday record in one pass, in whichever order they are written: what a turn keeps. Assumes nothing.
use Rattle.std.proofs.Common.{◌≡◌, ℕ, zero, suc, ◌+◌, ◌-◌, ◌*◌, ◌<◌, ◌≤◌, Bool, true, false, eqb, leb, ◌⊎◌, ◌↔◌, List, [], ◌∷◌, ◌++◌, length, sym, refl, ap, ◌∙◌, ap₂, inl, inr, ⊎_elim, append-nil, eq-or-lt_of_le, arith, length-append, eq-eqb, ne_eqb, eqb-true, leb-false, if◌then◌else◌}
use lib.ListN.{length-map}
use Rattle.model.specs.Basic.{is_in, any, among, filter, run, joined}
use Rattle.model.specs.Blocks.{Block, block, union}
use Rattle.model.specs.Walk.{onward}
use Rattle.model.specs.Working.{holiday_rule, first_date, last_date, blocks_of}
use Rattle.laws_base.specs.Test.{by-test, both-and, in_bounds, clash}
use Rattle.laws_blocks.specs.Members.{InBlocks, NonEmpty, Normal, append-in, append-nonempty, chain-nonempty, union-normal, union-same, union-again}
use Rattle.laws_blocks.specs.Count672.{union-length}
use Rattle.book.specs.Meaning.{day_at, dates_at}
use Rattle.rule.specs.declared.HolidayDates.{HolidayDates}
use Rattle.rule.specs.Rules.{holidays_is}
use Rattle.zone_local.specs.Dates.{piece_of}
use Rattle.window_dates.proofs.Fill.{shown, among-distinct}
use Rattle.block_pairs.specs.Pairs.{part, pairs}
use Rattle.window_piece.specs.Filled.{Filled, PairsReady}
use Rattle.window_piece.proofs.Laws.{Apart, apart-both, apart-onward, union-steps, onward-append}
use Rattle.window_piece.proofs.Fills.{apart-shown}
use Rattle.window_piece.proofs.Frames.{rule-shows}

-- ---- which instants the dates that are on show

abbrev Shows : ℕ → (ℕ → Bool) → (ℕ → List Block) → List ℕ → Type 0
Shows t on f [] = ⊥
Shows t on f (d ∷ l) = ((on d ≡ true) × InBlocks t (f d)) ⊎ Shows t on f l

shown-in : (t : ℕ) (on : ℕ → Bool) (f : ℕ → List Block) (l : List ℕ) → InBlocks t (shown on f l) ↔ Shows t on f l
unfolding joined filter
shown-in t on f [] = (λ i. i, λ i. i)
shown-in t on f (d ∷ l) =
    let ih = shown-in t on f l in
    by-test (on d)
    (λ e. let a = append-in t (f d) (shown on f l) in rw e (
      λ i. ⊎_elim (λ x. inl (refl, x)) (λ x. inr (ih.0 x)) (a.0 i),
      ⊎_elim (λ x. a.1 (inl x.1)) (λ x. a.1 (inr (ih.1 x))),
    ))
    (λ e. rw e (
      λ i. inr (ih.0 i),
      ⊎_elim (λ x. clash false x.0 refl) (λ x. ih.1 x),
    ))

module _ (t : ℕ) (f : ℕ → List Block) where
  shows-one : (on : ℕ → Bool) (n a d : ℕ) → a ≤ d → d < a + n → on d ≡ true → InBlocks t (f d) → Shows t on f (run a n)
  unfolding run
  shows-one on zero a d h k e i = absurd (omega arith)
  shows-one on (suc n) a d h k e i = ⊎_elim (λ q. inl (rw q (e, i))) (λ q. inr (shows-one on n (suc a) d q (omega arith) e i)) (eq-or-lt_of_le h)

  shows_more : (on on' : ℕ → Bool) → ((x : ℕ) → on x ≡ true → on' x ≡ true) → (l : List ℕ) → Shows t on f l → Shows t on' f l
  shows_more on on' h [] s = s
  shows_more on on' h (x ∷ l) s = ⊎_elim (λ k. inl (h x k.0, k.1)) (λ k. inr (shows_more on on' h l k)) s

  shows-less : (on on' : ℕ → Bool) (d : ℕ) → ((x : ℕ) → on' x ≡ true → (on x ≡ true) ⊎ (x ≡ d)) → (l : List ℕ) → Shows t on' f l → Shows t on f l ⊎ InBlocks t (f d)
  shows-less on on' d h [] s = absurd s
  shows-less on on' d h (x ∷ l) s =
      ⊎_elim
      (λ k. ⊎_elim (λ p. inl (inl (p, k.1))) (λ p. inr (rw p at k.1)) (h x k.0))
      (λ k. ⊎_elim (λ p. inl (inr p)) (λ p. inr p) (shows-less on on' d h l k))
      s

-- a date more
module _ (l : List ℕ) (d : ℕ) where
  among-more : (x : ℕ) → among l x ≡ true → among (d ∷ l) x ≡ true
  unfolding any
  among-more x e = by-test (eqb x d) (λ p. rw p) (λ p. rw p e)

  among-less : (x : ℕ) → among (d ∷ l) x ≡ true → (among l x ≡ true) ⊎ (x ≡ d)
  unfolding any
  among-less x e = by-test (eqb x d) (λ p. inr (eqb-true x d p)) (λ p. inl (rw p at e))

  among-here : among (d ∷ l) d ≡ true
  unfolding any
  among-here = rw (eq-eqb d d refl)

  among-other : (x : ℕ) → (x ≡ d → ⊥) → among l x ≡ among (d ∷ l) x
  unfolding any
  among-other x h = rw (ne_eqb x d h)

-- dates that are on alike show alike
shown-same : (on on' : ℕ → Bool) (f : ℕ → List Block) (n a : ℕ) → ((x : ℕ) → a ≤ x → x < a + n → on x ≡ on' x) → shown on f (run a n) ≡ shown on' f (run a n)
unfolding joined filter run
shown-same on on' f zero a h = refl
shown-same on on' f (suc n) a h =
    let r = shown-same on on' f n (suc a) (λ x p q. h x (omega arith) (omega arith)) in
    let e = h a (omega arith) (omega arith) in
    by-test (on a)
    (λ p. rw (p, sym e ∙ p) (ap (λ (k : List Block). f a ++ k) r))
    (λ p. rw (p, sym e ∙ p) r)

-- ---- how many they are

part_length : (n a : ℕ) (l : List ℕ) → length (part a n l) ≡ n
unfolding part
part_length zero a l = refl
part_length (suc n) a l = ap suc (part_length n (suc a) l)

shown-few : (on : ℕ → Bool) (f : ℕ → List Block) → ((d : ℕ) → length (f d) ≤ 1) → (n a : ℕ) → length (shown on f (run a n)) ≤ n
unfolding joined filter run
shown-few on f h zero a = omega arith
shown-few on f h (suc n) a =
    let r = shown-few on f h n (suc a) in let k = h a in
    by-test (on a)
    (λ p. rw (p, length-append (f a) (shown on f (run (suc a) n))) (omega arith))
    (λ p. rw p (omega arith))

onward-length : (t : ℕ) (l : List Block) → length (onward t l) ≡ length l
unfolding onward
onward-length t l = length-map l (λ (b : Block). block (b.start - t) (b.end - t))

-- ---- the loop

onward-in : (t u : ℕ) (l : List Block) → InBlocks t (onward u l) ↔ InBlocks (u + t) l
unfolding onward
onward-in t u [] = (λ i. i, λ i. i)
onward-in t u (b ∷ l) =
    let ih = onward-in t u l in (
      ⊎_elim (λ x. let p = x.0 in let q = x.1 in inl (omega arith, omega arith)) (λ x. inr (ih.0 x)),
      ⊎_elim (λ x. let p = x.0 in let q = x.1 in inl (omega arith, omega arith)) (λ x. inr (ih.1 x)),
    )

-- lists with the same instants have the same union with others
union-members : (u : ℕ) (a b c : List Block) → NonEmpty a → Apart u b → Apart u c → ((t : ℕ) → InBlocks t b ↔ InBlocks t c) → union (a ++ onward u b) ≡ union (a ++ onward u c)
union-members u a b c n p q h =
    union-same (a ++ onward u b) (a ++ onward u c) (append-nonempty a (onward u b) n (apart-onward u b p)) (append-nonempty a (onward u c) n (apart-onward u c q))
    (λ t.
    let x = append-in t a (onward u b) in let y = append-in t a (onward u c) in let v = onward-in t u b in let w = onward-in t u c in let k = h (u + t) in (
      λ i. y.1 (⊎_elim (λ z. inl z) (λ z. inr (w.1 (k.0 (v.0 z)))) (x.0 i)),
      λ i. x.1 (⊎_elim (λ z. inl z) (λ z. inr (v.1 (k.1 (w.0 z)))) (y.0 i)),
    ))

-- a number that is not between two others
outside : (a b n : ℕ) → is_in a b n ≡ false → (n < a) ⊎ (b < n)
outside a b n e =
    by-test (leb a n)
    (λ t. by-test (leb n b) (λ v. clash true refl (sym (both-and (leb a n) (leb n b) t v) ∙ e)) (λ v. inr (leb-false n b v)))
    (λ t. inl (leb-false a n t))

-- the dates from `left` on have been added; those in front of it, up to the place `at` in the book, are to come
pub record Closing (u : ℕ) (b : List ℕ) (p count : ℕ) (f : ℕ → List Block) (first last : ℕ) (l₀ : List ℕ) (w : ℕ) (l : List ℕ) (n left at : ℕ) : Type 0 where
  pub same : pairs n l ≡ union (pairs w l₀ ++ onward u (shown (among (dates_at b at (count - left))) f (run first (last + 1 - first))))
  pub place : at ≡ p + 4 * left
  pub upto : left ≤ count
  pub long : length l ≡ length l₀

-- no date is on
shown-none : (f : ℕ → List Block) (l : List ℕ) → shown (among []) f l ≡ []
unfolding joined filter any
shown-none f [] = refl
shown-none f (d ∷ l) = shown-none f l

pub closing-starts : (u : ℕ) (b : List ℕ) (p count : ℕ) (f : ℕ → List Block) (first last : ℕ) (l : List ℕ) (w : ℕ) → Normal (pairs w l)
    → Closing u b p count f first last l w l w count (p + 4 * count)
unfolding dates_at onward
closing-starts u b p count f first last l w c =
    let e : count - count ≡ 0 = omega arith in
    record {
      same = rw (e, shown-none f (run first (last + 1 - first)), append-nil (pairs w l)) (sym (union-again (pairs w l) c));
      place = refl;
      upto = omega arith;
      long = refl;
    }

module _ (u : ℕ) (b : List ℕ) (p count : ℕ) (f : ℕ → List Block) (fa : (d : ℕ) → Apart u (f d)) (first last : ℕ) (l₀ : List ℕ) (w : ℕ) (c₀ : Normal (pairs w l₀))
    (l : List ℕ) (n left at : ℕ) (m : Closing u b p count f first last l₀ w l n left at) where
  dates : List ℕ
  dates = dates_at b at (count - left)

  sa : Apart u (shown (among (dates_at b at (count - left))) f (run first (last + 1 - first)))
  sa = apart-shown u (among (dates_at b at (count - left))) f fa (run first (last + 1 - first))

  pub closing-normal : Normal (pairs n l)
  closing-normal =
      rw m.same (union-normal (pairs w l₀ ++ onward u (shown (among (dates_at b at (count - left))) f (run first (last + 1 - first))))
      (append-nonempty (pairs w l₀) (onward u (shown (among (dates_at b at (count - left))) f (run first (last + 1 - first)))) (chain-nonempty 0 (pairs w l₀) c₀) (apart-onward u (shown (among (dates_at b at (count - left))) f (run first (last + 1 - first))) sa)))

  pub closing-count : ((d : ℕ) → length (f d) ≤ 1) → last + 1 ≤ first + 14 → n ≤ w + 14
  closing-count h k =
      let S : List Block = shown (among (dates_at b at (count - left))) f (run first (last + 1 - first)) in
      let e : length (pairs n l) ≡ length (union (pairs w l₀ ++ onward u S)) = ap length m.same in
      let a = part_length n 0 l in let z = part_length w 0 l₀ in
      let x = union-length (pairs w l₀ ++ onward u S) in
      let y = length-append (pairs w l₀) (onward u S) in
      let v = onward-length u S in
      let s = shown-few (among (dates_at b at (count - left))) f h (last + 1 - first) first in
      omega arith

  pub closing-ready : ((d : ℕ) → length (f d) ≤ 1) → last + 1 ≤ first + 14 → 2 * (w + 15) ≤ length l₀ → PairsReady l n 1
  closing-ready h k r = let a = closing-count h k in let e = m.long in record { normal = closing-normal; room = omega arith }

  -- the dates with the one in front of them
  module _ (h : 0 < left) where
    dates-more : dates_at b (at - 4) (count - (left - 1)) ≡ day_at b (at - 4) ∷ dates_at b at (count - left)
    unfolding dates_at
    dates-more =
        let x = m.upto in let y = m.place in
        let e : count - (left - 1) ≡ suc (count - left) = omega arith in
        let g : (at - 4) + 4 ≡ at = omega arith in
        ap (dates_at b (at - 4)) e ∙ ap (λ (k : ℕ). day_at b (at - 4) ∷ dates_at b k (count - left)) g

    pub closing-off : (d : ℕ) → d ≡ day_at b (at - 4) → ((d < first) ⊎ (last < d)) → Closing u b p count f first last l₀ w l n (left - 1) (at - 4)
    closing-off d e o =
        let x = m.upto in let y = m.place in
        record {
          same = m.same ∙ ap (λ (k : List Block). union (pairs w l₀ ++ onward u k))
              (shown-same (among (dates_at b at (count - left))) (among (dates_at b (at - 4) (count - (left - 1)))) f (last + 1 - first) first
              (λ x a z. among-other (dates_at b at (count - left)) (day_at b (at - 4)) x (λ q. ⊎_elim (λ v. omega arith) (λ v. omega arith) o) ∙ ap (λ (k : List ℕ). among k x) (sym dates-more)));
          place = omega arith;
          upto = omega arith;
          long = m.long;
        }

    pub closing-on : (d : ℕ) → d ≡ day_at b (at - 4) → first ≤ d → d ≤ last → (l' : List ℕ) (n' : ℕ) → Filled u l n (f d) 1 l' n'
        → Closing u b p count f first last l₀ w l' n' (left - 1) (at - 4)
    closing-on d e a z l' n' g =
        let x = m.upto in let y = m.place in
        let R : List ℕ = run first (last + 1 - first) in
        let D : List ℕ = dates_at b at (count - left) in
        let S : List Block = shown (among D) f R in
        let S' : List Block = shown (among (d ∷ D)) f R in
        let q : d ∷ D ≡ dates_at b (at - 4) (count - (left - 1)) = ap (λ (k : ℕ). k ∷ D) e ∙ sym dates-more in
        record {
          same = g.same
              ∙ union-steps (pairs w l₀) (onward u S) (onward u (f d)) (pairs n l) (chain-nonempty 0 (pairs w l₀) c₀) (apart-onward u S sa) (apart-onward u (f d) (fa d)) m.same
              ∙ ap (λ (k : List Block). union (pairs w l₀ ++ k)) (sym (onward-append u S (f d)))
              ∙ union-members u (pairs w l₀) (S ++ f d) S' (chain-nonempty 0 (pairs w l₀) c₀) (apart-both u S (f d) sa (fa d)) (apart-shown u (among (d ∷ D)) f fa R)
              (λ t.
              let i = append-in t S (f d) in let j = shown-in t (among D) f R in let k = shown-in t (among (d ∷ D)) f R in (
                λ v. ⊎_elim (λ o. k.1 (shows_more t f (among D) (among (d ∷ D)) (among-more D d) R (j.0 o))) (λ o. k.1 (shows-one t f (among (d ∷ D)) (last + 1 - first) first d a (omega arith) (among-here D d) o)) (i.0 v),
                λ v. i.1 (⊎_elim (λ o. inl (j.1 o)) (λ o. inr o) (shows-less t f (among D) (among (d ∷ D)) d (among-less D d) R (k.0 v))),
              ))
              ∙ ap (λ (k : List ℕ). union (pairs w l₀ ++ onward u (shown (among k) f R))) q;
          place = omega arith;
          upto = omega arith;
          long = g.long ∙ m.long;
        }

    -- the same blocks in other memory
    closing_same : (l' : List ℕ) (n' : ℕ) → pairs n' l' ≡ pairs n l → length l' ≡ length l → Closing u b p count f first last l₀ w l n (left - 1) (at - 4)
        → Closing u b p count f first last l₀ w l' n' (left - 1) (at - 4)
    closing_same l' n' e g c = record { same = e ∙ c.same; place = c.place; upto = c.upto; long = g ∙ c.long }

    -- a date, which is on if it is one of the window's
    pub closing-turn : (d : ℕ) → d ≡ day_at b (at - 4) → (l' : List ℕ) (n' : ℕ) → Filled u l n (if is_in first last d then f d else []) 1 l' n'
        → Closing u b p count f first last l₀ w l' n' (left - 1) (at - 4)
    unfolding onward
    closing-turn d e l' n' g =
        by-test (is_in first last d)
        (λ t. let i = in_bounds first last d t in closing-on d e i.0 i.1 l' n' (rw t at g))
        (λ t.
        let g' : Filled u l n [] 1 l' n' = rw t at g in
        closing_same l' n' (g'.same ∙ ap union (append-nil (pairs n l)) ∙ union-again (pairs n l) closing-normal) g'.long
        (closing-off d e (outside first last d t)))

  pub closing-done : left ≤ 0 → ((d : ℕ) → length (f d) ≤ 1) → last + 1 ≤ first + 14 → Filled u l₀ w (shown (among (dates_at b p count)) f (run first (last + 1 - first))) 14 l n
  closing-done h k o =
      let x = m.upto in let y = m.place in
      let e : at ≡ p = omega arith in let g : count - left ≡ count = omega arith in
      record {
        same = m.same ∙ ap₂ (λ (i j : ℕ). union (pairs w l₀ ++ onward u (shown (among (dates_at b i j)) f (run first (last + 1 - first))))) e g;
        count = closing-count k o;
        long = m.long;
      }

-- what the record's dates show of a window is what its rule has in it
pub closed-shows : (b p : List ℕ) (c : HolidayDates) (lo hi first last : ℕ) → first ≡ first_date (holidays_is b p c).zone lo → last ≡ last_date (holidays_is b p c).zone hi
    → shown (among (dates_at b c.dates c.count)) (piece_of (holiday_rule (holidays_is b p c)) lo hi) (run first (last + 1 - first)) ≡ blocks_of lo hi (holiday_rule (holidays_is b p c))
closed-shows b p c lo hi first last e g =
    shown-same (among (dates_at b c.dates c.count)) (holiday_rule (holidays_is b p c)).on (piece_of (holiday_rule (holidays_is b p c)) lo hi) (last + 1 - first) first
    (λ x a z. sym (among-distinct (dates_at b c.dates c.count) x))
    ∙ rule-shows (holiday_rule (holidays_is b p c)) lo hi first last e g
