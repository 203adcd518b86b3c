-- Lists of marks: what stays true of them where some are left out, and that eight names give at most eight marks.
use Rattle.std.specs.Prelude.{◌≡◌, Bool, true, false, not, ◌&&◌, List, [], ◌∷◌, map, ℕ, zero, suc, ◌+◌, ◌-◌, ◌≤◌, ◌<◌, leb, ltb, length, get_or, set, Option, Some, None}
use Rattle.std.specs.Option.{is_some}
use Rattle.std.proofs.Math.Path.{refl}
use Rattle.std.proofs.Common.{sym, ap, ◌∙◌, arith, get_or-set_same, get_or-set_other}
use Rattle.std.proofs.Math.Numerals.{add-one}
use borrow.Author.Tests.{leb-true, ltb-true, ltb-false, le-leb, lt-leb, lt-ltb, le-ltb, eq-eqb, ne_eqb, eqb-true, eqb-false}
use Rattle.model.specs.Basic.{any, filter}
use Rattle.model.specs.Instant.{second, first_instant}
use Rattle.laws_base.specs.Test.{by-test, and_both, both-and, not-true, clash}
use Rattle.instant.specs.Instant.{nanos}
use Rattle.instant.specs.declared.Instant.{Instant}
use Rattle.model_ticket.specs.History.{names, up_to}
use Rattle.model_ticket.specs.Ticket as model
use Rattle.ticket_marks.specs.declared.Mark.{Mark}
use Rattle.ticket_marks.specs.Marks.{nil, latest, count_to, mark_is, has_name, kept, others, is_within, is_mark_at, are_marks}

-- ---- the marks of an array

pub latest-length : (n : ℕ) (a : List Mark) → length (latest n a) ≡ n
unfolding latest
latest-length zero a = refl
latest-length (suc n) a = ap suc (latest-length n a)

-- a store behind them changes none
pub latest-set : (n i : ℕ) (a : List Mark) (x : Mark) → n ≤ i → latest n (set a i x) ≡ latest n a
unfolding latest
latest-set zero i a x h = refl
latest-set (suc n) i a x h = rw (get_or-set_other a i n x nil (λ e. omega arith), latest-set n i a x (omega arith))

pub latest-push : (n : ℕ) (a : List Mark) (x : Mark) → n < length a → latest (n + 1) (set a n x) ≡ x ∷ latest n a
unfolding latest
latest-push n a x h = rw (add-one, get_or-set_same a n x nil h, latest-set n n a x (omega arith))

-- ---- the latest of a name

module _ (name i k : ℕ) (a : List Mark) (e : i ≡ k + 1) where
  pub find-yes : (get_or a k nil).name ≡ name → latest i a ≡ up_to (has_name name) (latest i a)
  unfolding latest up_to
  find-yes f = rw (e, add-one, eq-eqb _ _ f)

  pub find-on : ((get_or a k nil).name ≡ name → ⊥) → up_to (has_name name) (latest i a) ≡ up_to (has_name name) (latest k a)
  unfolding latest up_to
  find-on f = rw (e, add-one, ne_eqb _ _ f)

-- none is left to look at
pub find_none : (name i n : ℕ) (a : List Mark) → i ≤ 0 → up_to (has_name name) (latest i a) ≡ up_to (has_name name) (latest n a) → latest 0 a ≡ up_to (has_name name) (latest n a)
unfolding latest up_to
find_none name zero n a h e = e
find_none name (suc i) n a h e = absurd (omega arith)

-- it is set just where there is one
pub upto-long : {A : Type 0} (p : A → Bool) (l : List A) → any p l ≡ ltb 0 (length (up_to p l))
unfolding any up_to
upto-long p [] = refl
upto-long p (a ∷ l) = by-test (p a) (λ e. rw e (sym (lt-ltb 0 (suc (length l)) (omega arith)))) (λ e. rw e (upto-long p l))

pub found-any : (name i r : ℕ) (a : List Mark) → latest r a ≡ up_to (has_name name) (latest i a) → any (has_name name) (latest i a) ≡ ltb 0 r
found-any name i r a e =
    upto-long (has_name name) (latest i a) ∙ ap (λ (l : List Mark). ltb 0 (length l)) (sym e) ∙ ap (ltb 0) (latest-length r a)

-- a place was found just where there is one
pub place-set : (r : Option ℕ) → is_some r ≡ ltb 0 (count_to r)
place-set None = refl
place-set (Some i) = sym (lt-ltb 0 (i + 1) (omega arith))

-- ---- those of other names

pub others-more : (name i : ℕ) (a : List Mark) → others name (latest (i + 1) a) ≡ kept name (get_or a i nil) (others name (latest i a))
unfolding latest others kept
others-more name i a = rw add-one

-- what is kept of no mark, of one with the name, of another
pub others-start : (name : ℕ) (a : List Mark) {l : List Mark} → l ≡ [] → l ≡ others name (latest 0 a)
unfolding latest others
others-start name a e = e

pub kept-not : (name : ℕ) (m : Mark) (l : List Mark) → m.name ≡ name → l ≡ kept name m l
unfolding kept
kept-not name m l e = rw (eq-eqb m.name name e)

pub kept-yes : (name : ℕ) (m : Mark) (l : List Mark) {r : List Mark} → (m.name ≡ name → ⊥) → r ≡ m ∷ l → r ≡ kept name m l
unfolding kept
kept-yes name m l f e = rw (ne_eqb m.name name f) e

pub others-turn :
    (name i : ℕ) (a : List Mark) {l r : List Mark} → l ≡ others name (latest i a) → r ≡ kept name (get_or a i nil) l → r ≡ others name (latest (i + 1) a)
others-turn name i a e f = f ∙ ap (kept name (get_or a i nil)) e ∙ sym (others-more name i a)

pub others-end : (name i n : ℕ) (a : List Mark) {l : List Mark} → i ≤ n → n ≤ i → l ≡ others name (latest i a) → l ≡ others name (latest n a)
others-end name i n a h k e = let q : n ≡ i = omega arith in rw q e

-- none has the name
pub none_named : (n : ℕ) (l : List Mark) → any (has_name n) l ≡ false → others n l ≡ l
unfolding any others kept
none_named n [] f = refl
none_named n (m ∷ l) f =
    by-test (has_name n m) (λ e. clash true refl (rw e at f)) (λ e. rw e (ap (m ∷◌) (none_named n l (rw e at f))))

-- nor any that is left
pub others-none : (n : ℕ) (l : List Mark) → any (has_name n) (others n l) ≡ false
unfolding any others kept
others-none n [] = refl
others-none n (m ∷ l) = by-test (has_name n m) (λ e. rw e (others-none n l)) (λ e. rw (e, e) (others-none n l))

any-others : (x n : ℕ) (l : List Mark) → any (has_name x) l ≡ false → any (has_name x) (others n l) ≡ false
unfolding any others kept
any-others x n [] f = refl
any-others x n (m ∷ l) f =
    by-test (has_name x m) (λ e. clash true refl (rw e at f))
    (λ e. by-test (has_name n m) (λ g. rw g (any-others x n l (rw e at f))) (λ g. rw (g, e) (any-others x n l (rw e at f))))

-- ---- eight names

-- each name once
abbrev pub Once : List Mark → Type 0
Once [] = Unit {0}
Once (m ∷ l) = (any (has_name m.name) l ≡ false) × Once l

-- names below n
abbrev pub Below : ℕ → List Mark → Type 0
Below n [] = Unit {0}
Below n (m ∷ l) = (m.name < n) × Below n l

once-others : (n : ℕ) (l : List Mark) → Once l → Once (others n l)
unfolding others kept
once-others n [] o = tt
once-others n (m ∷ l) (f, o) = by-test (has_name n m) (λ e. rw e (once-others n l o)) (λ e. rw e (any-others m.name n l f, once-others n l o))

below-others : (n : ℕ) (l : List Mark) → Below (suc n) l → Below n (others n l)
unfolding others kept
below-others n [] b = tt
below-others n (m ∷ l) (h, b) =
    by-test (has_name n m) (λ e. rw e (below-others n l b))
    (λ e. let d = eqb-false m.name n e in rw e (below-least m.name n h d, below-others n l b))
  where
    below-least : (x n : ℕ) → x < suc n → (x ≡ n → ⊥) → x < n
    below-least x n h d = by-test (ltb x n) (λ t. ltb-true x n t) (λ t. absurd (d (omega (arith, ltb-false x n t))))

-- leaving out a name leaves out at most one mark
one_less : (n : ℕ) (l : List Mark) → Once l → length l ≤ suc (length (others n l))
unfolding others kept
one_less n [] o = omega arith
one_less n (m ∷ l) (f, o) =
    by-test (has_name n m)
    (λ e. let same = none_named n l (rw (eqb-true m.name n e) at f) in rw (e, same) (omega arith))
    (λ e. let r = one_less n l o in rw e (omega arith))

pub at_most : (n : ℕ) (l : List Mark) → Once l → Below n l → length l ≤ n
at_most zero [] o b = omega arith
at_most zero (m ∷ l) o (h, b) = absurd (omega arith)
at_most (suc n) l o b =
    let p = at_most n (others n l) (once-others n l o) (below-others n l b) in
    let q = one_less n l o in
    omega arith

below-kept : (k n : ℕ) (l : List Mark) → Below k l → Below k (others n l)
unfolding others kept
below-kept k n [] b = tt
below-kept k n (m ∷ l) (h, b) = by-test (has_name n m) (λ e. rw e (below-kept k n l b)) (λ e. rw e (h, below-kept k n l b))

-- so there is room for one more of a name that is left out
pub others-few : (n : ℕ) (l : List Mark) → n < names → Once l → Below names l → length (others n l) < names
others-few n l h o b =
    let m : Mark = record { name = n; running = false; time = record { sec = 0; ns = 0 } } in
    at_most names (m ∷ others n l) (others-none n l, once-others n l o) (h, below-kept names n l b)

-- an array whose marks are fewer than n has room
pub room-left : (n k : ℕ) (a : List Mark) {l : List Mark} → latest k a ≡ l → length l < n → k < n
room-left n k a e h = let p = latest-length k a in let q : length (latest k a) < n = rw e h in omega arith

-- ---- marks that a ticket may have

pub marks-head : (t : ℕ) (m : Mark) (l : List Mark) → are_marks t (m ∷ l) ≡ true → (is_mark_at t m ≡ true) × (any (has_name m.name) l ≡ false) × (are_marks t l ≡ true)
unfolding are_marks
marks-head t m l e =
    let p = and_both (is_mark_at t m) (not (any (has_name m.name) l) && are_marks t l) e in
    let q = and_both (not (any (has_name m.name) l)) (are_marks t l) p.1 in
    (p.0, not-true _ q.0, q.1)

pub marks-more : (t : ℕ) (m : Mark) (l : List Mark) → is_mark_at t m ≡ true → any (has_name m.name) l ≡ false → are_marks t l ≡ true → are_marks t (m ∷ l) ≡ true
unfolding are_marks
marks-more t m l a b c = rw (a, b, c)

pub marks-once : (t : ℕ) (l : List Mark) → are_marks t l ≡ true → Once l
marks-once t [] e = tt
marks-once t (m ∷ l) e = let p = marks-head t m l e in (p.1, marks-once t l p.2)

pub marks-below : (t : ℕ) (l : List Mark) → are_marks t l ≡ true → Below names l
unfolding is_mark_at
marks-below t [] e = tt
marks-below t (m ∷ l) e =
    let p = marks-head t m l e in
    (ltb-true _ _ (and_both (ltb m.name names) (is_within m.time t) p.0).0, marks-below t l p.2)

-- what is within at t is within later
pub within-later : (d : Instant) (t u : ℕ) → t ≤ u → is_within d t ≡ true → is_within d u ≡ true
unfolding is_within
within-later d t u h e =
    let p = and_both (ltb d.ns second) (leb (nanos d) (t - first_instant)) e in
    let q : nanos d ≤ t - first_instant = leb-true _ _ p.1 in
    both-and _ _ p.0 (le-leb (nanos d) (u - first_instant) (omega arith))

pub mark-later : (m : Mark) (t u : ℕ) → t ≤ u → is_mark_at t m ≡ true → is_mark_at u m ≡ true
unfolding is_mark_at
mark-later m t u h e =
    let p = and_both (ltb m.name names) (is_within m.time t) e in
    both-and _ _ p.0 (within-later m.time t u h p.1)

pub marks-later : (t u : ℕ) (l : List Mark) → t ≤ u → are_marks t l ≡ true → are_marks u l ≡ true
unfolding are_marks
marks-later t u [] h e = refl
marks-later t u (m ∷ l) h e = let p = marks-head t m l e in marks-more u m l (mark-later m t u h p.0) p.1 (marks-later t u l h p.2)

pub marks-others : (t n : ℕ) (l : List Mark) → are_marks t l ≡ true → are_marks t (others n l) ≡ true
unfolding others kept
marks-others t n [] e = e
marks-others t n (m ∷ l) e =
    let p = marks-head t m l e in
    let r = marks-others t n l p.2 in
    by-test (has_name n m) (λ f. rw f r) (λ f. rw f (marks-more t m (others n l) p.0 (any-others m.name n l p.1) r))

-- a mark that is set, where one of its name may have been set before
pub marks-set : (t : ℕ) (m : Mark) (l : List Mark) → is_mark_at t m ≡ true → are_marks t l ≡ true → are_marks t (m ∷ others m.name l) ≡ true
marks-set t m l a e = marks-more t m (others m.name l) a (others-none m.name l) (marks-others t m.name l e)

-- and those up to one
pub marks-upto : (t n : ℕ) (l : List Mark) → are_marks t l ≡ true → are_marks t (up_to (has_name n) l) ≡ true
unfolding up_to
marks-upto t n [] e = e
marks-upto t n (m ∷ l) e = by-test (has_name n m) (λ f. rw f e) (λ f. rw f (marks-upto t n l (marks-head t m l e).2))

-- those in front of a mark are marks too
marks-tail : (t n : ℕ) (a : List Mark) → are_marks t (latest (suc n) a) ≡ true → are_marks t (latest n a) ≡ true
unfolding latest
marks-tail t n a y = (marks-head t (get_or a n nil) (latest n a) y).2

-- a mark that may not be there may not be among more
none-behind : (t i k n : ℕ) (a : List Mark) → n ≡ i + 1 + k → are_marks t (latest (i + 1) a) ≡ false → are_marks t (latest n a) ≡ false
none-behind t i zero n a p e = let q : n ≡ i + 1 = omega arith in rw q e
none-behind t i (suc k) zero a p e = absurd (omega arith)
none-behind t i (suc k) (suc n) a p e =
    by-test (are_marks t (latest (suc n) a)) (λ y. clash (are_marks t (latest n a)) (marks-tail t n a y) (none-behind t i k n a (omega arith) e)) (λ x. x)

pub marks-none : (t i n : ℕ) (a : List Mark) → i < n → are_marks t (latest (i + 1) a) ≡ false → are_marks t (latest n a) ≡ false
marks-none t i n a h e = none-behind t i (n - (i + 1)) n a (omega arith) e

-- the tests of the code in their order: a length, a mark, the marks so far
pub within-no : (d : Instant) (t : ℕ) → second ≤ d.ns → false ≡ is_within d t
unfolding is_within
within-no d t h = rw (le-ltb d.ns second h)

pub within_by : (d : Instant) (t x : ℕ) {b : Bool} → d.ns < second → x ≡ t - first_instant → b ≡ ltb x (nanos d) → not b ≡ is_within d t
unfolding is_within
within_by d t x h e f =
    rw (lt-ltb d.ns second h, f, e)
    (by-test (ltb (t - first_instant) (nanos d))
    (λ y. rw (y, lt-leb (nanos d) (t - first_instant) (ltb-true _ _ y))) (λ y. rw (y, le-leb (nanos d) (t - first_instant) (ltb-false _ _ y))))

pub mark-no : (m : Mark) (t : ℕ) → names ≤ m.name → false ≡ is_mark_at t m
unfolding is_mark_at
mark-no m t h = rw (le-ltb m.name names h)

pub mark-by : (m : Mark) (t : ℕ) {b : Bool} → m.name < names → b ≡ is_within m.time t → b ≡ is_mark_at t m
unfolding is_mark_at
mark-by m t h e = rw (lt-ltb m.name names h) e

marks-turn :
    (t i : ℕ) (a : List Mark) →
    are_marks t (latest (i + 1) a) ≡ (is_mark_at t (get_or a i nil) && (not (any (has_name (get_or a i nil).name) (latest i a)) && are_marks t (latest i a)))
unfolding latest are_marks
marks-turn t i a = rw add-one

module _ (t i n : ℕ) (a : List Mark) where
  pub marks-start : are_marks t (latest 0 a) ≡ true
  unfolding latest are_marks
  marks-start = refl

  pub marks-bad : i < n → is_mark_at t (get_or a i nil) ≡ false → false ≡ are_marks t (latest n a)
  marks-bad h e = sym (marks-none t i n a h (marks-turn t i a ∙ rw e))

  module _ (r : ℕ) (e : latest r a ≡ up_to (has_name (get_or a i nil).name) (latest i a)) (f : is_mark_at t (get_or a i nil) ≡ true) where
    pub marks-twice : i < n → (r ≡ 0 → ⊥) → false ≡ are_marks t (latest n a)
    marks-twice h g = sym (marks-none t i n a h (marks-turn t i a ∙ rw (f, found-any _ i r a e, lt-ltb 0 r (above r g))))
      where
        above : (r : ℕ) → (r ≡ 0 → ⊥) → 0 < r
        above zero g = absurd (g refl)
        above (suc r) g = omega arith

    pub marks-next : r ≡ 0 → are_marks t (latest i a) ≡ true → are_marks t (latest (i + 1) a) ≡ true
    marks-next g h = marks-turn t i a ∙ rw (f, found-any _ i r a e, g, h)

  pub marks-end : i ≤ n → n ≤ i → are_marks t (latest i a) ≡ true → true ≡ are_marks t (latest n a)
  marks-end h k e = let q : n ≡ i = omega arith in rw q (sym e)

-- ---- as the definitions have them

pub named-any : (n : ℕ) (l : List Mark) → any (model.is_named n) (map mark_is l) ≡ any (has_name n) l
unfolding any
named-any n [] = refl
named-any n (m ∷ l) = by-test (has_name n m) (λ e. rw e) (λ e. rw e (named-any n l))

pub named-others : (n : ℕ) (l : List Mark) → map mark_is (others n l) ≡ filter (λ (m : model.Mark). not (model.is_named n m)) (map mark_is l)
unfolding others filter kept
named-others n [] = refl
named-others n (m ∷ l) = by-test (has_name n m) (λ e. rw e (named-others n l)) (λ e. rw e (ap (mark_is m ∷◌) (named-others n l)))

pub named-upto : (n : ℕ) (l : List Mark) → map mark_is (up_to (has_name n) l) ≡ up_to (model.is_named n) (map mark_is l)
unfolding up_to
named-upto n [] = refl
named-upto n (m ∷ l) = by-test (has_name n m) (λ e. rw e) (λ e. rw e (named-upto n l))
