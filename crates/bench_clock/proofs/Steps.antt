-- Laws of the functions that are timed: what each answer is, one turn of each loop, and the whole. Assumes nothing.
use mathlib.Core.Path.{◌≡◌, refl, sym, ap, ◌∙◌}
use mathlib.Core.Bool.{not, false}
use mathlib.Core.List.{List, [], ◌∷◌}
use Prim.Native.Nat.{ℕ, zero, suc, ◌+◌, ◌*◌, ◌-◌, ◌/◌, ◌≤◌, ◌<◌}
use native.Mathlib.Omega.{arith}
use lib.Dec.{eqb}
use lib.IntN.{ℤ, pos}
use lib.ListN.{length, get_or, set, take, drop}
use mir.Syntax.{w64}
use mir.Val.{SFits, to_z, of_z}
use mir.Facts.{to_z-of_z}
use borrow.Author.Tests.{eq-eqb, ne_eqb, lt-ltb, le-ltb}
use Rattle.model.specs.Answer.{Answer, gives, refuses}
use Rattle.model.specs.Build.{build}
use Rattle.model.specs.Calls.{Reply, between_call, move_call, period_call, list_call, said, numbers_after}
use Rattle.model.specs.Instant.{second}
use Rattle.model.specs.Working.{Schedule}
use Rattle.laws_base.specs.Test.{by-test, clash}
use Rattle.rule.specs.Rules.{schedule_is}
use Rattle.walk_distance.specs.Distances.{way_of}
use Rattle.std.specs.Prelude.{Result, Ok, Err}
use Rattle.model.specs.Walk.{Way}
use Rattle.model.specs.Marks.{marked_period_call}
use Rattle.laws_marks.specs.Periods.{unmarked_period, period-forgets}
use Rattle.schedule_periods.specs.declared.MarkedPeriod.{MarkedPeriod}
use Rattle.schedule_periods.specs.Replies.{period_numbers, marked_numbers}
use Rattle.refusal.specs.declared.Refused.{Refused}
use Rattle.refusal.specs.Answered.{answer_of}
use Rattle.refusal.specs.Refused.{number_of}
use Rattle.rule.specs.declared.Schedule.{Schedule as Code}
use Rattle.answer_numbers.specs.Outcomes.{written}
use Rattle.bench_clock.specs.Asked.{reply_is, answer_of_kind, written_at, with_answer, groups_from, groups, groups_of, limit_in, limit_of, listed_often, listed_of, at_front}

-- ---- a period without its marks

module _ (w : Way) (s : Schedule) (a b : ℤ) where
  pub period-given : (p : MarkedPeriod) → gives (marked_numbers p) ≡ marked_period_call w s a b → gives (period_numbers p.period) ≡ said (period_call w s a b)
  period-given p e = ap unmarked_period e ∙ period-forgets w s a b

  pub period-refused : {n p : ℕ} → refuses n p ≡ marked_period_call w s a b → refuses n p ≡ said (period_call w s a b)
  period-refused e = ap unmarked_period e ∙ period-forgets w s a b

-- ---- by the kind of the question

two : {k : ℕ} → (k ≡ 0 → ⊥) → k < 3 → (k ≡ 1 → ⊥) → k ≡ 2
two f l g = omega arith

module _ (k : ℕ) (s : Schedule) (a b c d : ℤ) {x : Answer (List ℤ)} where
  pub as-time : k ≡ 0 → x ≡ said (between_call s a b c d) → x ≡ answer_of_kind k s a b c d
  unfolding answer_of_kind
  as-time h e = rw (eq-eqb k 0 h) e

  pub as-move : (k ≡ 0 → ⊥) → k < 3 → x ≡ said (move_call (way_of (not (eqb k 1))) s a b c d) → x ≡ answer_of_kind k s a b c d
  unfolding answer_of_kind
  as-move f l e =
      by-test (eqb k 1)
      (λ h. rw (ne_eqb k 0 f, h) (rw h at e))
      (λ h. rw (ne_eqb k 0 f, h, eq-eqb k 2 (two f l (λ i. clash (eqb k 1) (eq-eqb k 1 i) h))) (rw h at e))

  pub as-period : 3 ≤ k → x ≡ said (period_call (way_of (not (eqb k 3))) s a b) → x ≡ answer_of_kind k s a b c d
  unfolding answer_of_kind
  as-period l e =
      let f : eqb k 0 ≡ false = ne_eqb k 0 (λ h. omega arith) in
      let g : eqb k 1 ≡ false = ne_eqb k 1 (λ h. omega arith) in
      let i : eqb k 2 ≡ false = ne_eqb k 2 (λ h. omega arith) in
      by-test (eqb k 3) (λ h. rw (f, g, i, h) (rw h at e)) (λ h. rw (f, g, i, h) (rw h at e))

-- ---- writing

-- one question answered, where each number that is asked with fits
module _ (k : ℕ) (s : Schedule) (i : ℕ) (e : List ℤ) (f : SFits w64 (get_or e i (pos 0))) (g : SFits w64 (get_or e (i + 1) (pos 0))) where
  pub turn_is : {r : Answer (List ℤ)} {x : List ℤ} → SFits w64 (get_or e (i + 2) (pos 0)) → SFits w64 (get_or e (i + 3) (pos 0))
      → r ≡ answer_of_kind k s (to_z w64 (of_z w64 (get_or e i (pos 0)))) (to_z w64 (of_z w64 (get_or e (i + 1) (pos 0)))) (to_z w64 (of_z w64 (get_or e (i + 2) (pos 0))))
      (to_z w64 (of_z w64 (get_or e (i + 3) (pos 0)))) → x ≡ written_at i r e → x ≡ with_answer k s i e
  unfolding with_answer
  turn_is h j p q = q ∙ ap (λ l. written_at i l e) (rw (to_z-of_z f, to_z-of_z g, to_z-of_z h, to_z-of_z j) at p)

  pub period-turn : {r : Answer (List ℤ)} {x : List ℤ} → 3 ≤ k
      → r ≡ said (period_call (way_of (not (eqb k 3))) s (to_z w64 (of_z w64 (get_or e i (pos 0)))) (to_z w64 (of_z w64 (get_or e (i + 1) (pos 0)))))
      → x ≡ written_at i r e → x ≡ with_answer k s i e
  unfolding with_answer
  period-turn h p q = q ∙ ap (λ l. written_at i l e) (as-period k s _ _ _ _ h (rw (to_z-of_z f, to_z-of_z g) at p))

-- an answer at the front of the lent numbers
pub front-put : (e : List ℤ) {r d : Answer (List ℤ)} {x : List ℤ} → 4 ≤ length e → r ≡ d → x ≡ written_at 0 r e → x ≡ at_front d e
unfolding at_front
front-put e l p q = rw (le-ltb (length e) 4 l) (q ∙ ap (λ d. written_at 0 d e) p)

pub front-stays : (e : List ℤ) (d : Answer (List ℤ)) → length e < 4 → e ≡ at_front d e
unfolding at_front
front-stays e d l = rw (lt-ltb (length e) 4 l)

-- ---- the questions, one after the other

groups-turn : (k : ℕ) (s : Schedule) (n i : ℕ) (e : List ℤ) → 0 < n → groups_from k s n i e ≡ groups_from k s (n - 1) (i + 4) (with_answer k s i e)
unfolding groups_from
groups-turn k s zero i e h = absurd (omega arith)
groups-turn k s (suc n) i e h = let p : n ≡ suc n - 1 = omega arith in ap (λ m. groups_from k s m (i + 4) (with_answer k s i e)) p

groups-turned : (k : ℕ) (s : Schedule) (n i : ℕ) (e : List ℤ) {x g : List ℤ} → 0 < n → x ≡ with_answer k s i e → groups_from k s n i e ≡ g → groups_from k s (n - 1) (i + 4) x ≡ g
groups-turned k s n i e h p q = ap (groups_from k s (n - 1) (i + 4)) p ∙ sym (groups-turn k s n i e h) ∙ q

-- where k of the n questions are answered
pub groups-on : (kind : ℕ) (s : Schedule) (n k : ℕ) (e : List ℤ) {x g : List ℤ} → k < n → x ≡ with_answer kind s (4 * k) e → groups_from kind s (n - k) (4 * k) e ≡ g
    → groups_from kind s (n - (k + 1)) (4 * (k + 1)) x ≡ g
groups-on kind s n k e h p q =
    let m : n - (k + 1) ≡ n - k - 1 = omega arith in
    let i : 4 * (k + 1) ≡ 4 * k + 4 = omega arith in
    rw (m, i) (groups-turned kind s (n - k) (4 * k) e (omega arith) p q)

pub groups_none : (k : ℕ) (s : Schedule) (n i : ℕ) (e : List ℤ) → n ≤ 0 → groups_from k s n i e ≡ e
unfolding groups_from
groups_none k s zero i e h = refl
groups_none k s (suc n) i e h = absurd (omega arith)

lists-turn : (n : ℕ) (s : Schedule) (a b c d : ℤ) (e : List ℤ) → 0 < n → listed_often n s a b c d e ≡ listed_often (n - 1) s a b c d (numbers_after (list_call s a b c d e) e)
unfolding listed_often
lists-turn zero s a b c d e h = absurd (omega arith)
lists-turn (suc n) s a b c d e h = let p : n ≡ suc n - 1 = omega arith in ap (λ m. listed_often m s a b c d (numbers_after (list_call s a b c d e) e)) p

lists-turned : (n : ℕ) (s : Schedule) (a b c d : ℤ) (e : List ℤ) {x g : List ℤ} → 0 < n → x ≡ numbers_after (list_call s a b c d e) e → listed_often n s a b c d e ≡ g → listed_often (n - 1) s a b c d x ≡ g
lists-turned n s a b c d e h p q = ap (listed_often (n - 1) s a b c d) p ∙ sym (lists-turn n s a b c d e h) ∙ q

pub lists-on : (n k : ℕ) (s : Schedule) (a b c d : ℤ) (e : List ℤ) {x g : List ℤ} → k < n → x ≡ numbers_after (list_call s a b c d e) e → listed_often (n - k) s a b c d e ≡ g
    → listed_often (n - (k + 1)) s a b c d x ≡ g
lists-on n k s a b c d e h p q =
    let m : n - (k + 1) ≡ n - k - 1 = omega arith in
    rw m (lists-turned (n - k) s a b c d e (omega arith) p q)

pub lists-none : (n : ℕ) (s : Schedule) (a b c d : ℤ) (e : List ℤ) → n ≤ 0 → listed_often n s a b c d e ≡ e
unfolding listed_often
lists-none zero s a b c d e h = refl
lists-none (suc n) s a b c d e h = absurd (omega arith)

-- ---- the book

module _ (b p : List ℕ) {d : Answer Schedule} where
  pub all-answered : (s : Code) → answer_of (schedule_is b p) (Ok s) ≡ d → (k : ℕ) (x : List ℤ) {y : List ℤ} → y ≡ groups k (schedule_is b p s) x → y ≡ groups_of k d x
  all-answered s e k x q = rw (← e) q

  pub none-answered : (r : Refused) → answer_of (schedule_is b p) (Err r) ≡ d → (k : ℕ) (x : List ℤ) → x ≡ groups_of k d x
  none-answered r e k x = rw (← e)

  pub all_listed : (s : Code) → answer_of (schedule_is b p) (Ok s) ≡ d → (n : ℕ) (a₁ a₂ b₁ b₂ : ℤ) (x : List ℤ) {y : List ℤ} → y ≡ listed_often n (schedule_is b p s) a₁ a₂ b₁ b₂ x → y ≡ listed_of n d a₁ a₂ b₁ b₂ x
  all_listed s e n a₁ a₂ b₁ b₂ x q = rw (← e) q

  pub none-listed : (r : Refused) → answer_of (schedule_is b p) (Err r) ≡ d → (n : ℕ) (a₁ a₂ b₁ b₂ : ℤ) (x : List ℤ) → x ≡ listed_of n d a₁ a₂ b₁ b₂ x
  none-listed r e n a₁ a₂ b₁ b₂ x = rw (← e)

  limit-yes : (s : Code) → answer_of (schedule_is b p) (Ok s) ≡ d → s.limit ≡ limit_in d
  limit-yes s e = let h : s.limit ≡ (s.limit * second) / second = omega arith in rw (← e) h

  limit-no : (r : Refused) → answer_of (schedule_is b p) (Err r) ≡ d → number_of r.refusal ≡ limit_in d
  limit-no r e = rw (← e)

module _ (book p part : List ℕ) (n : ℕ) (h : part ≡ take n (drop 0 book)) where
  same : build part p ≡ build (take n book) p
  same = ap (λ l. build l p) h

  pub limit_is : (s : Code) → answer_of (schedule_is part p) (Ok s) ≡ build part p → s.limit ≡ limit_of book p n
  unfolding limit_of
  limit_is s e = limit-yes part p s e ∙ ap limit_in same

  pub limit-refused : (r : Refused) → answer_of (schedule_is part p) (Err r) ≡ build part p → number_of r.refusal ≡ limit_of book p n
  unfolding limit_of
  limit-refused r e = limit-no part p r e ∙ ap limit_in same
