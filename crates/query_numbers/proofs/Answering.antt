-- From the answers of the calls to six numbers, and from the numbers of a query to its call.
use mathlib.Core.Path.{◌≡◌, refl, sym, ap, ◌∙◌}
use mathlib.Core.Bool.{true, false, not}
use mathlib.Core.Logic.{◌⊎◌, inl, inr}
use mathlib.Core.Option.{Option, none, some}
use mathlib.Core.List.{List, [], ◌∷◌, ◌++◌}
use Prim.Native.Nat.{ℕ, zero, suc, ◌+◌, ◌*◌, ◌-◌, ◌/◌, ◌%◌, ◌^◌, ◌≤◌, ◌<◌}
use native.Mathlib.Omega.{arith}
use lib.Dec.{eqb}
use lib.IntN.{ℤ, pos, negsuc}
use lib.ListN.{length, get_or, set, take}
use lib.Signed.{lt_z}
use mir.Facts.{to_z-of_z, to_z_pos}
use mir.Syntax.{w64}
use mir.Val.{SFits, to_z, of_z}
use borrow.Author.Tests.{ltb-true, ltb-false, lt-ltb, le-ltb, eq-eqb, ne_eqb, eqb-true, eqb-false}
use Rattle.model.specs.Answer.{Answer, gives, refuses, ◌>>=◌}
use Rattle.model.specs.Calls.{Reply, between_call, move_call, period_call, said, least_of}
use Rattle.model.specs.Lines.{Query, ask_between, ask_move, ask_period, reply_to}
use Rattle.model.specs.Walk.{Way}
use Rattle.model.specs.Working.{Schedule}
use Rattle.laws_base.specs.Made.{Any}
use Rattle.laws_base.specs.Test.{by-test, by-either, or-true, never, clash}
use Rattle.laws_part.specs.Placed.{PlacedIn, gave, refused-in}
use Rattle.laws_part.specs.Replies.{FewWindows}
use Rattle.answer_numbers.specs.Written.{written_same}
use Rattle.answer_numbers.specs.Outcomes.{written, too_short, EndsAs}
use Rattle.walk_distance.specs.Distances.{way_of}
use Rattle.schedule.specs.Answers.{CountedAs}
use Rattle.std.specs.Prelude.{Result, Ok, Err}
use Rattle.refusal.specs.declared.Refused.{Refused}
use Rattle.refusal.specs.Refused.{number_of}
use Rattle.schedule.specs.declared.Counted.{Counted}
use Rattle.schedule_periods.specs.declared.Period.{Period}
use Rattle.schedule_periods.specs.Replies.{period_reply}
use Rattle.query_numbers.specs.declared.AnyAnswer.TheVariants as A
use Rattle.query_numbers.specs.declared.AnyAnswer.{AnyAnswer}
use Rattle.query_numbers.specs.declared.Unanswered.TheVariants as U
use Rattle.query_numbers.specs.declared.Unanswered.{Unanswered}
use Rattle.query_numbers.specs.Batch.{is_one_of, query_for, query_at, answers_from, batch, six_of, answer_to, no_query, any_numbers, IsSix, zeros}

-- ---- the numbers of an answer

values_same : {v w : List ℤ} → ◌≡◌ {A = Answer (List ℤ)} (gives v) (gives w) → v ≡ w
values_same e = cc

module _ {d : Answer Reply} (f : PlacedIn FewWindows 0 d) where
  pub counted-six : {t : Counted} → CountedAs (Ok t) d → IsSix (Ok (A.Counted t)) (six_of d)
  counted-six {t} k = go d k f
    where
      go : (o : Answer Reply) → CountedAs (Ok t) o → PlacedIn FewWindows 0 o → IsSix (Ok (A.Counted t)) (six_of o)
      go (gives r) l (gave m) =
          let s : r.values ≡ t.secs ∷ t.nanos ∷ [] = sym (values_same l.0) in
          let q = l.1.most in
          record { numbers = rw (s, ← l.1.least); fits = omega arith }
      go (refuses n j) l m = never (cc)

  pub refused-six : {r : Refused} → CountedAs (Err r) d → IsSix (Err (U.Refused r)) (six_of d)
  refused-six {r} k = go d k f
    where
      go : (o : Answer Reply) → CountedAs (Err r) o → PlacedIn FewWindows 0 o → IsSix (Err (U.Refused r)) (six_of o)
      go (gives x) l m = never (cc)
      go (refuses i j) l (refused-in m) =
          let s : i ≡ number_of r.refusal = cc in
          let t : j ≡ r.place = cc in
          record { numbers = rw (s, t); fits = omega arith }

-- a period's
pub period-six : {p : Period} {d : Answer Reply} → gives (period_reply p) ≡ d → IsSix (Ok (A.Period p)) (six_of d)
period-six e = rw (← e) (record { numbers = refl; fits = tt })

pub no-period-six : {r : Refused} {d : Answer Reply} → PlacedIn {A = Reply} Any 0 d → refuses (number_of r.refusal) r.place ≡ d → IsSix (Err (U.Refused r)) (six_of d)
no-period-six {r} {d} f e = go d f e
  where
    go : (o : Answer Reply) → PlacedIn {A = Reply} Any 0 o → refuses (number_of r.refusal) r.place ≡ o → IsSix (Err (U.Refused r)) (six_of o)
    go (gives x) m a = never (cc)
    go (refuses i j) (refused-in m) a =
        let s : i ≡ number_of r.refusal = cc in
        let t : j ≡ r.place = cc in
        record { numbers = rw (s, t); fits = omega arith }

-- ---- the call of a query

-- a number by its bits
number_is : {k : ℤ} {n : ℕ} → SFits w64 k → of_z w64 k ≡ n → n < 2 ^ 63 → k ≡ pos n
number_is {k} {n} f e h = sym (to_z-of_z f) ∙ ap (to_z w64) e ∙ to_z_pos w64 h

-- a kind by its bits
pub one-of-first : {i : ℕ} (j : ℕ) {k : ℤ} → SFits w64 k → of_z w64 k ≡ i → i < 2 ^ 63 → true ≡ is_one_of i j k
unfolding is_one_of
one-of-first {i} j f e h = rw (number_is f e h, eq-eqb i i refl)

pub one-of-second : (i : ℕ) {j : ℕ} (k : ℤ) → SFits w64 k → j < 2 ^ 63 → (of_z w64 k ≡ i → ⊥) → eqb (of_z w64 k) j ≡ is_one_of i j k
unfolding is_one_of
one-of-second i {j} (pos n) f l g = rw (ne_eqb n i g)
one-of-second i {j} (negsuc n) f l g = by-test (eqb (of_z w64 (negsuc n)) j) (λ t. is-minus (number_is f (eqb-true (of_z w64 (negsuc n)) j t) l)) (λ t. t)
  where
    is-minus : {P : Type 0} → negsuc n ≡ pos j → P
    is-minus e = never (cc)

one-of-means : (i j : ℕ) (k : ℤ) → is_one_of i j k ≡ true → (k ≡ pos i) ⊎ (k ≡ pos j)
unfolding is_one_of
one-of-means i j (pos n) e = by-either (λ t. inl (ap pos (eqb-true n i t))) (λ t. inr (ap pos (eqb-true n j t))) (or-true (eqb n i) (eqb n j) e)
one-of-means i j (negsuc n) e = clash false e refl

none-of-means : (i j : ℕ) (k : ℤ) → is_one_of i j k ≡ false → (k ≡ pos i → ⊥) × (k ≡ pos j → ⊥)
unfolding is_one_of
none-of-means i j k e =
    ((λ h. clash (is_one_of i j k) (rw h (rw (eq-eqb i i refl))) e), (λ h. clash (is_one_of i j k) (rw h (by-test (eqb j i) (λ t. rw t) (λ t. rw (t, eq-eqb j j refl)))) e))

module _ (s : Schedule) (k a b c d : ℤ) {r : Result AnyAnswer Unanswered} where
  pub as-between : SFits w64 k → of_z w64 k ≡ 0 → IsSix r (six_of (reply_to s (ask_between a b c d))) → IsSix r (answer_to (gives s) (query_for k a b c d))
  unfolding query_for
  as-between f e h = rw (number_is f e (omega arith)) h

  pub as-move : true ≡ is_one_of 1 2 k → IsSix r (six_of (reply_to s (ask_move (way_of (not (eqb (of_z w64 k) 1))) a b c d))) → IsSix r (answer_to (gives s) (query_for k a b c d))
  unfolding query_for
  as-move e h = by-either (λ q. rw q (rw q at h)) (λ q. rw q (rw q at h)) (one-of-means 1 2 k (sym e))

  pub as-period : true ≡ is_one_of 3 4 k → IsSix r (six_of (reply_to s (ask_period (way_of (not (eqb (of_z w64 k) 3))) a b))) → IsSix r (answer_to (gives s) (query_for k a b c d))
  unfolding query_for
  as-period e h = by-either (λ q. rw q (rw q at h)) (λ q. rw q (rw q at h)) (one-of-means 3 4 k (sym e))

-- no call
none-for : (k a b c d : ℤ) → (k ≡ pos 0 → ⊥) → (k ≡ pos 1 → ⊥) → (k ≡ pos 2 → ⊥) → (k ≡ pos 3 → ⊥) → (k ≡ pos 4 → ⊥) → query_for k a b c d ≡ none
unfolding query_for
none-for (negsuc n) a b c d f₀ f₁ f₂ f₃ f₄ = refl
none-for (pos n) a b c d f₀ f₁ f₂ f₃ f₄ =
    rw (ne_eqb n 0 (λ e. f₀ (ap pos e)), ne_eqb n 1 (λ e. f₁ (ap pos e)), ne_eqb n 2 (λ e. f₂ (ap pos e)), ne_eqb n 3 (λ e. f₃ (ap pos e)), ne_eqb n 4 (λ e. f₄ (ap pos e)))

no_call : (g : Answer Schedule) (q : Option Query) → q ≡ none → IsSix (Err U.NoQuery) (answer_to g q)
no_call g q e = rw e (record { numbers = refl; fits = tt })

module _ (g : Answer Schedule) (k a b c d : ℤ) where
  pub as_none : (of_z w64 k ≡ 0 → ⊥) → false ≡ is_one_of 1 2 k → false ≡ is_one_of 3 4 k → IsSix (Err U.NoQuery) (answer_to g (query_for k a b c d))
  as_none f m p =
      let x = none-of-means 1 2 k (sym m) in
      let y = none-of-means 3 4 k (sym p) in
      no_call g (query_for k a b c d) (none-for k a b c d (λ e. f (ap (of_z w64) e)) x.0 x.1 y.0 y.1)

  pub below_none : lt_z k (pos 0) ≡ true → IsSix (Err U.NoQuery) (answer_to g (query_for k a b c d))
  unfolding query_for
  below_none h = no_call g (query_for k a b c d) (go k h)
    where
      go : (k : ℤ) → lt_z k (pos 0) ≡ true → query_for k a b c d ≡ none
      go (negsuc n) h = refl
      go (pos n) h = absurd (omega (arith, ltb-true n 0 h))

  pub above-none : lt_z (pos 4) k ≡ true → IsSix (Err U.NoQuery) (answer_to g (query_for k a b c d))
  above-none h = no_call g (query_for k a b c d) (go k h)
    where
      go : (k : ℤ) → lt_z (pos 4) k ≡ true → query_for k a b c d ≡ none
      go (negsuc n) h = clash false h refl
      go (pos n) h =
          let l = ltb-true 4 n h in
          none-for (pos n) a b c d (λ e. is-not n 0 (omega arith) e) (λ e. is-not n 1 (omega arith) e) (λ e. is-not n 2 (omega arith) e) (λ e. is-not n 3 (omega arith) e) (λ e. is-not n 4 (omega arith) e)
        where
          is-not : (n m : ℕ) → m < n → pos n ≡ pos m → ⊥
          is-not n m h e = let s : n ≡ m = cc in omega arith

-- a refused book's answer, where the query is one
pub query-refused : (r : Refused) (k a b c d : ℤ) → r.place < 2 ^ 63 → lt_z k (pos 0) ≡ false → lt_z (pos 4) k ≡ false
    → IsSix (Err (U.Refused r)) (answer_to (refuses (number_of r.refusal) r.place) (query_for k a b c d))
unfolding query_for
query-refused r (negsuc m) a b c d h e g = clash true refl e
query-refused r (pos m) a b c d h e g =
    let l = ltb-false 4 m g in
    by-test (eqb m 0) (λ t. rw t (record { numbers = refl; fits = h }))
    (λ t₀. by-test (eqb m 1) (λ t. rw (t₀, t) (record { numbers = refl; fits = h }))
    (λ t₁. by-test (eqb m 2) (λ t. rw (t₀, t₁, t) (record { numbers = refl; fits = h }))
    (λ t₂. by-test (eqb m 3) (λ t. rw (t₀, t₁, t₂, t) (record { numbers = refl; fits = h }))
    (λ t₃. by-test (eqb m 4) (λ t. rw (t₀, t₁, t₂, t₃, t) (record { numbers = refl; fits = h }))
    (λ t₄. absurd (let a₀ = eqb-false m 0 t₀ in let a₁ = eqb-false m 1 t₁ in let a₂ = eqb-false m 2 t₂ in let a₃ = eqb-false m 3 t₃ in let a₄ = eqb-false m 4 t₄ in omega arith))))))

-- ---- by the names of the definitions

module _ (s : Schedule) (a b c d : ℤ) {r : Result AnyAnswer Unanswered} where
  pub between-reply : IsSix r (six_of (between_call s a b c d)) → IsSix r (six_of (reply_to s (ask_between a b c d)))
  unfolding reply_to
  between-reply h = h

  pub move-reply : (w : Way) → IsSix r (six_of (move_call w s a b c d)) → IsSix r (six_of (reply_to s (ask_move w a b c d)))
  unfolding reply_to
  move-reply w h = h

  pub period-reply : (w : Way) → IsSix r (six_of (period_call w s a b)) → IsSix r (six_of (reply_to s (ask_period w a b)))
  unfolding reply_to
  period-reply w h = h

-- ---- writing

pub put_as : {x : List ℤ} (i : ℕ) (e : List ℤ) {l m : List ℤ} → x ≡ written i l e → l ≡ m → x ≡ written i m e
put_as i e p q = p ∙ written_same i e q

-- one query answered, whose numbers fit
module _ (g : Answer Schedule) (q : List ℤ) (i at : ℕ) (e : List ℤ) (r : Result AnyAnswer Unanswered) where
  pub one-answered : SFits w64 (get_or q i (pos 0)) → SFits w64 (get_or q (i + 1) (pos 0)) → SFits w64 (get_or q (i + 1 + 1) (pos 0)) → SFits w64 (get_or q (i + 1 + 1 + 1) (pos 0))
      → SFits w64 (get_or q (i + 1 + 1 + 1 + 1) (pos 0)) → {x : List ℤ}
      → IsSix r (answer_to g (query_for (to_z w64 (of_z w64 (get_or q i (pos 0)))) (to_z w64 (of_z w64 (get_or q (i + 1) (pos 0)))) (to_z w64 (of_z w64 (get_or q (i + 1 + 1) (pos 0))))
      (to_z w64 (of_z w64 (get_or q (i + 1 + 1 + 1) (pos 0)))) (to_z w64 (of_z w64 (get_or q (i + 1 + 1 + 1 + 1) (pos 0))))))
      → x ≡ written at (any_numbers r) e → x ≡ written at (answer_to g (query_at q i)) e
  unfolding query_at
  one-answered f₁ f₂ f₃ f₄ f₅ h p = put_as at e p (rw (to_z-of_z f₁, to_z-of_z f₂, to_z-of_z f₃, to_z-of_z f₄, to_z-of_z f₅) at h.numbers)

-- ---- one query after the other

six-long : (a : Answer Reply) → length (six_of a) ≡ 6
six-long (gives r) = long r.values
  where
    long : (l : List ℤ) → suc (suc (length (take 4 (l ++ zeros)))) ≡ 6
    long [] = refl
    long (a ∷ []) = refl
    long (a ∷ b ∷ []) = refl
    long (a ∷ b ∷ c ∷ []) = refl
    long (a ∷ b ∷ c ∷ d ∷ l) = refl
six-long (refuses n p) = refl

answer-long : (g : Answer Schedule) (q : Option Query) → length (answer_to g q) ≡ 6
answer-long g none = refl
answer-long g (some q) = six-long (g >>= λ s. reply_to s q)

written_both : (at : ℕ) (l k e : List ℤ) → written at (l ++ k) e ≡ written (at + length l) k (written at l e)
unfolding written
written_both at [] k e = let p : at ≡ at + 0 = omega arith in ap (λ i. written i k e) p
written_both at (a ∷ l) k e =
    let p : at + 1 + length l ≡ at + suc (length l) = omega arith in
    written_both (at + 1) l k (set e at a) ∙ ap (λ i. written i k (written (at + 1) l (set e at a))) p

module _ (g : Answer Schedule) (q : List ℤ) where
  from-turn : (n i at : ℕ) (e : List ℤ) → 0 < n → written at (answers_from g n i q) e ≡ written (at + 6) (answers_from g (n - 1) (i + 5) q) (written at (answer_to g (query_at q i)) e)
  unfolding answers_from
  from-turn zero i at e h = absurd (omega arith)
  from-turn (suc n) i at e h =
      let p : n ≡ suc n - 1 = omega arith in
      written_both at (answer_to g (query_at q i)) (answers_from g n (i + 5) q) e
      ∙ ap (λ k. written (at + k) (answers_from g n (i + 5) q) (written at (answer_to g (query_at q i)) e)) (answer-long g (query_at q i))
      ∙ ap (λ m. written (at + 6) (answers_from g m (i + 5) q) (written at (answer_to g (query_at q i)) e)) p

  pub all-turned : (n i at : ℕ) (e : List ℤ) {x y : List ℤ} → 0 < n → x ≡ written at (answer_to g (query_at q i)) e → written at (answers_from g n i q) e ≡ y
      → written (at + 6) (answers_from g (n - 1) (i + 5) q) x ≡ y
  all-turned n i at e h p k = ap (written (at + 6) (answers_from g (n - 1) (i + 5) q)) p ∙ sym (from-turn n i at e h) ∙ k

  pub none_left : (n i at : ℕ) (e : List ℤ) → n ≤ 0 → written at (answers_from g n i q) e ≡ e
  unfolding answers_from written
  none_left zero i at e h = refl
  none_left (suc n) i at e h = absurd (omega arith)

-- ---- the whole batch

module _ (b : Answer Schedule) (q e : List ℤ) where
  pub not-whole : (length q % 5 ≡ 0 → ⊥) → EndsAs no_query e (batch b q e)
  unfolding batch
  not-whole h = rw (ne_eqb (length q % 5) 0 h) (refl, refl)

  module _ (w : length q % 5 ≡ 0) where
    pub too_few : length e / 6 < length q / 5 → EndsAs too_short e (batch b q e)
    unfolding batch
    too_few h = let k : length e < 6 * (length q / 5) = omega arith in rw (w, lt-ltb (length e) (6 * (length q / 5)) k) (refl, refl)

    pub all_done : length q / 5 ≤ length e / 6 → {g : Answer Schedule} → g ≡ b → {x : List ℤ} → x ≡ written 0 (answers_from g (length q / 5) 0 q) e → EndsAs 0 x (batch b q e)
    unfolding batch
    all_done h s p = let k : 6 * (length q / 5) ≤ length e = omega arith in rw (w, le-ltb (length e) (6 * (length q / 5)) k) (refl, rw s at p)
