-- The line of an answer is the line of the definition's answer.
use Rattle.std.specs.Prelude.{if◌then◌else◌}
use mathlib.Core.Path.{◌≡◌, refl}
use mathlib.Core.Bool.{Bool, true, false}
use mathlib.Core.Option.{Option, none, some}
use mathlib.Core.List.{List, [], ◌∷◌}
use Prim.Native.Nat.{ℕ}
use lib.IntN.{ℤ}
use Rattle.model.specs.Answer.{Answer, gives, refuses, ◌>>=◌}
use Rattle.model.specs.Instant.{instant_of, duration_of, negated}
use Rattle.model.specs.Working.{Schedule}
use Rattle.model.specs.Walk.{Way, on, back, search}
use Rattle.model.specs.Calls.{Reply, between_call, moved, move_call, turned, period_call, said, Windows}
use Rattle.model.specs.Bytes.{text}
use Rattle.model.specs.Lines as model
use Rattle.model.specs.Lines.{Count, printed, reply_to, reply_in, least_only}
use Rattle.laws_base.specs.Test.{never}
use Rattle.model.specs.Build.{build}
use Rattle.rule.specs.Rules.{schedule_is}
use Rattle.std.specs.Prelude.{Result, Ok, Err}
use Rattle.rule.specs.declared.Schedule as code
use Rattle.refusal.specs.declared.Refused.{Refused}
use Rattle.refusal.specs.Refused.{number_of}
use Rattle.schedule_periods.specs.declared.Period.{Period}
use Rattle.build.specs.Read.{Builds}
use Rattle.answer_line.specs.Placed.{Placed, exactly}
use Rattle.query_line.specs.Reading.{query_is}
use Rattle.query_line.specs.declared.Query.{Query}
use Rattle.query_line.specs.declared.Query.TheVariants as Q
use Rattle.schedule.specs.Answers.{CountedAs}
use Rattle.schedule.specs.declared.Counted as schedule
use Rattle.query_answer.specs.Answering.{refusal_text, counted_text, period_text}

-- an answer that is given tells its windows
data Counted : Answer Reply → Type 0 where
  counted : (v : List ℤ) (w : ℕ × ℕ) → Counted (gives (record { values = v; windows = some w }))
  refused : (n p : ℕ) → Counted (refuses n p)

and_then : {A : Type 0} (x : Answer A) (f : A → Answer Reply) → ((a : A) → Counted (f a)) → Counted (x >>= f)
and_then (gives a) f h = h a
and_then (refuses n p) f h = refused n p

either : (b : Bool) (x y : Answer Reply) → Counted x → Counted y → Counted (if b then x else y)
either true x y h k = h
either false x y h k = k

between-counted : (s : Schedule) (a b c d : ℤ) → Counted (between_call s a b c d)
unfolding between_call
between-counted s a b c d = and_then (instant_of a b) _ (λ x. and_then (instant_of c d) _ (λ y. counted _ _))

moved-counted : (w : Way) (s : Schedule) (t d : ℕ) → Counted (moved w s t d)
unfolding moved
moved-counted w s t d = and_then (search w s t d) _ (λ x. counted _ _)

move-counted : (w : Way) (s : Schedule) (a b c d : ℤ) → Counted (move_call w s a b c d)
unfolding move_call
move-counted w s a b c d =
    and_then (instant_of a b) _
    (λ t.
    and_then (duration_of c d) _
    (λ e.
    either e.minus _ _ (and_then (negated e) _ (λ f. moved-counted (turned w) s t f.size)) (moved-counted w s t e.size)))

counted-text : (r : Result schedule.Counted Refused) (a : Answer Reply) → Counted a → CountedAs r a → counted_text r ≡ printed least_only a
unfolding printed
counted-text (Ok x) _ (counted v w) (e, k) = let f : v ≡ x.secs ∷ x.nanos ∷ [] = cc in rw (f, ← k.least)
counted-text (Ok x) _ (refused m p) (e, k) = never (cc)
counted-text (Err r) _ (counted v w) (e, k) = never (cc)
counted-text (Err r) _ (refused n q) (e, k) = let f : number_of r.refusal ≡ n = cc in let g : r.place ≡ q = cc in rw (f, g)

-- ---- the line of an answer that the code has in hand

module _ {old new : List ℕ} {at e : ℕ} where
  pub counted-given : (r : Result schedule.Counted Refused) (x : schedule.Counted) (t m : ℤ) → r ≡ Ok x → t ≡ x.secs → m ≡ x.nanos →
      ((w : ℕ × ℕ) → Placed old new at e (printed (exactly x.windows) (gives (record { values = t ∷ m ∷ []; windows = some w })))) → Placed old new at e (counted_text r)
  counted-given r x t m h i j p = rw (h, ← i, ← j) (p (x.windows, x.windows))

  pub counted-refused : (r : Result schedule.Counted Refused) (f : Refused) → r ≡ Err f → Placed old new at e (refusal_text f) → Placed old new at e (counted_text r)
  counted-refused r f h q = rw h q

  -- an answer of a period call
  pub period-given : (r : Result Period Refused) (p : Period) (s n t m : ℤ) → r ≡ Ok p → s ≡ p.start.sec → n ≡ p.start.ns → t ≡ p.end.sec → m ≡ p.end.ns →
      ((count : Count) → Placed old new at e (printed count (gives (record { values = s ∷ n ∷ t ∷ m ∷ []; windows = none })))) → Placed old new at e (period_text r)
  period-given r p s n t m h i j k l q = rw (h, ← i, ← j, ← k, ← l) (q least_only)

  pub period-refused : (r : Result Period Refused) (f : Refused) → r ≡ Err f → Placed old new at e (refusal_text f) → Placed old new at e (period_text r)
  period-refused r f h q = rw h q

  -- ---- the line of a query

  module _ (s : Schedule) (q : Query) where
    pub line-between : (r : Result schedule.Counted Refused) (a b c d a' b' c' d' : ℤ) → q ≡ Q.Between a b c d → a' ≡ a → b' ≡ b → c' ≡ c → d' ≡ d →
        CountedAs r (between_call s a' b' c' d') →
        Placed old new at e (counted_text r) → Placed old new at e (reply_in least_only (gives s) (some (query_is q)))
    unfolding reply_to
    line-between r a b c d a' b' c' d' h i j k l g p =
        rw (h, ← i, ← j, ← k, ← l, ← counted-text r (between_call s a' b' c' d') (between-counted s a' b' c' d') g) p

    pub line-add : (r : Result schedule.Counted Refused) (a b c d a' b' c' d' : ℤ) → q ≡ Q.Add a b c d → a' ≡ a → b' ≡ b → c' ≡ c → d' ≡ d →
        CountedAs r (move_call on s a' b' c' d') →
        Placed old new at e (counted_text r) → Placed old new at e (reply_in least_only (gives s) (some (query_is q)))
    unfolding reply_to
    line-add r a b c d a' b' c' d' h i j k l g p =
        rw (h, ← i, ← j, ← k, ← l, ← counted-text r (move_call on s a' b' c' d') (move-counted on s a' b' c' d') g) p

    pub line-sub : (r : Result schedule.Counted Refused) (a b c d a' b' c' d' : ℤ) → q ≡ Q.Sub a b c d → a' ≡ a → b' ≡ b → c' ≡ c → d' ≡ d →
        CountedAs r (move_call back s a' b' c' d') →
        Placed old new at e (counted_text r) → Placed old new at e (reply_in least_only (gives s) (some (query_is q)))
    unfolding reply_to
    line-sub r a b c d a' b' c' d' h i j k l g p =
        rw (h, ← i, ← j, ← k, ← l, ← counted-text r (move_call back s a' b' c' d') (move-counted back s a' b' c' d') g) p

    pub line-next : (x : Answer Reply) (a b a' b' : ℤ) → q ≡ Q.Next a b → a' ≡ a → b' ≡ b → x ≡ period_call on s a' b' →
        Placed old new at e (printed least_only x) → Placed old new at e (reply_in least_only (gives s) (some (query_is q)))
    unfolding reply_to
    line-next x a b a' b' h i j g p = rw (h, ← i, ← j, ← g) p

    pub line-previous : (x : Answer Reply) (a b a' b' : ℤ) → q ≡ Q.Previous a b → a' ≡ a → b' ≡ b → x ≡ period_call back s a' b' →
        Placed old new at e (printed least_only x) → Placed old new at e (reply_in least_only (gives s) (some (query_is q)))
    unfolding reply_to
    line-previous x a b a' b' h i j g p = rw (h, ← i, ← j, ← g) p

  pub line-bad : (a : Answer Schedule) → Placed old new at e (text "bad\n") → Placed old new at e (reply_in least_only a none)
  line-bad (gives s) p = p
  line-bad (refuses n k) p = p

  -- from what `build` answers
  module _ (book pack : List ℕ) (q : model.Query) where
    pub built-line : {s : code.Schedule} → Builds book pack (Ok s) → Placed old new at e (reply_in least_only (gives (schedule_is book pack s)) (some q)) →
        Placed old new at e (reply_in least_only (build book pack) (some q))
    built-line w p = rw (← w.means) p

    pub unbuilt-line : {f : Refused} → Builds book pack (Err f) → Placed old new at e (refusal_text f) →
        Placed old new at e (reply_in least_only (build book pack) (some q))
    unbuilt-line w p = rw (← w.means) p
