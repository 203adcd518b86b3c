-- Three functions, made from the definitions, that answer as the contracts of `between`, `add` and `sub` promise, for every book and every pack.
-- So demand 3 over the answers (`demand-3-answers` of Demand.antt), which speaks of any three such functions, speaks of something.
use Rattle.std.specs.Prelude.{◌≡◌, refl, Bool, true, false, List, [], ◌∷◌, ℕ, ◌≤◌, min, max, ◌-◌, get_or, ℤ, pos, if◌then◌else◌, Result, Ok, Err}
use Rattle.std.proofs.Common.{ap, arith}
use Rattle.model.specs.Instant.{instant_of, instant, duration_of, duration, negated}
use Rattle.model.specs.Answer.{Answer, gives, refuses, ◌>>=◌}
use Rattle.model.specs.Working.{Schedule}
use Rattle.model.specs.Build.{build}
use Rattle.model.specs.Walk.{Way, on, back, reach, ahead, begun, search}
use Rattle.model.specs.Skip.{any_time, some_time}
use Rattle.model.specs.Calls.{Reply, turned, between_call, moved, move_call, between, add, sub, least_of, most_of}
use Rattle.laws_demand3.specs.Pairs.{Pair}
use Rattle.laws_demand3.specs.Zones.{zones_of, WithinDay}
use Rattle.laws_base.specs.Every.{Every}
use Rattle.laws_skip.specs.Skips.{needed-most}
use Rattle.refusal.specs.declared.Refusal.{Refusal}
use Rattle.refusal.specs.declared.Refused.{Refused}
use Rattle.refusal.specs.Refused.{number_of}
use Rattle.schedule.specs.declared.Counted.{Counted}
use Rattle.schedule.specs.Answers.{CountedAs}
use Rattle.laws_answers.specs.Known.{Known, build-known, instant-known, duration-known, negated-known, search-known}
use Rattle.laws_answers.specs.Demand.{AsPromised, as_answered, demand-3-answers}
use Rattle.laws_demand3.specs.Demand3.{Demand3}

-- ---- replies of two numbers whose least count is not above the most, and refusals with the number of one

abbrev pub Answered : Answer Reply → Type 0
Answered (gives r) = (x y : ℤ) × (r.values ≡ x ∷ y ∷ []) × (least_of (gives r) ≤ most_of (gives r))
Answered (refuses n p) = (r : Refusal) × (number_of r ≡ n)

then-answered : {A : Type 0} (a : Answer A) (f : A → Answer Reply) → Known a → ((x : A) → Answered (f x)) → Answered (a >>= f)
then-answered (gives x) f k h = h x
then-answered (refuses n p) f k h = k

between-answered : (s : Schedule) (a₁ a₂ b₁ b₂ : ℤ) → Answered (between_call s a₁ a₂ b₁ b₂)
unfolding between_call duration
between-answered s a₁ a₂ b₁ b₂ =
    then-answered (instant_of a₁ a₂) _ (instant-known a₁ a₂) (λ a. then-answered (instant_of b₁ b₂) _ (instant-known b₁ b₂)
    (λ b. (_, _, refl, needed-most (begun (max a b - min a b)) any_time (ahead on s (min a b)) _ (max a b - min a b) 0 0 0)))

moved-answered : (w : Way) (s : Schedule) (t d : ℕ) → Answered (moved w s t d)
unfolding moved instant
moved-answered w s t d = then-answered (search w s t d) _ (search-known w s t d) (λ x. (_, _, refl, needed-most (begun x) some_time (ahead w s t) _ (reach w t) 0 0 d))

choice-answered : (c : Bool) (a b : Answer Reply) → Answered a → Answered b → Answered (if c then a else b)
choice-answered true a b p q = p
choice-answered false a b p q = q

move-answered : (w : Way) (s : Schedule) (t₁ t₂ d₁ d₂ : ℤ) → Answered (move_call w s t₁ t₂ d₁ d₂)
unfolding move_call
move-answered w s t₁ t₂ d₁ d₂ =
    then-answered (instant_of t₁ t₂) _ (instant-known t₁ t₂) (λ t. then-answered (duration_of d₁ d₂) _ (duration-known d₁ d₂)
    (λ d. choice-answered d.minus _ _ (then-answered (negated d) _ (negated-known d) (λ e. moved-answered (turned w) s t e.size)) (moved-answered w s t d.size)))

-- ---- such a reply as an answer: its two numbers, and the least count of windows

abbrev pub number : Reply → ℕ → ℤ
number r i = get_or r.values i (pos 0)

abbrev pub replied : (a : Answer Reply) → Answered a → Result Counted Refused
replied (gives r) h = Ok (record { secs = number r 0; nanos = number r 1; windows = least_of (gives r) })
replied (refuses n p) h = Err (record { refusal = h.0; place = p })

-- its numbers are those of the reply, and its count keeps both bounds
replied-as : (a : Answer Reply) (h : Answered a) → CountedAs (replied a h) a
replied-as (gives r) (x, y, e, m) = (rw e, record { least = refl; most = m })
replied-as (refuses n p) h = (ap (λ k. refuses k p) h.1, record { least = refl; most = omega arith })

module _ (book pack : List ℕ) where
  -- what the definitions reply
  abbrev time_reply : Pair → Pair → Answer Reply
  time_reply a b = between book pack a.sec a.ns b.sec b.ns

  abbrev add_reply : Pair → Pair → Answer Reply
  add_reply t d = add book pack t.sec t.ns d.sec d.ns

  abbrev sub_reply : Pair → Pair → Answer Reply
  sub_reply t d = sub book pack t.sec t.ns d.sec d.ns

  pub time-answered : (a b : Pair) → Answered (time_reply a b)
  time-answered a b = then-answered (build book pack) _ (build-known book pack) (λ s. between-answered s a.sec a.ns b.sec b.ns)

  pub add-answered : (t d : Pair) → Answered (add_reply t d)
  add-answered t d = then-answered (build book pack) _ (build-known book pack) (λ s. move-answered on s t.sec t.ns d.sec d.ns)

  pub sub-answered : (t d : Pair) → Answered (sub_reply t d)
  sub-answered t d = then-answered (build book pack) _ (build-known book pack) (λ s. move-answered back s t.sec t.ns d.sec d.ns)

  -- the three functions
  abbrev pub between_of : Pair → Pair → Result Counted Refused
  between_of a b = replied (time_reply a b) (time-answered a b)

  abbrev pub add_of : Pair → Pair → Result Counted Refused
  add_of t d = replied (add_reply t d) (add-answered t d)

  abbrev pub sub_of : Pair → Pair → Result Counted Refused
  sub_of t d = replied (sub_reply t d) (sub-answered t d)

  -- each is what its contract promises, numbers and count, for all pairs of numbers
  pub time-promised : (a b : Pair) → CountedAs (between_of a b) (time_reply a b)
  time-promised a b = replied-as (time_reply a b) (time-answered a b)

  pub add-promised : (t d : Pair) → CountedAs (add_of t d) (add_reply t d)
  add-promised t d = replied-as (add_reply t d) (add-answered t d)

  pub sub-promised : (t d : Pair) → CountedAs (sub_of t d) (sub_reply t d)
  sub-promised t d = replied-as (sub_reply t d) (sub-answered t d)

  -- so they answer as demand 3 asks,
  pub as-promised : AsPromised between_of add_of sub_of book pack
  as-promised = record { times = λ a b _ _. (time-promised a b).0; adds = λ t d _ _. (add-promised t d).0; subs = λ t d _ _. (sub-promised t d).0 }

  -- and it holds of them
  pub demand-3-witness : (s : Schedule) → build book pack ≡ gives s → Every WithinDay (zones_of book pack) → Demand3 (as_answered between_of add_of sub_of)
  demand-3-witness = demand-3-answers between_of add_of sub_of book pack as-promised
