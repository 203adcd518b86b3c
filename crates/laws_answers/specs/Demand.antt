-- Demand 3 over the numbers that the calls answer: it holds of every three functions that answer as the contracts of `between`, `add` and `sub`
-- promise. "Window counts stand outside demand 3." Its sentences stand in crate `laws_demand3`, Demand3.antt.
use Rattle.std.specs.Prelude.{◌≡◌, List, ℕ, ℤ, Result}
use Rattle.std.proofs.Common.{sym, ◌∙◌}
use Rattle.model.specs.Answer.{gives}
use Rattle.model.specs.Working.{Schedule}
use Rattle.model.specs.Build.{build}
use Rattle.model.specs.Calls.{between, add, sub, said}
use Rattle.laws_demand3.specs.Pairs.{Pair, IsInstant, IsDuration}
use Rattle.laws_demand3.specs.Zones.{zones_of, WithinDay}
use Rattle.laws_base.specs.Every.{Every}
use Rattle.laws_demand3.specs.Demand3.{Calls, WorkingTime, Added, Demand3, as_defined}
use Rattle.laws_demand3.proofs.Holds.{demand-3}
use Rattle.refusal.specs.declared.Refused.{Refused}
use Rattle.schedule.specs.declared.Counted.{Counted}
use Rattle.schedule.specs.Answers.{counted_is}

-- what is answered for one book and one pack
module _ (between_of add_of sub_of : Pair → Pair → Result Counted Refused) where
  -- as the contracts promise for all pairs of 64-bit numbers; instants and durations are such
  pub record AsPromised (book pack : List ℕ) : Type 0 where
    pub times : (a b : Pair) → IsInstant a → IsInstant b → counted_is (between_of a b) ≡ said (between book pack a.sec a.ns b.sec b.ns)
    pub adds : (t d : Pair) → IsInstant t → IsDuration d → counted_is (add_of t d) ≡ said (add book pack t.sec t.ns d.sec d.ns)
    pub subs : (t d : Pair) → IsInstant t → IsDuration d → counted_is (sub_of t d) ≡ said (sub book pack t.sec t.ns d.sec d.ns)

  -- in numbers
  abbrev pub as_answered : Calls
  as_answered = record {
    between = λ a b. counted_is (between_of a b);
    adding = λ t d. counted_is (add_of t d);
    taking_off = λ t d. counted_is (sub_of t d);
  }

  module _ (book pack : List ℕ) (k : AsPromised book pack) where
    -- working time by the answers is that by the definitions
    out : {a b : Pair} {w : ℤ} → IsInstant a → IsInstant b → WorkingTime (as_defined book pack) a b w → WorkingTime as_answered a b w
    out {a} {b} i j h = (h.0, k.times a b i j ∙ h.1, h.2)

    into : {a b : Pair} {w : ℤ} → IsInstant a → IsInstant b → WorkingTime as_answered a b w → WorkingTime (as_defined book pack) a b w
    into {a} {b} i j h = (h.0, sym (k.times a b i j) ∙ h.1, h.2)

    out-added : (t d x : Pair) → IsInstant t → IsDuration d → Added (as_defined book pack) t d x → Added as_answered t d x
    out-added t d x i j a = record {
      instant = a.instant;
      exact = out i a.instant a.exact;
      earliest = λ y iy w. a.earliest y iy (into i iy w);
      z = a.z;
      taken = k.subs x d a.instant j ∙ a.taken;
      instant-z = a.instant-z;
      after = a.after;
      idle = out i a.instant-z a.idle;
      again = k.adds a.z d a.instant-z j ∙ a.again;
      further = λ e f ie pe jf q. k.adds x e a.instant ie ∙ a.further e f ie pe jf q ∙ sym (k.adds t f i jf);
    }

    -- "If a book builds, no zone of it has two offsets over 24 hours apart, and all instants given are from -9998-01-01T00:00Z on: .."
    pub demand-3-answers : (s : Schedule) → build book pack ≡ gives s → Every WithinDay (zones_of book pack) → Demand3 as_answered
    demand-3-answers s e near =
        let h = demand-3 book pack s e near in
        record {
          additive = λ a b c ga gb gc.
              (let r = h.additive a b c ga gb gc in
              (r.0, r.1, out ga.instant gb.instant r.2, out gb.instant gc.instant r.3, out ga.instant gc.instant r.4));
          added = λ t d x g i p q. out-added t d x g.instant i (h.added t d x g i p (sym (k.adds t d g.instant i) ∙ q));
          beyond = λ t d place g i p q y iy w. h.beyond t d place g i p (sym (k.adds t d g.instant i) ∙ q) y iy (into g.instant iy w);
        }
