-- Demand 3 holds, for every book that builds and whose zones' offsets lie within 24 hours, and all instants from -9998 on. Its sentences are the
-- records `Demand3` and `Added` of specs/Demand3.antt.
use Rattle.std.specs.Prelude.{◌≡◌, List, ℤ, pos, ◌+ℤ◌, ◌<ℤ◌}
use Rattle.std.proofs.Common.{sym, ◌∙◌, ap}
use Prim.Native.Nat.{ℕ, ◌+◌}
use native.Mathlib.Omega.{arith}
use Rattle.model.specs.Instant.{instant}
use Rattle.model.specs.Answer.{gives, refuses, ◌>>=◌}
use Rattle.model.specs.Working.{Schedule}
use Rattle.model.specs.Build.{build}
use Rattle.model.specs.Walk.{on}
use Rattle.laws_demand3.specs.Pairs.{Pair, nanos_of, IsInstant, IsDuration, listed_pair}
use Rattle.laws_demand3.specs.Zones.{zones_of, WithinDay}
use Rattle.laws_base.specs.Every.{Every}
use Rattle.laws_demand3.specs.Diff.{diff, diff-add, diff-same}
use Rattle.laws_demand3.specs.SignedPairs.{At, at-shown, shown-at, pair_of, pair-at, at-instant, instant-at, at-order, not-below-zero, not-below-zero-sum}
use Rattle.laws_demand3.specs.Built.{built, near-rules}
use Rattle.laws_demand3.specs.Demand.{move, time}
use Rattle.laws_demand3.specs.Demand3.{Given, WorkingTime, Added, Demand3, adding, as_defined, gives_of, refuses-of, time-is, time-pos, time-on, adding-is, taking-is, given-at, positive}
use Rattle.laws_demand3.proofs.Moves as counted

module _ (book pack : List ℕ) (s : Schedule) (e : build book pack ≡ gives s) (near : Every WithinDay (zones_of book pack)) where
  adds : (a b c : Pair) → Given a → Given b → Given c → (x y : ℤ) × WorkingTime (as_defined book pack) a b x × WorkingTime (as_defined book pack) b c y × WorkingTime (as_defined book pack) a c (x +ℤ y)
  adds a b c g h k =
      let p = given-at a g in let q = given-at b h in let r = given-at c k in
      let m = p.0 in let n = q.0 in let o = r.0 in
      let sum = counted.additive s (built book pack s e).ok (near-rules book pack s e near) m n o p.2 q.2 r.2 p.1.upto q.1.upto r.1.upto in
      let w = time-is book pack s e a c m o p.1 r.1 in (
        diff (time s m n) (time s n m),
        diff (time s n o) (time s o n),
        time-is book pack s e a b m n p.1 q.1,
        time-is book pack s e b c n o q.1 r.1,
        (w.0, w.1, w.2 ∙ sym (diff-add (time s m n) (time s n m) (time s n o) (time s o n) ∙ diff-same (time s m n + time s n o) (time s n m + time s o n) (time s m o) (time s o m) (omega arith))),
      )

  is-added : (t d x : Pair) → Given t → IsDuration d → pos 0 <ℤ nanos_of d → adding book pack t d ≡ gives (listed_pair x) → Added (as_defined book pack) t d x
  is-added t d x g i h f =
      let p = given-at t g in let q = positive d i h in
      let m = p.0 in let k = q.0 in
      let r = gives_of (move on s m k) instant (listed_pair x) (sym (adding-is book pack s e t d m k p.1 q.1) ∙ f) in
      let n = r.0 in
      let a = counted.added s (built book pack s e).ok (near-rules book pack s e near) m k n p.2 p.1.upto q.2 r.1 in
      let tm = p.1.from in let a1 = a.sooner in let a2 = a.within in let a3 = a.later in let a4 = a.before-x in
      let ax : At x n = shown-at x n (omega arith) a.within r.2 in
      let z = a.start in
      let az : At (pair_of z) z = pair-at z (omega arith) (omega arith) in
      let w = time-on book pack s e t x m n p.1 ax (omega arith) in
      let v = time-on book pack s e t (pair_of z) m z p.1 az a.later in
      record {
        instant = at-instant x n ax;
        exact = (w.0, w.1, w.2 ∙ ap pos a.exact ∙ sym q.1.size);
        earliest = λ y iy wy. (let j = instant-at y iy in
            at-order x y n j.0 ax j.1 (a.earliest j.0 j.1.upto (time-pos book pack s e t y m j.0 p.1 j.1 k q.2 (rw q.1.size at wy))));
        z = pair_of z;
        taken = taking-is book pack s e x d n k ax q.1 ∙ rw a.taken (ap gives (at-shown (pair_of z) z az));
        instant-z = at-instant (pair_of z) z az;
        after = at-order t (pair_of z) m z p.1 az a.later;
        idle = (v.0, v.1, v.2 ∙ ap pos a.idle);
        again = adding-is book pack s e (pair_of z) d z k az q.1 ∙ rw a.again (ap gives r.2);
        further = λ b c ib hb ic hc. (let l = not-below-zero b ib hb in
            let o = not-below-zero-sum d b c k l.0 q.1 l.1 ic hc in
            adding-is book pack s e x b n l.0 ax l.1 ∙ ap (λ y. y >>= λ x. gives (instant x)) (a.further l.0) ∙ sym (adding-is book pack s e t c m (k + l.0) p.1 o));
      }

  none-beyond : (t d : Pair) (place : ℕ) → Given t → IsDuration d → pos 0 <ℤ nanos_of d → adding book pack t d ≡ refuses 7 place → (y : Pair) → IsInstant y → WorkingTime (as_defined book pack) t y (nanos_of d) → ⊥
  none-beyond t d place g i h f y iy wy =
      let p = given-at t g in let q = positive d i h in let j = instant-at y iy in
      counted.beyond s (built book pack s e).ok (near-rules book pack s e near) p.0 q.0 place p.2 p.1.upto q.2
      (refuses-of (move on s p.0 q.0) instant 7 place (sym (adding-is book pack s e t d p.0 q.0 p.1 q.1) ∙ f))
      j.0 j.1.upto
      (time-pos book pack s e t y p.0 j.0 p.1 j.1 q.0 q.2 (rw q.1.size at wy))

-- "If a book builds, no zone of it has two offsets over 24 hours apart, and all instants given are from -9998-01-01T00:00Z on: .."
pub demand-3 : (book pack : List ℕ) (s : Schedule) → build book pack ≡ gives s → Every WithinDay (zones_of book pack) → Demand3 (as_defined book pack)
demand-3 book pack s e near = record { additive = adds book pack s e near; added = is-added book pack s e near; beyond = none-beyond book pack s e near }
