-- From pairs of signed numbers to natural numbers of nanoseconds and back: which instant or duration a pair is for the calls.
use Rattle.std.specs.Prelude.{◌≡◌, refl, Bool, true, false, [], ◌∷◌, ℕ, zero, suc, ◌+◌, ◌*◌, ◌-◌, ◌/◌, ◌%◌, ◌≤◌, ◌<◌, leb, eqb, ℤ, pos, negsuc, neg_ℤ, nat_abs, ◌+ℤ◌, ◌*ℤ◌, ◌≤ℤ◌, ◌<ℤ◌, if◌then◌else◌}
use Rattle.std.proofs.Common.{sym, ◌∙◌, ap, arith, leb→le, le→leb, lt→ltb, le-leb, lt-ltb, leb-true, leb-false}
use Rattle.std.specs.Int.Signed.{le_z_yes, lt_z_yes}
use Rattle.model.specs.Instant.{epoch, second, first_instant, last_instant, signed, second_from, instant_of, instant, Duration, duration_of, duration}
use Rattle.model.specs.Answer.{gives}
use Rattle.laws_base.specs.Test.{by-test}
use Rattle.laws_demand3.specs.Diff.{diff, Form, nat, neg, form, nat-is-diff, neg-is-diff, diff-same, diff-add, neg-pos, diff-mul, up, down, as-diff, pos-diff, le-diff, diff-order}
use Rattle.laws_demand3.specs.Pairs.{Pair, nanos_of, IsInstant, IsDuration, listed_pair}

-- nanoseconds up to 1970
abbrev origin : ℕ
origin = epoch * second

nanos-diff : (p : Pair) → nanos_of p ≡ diff (up p.sec * second + up p.ns) (down p.sec * second + down p.ns)
nanos-diff p = ap (λ x. x *ℤ pos second +ℤ p.ns) (as-diff p.sec) ∙ ap (λ x. diff (up p.sec) (down p.sec) *ℤ pos second +ℤ x) (as-diff p.ns) ∙ simp (diff-mul, diff-add)

-- ---- instants

-- the pair p is the instant t
pub record At (p : Pair) (t : ℕ) : Type 0 where
  pub from : first_instant ≤ t
  pub upto : t ≤ last_instant
  pub sec : p.sec ≡ diff (t / second) epoch
  pub ns : p.ns ≡ pos (t % second)

second_from_lem : (s : ℕ) → second_from (diff s epoch) ≡ s
second_from_lem s = go (form s epoch)
  where
    go : {z : ℤ} → Form s epoch z → second_from z ≡ s
    go (nat n e) = sym e
    go (neg n e) = omega arith

pub at_read : (p : Pair) (t : ℕ) → At p t → instant_of p.sec p.ns ≡ gives t
unfolding instant_of
at_read p t a =
    let h = a.from in let k = a.upto in
    rw (a.sec, a.ns, second_from_lem (t / second), le-leb (first_instant / second) (t / second) (omega arith), le-leb (t / second) (last_instant / second) (omega arith), lt-ltb (t % second) second (omega arith))
    (ap gives (omega arith))

pub at-nanos : (p : Pair) (t : ℕ) → At p t → nanos_of p ≡ diff t origin
at-nanos p t a = rw (a.sec, a.ns, diff-mul, pos-diff (t % second), diff-add) (diff-same (t / second * second + t % second) (epoch * second + 0) t origin (omega arith))

signed-second : (s : ℕ) → (if leb epoch s then pos (s - epoch) else neg_ℤ (pos (epoch - s))) ≡ diff s epoch
signed-second s =
    by-test (leb epoch s)
    (λ e. rw e (nat-is-diff s epoch (s - epoch) (omega (arith, leb-true epoch s e))))
    (λ e. rw e (neg-pos (epoch - s) ∙ diff-same 0 (epoch - s) s epoch (omega (arith, leb-false epoch s e))))

pub at-shown : (p : Pair) (t : ℕ) → At p t → instant t ≡ listed_pair p
unfolding instant
at-shown p t a = rw (signed-second (t / second), a.sec, a.ns)

-- the pair of an instant
pub shown-at : (p : Pair) (t : ℕ) → first_instant ≤ t → t ≤ last_instant → instant t ≡ listed_pair p → At p t
unfolding instant
shown-at p t h k e =
    let f : diff (t / second) epoch ∷ pos (t % second) ∷ [] ≡ p.sec ∷ p.ns ∷ [] = rw (signed-second (t / second)) at e in
    record { from = h; upto = k; sec = cc; ns = cc }

abbrev pub pair_of : ℕ → Pair
pair_of t = record { sec = diff (t / second) epoch; ns = pos (t % second) }

pub pair-at : (t : ℕ) → first_instant ≤ t → t ≤ last_instant → At (pair_of t) t
pair-at t h k = record { from = h; upto = k; sec = refl; ns = refl }

pub at-instant : (p : Pair) (t : ℕ) → At p t → IsInstant p
at-instant p t a = record {
  first = rw (a.sec, neg-pos 377705023201) (diff-order 0 377705023201 (t / second) epoch (let h = a.from in omega arith));
  last = rw (a.sec, pos-diff 253402207200) (diff-order (t / second) epoch 253402207200 0 (let h = a.upto in omega arith));
  low = rw a.ns (le_z_yes (le→leb 0 (t % second) (omega arith)));
  high = rw a.ns (le_z_yes (le→leb (t % second) 999999999 (omega arith)));
}

-- every instant is one
pub instant-at : (p : Pair) → IsInstant p → (t : ℕ) × At p t
instant-at p i = go p.sec p.ns refl refl i.first i.last i.low i.high
  where
    go : (s n : ℤ) → p.sec ≡ s → p.ns ≡ n → neg_ℤ (pos 377705023201) ≤ℤ s → s ≤ℤ pos 253402207200 → pos 0 ≤ℤ n → n ≤ℤ pos 999999999 → (t : ℕ) × At p t
    go s (negsuc b) e f h k l m = absurd l.le
    go (pos a) (pos b) e f h k l m =
        let x = leb→le a 253402207200 k.le in let y = leb→le b 999999999 m.le in
        let u : ((epoch + a) * second + b) / second ≡ epoch + a = omega arith in
        let v : ((epoch + a) * second + b) % second ≡ b = omega arith in
        ((epoch + a) * second + b, record { from = omega arith; upto = omega arith; sec = e ∙ rw u (nat-is-diff (epoch + a) epoch a refl); ns = f ∙ rw v })
    go (negsuc a) (pos b) e f h k l m =
        let x = leb→le a 377705023200 h.le in let y = leb→le b 999999999 m.le in
        let u : ((epoch - suc a) * second + b) / second ≡ epoch - suc a = omega arith in
        let v : ((epoch - suc a) * second + b) % second ≡ b = omega arith in
        ((epoch - suc a) * second + b, record { from = omega arith; upto = omega arith; sec = e ∙ rw u (neg-is-diff (epoch - suc a) epoch a (omega arith)); ns = f ∙ rw v })

-- the order of instants
pub at-order : (p q : Pair) (t u : ℕ) → At p t → At q u → t ≤ u → nanos_of p ≤ℤ nanos_of q
at-order p q t u a b h = rw (at-nanos p t a, at-nanos q u b) (diff-order t origin u origin (omega arith))

pub at-since : (p : Pair) (t : ℕ) → At p t → neg_ℤ (pos 377673580800) ≤ℤ p.sec → (epoch - 377673580800) * second ≤ t
at-since p t a h =
    let k = le-diff 0 377673580800 (t / second) epoch (rw (neg-pos 377673580800, a.sec) at h) in
    omega arith

-- ---- durations

-- the pair p is the duration n, not below zero
pub record NotBelowZero (p : Pair) (n : ℕ) : Type 0 where
  pub read : duration_of p.sec p.ns ≡ gives (record { minus = false; size = n })
  pub size : nanos_of p ≡ pos n

not-below-zero-read : (a b : ℕ) → b < second → duration_of (pos a) (pos b) ≡ gives (record { minus = false; size = a * second + b })
unfolding duration_of
not-below-zero-read a b h =
    by-test (eqb a 0)
    (λ e. rw (lt-ltb b second h, e))
    (λ e. by-test (eqb b 0) (λ f. rw (lt-ltb b second h, e, f)) (λ f. rw (lt-ltb b second h, e, f)))

pub not-below-zero : (p : Pair) → IsDuration p → pos 0 ≤ℤ nanos_of p → (n : ℕ) × NotBelowZero p n
unfolding up down
not-below-zero p i h = go p.sec p.ns refl refl i.small i.above i.below
  where
    low : down p.sec * second + down p.ns ≤ up p.sec * second + up p.ns
    low = let k = le-diff 0 0 (up p.sec * second + up p.ns) (down p.sec * second + down p.ns) (rw (pos-diff 0, nanos-diff p) at h) in omega arith

    go : (s n : ℤ) → p.sec ≡ s → p.ns ≡ n → nat_abs n < second → (pos 0 <ℤ s → pos 0 ≤ℤ n) → (s <ℤ pos 0 → n ≤ℤ pos 0) → (n : ℕ) × NotBelowZero p n
    go (pos a) (pos b) e f k l m = (a * second + b, record { read = rw (e, f) (not-below-zero-read a b k); size = rw (e, f) })
    go (pos zero) (negsuc b) e f k l m = absurd (let x = rw (e, f) at low in omega arith)
    go (pos (suc a)) (negsuc b) e f k l m = absurd (l (lt_z_yes (lt→ltb 0 (suc a) (omega arith)))).le
    go (negsuc a) (pos b) e f k l m = absurd (let x = rw (e, f) at low in let y = leb→le b 0 (m (lt_z_yes tt)).le in omega arith)
    go (negsuc a) (negsuc b) e f k l m = absurd (let x = rw (e, f) at low in omega arith)

-- the sum of two durations, where it is one
pub not-below-zero-sum : (d e f : Pair) (m n : ℕ) → NotBelowZero d m → NotBelowZero e n → IsDuration f → nanos_of f ≡ nanos_of d +ℤ nanos_of e → NotBelowZero f (m + n)
not-below-zero-sum d e f m n p q i h =
    let s : nanos_of f ≡ pos (m + n) = h ∙ rw (p.size, q.size) in
    let r = not-below-zero f i (rw s (le_z_yes (le→leb 0 (m + n) (omega arith)))) in
    let t : r.0 ≡ m + n = pos-same (sym r.1.size ∙ s) in
    rw t at r.1
  where
    pos-same : {a b : ℕ} → pos a ≡ pos b → a ≡ b
    pos-same g = cc

-- the pair of a duration
abbrev pub length_of : Duration → Pair
length_of d = record { sec = signed d.minus (d.size / second); ns = signed d.minus (d.size % second) }

pub length-shown : (d : Duration) → duration d ≡ listed_pair (length_of d)
unfolding duration
length-shown d = refl

pub length-nanos : (d : Duration) → nanos_of (length_of d) ≡ signed d.minus d.size
length-nanos d = go d.minus d.size
  where
    go : (m : Bool) (n : ℕ) → signed m (n / second) *ℤ pos second +ℤ signed m (n % second) ≡ signed m n
    go false n = ap pos (omega arith)
    go true n = rw (neg-pos (n / second), neg-pos (n % second), neg-pos n, diff-mul, diff-add) (diff-same (0 * second + 0) (n / second * second + n % second) 0 n (omega arith))
