-- The definitions of `build`, `between`, `add` and `sub` refuse with the numbers of refusals only.
use Rattle.std.specs.Prelude.{◌≡◌, refl, Bool, true, false, not, ◌&&◌, ◌||◌, List, [], ◌∷◌, ℕ, zero, suc, ◌+◌, ◌*◌, ◌^◌, min, eqb, ltb, ℤ, nat_abs, length}
use Rattle.std.proofs.Math.Option.{Option, none, some}
use Rattle.model.specs.Answer.{Answer, gives, refuses, ◌>>=◌, or_refuse}
use Rattle.model.specs.Basic.{given, is_in}
use Rattle.model.specs.Blocks.{Block}
use Rattle.model.specs.Book.{Body, default, work, pause, holidays, Entry, entries_of, last_default, within_limits}
use Rattle.model.specs.Build.{lookup, default_zone, rule_zone, zone_used, rules_of, works_in_2001, build}
use Rattle.model.specs.Instant.{second, first_second, last_second, is_below_0, second_from, instant_of, duration_of, negated, Duration, are_opposite, week}
use Rattle.model.specs.Pack.{Named, pack_of, find}
use Rattle.model.specs.Tzif.{Zone, zone_of}
use Rattle.model.specs.Walk.{Way, begun, reach, ahead, Step, found, gap, left, search_blocks, search_from, search_in, search}
use Rattle.model.specs.Working.{Schedule}
use Rattle.laws_base.specs.Test.{by-test}
use Rattle.refusal.specs.declared.Refusal.{Refusal}
use Rattle.refusal.specs.declared.Refusal.TheVariants.{BookLayout, BookLimit, PackLayout, UnknownZone, ZoneUnusable, NoWorkingTime, OutOfRange, InstantOutOfRange, DurationMalformed}
use Rattle.refusal.specs.Refused.{number_of}

-- what is refused has the number of a refusal
abbrev pub Known : {A : Type 0} → Answer A → Type 0
Known (gives a) = Unit {0}
Known (refuses n p) = (r : Refusal) × (number_of r ≡ n)

known-then : {A B : Type 0} (o : Answer A) (f : A → Answer B) → Known o → ((a : A) → Known (f a)) → Known (o >>= f)
known-then (gives a) f h k = k a
known-then (refuses n p) f h k = h

known-or : {A : Type 0} (r : Refusal) (p : ℕ) (o : Option A) → Known (or_refuse (number_of r) p o)
known-or r p (some a) = tt
known-or r p none = (r, refl)

-- ---- build

module _ (files : List Named) where
  lookup-known : (e : Entry) → Known (lookup files e)
  unfolding lookup
  lookup-known e = known-then (or_refuse 4 e.place (find e.name files)) _ (known-or UnknownZone e.place (find e.name files)) (λ f. known-or ZoneUnusable e.place (zone_of f))

  default-known : (o : Option Entry) → Known (default_zone files o)
  default-known none = tt
  default-known (some e) = lookup-known e

  rule-known : (z : Zone) (e : Entry) → Known (rule_zone files z e)
  rule-known z e = by-test (eqb (length e.name) 0) (λ t. rw t tt) (λ t. rw t (lookup-known e))

  used-known : (z : Zone) (e : Entry) (b : Body) → Known (zone_used files z e b)
  used-known z e default = tt
  used-known z e (work x) = rule-known z e
  used-known z e (pause x) = rule-known z e
  used-known z e (holidays x) = rule-known z e

  rules-known : (z : Zone) (l : List Entry) → Known (rules_of files z l)
  unfolding rules_of
  rules-known z [] = tt
  rules-known z (e ∷ l) = known-then (zone_used files z e e.body) _ (used-known z e e.body) (λ y. known-then (rules_of files z l) _ (rules-known z l) (λ s. tt))

pub build-known : (book pack : List ℕ) → Known (build book pack)
unfolding build
build-known book pack =
    known-then (or_refuse 1 0 (entries_of book)) _ (known-or BookLayout 0 (entries_of book)) (λ l.
    known-then (or_refuse 2 0 (given (within_limits l) l)) _ (known-or BookLimit 0 (given (within_limits l) l)) (λ _.
    known-then (or_refuse 3 0 (pack_of pack)) _ (known-or PackLayout 0 (pack_of pack)) (λ p.
    known-then (default_zone p (last_default none l)) _ (default-known p (last_default none l)) (λ z.
    known-then (rules_of p z l) _ (rules-known p z l) (λ s. known-or NoWorkingTime 0 (given (works_in_2001 s) s))))))

-- ---- what is read

pub instant-known : (s n : ℤ) → Known (instant_of s n)
unfolding instant_of
instant-known s n =
    let x = second_from s in
    known-or InstantOutOfRange 0 (given (is_in first_second last_second x && (not (is_below_0 n) && ltb (nat_abs n) second)) (x * second + nat_abs n))

pub duration-known : (s n : ℤ) → Known (duration_of s n)
unfolding duration_of
duration-known s n =
    let d : Duration = record { minus = is_below_0 s || is_below_0 n; size = nat_abs s * second + nat_abs n } in
    known-or DurationMalformed 0 (given (ltb (nat_abs n) second && not (are_opposite s n)) d)

pub negated-known : (d : Duration) → Known (negated d)
unfolding negated
negated-known d =
    let e : Duration = record { minus = not d.minus && ltb 0 d.size; size = d.size } in
    known-or OutOfRange 0 (given (not d.minus || ltb d.size (2 ^ 63 * second)) e)

-- ---- a search

stepped : (n : ℕ) (look : ℕ → ℕ → List Block) (limit end y : ℕ) (s : Step) → ((l e : ℕ) → Known (search_from n look limit end y l e))
    → Known (elim s as (λ _. Answer ℕ) [ found z ↦ gives z | gap ↦ refuses 6 0 | left e l ↦ search_from n look limit end y l e ])
stepped n look limit end y (found z) k = tt
stepped n look limit end y gap k = (NoWorkingTime, refl)
stepped n look limit end y (left e l) k = k l e

search-from : (n : ℕ) (look : ℕ → ℕ → List Block) (limit end x last d : ℕ) → Known (search_from n look limit end x last d)
unfolding search_from
search-from zero look limit end x last d = (OutOfRange, refl)
search-from (suc n) look limit end x last d =
    let y = min (x + week) end in
    stepped n look limit end y (search_blocks limit y last d (look x y)) (λ l e. search-from n look limit end y l e)

search-in : (look : ℕ → ℕ → List Block) (limit end d : ℕ) → Known (search_in look limit end d)
unfolding search_in
search-in look limit end d = by-test (eqb d 0) (λ t. rw t tt) (λ t. rw t (search-from (begun end) look limit end 0 0 d))

pub search-known : (w : Way) (s : Schedule) (t d : ℕ) → Known (search w s t d)
search-known w s t d = search-in (ahead w s t) s.limit (reach w t) d
