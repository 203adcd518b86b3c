-- What each end of a function of src/lib.rt answers, in terms of the crate `model`.
use Rattle.std.specs.Prelude as Rust
use Rattle.std.specs.Prelude.{if◌then◌else◌, MatchOption}
use mathlib.Core.Path.{◌≡◌, refl, sym, ap, ◌∙◌}
use mathlib.Core.List.{List, [], ◌∷◌, map}
use mathlib.Core.Bool.{Bool, true, false}
use mathlib.Core.Logic.{◌↔◌, ⊎_elim}
use mathlib.Core.Option.{Option, none, some}
use Prim.Native.Nat.{ℕ, zero, suc, ◌+◌, ◌-◌, ◌≤◌, ◌<◌}
use native.Mathlib.Nat.{eq-or-lt_of_le}
use native.Mathlib.Omega.{arith}
use borrow.Author.Tests.{le-leb, lt-leb, eqb-true, eq-eqb}
use lib.Dec.{eqb}
use lib.ListN.{length, get_or, take, drop}
use Rattle.std.specs.Char.{to_ascii_lowercase}
use Rattle.std.specs.Bool.{IsTrue}
use Rattle.std.proofs.lemmas.Bool.Decides.{nat_tests}
use Rattle.model.specs.Basic.{run, same_list}
use Rattle.model.specs.Directory.{parts_of}
use Rattle.model.specs.Pack.{lower, same_name, pack_of, find}
use Rattle.laws_base.specs.Test.{by-test, clash}
use Rattle.big_endian.specs.Maybe.{is_some}
use Rattle.big_endian.specs.Walk.{all_from}
use Rattle.directory.specs.Directory.{entry_count, start_at, len_at, dir_ok}
use Rattle.directory.proofs.Parts.{as-dir}
use Rattle.zone_pack.specs.declared.Found.{Found}
use Rattle.zone_pack.specs.Pack.{named_from, named_at, name_at_ok, most_zones, pack_ok, zone_file, first_file, IsFileOf, FindsEntry, IsZone}
use Rattle.zone_pack.proofs.Names.{pack-index, as-pack}

-- ---- the pack: too many records; a broken directory; else by its names

module _ (s : List ℕ) {n : ℕ} (e : n ≡ entry_count s) where
  pub pack-many : most_zones < n → false ≡ is_some (pack_of s)
  unfolding pack_ok
  pack-many h = as-pack s (rw (← e, lt-leb n most_zones h))

  module _ {t : Bool} (h : n ≤ most_zones) (d : t ≡ is_some (parts_of s)) where
    pub pack-dir : t ≡ false → false ≡ is_some (pack_of s)
    unfolding pack_ok
    pack-dir q =
        let f : dir_ok s ≡ false = as-dir s refl ∙ sym d ∙ q in
        as-pack s (rw (← e, le-leb n most_zones h, f))

    pub pack-rest : {r : Bool} → t ≡ true → r ≡ all_from (name_at_ok s) 0 n → r ≡ is_some (pack_of s)
    unfolding pack_ok
    pack-rest q k =
        let f : dir_ok s ≡ true = as-dir s refl ∙ sym d ∙ q in
        as-pack s (rw (← e, le-leb n most_zones h, f) k)

-- ---- names

lowers : (c : ℕ) → to_ascii_lowercase c ≡ lower c
unfolding lower
lowers c = grind (arith, nat_tests)

lowers-each : (l : List ℕ) → map to_ascii_lowercase l ≡ map lower l
lowers-each [] = refl
lowers-each (x ∷ l) = rw (lowers x, lowers-each l)

same-lists : (a b : List ℕ) → same_list a b ≡ true → a ≡ b
unfolding same_list
same-lists [] [] h = refl
same-lists [] (y ∷ b) h = clash false h refl
same-lists (x ∷ a) [] h = clash false h refl
same-lists (x ∷ a) (y ∷ b) h =
    by-test (eqb x y)
    (λ e. let j : x ≡ y = eqb-true x y e in let r : a ≡ b = same-lists a b (rw e at h) in λ t. j t ∷ r t)
    (λ e. clash false (rw e at h) refl)

same-self : (a : List ℕ) → same_list a a ≡ true
unfolding same_list
same-self [] = refl
same-self (x ∷ a) = rw (eq-eqb x x refl) (same-self a)

-- two names are the same where they are equal in lower case
same-names : (a b : List ℕ) {r : Bool} → (r ≡ true → map to_ascii_lowercase a ≡ map to_ascii_lowercase b) → (map to_ascii_lowercase a ≡ map to_ascii_lowercase b → r ≡ true) →
    r ≡ same_name a b
unfolding same_name
same-names a b {r} f g =
    by-test (same_list (map lower a) (map lower b))
    (λ e. let q : map lower a ≡ map lower b = same-lists (map lower a) (map lower b) e in
    rw e (g (lowers-each a ∙ q ∙ sym (lowers-each b))))
    (λ e. by-test r
    (λ t. let q : map lower a ≡ map lower b = sym (lowers-each a) ∙ f t ∙ lowers-each b in
    clash false (sym (rw q at e) ∙ same-self (map lower b)) refl)
    (λ t. rw (e, t)))

-- ---- the record of an entry

module _ (s : List ℕ) (i : ℕ) {o n : ℕ} (eo : o ≡ start_at s i) (en : n ≡ get_or s o 0) where
  pub name-is : (nm : List ℕ) {r : Bool} {x : List ℕ} → x ≡ take n (drop (o + 1) s) → IsTrue r ↔ (map to_ascii_lowercase x ≡ map to_ascii_lowercase nm) →
      r ≡ same_name (named_at s i).name nm
  unfolding named_at named_from
  name-is nm {r} {x} ex er = rw (← eo, ← en, ← ex) (same-names x nm er.0 er.1)

  pub file-is : {l : ℕ} → l ≡ len_at s i → take (o + l - (o + 1 + n)) (drop (o + 1 + n) s) ≡ (named_at s i).file
  unfolding named_at named_from
  file-is el = rw (← eo, ← en, ← el)

take_all : {A : Type 0} (n : ℕ) (l : List A) → take n l ≡ take (length (take n l)) l
take_all zero l = refl
take_all (suc n) [] = refl
take_all (suc n) (x ∷ l) = ap (λ (r : List _). x ∷ r) (take_all n l)

-- the part of the pack that the code takes
pub is-file : (s : List ℕ) (i : ℕ) {o n l : ℕ} {r : Found} → o ≡ start_at s i → n ≡ get_or s o 0 → l ≡ len_at s i → r.at ≡ o + 1 + n →
    r.file.now ≡ take (o + l - (o + 1 + n)) (drop r.at s) → IsFileOf s i r
is-file s i {o} {n} {l} {r} eo en el ea ef = record {
  file = ef ∙ rw ea (file-is s i eo en el);
  part = rw ef (take_all (o + l - (o + 1 + n)) (drop r.at s));
}

-- ---- the finder

-- the file of the first of the k records from entry i on that has the name
unfoldable find_from : List ℕ → List ℕ → ℕ → ℕ → Option (List ℕ)
find_from p nm i k = find nm (map (named_at p) (run i k))

abbrev named : List ℕ → List ℕ → ℕ → Bool
named p nm i = same_name (named_at p i).name nm

find-none : (p nm : List ℕ) (k i : ℕ) → ((j : ℕ) → i ≤ j → j < i + k → named p nm j ≡ false) → find_from p nm i k ≡ none
unfolding find_from run find
find-none p nm zero i h = refl
find-none p nm (suc k) i h =
    rw (h i (omega arith) (omega arith))
    (find-none p nm k (suc i) (λ j a b. h j (omega arith) (omega arith)))

find-at : (p nm : List ℕ) (k i j : ℕ) → i ≤ j → j < i + k → named p nm j ≡ true → ((m : ℕ) → i ≤ m → m < j → named p nm m ≡ false) →
    find_from p nm i k ≡ some (named_at p j).file
unfolding find_from run find
find-at p nm zero i j a b t h = absurd (omega arith)
find-at p nm (suc k) i j a b t h =
    ⊎_elim
    (λ e. let q : named p nm i ≡ true = rw e t in rw q (ap (λ (m : ℕ). some (named_at p m).file) e))
    (λ l. rw (h i (omega arith) l) (find-at p nm k (suc i) j l (omega arith) t (λ m x y. h m (omega arith) y)))
    (eq-or-lt_of_le a)

pub finds : (p nm : List ℕ) (n : ℕ) (r : Rust.Option ℕ) →
    MatchOption r ((k : ℕ) → 0 ≤ k → k < n → named p nm k ≡ false) (λ i. (0 ≤ i) × (i < n) × (named p nm i ≡ true) × ((k : ℕ) → 0 ≤ k → k < i → named p nm k ≡ false)) →
    FindsEntry p nm n r
unfolding find_from
finds p nm n Rust.None h = find-none p nm n 0 (λ j a b. h j (omega arith) (omega arith))
finds p nm n (Rust.Some i) h = (h.1, find-at p nm n 0 i (omega arith) (omega (arith, h.1)) h.2 h.3)

module _ (p nm : List ℕ) {n : ℕ} (ok : is_some (pack_of p) ≡ true) (en : n ≡ entry_count p) where
  zone-is : zone_file p nm ≡ first_file p nm n
  unfolding zone_file
  zone-is = let t : pack_ok p ≡ true = as-pack p refl ∙ ok in rw (pack-index p, t, en)

  pub look-absent : first_file p nm n ≡ none → zone_file p nm ≡ none
  look-absent e = zone-is ∙ e

  pub look-found : {i : ℕ} {r : Found} → first_file p nm n ≡ some (named_at p i).file → IsFileOf p i r → IsZone p nm r
  look-found e f = record { file = zone-is ∙ e ∙ ap some (sym f.file); part = f.part }

-- the two answers, for `look_in`
pub ruleset looks = (look-absent, look-found)
